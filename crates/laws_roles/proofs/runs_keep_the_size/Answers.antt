use Rattle.laws_roles.proofs.Promises.{runs_keep_the_size}
use Rattle.laws_roles.proofs.runs_keep_the_size.Goals as goal

pub returns : goal.returns
returns c = runs_keep_the_size
