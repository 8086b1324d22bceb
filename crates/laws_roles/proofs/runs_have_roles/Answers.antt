use Rattle.laws_roles.proofs.Promises.{runs_have_roles}
use Rattle.laws_roles.proofs.runs_have_roles.Goals as goal

pub returns : goal.returns
returns c = runs_have_roles
