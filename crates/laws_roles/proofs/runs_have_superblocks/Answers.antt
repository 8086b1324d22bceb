use Rattle.laws_roles.proofs.Promises.{runs_have_superblocks}
use Rattle.laws_roles.proofs.runs_have_superblocks.Goals as goal

pub returns : goal.returns
returns c = runs_have_superblocks
