use Rattle.laws_roles.proofs.Promises.{runs_are_shut}
use Rattle.laws_roles.proofs.runs_are_shut.Goals as goal

pub returns : goal.returns
returns c = runs_are_shut
