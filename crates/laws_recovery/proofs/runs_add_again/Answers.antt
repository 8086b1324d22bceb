use Rattle.laws_recovery.proofs.Promises.{runs_add_again}
use Rattle.laws_recovery.proofs.runs_add_again.Goals as goal

pub returns : goal.returns
returns c = runs_add_again
