use Rattle.laws_recovery.proofs.Promises.{runs_recover}
use Rattle.laws_recovery.proofs.runs_recover.Goals as goal

pub returns : goal.returns
returns c = runs_recover
