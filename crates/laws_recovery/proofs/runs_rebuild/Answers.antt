use Rattle.laws_recovery.proofs.Promises.{runs_rebuild}
use Rattle.laws_recovery.proofs.runs_rebuild.Goals as goal

pub returns : goal.returns
returns c = runs_rebuild
