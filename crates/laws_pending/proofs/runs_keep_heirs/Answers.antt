use Rattle.laws_pending.proofs.Inherited.{runs_keep_heirs}
use Rattle.laws_pending.proofs.runs_keep_heirs.Goals as goal

pub returns : goal.returns
returns c = runs_keep_heirs
