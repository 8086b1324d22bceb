use Rattle.laws_pending.proofs.Whole.{runs_recover_equal}
use Rattle.laws_pending.proofs.runs_recover_equal.Goals as goal

pub returns : goal.returns
returns c = runs_recover_equal
