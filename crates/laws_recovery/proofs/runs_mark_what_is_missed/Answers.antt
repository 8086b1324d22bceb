use Rattle.laws_recovery.proofs.Promises.{runs_mark_what_is_missed}
use Rattle.laws_recovery.proofs.runs_mark_what_is_missed.Goals as goal

pub returns : goal.returns
returns c = runs_mark_what_is_missed
