use Rattle.laws_locks.proofs.OtherRuns.{other_locks_hold}
use Rattle.laws_locks.proofs.others.other_locks_hold.Goals as goal

pub returns : goal.returns
returns c = other_locks_hold
