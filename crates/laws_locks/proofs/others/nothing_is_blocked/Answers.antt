use Rattle.laws_locks.proofs.OtherRuns.{nothing_is_blocked}
use Rattle.laws_locks.proofs.others.nothing_is_blocked.Goals as goal

pub returns : goal.returns
returns c = nothing_is_blocked
