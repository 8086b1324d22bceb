use Rattle.laws_locks.proofs.CalledRuns.{calls_are_made}
use Rattle.laws_locks.proofs.calls.calls_are_made.Goals as goal

pub returns : goal.returns
returns c = calls_are_made c.calls_are_sound.ensures
