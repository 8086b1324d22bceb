use Rattle.std.proofs.Common.{None}
use Rattle.dlm_space.specs.Parts.{locks_of}
use Rattle.lock_wire.specs.Machine.{asking_now, converts}
use Rattle.lock_wire.proofs.Changed.{at_twice}
use Rattle.lock_wire.proofs.tables.enter.Goals as goal

pub returns-in-Converting : goal.returns-in-Converting
returns-in-Converting c =
    rw c.in-Converting.is (at_twice (locks_of c.args.space.now) (locks_of c.ask_now-in-Converting.new.space) (locks_of c.convert.new.space) c.args.res (λ lock. asking_now lock c.args.n c.in-Converting.from) (λ lock. converts lock c.args.n c.in-Converting.to None) c.ask_now-in-Converting.ensures c.convert.ensures.lock)
