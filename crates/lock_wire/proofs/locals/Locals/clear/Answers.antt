use Rattle.std.proofs.Common.{arith}
use Rattle.lock_wire.proofs.Changed.{local-clear}
use Rattle.lock_wire.proofs.locals.Locals.clear.Goals as goal

pub returns : goal.returns
returns c = rw (← c.self.view_is) (local-clear c.self.inside.rows c.args.n (omega arith))
