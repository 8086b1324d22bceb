use Rattle.std.proofs.Common.{arith}
use Rattle.lock_wire.proofs.Changed.{local-set}
use Rattle.lock_wire.proofs.locals.Locals.set.Goals as goal

pub returns : goal.returns
returns c =
    rw (c.put.ensures.row, ← c.self.view_is) (local-set c.self.inside.rows c.args.n c.args.res c.args.state (omega arith) (omega (arith, c.put.ensures.resources, c.requires)))
