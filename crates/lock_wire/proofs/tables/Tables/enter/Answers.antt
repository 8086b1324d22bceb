use Rattle.std.proofs.Common.{arith}
use Rattle.lock_wire.specs.Machine.{entered}
use Rattle.lock_wire.proofs.Changed.{called_table}
use Rattle.lock_wire.proofs.tables.Tables.enter.Goals as goal

pub returns : goal.returns
returns c =
    called_table c.args.self.now c.self.inside.spaces.items c.args.m c.index_mut.result.now c.enter.new.space c.args.res (λ lock. entered lock c.args.n c.args.state) c.self.view_is (omega (arith, c.self.invariant)) c.index_mut.ensures.value c.enter.ensures
