use Rattle.std.proofs.Common.{arith}
use Rattle.lock_wire.specs.Machine.{asking}
use Rattle.lock_wire.proofs.Changed.{called_table}
use Rattle.lock_wire.proofs.tables.Tables.ask.Goals as goal

pub returns : goal.returns
returns c =
    called_table c.args.self.now c.self.inside.spaces.items c.args.m c.index_mut.result.now c.ask.new.space c.args.res (λ lock. asking lock c.args.n c.args.mode) c.self.view_is (omega (arith, c.self.invariant)) c.index_mut.ensures.value c.ask.ensures
