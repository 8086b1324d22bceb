use Rattle.std.proofs.Common.{arith}
use Rattle.lock_wire.specs.Machine.{releases}
use Rattle.lock_wire.proofs.Changed.{called_table}
use Rattle.lock_wire.proofs.tables.Tables.release.Goals as goal

pub returns-clause-table : goal.returns-clause-table
returns-clause-table c =
    called_table c.args.self.now c.self.inside.spaces.items c.args.m c.index_mut.result.now c.release.new.space c.args.res (λ lock. releases lock c.args.n c.args.value) c.self.view_is (omega (arith, c.self.invariant)) c.index_mut.ensures.value c.release.ensures.lock
