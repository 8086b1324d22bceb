use Rattle.std.proofs.Common.{arith}
use Rattle.dlm_space.specs.Locks.{granted}
use Rattle.lock_wire.proofs.Changed.{granted_table}
use Rattle.lock_wire.proofs.tables.Tables.grant.Goals as goal

pub returns-clause-ok : goal.returns-clause-ok
returns-clause-ok c =
    granted_table c.grant.result c.args.self.now c.self.inside.spaces.items c.args.m c.index_mut.result.now c.grant.new.self c.args.res granted c.self.view_is (omega (arith, c.self.invariant)) c.index_mut.ensures.value c.grant.ensures.ok
