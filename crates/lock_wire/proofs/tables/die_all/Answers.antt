use Rattle.std.proofs.Common.{arith, ◌≡◌, length}
use Rattle.lock_wire.proofs.Changed.{tables-one_more, tables-all}
use Rattle.lock_wire.proofs.tables.die_all.Goals as goal

pub loop-space-preserved : goal.loop-space-preserved
loop-space-preserved c =
    tables-one_more c.args.spaces.now c.loop-space.space-items c.args.n c.loop-space.space-index _ c.die.new.self (omega arith) c.loop-space.invariant c.die.ensures

pub returns : goal.returns
returns c =
    let e : c.loop-space.space-index ≡ length c.args.spaces.now = omega arith in
    tables-all c.args.spaces.now c.loop-space.space-items c.args.n (rw e at c.loop-space.invariant)
