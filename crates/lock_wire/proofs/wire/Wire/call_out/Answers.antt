use Rattle.std.proofs.Common.{arith}
use Rattle.lock_wire.specs.Parts.{wire_of}
use Rattle.lock_wire.proofs.Wires.{below_start, below_next}
use Rattle.lock_wire.proofs.wire.Wire.call_out.Goals as goal

pub loop-n-init : goal.loop-n-init
loop-n-init c = record { wire = below_start (wire_of c.args.self.now) c.args.m c.args.res; room = omega arith }

pub loop-n-preserved : goal.loop-n-preserved
loop-n-preserved c = record {
  wire = below_next (wire_of c.args.self.now) (wire_of c.loop-n.self) (wire_of c.call_one.new.self) c.args.m c.args.res c.loop-n.n c.loop-n.invariant.wire c.call_one.ensures.wire;
  room = omega (arith, c.loop-n.invariant.room, c.call_one.ensures.room);
}
