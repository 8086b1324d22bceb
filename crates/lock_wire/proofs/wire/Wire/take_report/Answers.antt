use Rattle.std.proofs.Common.{arith, sym, refl}
use Rattle.lock_wire.specs.Parts.{wire_of}
use Rattle.lock_wire.proofs.Wires.{reported-zero, reported-next}
use Rattle.lock_wire.proofs.wire.Wire.take_report.Goals as goal

pub loop-res-init : goal.loop-res-init
loop-res-init c = record { wire = sym (reported-zero (wire_of c.args.self.now) c.args.n c.args.m c.args.states.now); room = omega (arith, c.requires.room) }

pub loop-res-preserved : goal.loop-res-preserved
loop-res-preserved c = record {
  wire = reported-next (wire_of c.args.self.now) (wire_of c.loop-res.self) (wire_of c.take_state.new.self) c.args.n c.args.m c.args.states.now c.loop-res.res _ c.loop-res.invariant.wire c.take_state.ensures.wire refl;
  room = omega (arith, c.loop-res.invariant.room, c.take_state.ensures.room);
}
