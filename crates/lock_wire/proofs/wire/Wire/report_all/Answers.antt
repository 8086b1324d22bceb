use Rattle.std.proofs.Common.{arith, sym, ap, ◌∙◌}
use Rattle.lock_wire.specs.Machine.{Wire}
use Rattle.lock_wire.specs.Parts.{wire_of}
use Rattle.lock_wire.proofs.Reports.{skips_next, reports_next}
use Rattle.lock_wire.proofs.wire.Wire.report_all.Goals as goal
use Rattle.lock_wire.proofs.wire.Wire.report_all.Goals.{then-is_live, else-is_live}

pub loop-n-preserved : goal.loop-n-preserved
loop-n-preserved c = elim c.if-is_live.branch [
  | then-is_live w ↦ rw w.self-is (record {
    wire = reports_next (wire_of c.args.self.now) (wire_of c.loop-n.self) (wire_of w.report.new.self) c.args.dead c.args.m c.loop-n.n c.loop-n.invariant.wire (sym (ap (λ (x : Wire). x.live c.loop-n.n) c.loop-n.invariant.wire) ∙ sym c.is_live.ensures ∙ w.if-is_live.true) w.report.ensures.wire;
    room = omega (arith, c.loop-n.invariant.room, w.report.ensures.room);
  })
  | else-is_live w ↦ rw w.self-is (record {
    wire = skips_next (wire_of c.args.self.now) (wire_of c.loop-n.self) c.args.dead c.args.m c.loop-n.n c.loop-n.invariant.wire (sym (ap (λ (x : Wire). x.live c.loop-n.n) c.loop-n.invariant.wire) ∙ sym c.is_live.ensures ∙ w.if-is_live.false);
    room = omega (arith, c.loop-n.invariant.room);
  })
]
