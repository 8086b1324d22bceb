use Rattle.std.proofs.Common.{◌≡◌, ◌≤◌, length}
use Rattle.image_faults.specs.Slots.{AddsTo, ArePages}
use Rattle.image_faults.proofs.SlotLaws.{JudgesTo}
use Rattle.image_faults.proofs.slots.read_slot.Given as goal

abbrev pub invariant-loop-p : goal.invariant-loop-p
invariant-loop-p g l = record {
  contents : g.L.LegDev.contents l.leg ≡ g.L.LegDev.contents l.initial.leg;
  size : g.L.LegDev.size l.leg ≡ g.L.LegDev.size l.initial.leg;
  later : g.L.LegDev.faults l.initial.leg ≤ g.L.LegDev.faults l.leg;
  chunks : length l.set ≡ length l.initial.set;
  judged : JudgesTo (g.L.LegDev.contents l.initial.leg) l.g l.uuid l.k l.p;
  sectors : ArePages (g.L.LegDev.contents l.initial.leg) l.g l.k l.p;
  bits : AddsTo (g.L.LegDev.contents l.initial.leg) l.g l.k l.p l.initial.set l.set;
}
