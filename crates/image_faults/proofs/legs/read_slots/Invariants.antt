use Rattle.std.proofs.Common.{◌≡◌, ◌≤◌, ◌<◌, ℕ, length, get_or, []}
use Rattle.mdc_types.specs.Geometry.{chunks_of, slot_pages}
use Rattle.image_faults.specs.Slots.{ArePages}
use Rattle.image_faults.proofs.LegLaws.{ReadsTo}
use Rattle.image_faults.proofs.legs.read_slots.Given as goal

abbrev pub invariant-loop-k : goal.invariant-loop-k
invariant-loop-k g l = record {
  contents : g.L.LegDev.contents l.leg ≡ g.L.LegDev.contents l.initial.leg;
  size : g.L.LegDev.size l.leg ≡ g.L.LegDev.size l.initial.leg;
  later : g.L.LegDev.faults l.initial.leg ≤ g.L.LegDev.faults l.leg;
  many : length l.slots.items ≡ l.k;
  sets : (j : ℕ) → j < l.k → length (get_or l.slots.items j []) ≡ chunks_of l.g;
  pages : (j : ℕ) → j < l.k → ArePages (g.L.LegDev.contents l.initial.leg) l.g j (slot_pages l.g);
  read : ReadsTo (g.L.LegDev.contents l.initial.leg) l.g l.uuid l.k l.slots.items;
}
