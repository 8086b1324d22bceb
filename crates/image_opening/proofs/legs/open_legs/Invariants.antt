use Rattle.std.proofs.Common.{◌≡◌, ◌≤◌, length, map}
use Rattle.image_array.specs.Legs.{super_at}
use Rattle.image_opening.specs.Opened.{AreOpened}
use Rattle.image_opening.proofs.legs.open_legs.Given as goal

abbrev pub invariant-loop-l : goal.invariant-loop-l
invariant-loop-l g i = record {
  opened : AreOpened (g.H.Shelf.contents i.initial.shelf) i.names i.images.items (map g.H.Leg.LegDev.contents i.legs.items) (map g.H.Leg.LegDev.size i.legs.items);
  many : length i.images.items ≡ i.l;
  some : 1 ≤ i.l;
  first : super_at i.images.items 0 ≡ super_at i.initial.images.items 0;
  contents : g.H.Shelf.contents i.shelf ≡ g.H.Shelf.contents i.initial.shelf;
  legs : g.H.Shelf.leg_faults i.shelf ≡ g.H.Shelf.leg_faults i.initial.shelf;
  later : g.H.Shelf.faults i.initial.shelf ≤ g.H.Shelf.faults i.shelf;
}
