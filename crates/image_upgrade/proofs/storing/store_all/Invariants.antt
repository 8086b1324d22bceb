use Rattle.std.proofs.Common.{◌≡◌, ◌≤◌, map}
use Rattle.image_upgrade.specs.Stored.{AreStored}
use Rattle.image_upgrade.proofs.storing.store_all.Given as goal

abbrev pub invariant-loop-l : goal.invariant-loop-l
invariant-loop-l g i =
    let told = map g.H.Leg.LegDev.contents i.initial.legs.items in
    record {
      stored : AreStored i.to i.images told i.l (g.H.Shelf.contents i.initial.shelf) (g.H.Shelf.contents i.shelf);
      told : map g.H.Leg.LegDev.contents i.legs.items ≡ told;
      size : map g.H.Leg.LegDev.size i.legs.items ≡ map g.H.Leg.LegDev.size i.initial.legs.items;
      legs : g.H.Shelf.leg_faults i.shelf ≡ g.H.Shelf.leg_faults i.initial.shelf;
      later : g.H.Shelf.faults i.initial.shelf ≤ g.H.Shelf.faults i.shelf;
    }
