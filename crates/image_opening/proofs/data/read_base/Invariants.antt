use Rattle.std.proofs.Common.{◌≡◌, ◌*◌, min, map}
use Rattle.image_opening.specs.Faults.{HaveBase}
use Rattle.image_opening.proofs.data.read_base.Given as goal

abbrev pub invariant-loop-block : goal.invariant-loop-block
invariant-loop-block g i = record {
  base : HaveBase (map g.L.LegDev.contents i.initial.legs.items) i.head i.images (min (64 * i.block) i.head.geometry.room) (map (λ values. values.items) i.base.items);
  contents : map g.L.LegDev.contents i.legs.items ≡ map g.L.LegDev.contents i.initial.legs.items;
  size : map g.L.LegDev.size i.legs.items ≡ map g.L.LegDev.size i.initial.legs.items;
}
