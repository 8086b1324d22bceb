use Rattle.std.proofs.Common.{map, subst}
use Rattle.image_opening.specs.Faults.{IsArrayEnd}
use Rattle.image_opening.proofs.NextLegs.{each_err}
use Rattle.image_opening.proofs.ArrayLaws.{array_end}
use Rattle.image_opening.proofs.opening.open_all.Goals as goal

pub returns-clause-end : goal.returns-clause-end
returns-clause-end g c =
    let legs = c.in_ok-open_legs.ensures in
    let told = map g.H.Leg.LegDev.contents c.open_legs.new.legs.items in
    let faults = map g.H.Leg.LegDev.faults c.read_array.new.legs.items in
    each_err c.read_array.result c.read_array.ensures.end
    (λ e is.
    array_end (g.H.Shelf.contents c.args.shelf.now) c.args.names.now c.args.versions c.open_legs.new.images.items told (map g.H.Leg.LegDev.size c.open_legs.new.legs.items) faults e
    legs.opened legs.all legs.version (subst (λ images. IsArrayEnd told images faults e) c.as_slice.ensures.value is))
