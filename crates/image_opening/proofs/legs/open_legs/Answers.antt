use Rattle.std.proofs.Common.{◌≡◌, ap, ◌∙◌, subst, map, arith}
use Rattle.image_array.specs.Legs.{super_at}
use Rattle.image_opening.specs.Opened.{AreOpened}
use Rattle.image_opening.specs.Faults.{IsNextEnd}
use Rattle.image_opening.proofs.NextLegs.{handed_on, has_next, open_end}
use Rattle.image_opening.proofs.legs.open_legs.Goals as goal

pub returns-in_err-open_next-clause-end : goal.returns-in_err-open_next-clause-end
returns-in_err-open_next-clause-end g c =
    let at = c.loop-l in
    let e = c.in_err-open_next.field-0.0 in
    let files = g.H.Shelf.contents c.args.shelf.now in
    let told = map g.H.Leg.LegDev.contents at.legs.items in
    let lengths = map g.H.Leg.LegDev.size at.legs.items in
    let faults = map g.H.Leg.LegDev.faults c.open_next.new.legs.items in
    let first = c.in_ok-open_first.ensures in
    let same : g.H.Shelf.contents at.shelf ≡ files = at.invariant.contents ∙ first.contents in
    handed_on _ c.from_residual-in_err-open_next.result e c.from_residual-in_err-open_next.ensures.1
    (open_end files c.args.names.now c.args.versions at.images.items told lengths at.l faults e
    (subst (λ f. AreOpened f c.args.names.now at.images.items told lengths) first.contents at.invariant.opened) at.invariant.many
    (has_next c.args.versions at.images.items c.open_first.new.images.items at.l c.legs_in-l-end.result at.invariant.many at.invariant.first
    (c.legs_in-l-end.ensures.value ∙ ap (λ xs. (super_at xs 0).geometry_legs) c.deref.ensures.value) (omega arith) first.version)
    (omega arith) (subst (λ f. IsNextEnd f c.args.names.now at.images.items at.l faults e) same c.in_err-open_next.ensures.end))
