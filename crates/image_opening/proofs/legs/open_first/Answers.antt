use Rattle.std.proofs.Common.{◌≡◌, ◌+◌, ap, ◌∙◌, sym, length, map, arith}
use Rattle.image_array.specs.Legs.{super_at}
use Rattle.image_opening.specs.Faults.{version_fault}
use Rattle.image_opening.proofs.NextLegs.{handed_on, next_none, one_more, open_end, version_end}
use Rattle.image_opening.proofs.legs.open_first.Goals as goal

pub returns-in_err-open_next-clause-end : goal.returns-in_err-open_next-clause-end
returns-in_err-open_next-clause-end g c =
    handed_on _ c.from_residual.result c.in_err-open_next.field-0.0 c.from_residual.ensures.1
    (open_end (g.H.Shelf.contents c.args.shelf.now) c.args.names.now c.args.versions c.args.images.now.items (map g.H.Leg.LegDev.contents c.args.legs.now.items)
    (map g.H.Leg.LegDev.size c.args.legs.now.items) 0 _ c.in_err-open_next.field-0.0 c.requires.opened c.requires.number (next_none c.args.versions _ c.requires.number) (omega arith)
    c.in_err-open_next.ensures.end)

pub returns-in-Some-clause-end : goal.returns-in-Some-clause-end
returns-in-Some-clause-end g c =
    let one : length c.open_next.new.images.items ≡ 1 = one_more _ _ c.in_ok-open_next.ensures.added ∙ ap (λ n. n + 1) c.requires.number in
    version_end (g.H.Shelf.contents c.args.shelf.now) c.args.names.now c.args.versions c.open_next.new.images.items _ _ _ c.in-Some.fault c.in_ok-open_next.ensures.opened one
    (sym (c.in-Some.ensures ∙ ap (version_fault c.args.versions) (c.superblock.ensures ∙ ap (λ xs. super_at xs 0) c.deref.ensures.value)))
