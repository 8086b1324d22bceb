use Rattle.std.proofs.Common.{◌≡◌, ap, ◌++◌, ◌∷◌, [], ◌∙◌, sym, length}
use Rattle.std.proofs.lemmas.List.{length-map}
use Rattle.image_opening.proofs.LegLaws.{next_unread}
use Rattle.image_opening.proofs.NextLegs.{all_ok, both_err, opened_legs}
use Rattle.image_opening.proofs.legs.open_next.Goals as goal

pub returns-clause-opened : goal.returns-clause-opened
returns-clause-opened g c =
    let judged = c.read_leg-judged in
    all_ok judged.result judged.ensures.added judged.ensures.read judged.ensures.bytes judged.ensures.long judged.ensures.legs
    (λ added read bytes long all.
    opened_legs g.H.Leg.LegDev.contents g.H.Leg.LegDev.size (g.H.Shelf.contents c.args.shelf.now) c.args.names.now c.args.images.now.items _ c.args.legs.now.items _ _ judged.new.leg
    c.args.l _ c.requires.opened c.requires.number (c.push_reserved.ensures.items ∙ ap (λ xs. xs ++ judged.new.leg ∷ []) c.in_ok-reserve.ensures.items)
    judged.ensures.contents judged.ensures.size c.in_ok-leg.ensures.leg added read bytes long all)

pub returns-clause-end : goal.returns-clause-end
returns-clause-end g c =
    let judged = c.read_leg-judged in
    let many : length c.args.legs.now.items ≡ c.args.l =
    sym (length-map c.args.legs.now.items g.H.Leg.LegDev.contents) ∙ c.requires.opened.many.0 ∙ c.requires.number in
    both_err judged.result judged.ensures.fault judged.ensures.failed
    (λ e tells failed.
    next_unread g.H.Leg.LegDev.faults (g.H.Shelf.contents c.args.shelf.now) c.args.names.now c.args.images.now.items c.args.l _ _ c.args.legs.now.items _ judged.new.leg
    e many (c.push_reserved.ensures.items ∙ ap (λ xs. xs ++ judged.new.leg ∷ []) c.in_ok-reserve.ensures.items)
    c.in_ok-leg.ensures.leg c.in_ok-leg.ensures.least tells failed)
