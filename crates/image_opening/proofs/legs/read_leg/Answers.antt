use Rattle.std.proofs.Common.{Some, refl, ◌∙◌}
use Rattle.image_opening.proofs.LegLaws.{tells_size}
use Rattle.image_opening.proofs.legs.read_leg.Goals as goal

pub returns-in-Some-clause-fault : goal.returns-in-Some-clause-fault
returns-in-Some-clause-fault g c =
    let leg = c.args.leg.now in
    tells_size (g.L.LegDev.contents leg) c.args.images.now.items c.args.size c.args.l (g.L.LegDev.size leg) c.in-Some.fault (Some c.in-Some.fault)
    (g.met.L.LegDev.told_length leg) refl (λ is. c.in-Some.ensures.none (c.length.ensures ∙ is))
