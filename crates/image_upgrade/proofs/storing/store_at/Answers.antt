use Rattle.std.proofs.Common.{◌≡◌, ◌<◌, length, subst, sym, ap, ◌∙◌, arith}
use Rattle.mdc_types.specs.Geometry.{length_of}
use Rattle.image_files.proofs.RowLaws.{mapped_same}
use Rattle.image_second.specs.Second.{WasRead, IsReadable}
use Rattle.image_upgrade.proofs.AtLaws.{read_there, mapped_here, set_here}
use Rattle.image_upgrade.proofs.PutLaws.{failed_at}
use Rattle.image_upgrade.proofs.storing.store_at.Goals as goal

pub store_leg-requires-clause-image : goal.store_leg-requires-clause-image
store_leg-requires-clause-image g c =
    let x = c.index-images-from.result in
    let same : c.from.result ≡ c.args.l = omega (arith, c.from.ensures) in
    subst IsReadable (sym (read_there c.args.images.now c.from.result c.args.l x same c.requires.there c.index-images-from.is)) (c.requires.readable.each c.args.l c.requires.there)

pub store_leg-requires-clause-long : goal.store_leg-requires-clause-long
store_leg-requires-clause-long g c =
    let x = c.index-images-from.result in
    let same : c.from.result ≡ c.args.l = omega (arith, c.from.ensures) in
    let second : c.from-2.result ≡ c.args.l = omega (arith, c.from-2.ensures) in
    let lt : c.from-2.result < length c.args.legs.now.items = omega (arith, second, c.requires.there, c.requires.many) in
    mapped_here g.H.Leg.LegDev.size c.args.legs.now.items c.from-2.result c.args.l c.index_mut-leg.result.now 0 second lt c.index_mut-leg.ensures.value
    ∙ c.requires.readable.long c.args.l c.requires.there
    ∙ ap (λ (r : WasRead). length_of r.sizes) (sym (read_there c.args.images.now c.from.result c.args.l x same c.requires.there c.index-images-from.is))

pub returns-clause-failed : goal.returns-clause-failed
returns-clause-failed g c =
    let second : c.from-2.result ≡ c.args.l = omega (arith, c.from-2.ensures) in
    let lt : c.from-2.result < length c.args.legs.now.items = omega (arith, second, c.requires.there, c.requires.many) in
    failed_at c.args.l (g.H.Leg.LegDev.faults c.store_leg.new.leg) _ c.store_leg.result
    (set_here g.H.Leg.LegDev.faults c.args.legs.now.items c.from-2.result c.args.l c.store_leg.new.leg 0 second lt) c.store_leg.ensures.end c.store_leg.ensures.failed

pub returns-clause-told : goal.returns-clause-told
returns-clause-told g c =
    let second : c.from-2.result ≡ c.args.l = omega (arith, c.from-2.ensures) in
    mapped_same g.H.Leg.LegDev.contents c.args.legs.now.items c.from-2.result c.index_mut-leg.result.now c.store_leg.new.leg
    (omega (arith, second, c.requires.there, c.requires.many)) c.index_mut-leg.ensures.value c.store_leg.ensures.told

pub returns-clause-size : goal.returns-clause-size
returns-clause-size g c =
    let second : c.from-2.result ≡ c.args.l = omega (arith, c.from-2.ensures) in
    mapped_same g.H.Leg.LegDev.size c.args.legs.now.items c.from-2.result c.index_mut-leg.result.now c.store_leg.new.leg
    (omega (arith, second, c.requires.there, c.requires.many)) c.index_mut-leg.ensures.value c.store_leg.ensures.size
