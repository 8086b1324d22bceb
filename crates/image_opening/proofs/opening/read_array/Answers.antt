use Rattle.std.proofs.Common.{◌≡◌, length, map, ap, sym, subst, ◌∙◌}
use Rattle.std.proofs.lemmas.List.{length-map}
use Rattle.cluster_model.specs.Contents.{IsImages}
use Rattle.cluster_model.specs.Opening.{Origin, IsOrigin}
use Rattle.world_state.specs.Told.{Fits, legs_of}
use Rattle.image_opening.proofs.ArrayLaws.{fits_are, images_are, version_is}
use Rattle.image_opening.proofs.opening.read_array.Goals as goal

pub returns-clause-origin : goal.returns-clause-origin
returns-clause-origin g c = subst IsOrigin (sym c.opening_of.ensures) (c.head_of-head.ensures.origin _)

pub returns-clause-fits : goal.returns-clause-fits
returns-clause-fits g c =
    let told = map g.L.LegDev.contents c.args.legs.now.items in
    let lengths = map g.L.LegDev.size c.args.legs.now.items in
    let many : length lengths ≡ length c.args.images.now = length-map c.args.legs.now.items g.L.LegDev.size ∙ c.requires.many in
    subst (λ (o : Origin). Fits o.sizes lengths) (sym c.opening_of.ensures)
    (fits_are c.args.images.now c.head_of-head.result told lengths c.head_of-head.ensures.legs many c.requires.read c.head_of-head.ensures.long)

pub returns-clause-images : goal.returns-clause-images
returns-clause-images g c =
    let told = map g.L.LegDev.contents c.args.legs.now.items in
    let lengths = map g.L.LegDev.size c.args.legs.now.items in
    let many : length told ≡ length c.args.images.now = length-map c.args.legs.now.items g.L.LegDev.contents ∙ c.requires.many in
    subst (λ o. IsImages o (legs_of told)) (sym c.opening_of.ensures)
    (images_are c.args.images.now c.head_of-head.result _ told lengths c.requires.all c.head_of-head.ensures.head c.head_of-head.ensures.legs many c.requires.read
    c.in_ok-base.ensures.base)

pub returns-clause-version : goal.returns-clause-version
returns-clause-version g c =
    ap (λ (o : Origin). o.sizes.second) c.opening_of.ensures ∙ version_is c.args.images.now c.head_of-head.result c.requires.all c.head_of-head.ensures.head
