use Rattle.std.proofs.Common.{map, subst, sym}
use Rattle.image_files.specs.Closed.{OnlyTheseChange}
use Rattle.image_files.specs.Names.{leg_names}
use Rattle.image_files.proofs.GivenBack.{changes_none}
use Rattle.image_opening.proofs.ArrayLaws.{has_images}
use Rattle.image_opening.proofs.opening.open_array.Goals as goal

pub returns-in_err-names-clause-others : goal.returns-in_err-names-clause-others
returns-in_err-names-clause-others g c = changes_none (leg_names c.args.name.now) 8 (g.H.Shelf.contents c.args.shelf.now)

pub returns-in-Ok-clause-told : goal.returns-in-Ok-clause-told
returns-in-Ok-clause-told g c =
    let opened = c.in-Ok.ensures in
    λ tells. has_images (g.H.Shelf.contents c.args.shelf.now) _ _ (map g.H.Leg.LegDev.contents c.open_all.new.legs.items) (map g.H.Leg.LegDev.size c.open_all.new.legs.items) c.in-Ok.opening
    tells opened.opened opened.fits opened.images

pub returns-in-Ok-clause-others : goal.returns-in-Ok-clause-others
returns-in-Ok-clause-others g c =
    let files = g.H.Shelf.contents c.args.shelf.now in
    subst (OnlyTheseChange (leg_names c.args.name.now) 0 8 files) (sym c.in-Ok.ensures.contents) (changes_none (leg_names c.args.name.now) 8 files)
