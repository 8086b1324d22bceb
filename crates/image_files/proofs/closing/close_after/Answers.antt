use Rattle.std.proofs.Common.{map, length, sym, subst}
use Rattle.mdc_types.specs.Faults.{Rose}
use Rattle.image_files.specs.Closed.{NeverFalls}
use Rattle.image_files.specs.Ends.{HasFailed}
use Rattle.image_files.proofs.GivenBack.{closes_changes, changes_all, counted_falls_not, counted_rises}
use Rattle.image_files.proofs.closing.close_after.Goals as goal

pub returns-clause-others : goal.returns-clause-others
returns-clause-others g c =
    let told = map g.H.Leg.LegDev.contents c.args.legs.items in
    changes_all c.args.names.now (length c.args.legs.items) (g.H.Shelf.contents c.args.shelf.now) (g.H.Shelf.contents c.close_all.new.shelf) c.requires.many
    (closes_changes c.args.names.now told (length c.args.legs.items) (g.H.Shelf.contents c.args.shelf.now) c.close_all.result (g.H.Shelf.contents c.close_all.new.shelf)
    c.close_all.ensures.contents)

pub returns-clause-counts : goal.returns-clause-counts
returns-clause-counts g c =
    subst (NeverFalls (g.H.Shelf.leg_faults c.args.shelf.now)) (sym c.close_all.ensures.legs)
    (counted_falls_not (g.H.Shelf.leg_faults c.args.shelf.now) (map g.H.Leg.LegDev.faults c.args.legs.items))

pub returns-clause-device : goal.returns-clause-device
returns-clause-device g c l is =
    subst (Rose (g.H.Shelf.leg_faults c.args.shelf.now)) (sym c.close_all.ensures.legs)
    (counted_rises (g.H.Shelf.leg_faults c.args.shelf.now) (map g.H.Leg.LegDev.faults c.args.legs.items) l
    (subst (HasFailed (map g.H.Leg.LegDev.faults c.args.legs.items)) is c.requires.failed))
