use Rattle.std.proofs.Common.{sym, subst}
use Rattle.disk_image.specs.Files.{leg_name}
use Rattle.disk_image.proofs.Placed.{others_same}
use Rattle.image_upgrade.specs.Ends.{LegFailed}
use Rattle.image_upgrade.specs.declared.ends.UpgradeError.TheVariants.{Old}
use Rattle.image_upgrade.proofs.PutLaws.{made_failed}
use Rattle.image_upgrade.proofs.storing.store_leg.Goals as goal

pub returns-in-Err-clause-contents : goal.returns-in-Err-clause-contents
returns-in-Err-clause-contents g c = others_same (g.H.Shelf.contents c.args.shelf.now) (leg_name c.args.to.now c.args.l)

pub returns-in-Err-clause-failed : goal.returns-in-Err-clause-failed
returns-in-Err-clause-failed g c =
    subst (λ e. LegFailed (g.H.Leg.LegDev.faults c.second_image.new.leg) (Old e)) (sym c.made_error.ensures)
    (made_failed c.args.l (g.H.Leg.LegDev.faults c.args.leg.now) (g.H.Leg.LegDev.faults c.second_image.new.leg) c.in-Err.end c.in-Err.ensures.end c.in-Err.ensures.cause)
