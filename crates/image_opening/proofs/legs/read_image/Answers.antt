use Rattle.std.proofs.Common.{subst, sym, Err, refl}
use Rattle.image_opening.specs.Faults.{TellsNext, LegFailed}
use Rattle.image_opening.proofs.LegLaws.{long_read, bytes_read, tells_next, leg_failed}
use Rattle.image_opening.proofs.legs.read_image.Goals as goal

pub returns-in-Ok-clause-bytes : goal.returns-in-Ok-clause-bytes
returns-in-Ok-clause-bytes g c =
    let size = g.L.LegDev.size c.args.leg.now in
    bytes_read c.args.images.now.items _ c.args.size size c.in-Ok.ensures.added c.in-Ok.ensures.legs c.in-Ok.ensures.long c.requires.size

pub returns-in-Ok-clause-long : goal.returns-in-Ok-clause-long
returns-in-Ok-clause-long g c =
    let size = g.L.LegDev.size c.args.leg.now in
    long_read c.args.images.now.items _ c.args.size size c.in-Ok.ensures.added c.in-Ok.ensures.legs c.in-Ok.ensures.long c.requires.size

pub returns-in-Err-clause-fault : goal.returns-in-Err-clause-fault
returns-in-Err-clause-fault g c =
    let told = g.L.LegDev.contents c.args.leg.now in
    subst (TellsNext told c.args.images.now.items c.args.size c.args.l) (sym c.leg_error.ensures)
    (tells_next told c.args.images.now.items c.args.size c.args.l c.in-Err.end c.in-Err.ensures.judged)

pub returns-in-Err-clause-failed : goal.returns-in-Err-clause-failed
returns-in-Err-clause-failed g c =
    subst (LegFailed _) (sym c.leg_error.ensures)
    (leg_failed (g.L.LegDev.faults c.args.leg.now) _ c.args.l (Err c.in-Err.end) c.in-Err.end refl c.in-Err.ensures.cause)
