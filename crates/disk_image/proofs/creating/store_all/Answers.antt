use Rattle.disk_image.proofs.Placed.{shelf_cause}
use Rattle.disk_image.proofs.creating.store_all.Goals as goal

pub returns-in-Err-Failed-clause-cause : goal.returns-in-Err-Failed-clause-cause
returns-in-Err-Failed-clause-cause g c =
    shelf_cause _ (g.H.Shelf.faults c.loop-l.shelf) _ c.loop-l.l c.loop-l.invariant.later (rw c.in-Err-Failed.field-0-is at c.in-Err-Failed.ensures.cause)
