use Rattle.std.proofs.lemmas.Result.{err_from_is_err_and}
use Rattle.disk_image.specs.Files.{leg_name}
use Rattle.disk_image.proofs.Placed.{others_same}
use Rattle.image_upgrade.proofs.PutLaws.{new_cause}
use Rattle.image_upgrade.proofs.storing.store_bytes.Goals as goal

pub returns-in_err-file-clause-contents : goal.returns-in_err-file-clause-contents
returns-in_err-file-clause-contents g c =
    let p = err_from_is_err_and c.from_residual.result c.from_residual.ensures.1 in
    rw p.1 (others_same (g.H.Shelf.contents c.args.shelf.now) (leg_name c.args.to.now c.args.l))

pub returns-in-Err-Failed-clause-cause : goal.returns-in-Err-Failed-clause-cause
returns-in-Err-Failed-clause-cause g c =
    new_cause (g.H.Shelf.faults c.args.shelf.now) (g.H.Shelf.faults c.store.new.self) c.args.l c.in-Err-Failed.field-0 c.in-Err-Failed.field-0-is c.in-Err-Failed.ensures.cause
