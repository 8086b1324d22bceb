use Rattle.leg_shelf.proofs.Kept.{in_err}
use Rattle.disk_image.specs.Files.{leg_name}
use Rattle.disk_image.proofs.Placed.{others_same}
use Rattle.disk_image.proofs.creating.store_leg.Goals as goal

pub returns-in_err-file-clause-contents : goal.returns-in_err-file-clause-contents
returns-in_err-file-clause-contents g c = in_err _ _ c.from_residual.result c.from_residual.ensures.0
    (λ e. others_same (g.H.Shelf.contents c.args.shelf.now) (leg_name c.args.name.now c.args.l))

pub returns-in_err-bytes-clause-contents : goal.returns-in_err-bytes-clause-contents
returns-in_err-bytes-clause-contents g c = in_err _ _ c.from_residual-in_err-bytes.result c.from_residual-in_err-bytes.ensures.0
    (λ e. others_same (g.H.Shelf.contents c.args.shelf.now) (leg_name c.args.name.now c.args.l))
