use Rattle.std.proofs.Common.{subst, sym}
use Rattle.cluster_model.specs.Opening.{IsOrigin}
use Rattle.disk_image.specs.Created.{created_at}
use Rattle.disk_image.proofs.Origins.{created_origin}
use Rattle.disk_image.proofs.creating.new_array.Goals as goal

pub returns-clause-origin : goal.returns-clause-origin
returns-clause-origin c = subst (λ a. IsOrigin (created_at a)) (sym c.identity.ensures.array)
    (created_origin (record { sizes = c.args.geometry; name = c.args.name.now; uuid = c.args.uuid.now }) c.room-room.ensures.sound c.requires
    c.identity.ensures.lengths.0 c.identity.ensures.lengths.1)
