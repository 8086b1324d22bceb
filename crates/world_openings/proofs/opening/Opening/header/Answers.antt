use Rattle.std.proofs.Common.{sym, subst}
use Rattle.std.proofs.lemmas.Result.{IfOk-weaker}
use Rattle.cluster_model.specs.Opening.{IsOrigin}
use Rattle.world_openings.proofs.Headers.{header_origin}
use Rattle.world_openings.proofs.opening.Opening.header.Goals as goal

pub returns-clause-origin : goal.returns-clause-origin
returns-clause-origin c = IfOk-weaker c.of_header.result _ _ (λ o e. subst IsOrigin (sym e) (header_origin c.args.geometry c.args.nodes c.args.warm c.args.spares c.room-room.ensures.sound c.requires.nodes c.requires.first)) c.of_header.ensures
