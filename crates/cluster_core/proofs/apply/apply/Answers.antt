use Rattle.std.proofs.Common.{◌≡◌, None, subst}
use Rattle.cluster_model.specs.Table.{refusal}
use Rattle.world_state.specs.Kept.{core_of}
use Rattle.cluster_core.proofs.apply.apply.Goals as goal

pub leave-requires-clause-accepted : goal.leave-requires-clause-accepted
leave-requires-clause-accepted g c = subst (λ e. refusal (core_of c.args.core.now) e ≡ None) c.in-Leave.is c.requires.accepted
