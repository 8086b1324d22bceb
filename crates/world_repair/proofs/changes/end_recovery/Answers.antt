use Rattle.std.proofs.Common.{ap, ◌∙◌}
use Rattle.dlm_space.specs.Locks.{release_refusal}
use Rattle.cluster_model.specs.State.{Core}
use Rattle.world_state.specs.Kept.{core_of}
use Rattle.world_repair.proofs.Changing.{ended_is}
use Rattle.world_repair.proofs.changes.end_recovery.Goals as goal

pub let_go-requires-clause-held : goal.let_go-requires-clause-held
let_go-requires-clause-held c = ap (λ (x : Core). release_refusal (x.locks c.args.d) c.args.n) c.close.ensures ∙ ap (λ (x : Core). release_refusal (x.locks c.args.d) c.args.n) c.end_members.ensures ∙ c.requires.held

pub returns : goal.returns
returns c = ended_is (core_of c.args.core.now) (core_of c.end_members.new.core) (core_of c.close.new.core) (core_of c.let_go.new.core) c.args.n c.args.d c.end_members.ensures c.close.ensures c.let_go.ensures
