use Rattle.std.proofs.Common.{ap, sym, subst, ◌∙◌}
use Rattle.std.specs.Prelude.{IsSome}
use Rattle.cluster_model.specs.State.{Core}
use Rattle.cluster_model.specs.Copying.{buffer_of, next_sector}
use Rattle.world_state.specs.Kept.{core_of}
use Rattle.world_repair.proofs.Changing.{filled_is}
use Rattle.world_repair.proofs.changes.into_buffer.Goals as goal

pub fill-requires-clause-empty : goal.fill-requires-clause-empty
fill-requires-clause-empty c = ap (λ (x : Core). buffer_of x c.args.n) c.set_head.ensures ∙ c.requires.empty

pub fill-requires-clause-next : goal.fill-requires-clause-next
fill-requires-clause-next c = subst (λ (x : Core). IsSome (next_sector x c.args.n)) (sym c.set_head.ensures) c.requires.next

pub returns-in-Some : goal.returns-in-Some
returns-in-Some c = filled_is (core_of c.args.core.now) (core_of c.set_head.new.self) (core_of c.fill.new.core) c.args.n c.args.l c.in-Some.s c.args.v.now (sym c.next_sector.ensures.value ∙ c.in-Some.is) c.set_head.ensures c.fill.ensures
