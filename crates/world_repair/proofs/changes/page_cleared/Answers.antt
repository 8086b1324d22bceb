use Rattle.std.proofs.Common.{refl, sym, ◌∙◌}
use Rattle.world_state.specs.Kept.{core_of}
use Rattle.world_repair.proofs.Changing.{cleared_is}
use Rattle.world_repair.proofs.changes.page_cleared.Goals as goal

pub returns-in-Some : goal.returns-in-Some
returns-in-Some c = cleared_is (core_of c.args.core.now) (core_of c.written.new.core) (core_of c.cleared.new.core) c.args.n c.args.p c.args.l c.in-Some.d ((core_of c.args.core.now).recovery c.args.n) refl (sym c.slot.ensures.value ∙ c.in-Some.is) c.written.ensures c.cleared.ensures
