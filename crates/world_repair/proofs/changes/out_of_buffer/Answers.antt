use Rattle.std.proofs.Common.{sym, ◌∙◌}
use Rattle.cluster_model.specs.Copying.{buffer_of}
use Rattle.world_state.specs.Kept.{core_of}
use Rattle.world_repair.proofs.Changing.{out_is}
use Rattle.world_repair.proofs.changes.out_of_buffer.Goals as goal

pub returns-in-Some : goal.returns-in-Some
returns-in-Some c = out_is (core_of c.args.core.now) (core_of c.set_head.new.self) (core_of c.copied.new.core) c.args.n c.args.l c.in-Some.s c.in-Some.field-0-1 (buffer_of (core_of c.args.core.now) c.args.n) (sym c.buffer.ensures.value ∙ c.in-Some.is) c.set_head.ensures c.copied.ensures
