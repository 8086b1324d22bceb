use Rattle.cluster_model.specs.Copying.{buffer_of}
use Rattle.world_state.specs.Kept.{core_of}
use Rattle.world_repair.proofs.Changing.{settled_is}
use Rattle.world_repair.proofs.changes.settle.Goals as goal

pub returns : goal.returns
returns c = settled_is (core_of c.args.core.now) (core_of c.empty_buffer-c.new.core) (core_of c.need_met.new.core) c.args.n (buffer_of (core_of c.args.core.now) c.args.n) c.empty_buffer-c.result c.requires.buffer c.empty_buffer-c.ensures.core c.empty_buffer-c.ensures.told c.need_met.ensures
