use Rattle.cluster_model.specs.Gathering.{due_page}
use Rattle.world_state.specs.Kept.{core_of}
use Rattle.world_repair.proofs.Changing.{gathered_is}
use Rattle.world_repair.proofs.changes.gather.Goals as goal

pub returns : goal.returns
returns c = gathered_is (core_of c.args.core.now) (core_of c.add.new.core) c.args.n c.args.page.now (due_page (core_of c.args.core.now) c.args.n) c.requires.due c.add.ensures
