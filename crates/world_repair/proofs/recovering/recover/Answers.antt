use Rattle.laws_sound.proofs.Guarded.{all_none}
use Rattle.cluster_model.specs.Recovering.{rec_guards}
use Rattle.world_state.specs.Kept.{core_of}
use Rattle.world_repair.proofs.Accepting.{node_is}
use Rattle.world_repair.proofs.recovering.recover.Goals as goal

pub recover-requires-clause-slot : goal.recover-requires-clause-slot
recover-requires-clause-slot c = let g = all_none (rec_guards (core_of c.args.core.now) c.args.n c.args.d) c.requires.accepted in node_is (core_of c.args.core.now) c.args.d g.1.1.1.1.1.1.0

pub recover-requires-clause-free : goal.recover-requires-clause-free
recover-requires-clause-free c = c.requires.ready.unblocked.recover c.args.n c.args.d c.requires.accepted
