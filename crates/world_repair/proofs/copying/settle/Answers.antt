use Rattle.laws_sound.proofs.Guarded.{all_none, unless_none}
use Rattle.cluster_model.specs.Copying.{settle_guards}
use Rattle.world_state.specs.Kept.{core_of}
use Rattle.world_repair.proofs.Accepting.{node_is, has_buffer}
use Rattle.world_repair.proofs.copying.settle.Goals as goal

pub settle-requires-clause-node : goal.settle-requires-clause-node
settle-requires-clause-node c = let g = all_none (settle_guards (core_of c.args.core.now) c.args.n) c.requires.accepted in node_is (core_of c.args.core.now) c.args.n g.0

pub settle-requires-clause-buffer : goal.settle-requires-clause-buffer
settle-requires-clause-buffer c = let g = all_none (settle_guards (core_of c.args.core.now) c.args.n) c.requires.accepted in has_buffer (core_of c.args.core.now) c.args.n (unless_none _ _ g.1.1.1.1.0)
