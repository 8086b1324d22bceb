use Rattle.laws_sound.proofs.Guarded.{all_none}
use Rattle.cluster_model.specs.Passes.{resync_guards}
use Rattle.world_state.specs.Kept.{core_of}
use Rattle.world_repair.proofs.Accepting.{node_is, asks_resync}
use Rattle.world_repair.proofs.Changing.{lock_asked}
use Rattle.world_repair.proofs.passes.ask_resync.Goals as goal

pub ask_lock-requires-clause-node : goal.ask_lock-requires-clause-node
ask_lock-requires-clause-node c = let g = all_none (resync_guards (core_of c.args.core.now) c.args.n) c.requires.accepted in node_is (core_of c.args.core.now) c.args.n g.0

pub ask_lock-requires-clause-free : goal.ask_lock-requires-clause-free
ask_lock-requires-clause-free c = asks_resync (core_of c.args.core.now) c.args.n c.requires.ready c.requires.accepted

pub asked-requires : goal.asked-requires
asked-requires c = let g = all_none (resync_guards (core_of c.args.core.now) c.args.n) c.requires.accepted in node_is (core_of c.args.core.now) c.args.n g.0

pub returns-clause-after : goal.returns-clause-after
returns-clause-after c = lock_asked (core_of c.args.core.now) (core_of c.ask_lock.new.core) (core_of c.asked.new.core) c.args.n c.ask_lock.ensures c.asked.ensures
