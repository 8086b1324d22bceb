use Rattle.laws_sound.proofs.Guarded.{all_none}
use Rattle.cluster_model.specs.Passes.{pass_again_guards}
use Rattle.world_state.specs.Kept.{core_of}
use Rattle.world_repair.proofs.Accepting.{node_is, leg_is}
use Rattle.world_repair.proofs.passes.pass_again.Goals as goal

pub begin_again-requires-clause-node : goal.begin_again-requires-clause-node
begin_again-requires-clause-node c = let g = all_none (pass_again_guards (core_of c.args.core.now) c.args.n c.args.l) c.requires.accepted in node_is (core_of c.args.core.now) c.args.n g.0

pub begin_again-requires-clause-leg : goal.begin_again-requires-clause-leg
begin_again-requires-clause-leg c = let g = all_none (pass_again_guards (core_of c.args.core.now) c.args.n c.args.l) c.requires.accepted in leg_is (core_of c.args.core.now) c.args.l c.requires.ready g.1.1.1.0

pub returns-clause-after : goal.returns-clause-after
returns-clause-after c = c.begin_again.ensures
