use Rattle.laws_sound.proofs.Guarded.{all_none}
use Rattle.cluster_model.specs.Passes.{pass_guards}
use Rattle.world_state.specs.Kept.{core_of}
use Rattle.world_repair.proofs.Accepting.{node_is}
use Rattle.world_repair.proofs.passes.pass_own.Goals as goal

pub begin_own-requires : goal.begin_own-requires
begin_own-requires c = let g = all_none (pass_guards (core_of c.args.core.now) c.args.n) c.requires.accepted in node_is (core_of c.args.core.now) c.args.n g.0

pub returns-clause-after : goal.returns-clause-after
returns-clause-after c = c.begin_own.ensures
