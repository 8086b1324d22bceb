use Rattle.laws_sound.proofs.Guarded.{all_none}
use Rattle.cluster_model.specs.Passes.{pass_guards}
use Rattle.world_state.specs.Kept.{core_of}
use Rattle.world_repair.proofs.Accepting.{below_nodes}
use Rattle.world_repair.proofs.passes.pass_full.Goals as goal

pub begin_full-requires : goal.begin_full-requires
begin_full-requires c = let g = all_none (pass_guards (core_of c.args.core.now) c.args.n) c.requires.accepted in below_nodes (core_of c.args.core.now) c.args.n g.0

pub returns-clause-after : goal.returns-clause-after
returns-clause-after c = c.begin_full.ensures
