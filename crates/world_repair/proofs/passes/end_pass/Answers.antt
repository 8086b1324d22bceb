use Rattle.laws_sound.proofs.Guarded.{all_none}
use Rattle.cluster_model.specs.Passes.{done_guards}
use Rattle.world_state.specs.Kept.{core_of}
use Rattle.world_repair.proofs.Accepting.{node_is, releases_resync}
use Rattle.world_repair.proofs.Changing.{pass_ended}
use Rattle.world_repair.proofs.passes.end_pass.Goals as goal

pub let_go-requires-clause-node : goal.let_go-requires-clause-node
let_go-requires-clause-node c = let g = all_none (done_guards (core_of c.args.core.now) c.args.n) c.requires.accepted in node_is (core_of c.args.core.now) c.args.n g.0

pub let_go-requires-clause-held : goal.let_go-requires-clause-held
let_go-requires-clause-held c = releases_resync (core_of c.args.core.now) c.args.n c.requires.ready c.requires.accepted

pub end_copy-requires : goal.end_copy-requires
end_copy-requires c = let g = all_none (done_guards (core_of c.args.core.now) c.args.n) c.requires.accepted in node_is (core_of c.args.core.now) c.args.n g.0

pub returns-clause-after : goal.returns-clause-after
returns-clause-after c = pass_ended (core_of c.args.core.now) (core_of c.let_go.new.core) (core_of c.end_copy.new.core) c.args.n c.let_go.ensures c.end_copy.ensures
