use Rattle.laws_sound.proofs.Guarded.{all_none}
use Rattle.cluster_model.specs.Recovering.{slotin_guards}
use Rattle.world_state.specs.Kept.{core_of}
use Rattle.world_repair.proofs.Accepting.{slot_page}
use Rattle.world_repair.proofs.recovering.page_found.Goals as goal

pub page_found-requires-clause-slot : goal.page_found-requires-clause-slot
page_found-requires-clause-slot c = let g = all_none (slotin_guards (core_of c.args.core.now) c.args.n c.args.p c.args.l) c.requires.accepted in slot_page (core_of c.args.core.now) c.args.p c.requires.ready g.1.1.1.1.1.1.0
