use Rattle.std.proofs.Common.{sym, ◌∙◌}
use Rattle.laws_sound.proofs.Guarded.{all_none}
use Rattle.cluster_model.specs.Recovering.{slotin_guards}
use Rattle.world_state.specs.Kept.{core_of}
use Rattle.world_repair.proofs.Accepting.{slot_page, slot_below}
use Rattle.world_repair.proofs.recovering.slot_in_place.Goals as goal

pub page_place-requires-clause-slot : goal.page_place-requires-clause-slot
page_place-requires-clause-slot c = slot_below (core_of c.args.core.now) c.args.n c.in-Some.d c.requires.ready (sym c.slot.ensures.value ∙ c.in-Some.is)

pub page_place-requires-clause-page : goal.page_place-requires-clause-page
page_place-requires-clause-page c = let g = all_none (slotin_guards (core_of c.args.core.now) c.args.n c.args.p c.args.l) c.requires.accepted in slot_page (core_of c.args.core.now) c.args.p c.requires.ready g.1.1.1.1.1.1.0
