use Rattle.std.proofs.Common.{◌∙◌}
use Rattle.world_openings.proofs.Written.{same_page, slot_flags}
use Rattle.world_openings.proofs.header.slot_page.Goals as goal

pub returns : goal.returns
returns c = c.page_of_flags.ensures.bytes
    ∙ same_page _ _ _ _ c.args.p _ _ c.geometry.ensures c.uuid.ensures
    (slot_flags c.args.opening.now c.args.slot c.slot_set-set.result.chunks c.slot_set-set.result.all c.slot_set-set.ensures.chunks c.slot_set-set.ensures.all c.requires.slot)
