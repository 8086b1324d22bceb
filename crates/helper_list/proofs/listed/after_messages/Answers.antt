use Rattle.std.proofs.Common.{sym, ◌∙◌}
use Rattle.cluster_model.specs.State.{Core}
use Rattle.world_state.specs.Kept.{core_of}
use Rattle.helper_list.specs.Parts.{of_transfers, of_passes}
use Rattle.helper_list.proofs.ListLaws.{first_append_some, first_append_none}
use Rattle.helper_list.proofs.listed.after_messages.Goals as goal

pub returns-in-Some : goal.returns-in-Some
returns-in-Some c =
    let core : Core = core_of c.args.core.now in
    sym (first_append_some (of_transfers core c.args.n) (of_passes core c.args.n) c.in-Some.e (sym c.of_transfers.ensures ∙ c.in-Some.is))

pub returns-in-None : goal.returns-in-None
returns-in-None c =
    let core : Core = core_of c.args.core.now in
    c.of_passes.ensures ∙ sym (first_append_none (of_transfers core c.args.n) (of_passes core c.args.n) (sym c.of_transfers.ensures ∙ c.in-None.is))
