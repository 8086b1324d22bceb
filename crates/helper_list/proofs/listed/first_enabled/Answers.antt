use Rattle.std.proofs.Common.{sym, ◌∙◌, ◌++◌, List, Option}
use Rattle.mdc_types.specs.declared.events.Event.{Event}
use Rattle.cluster_model.specs.State.{Core}
use Rattle.driver_rules.specs.Helpers.{lines}
use Rattle.world_state.specs.Kept.{core_of}
use Rattle.helper_list.specs.Parts.{of_messages, of_transfers, of_passes}
use Rattle.helper_list.proofs.ListLaws.{first_found, first_append_some, first_append_none}
use Rattle.helper_list.proofs.listed.first_enabled.Goals as goal

pub returns-in-Some : goal.returns-in-Some
returns-in-Some c =
    let core : Core = core_of c.args.core.now in
    sym (first_found (lines core c.args.n)
    ∙ first_append_some (of_messages core c.args.n) (of_transfers core c.args.n ++ of_passes core c.args.n) c.in-Some.e (sym c.of_messages.ensures ∙ c.in-Some.is))

pub returns-in-None : goal.returns-in-None
returns-in-None c =
    let core : Core = core_of c.args.core.now in
    c.after_messages.ensures ∙ sym (first_found (lines core c.args.n)
    ∙ first_append_none (of_messages core c.args.n) (of_transfers core c.args.n ++ of_passes core c.args.n) (sym c.of_messages.ensures ∙ c.in-None.is))
