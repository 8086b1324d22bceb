use Rattle.std.proofs.Common.{ap, ◌∙◌, List, Option}
use Rattle.mdc_types.specs.declared.events.Event.{Event}
use Rattle.driver_rules.specs.Helpers.{found}
use Rattle.helper_list.proofs.listed.enabled.Goals as goal

pub returns : goal.returns
returns c = c.found.ensures ∙ ap (λ (xs : List (Option Event)). found xs) c.lines.ensures
