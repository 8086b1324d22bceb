use Rattle.std.proofs.Common.{◌∙◌, ap}
use Rattle.world_state.proofs.state.CoreState.working_leg.Goals as goal
use Rattle.leg_failure.specs.Views.{works}
use Rattle.world_state.proofs.Found.{same_first}

pub returns : goal.returns
returns c = c.least_leg.ensures ∙ same_first _ _ (λ l. c.working.ensures l ∙ ap (λ v. works v l) c.view.ensures)
