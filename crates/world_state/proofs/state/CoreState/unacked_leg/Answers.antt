use Rattle.std.proofs.Common.{◌∙◌, ap}
use Rattle.world_state.proofs.state.CoreState.unacked_leg.Goals as goal
use Rattle.leg_failure.specs.Views.{is_unacked}
use Rattle.world_state.proofs.Found.{same_first}

pub returns : goal.returns
returns c = c.least_leg.ensures ∙ same_first _ _ (λ l. c.unacked.ensures l ∙ ap (λ v. is_unacked v l) c.view.ensures)
