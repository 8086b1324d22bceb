use Rattle.std.proofs.Common.{◌∙◌, ap}
use Rattle.world_state.proofs.state.CoreState.is_target.Goals as goal
use Rattle.leg_failure.specs.Views.{is_target}

pub returns : goal.returns
returns c = c.has_leg.ensures ∙ c.targets.ensures c.args.l ∙ ap (λ v. is_target v c.args.l) c.view.ensures
