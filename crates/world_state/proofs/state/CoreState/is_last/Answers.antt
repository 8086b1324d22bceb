use Rattle.std.proofs.Common.{ap, sym, ◌∙◌}
use Rattle.leg_failure.specs.Views.{is_last}
use Rattle.world_state.proofs.Found.{is_last_leg, is_other_leg}
use Rattle.world_state.proofs.state.CoreState.is_last.Goals as goal

pub returns-in-LastLeg : goal.returns-in-LastLeg
returns-in-LastLeg c =
    sym (is_last_leg _ (sym c.lose.ensures.answer ∙ c.in-LastLeg.is)) ∙ ap (λ v. is_last v c.args.l) c.view.ensures

pub returns-in_default : goal.returns-in_default
returns-in_default c =
    sym (is_other_leg _ (sym c.lose.ensures.answer ∙ c.in_default.is)) ∙ ap (λ v. is_last v c.args.l) c.view.ensures
