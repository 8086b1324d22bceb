use Rattle.std.proofs.Common.{ℕ, Bool, ap, ◌∙◌}
use Rattle.mdc_types.specs.Roles.{role_of, is_rebuilding}
use Rattle.mdc_types.specs.declared.roles.Roles.{Roles}
use Rattle.leg_failure.specs.Views.{NodeView}
use Rattle.helper_lines.proofs.looks.rebuilding_legs.Goals as goal

pub returns : goal.returns
returns c =
    c.rebuilding_of.ensures ∙ ap {B = ℕ → Bool} (λ (r : Roles) (l : ℕ). is_rebuilding (role_of r l)) c.roles.ensures
    ∙ ap {B = ℕ → Bool} (λ (v : NodeView) (l : ℕ). is_rebuilding (v.role l)) c.view.ensures
