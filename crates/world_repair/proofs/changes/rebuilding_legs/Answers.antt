use Rattle.std.proofs.Common.{ap, ◌∙◌, ℕ, Bool}
use Rattle.mdc_types.specs.Roles.{role_of, is_rebuilding}
use Rattle.mdc_types.specs.declared.roles.Roles.{Roles}
use Rattle.leg_failure.specs.Views.{NodeView}
use Rattle.world_repair.proofs.changes.rebuilding_legs.Goals as goal

pub returns : goal.returns
returns c =
    let by_roles : Roles → ℕ → Bool = λ r l. is_rebuilding (role_of r l) in
    let by_view : NodeView → ℕ → Bool = λ v l. is_rebuilding (v.role l) in
    c.rebuilding_of.ensures ∙ ap by_roles c.roles.ensures ∙ ap by_view c.view.ensures
