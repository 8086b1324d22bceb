use Rattle.std.proofs.Common.{◌∙◌, ap}
use Rattle.dlm_modes.specs.First.{first_such}
use Rattle.mdc_types.specs.declared.roles.Roles.{Roles}
use Rattle.leg_failure.specs.Views.{NodeView}
use Rattle.cluster_model.specs.Bits.{is_degraded}
use Rattle.world_io.proofs.Judging.{lacks}
use Rattle.world_io.proofs.guards.lacking_leg.Goals as goal

pub returns : goal.returns
returns c = c.degraded_leg.ensures ∙ ap (λ (r : Roles). first_such (lacks r) 0 8) c.roles.ensures ∙ ap (λ (v : NodeView). first_such (is_degraded v) 0 8) c.view.ensures
