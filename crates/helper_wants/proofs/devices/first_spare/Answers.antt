use Rattle.std.proofs.Common.{ap, ◌∙◌}
use Rattle.dlm_modes.specs.First.{first_such}
use Rattle.mdc_types.specs.Roles.{role_of, is_spare}
use Rattle.leg_failure.specs.Views.{NodeView}
use Rattle.world_state.specs.Kept.{Kept, core_of}
use Rattle.helper_wants.proofs.WantLaws.{first_with}
use Rattle.helper_wants.proofs.devices.first_spare.Goals as goal

pub returns : goal.returns
returns c =
    let role = ((core_of c.args.core.now).view c.args.n).role in
    let same = ap role_of c.roles.ensures ∙ ap (λ (v : NodeView). v.role) c.view.ensures in
    c.first_in.ensures
    ∙ first_with is_spare c.spare.result c.legs.result c.roles.result.now role c.legs.ensures.range.1 c.spare.ensures same
    ∙ ap (first_such (λ l. is_spare (role l)) 0) (c.legs.ensures.value ∙ ap (λ (q : Kept). q.identity.geometry.legs) c.core.view_is)
