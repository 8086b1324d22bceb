use Rattle.std.proofs.Common.{ap, ◌∙◌}
use Rattle.leg_failure.specs.Views.{view_of}
use Rattle.cluster_model.specs.Changes.{with_view}
use Rattle.world_members.specs.Changes.{addition_over, device_kept}
use Rattle.world_state.specs.Kept.{core_of}
use Rattle.world_members.proofs.processing.take_roles.Goals as goal

pub returns : goal.returns
returns c =
    let n = c.args.n in
    let core = core_of c.args.core.now in
    c.end_addition.ensures
    ∙ ap (λ x. addition_over x n) (c.set_view.ensures ∙ ap (λ x. with_view x n (view_of c.view_taken-view.result)) c.keep_device.ensures)
    ∙ ap (λ v. addition_over (with_view (device_kept core n) n v) n) c.view_taken-view.ensures
