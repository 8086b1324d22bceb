use Rattle.std.proofs.Common.{◌∙◌, ap}
use Rattle.mdc_types.specs.Roles.{role_of, is_rebuilding}
use Rattle.leg_failure.specs.Views.{view_of, fresh_targets}
use Rattle.world_state.specs.Kept.{core_of}
use Rattle.world_state.proofs.Changing.{view_changed}
use Rattle.world_state.proofs.state.CoreState.set_view.Goals as goal

pub returns : goal.returns
returns c = view_changed (core_of c.args.self.now) (core_of c.new_legs.new.self) (core_of c.cover_only.new.self) (core_of c.replace_view.new.self) c.args.n (view_of c.args.view) _ _ c.new_legs.ensures c.cover_only.ensures c.replace_view.ensures
    (c.fresh_targets-fresh.ensures ∙ ap (λ v. fresh_targets v (view_of c.args.view)) c.seen_view-was.ensures)
    (c.rebuilding_of-rebuilding.ensures ∙ ap (λ r l. is_rebuilding (role_of r l)) c.roles.ensures)
