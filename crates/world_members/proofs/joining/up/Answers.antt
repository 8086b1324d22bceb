use Rattle.std.proofs.Common.{ap, ◌∙◌}
use Rattle.leg_failure.specs.Views.{view_of}
use Rattle.mdc_types.specs.declared.roles.NodeState.TheVariants.{Loaded}
use Rattle.suspend_ranges.specs.Suspended.{ranges_of}
use Rattle.cluster_model.specs.Changes.{with_view}
use Rattle.world_members.specs.Changes.{in_state, tries_over, suspends_at}
use Rattle.world_state.specs.Kept.{core_of}
use Rattle.world_members.proofs.Stepping.{up_steps}
use Rattle.world_members.proofs.joining.up.Goals as goal

pub enter_locks-requires-clause-ack : goal.enter_locks-requires-clause-ack
enter_locks-requires-clause-ack c = c.requires.ready.unblocked.up c.args.n c.requires.accepted

pub returns-clause-after : goal.returns-clause-after
returns-clause-after c =
    let n = c.args.n in
    let v = view_of c.newest_view-view.result in
    let ranges = ranges_of c.members_ranges-ranges.result in
    c.set_state.ensures
    ∙ ap (λ x. in_state x n Loaded) (c.forget_tries.ensures
    ∙ ap (λ x. tries_over x n) (c.set_suspended.ensures
    ∙ ap (λ x. suspends_at x n ranges) (c.set_view.ensures
    ∙ ap (λ x. with_view x n v) c.enter_locks.ensures)))
    ∙ up_steps (core_of c.args.core.now) n v ranges c.newest_view-view.ensures c.members_ranges-ranges.ensures
