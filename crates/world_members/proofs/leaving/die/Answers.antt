use Rattle.std.proofs.Common.{ap, ◌∙◌}
use Rattle.cluster_model.specs.Changes.{sender_idle, node_out}
use Rattle.world_members.specs.Changes.{receivers_told, range_dropped, locks_lost, requests_ended}
use Rattle.world_state.specs.Kept.{core_of}
use Rattle.world_members.proofs.Stepping.{die_steps}
use Rattle.world_members.proofs.leaving.die.Goals as goal

pub returns-clause-after : goal.returns-clause-after
returns-clause-after c =
    let n = c.args.n in
    c.end_requests.ensures
    ∙ ap (λ x. requests_ended x n) (c.lose_locks.ensures
    ∙ ap (λ x. locks_lost x n) (c.drop_range.ensures
    ∙ ap (λ x. range_dropped x n) (c.node_out.ensures
    ∙ ap (λ x. node_out x n) (c.sender_idle.ensures
    ∙ ap (λ x. sender_idle x n) (c.tell_death.ensures
    ∙ ap (λ x. receivers_told x n) c.fence.ensures)))))
    ∙ die_steps (core_of c.args.core.now) n
