use Rattle.std.proofs.Common.{ap, ◌∙◌}
use Rattle.cluster_model.specs.Changes.{node_out}
use Rattle.world_members.specs.Changes.{locks_left}
use Rattle.world_members.proofs.leaving.leave.Goals as goal

pub returns-clause-after : goal.returns-clause-after
returns-clause-after c =
    let n = c.args.n in
    c.leave_locks.ensures
    ∙ ap (λ x. locks_left x n) (c.node_out.ensures ∙ ap (λ x. node_out x n) c.leave_members.ensures)
