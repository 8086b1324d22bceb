use Rattle.std.proofs.Common.{◌<◌, length, arith}
use Rattle.msg_rounds.specs.declared.phases.SenderPhase.TheVariants.{Idle}
use Rattle.world_state.proofs.Points.{point-set}
use Rattle.world_rounds.proofs.tables.quit.Goals as goal

pub returns-clause-sender : goal.returns-clause-sender
returns-clause-sender c =
    let lt : c.args.n < length c.args.senders.now = omega (arith, c.requires.node, c.told-senders) in
    rw c.in-Ok.ensures.phase (point-set (λ x. x) c.args.senders.now c.args.n Idle Idle lt)
