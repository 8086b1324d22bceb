use Rattle.std.proofs.Common.{arith}
use Rattle.msg_rounds.specs.declared.phases.SenderPhase.TheVariants.{MessageHeld}
use Rattle.world_state.specs.contracts.state.CoreState.{the_view}
use Rattle.world_state.proofs.Setting.{sender_set}
use Rattle.world_state.proofs.state.CoreState.take_back.Goals as goal

pub returns : goal.returns
returns c =
    let e = c.take_back.ensures in
    rw (e.space, e.sender, ← c.self.view_is) (sender_set (the_view c.self.inside) c.args.n MessageHeld (omega (arith, c.requires.node, c.self.invariant.senders)))
