use Rattle.std.proofs.Common.{refl}
use Rattle.world_state.specs.Kept.{core_of}
use Rattle.world_rounds.proofs.Rounding.{MessageAt, message_at}
use Rattle.world_rounds.proofs.asking.ask_message.Goals as goal

pub ask_message-requires : goal.ask_message-requires
ask_message-requires c =
    let a : MessageAt (core_of c.args.core.now) c.args.n = message_at _ _ c.requires.accepted c.requires.ready in
    let b = rw (← c.core.view_is) at a in
    record { node = b.node; holds = b.holds; may = b.may }

pub returns-clause-after : goal.returns-clause-after
returns-clause-after c = rw (← c.core.view_is, c.ask_message.ensures.sender, c.ask_message.ensures.locks) refl
