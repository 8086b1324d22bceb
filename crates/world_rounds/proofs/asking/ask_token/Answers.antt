use Rattle.std.proofs.Common.{refl}
use Rattle.world_state.specs.Kept.{core_of}
use Rattle.world_rounds.proofs.Rounding.{TokenAt, token_at}
use Rattle.world_rounds.proofs.asking.ask_token.Goals as goal

pub ask_token-requires : goal.ask_token-requires
ask_token-requires c =
    let a : TokenAt (core_of c.args.core.now) c.args.n = token_at _ _ c.requires.accepted c.requires.ready in
    let b = rw (← c.core.view_is) at a in
    record { node = b.node; holds = b.holds.sender; may = b.may }

pub returns-clause-after : goal.returns-clause-after
returns-clause-after c = rw (← c.core.view_is, c.ask_token.ensures.sender, c.ask_token.ensures.locks) refl
