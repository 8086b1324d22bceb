use Rattle.std.proofs.Common.{◌≡◌, subst}
use Rattle.world_members.specs.Changes.{token_awaited}
use Rattle.world_state.specs.contracts.state.CoreState.{the_view}
use Rattle.world_state.specs.Kept.{Kept, core_of}
use Rattle.world_members.proofs.changes.ask_token.Goals as goal

pub returns : goal.returns
returns c =
    let k = the_view c.core.inside in
    let P : Kept → Type 0 = λ q. core_of (record k { senders = c.ask_token.new.senders; space = c.ask_token.new.space }) ≡ token_awaited (core_of q) c.args.n in
    subst P c.core.view_is (λ i. record (core_of k) { sender = c.ask_token.ensures.sender i; locks = c.ask_token.ensures.locks i })

pub invariant_of-core : goal.invariant_of-core
invariant_of-core c = record {
  bitmaps = c.core.invariant.bitmaps;
  copies = c.core.invariant.copies;
  recoveries = c.core.invariant.recoveries;
  additions = c.core.invariant.additions;
  views = c.core.invariant.views;
  senders = c.ask_token.ensures.size;
  receivers = c.core.invariant.receivers;
  suspended = c.core.invariant.suspended;
  tried = c.core.invariant.tried;
}
