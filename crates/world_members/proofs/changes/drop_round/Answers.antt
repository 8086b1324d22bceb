use Rattle.std.proofs.Common.{◌≡◌, subst}
use Rattle.world_members.specs.Changes.{round_dropped}
use Rattle.world_state.specs.contracts.state.CoreState.{the_view}
use Rattle.world_state.specs.Kept.{Kept, core_of}
use Rattle.world_members.proofs.changes.drop_round.Goals as goal

pub returns : goal.returns
returns c =
    let k = the_view c.core.inside in
    let P : Kept → Type 0 = λ q. core_of (record k { receivers = c.drop_message.new.receivers; space = c.drop_message.new.space }) ≡ round_dropped (core_of q) c.args.n in
    subst P c.core.view_is (λ i. record (core_of k) { receiver = c.drop_message.ensures.receiver i; locks = c.drop_message.ensures.locks i })

pub invariant_of-core : goal.invariant_of-core
invariant_of-core c = record {
  bitmaps = c.core.invariant.bitmaps;
  copies = c.core.invariant.copies;
  recoveries = c.core.invariant.recoveries;
  additions = c.core.invariant.additions;
  views = c.core.invariant.views;
  senders = c.core.invariant.senders;
  receivers = c.drop_message.ensures.size;
  suspended = c.core.invariant.suspended;
  tried = c.core.invariant.tried;
}
