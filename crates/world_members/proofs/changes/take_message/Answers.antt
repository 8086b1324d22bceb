use Rattle.std.proofs.Common.{◌≡◌, subst}
use Rattle.world_members.specs.Changes.{message_read}
use Rattle.world_state.specs.contracts.state.CoreState.{the_view}
use Rattle.world_state.specs.Kept.{Kept, core_of}
use Rattle.world_members.proofs.changes.take_message.Goals as goal

pub returns-clause-core : goal.returns-clause-core
returns-clause-core c =
    let k = the_view c.core.inside in
    let P : Kept → Type 0 = λ q. core_of (record k { receivers = c.take.new.receivers; space = c.take.new.space }) ≡ message_read (core_of q) c.args.n c.take.result.1 in
    subst P c.core.view_is (λ i. record (core_of k) { receiver = c.take.ensures.receiver i; locks = c.take.ensures.locks i })

pub invariant_of-core : goal.invariant_of-core
invariant_of-core c = record {
  bitmaps = c.core.invariant.bitmaps;
  copies = c.core.invariant.copies;
  recoveries = c.core.invariant.recoveries;
  additions = c.core.invariant.additions;
  views = c.core.invariant.views;
  senders = c.core.invariant.senders;
  receivers = c.take.ensures.size;
  suspended = c.core.invariant.suspended;
  tried = c.core.invariant.tried;
}
