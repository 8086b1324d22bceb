use Rattle.std.proofs.Common.{◌≡◌, ap, subst}
use Rattle.world_members.specs.Changes.{range_taken}
use Rattle.world_state.specs.contracts.state.CoreState.{the_view}
use Rattle.world_state.specs.Kept.{Kept, core_of}
use Rattle.world_members.proofs.changes.suspend.Goals as goal

pub returns : goal.returns
returns c =
    let k = the_view c.core.inside in
    let P : Kept → Type 0 = λ q. core_of (record k { suspended = c.put_range.new.lists }) ≡ range_taken (core_of q) c.args.n c.args.owner c.args.r in
    subst P c.core.view_is (ap (λ f. record (core_of k) { suspended = f }) c.put_range.ensures.ranges)

pub invariant_of-core : goal.invariant_of-core
invariant_of-core c = record {
  bitmaps = c.core.invariant.bitmaps;
  copies = c.core.invariant.copies;
  recoveries = c.core.invariant.recoveries;
  additions = c.core.invariant.additions;
  views = c.core.invariant.views;
  senders = c.core.invariant.senders;
  receivers = c.core.invariant.receivers;
  suspended = c.put_range.ensures.size;
  tried = c.core.invariant.tried;
}
