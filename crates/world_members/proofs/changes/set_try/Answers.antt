use Rattle.std.proofs.Common.{◌∙◌, ◌≡◌, ap, subst}
use Rattle.cluster_model.specs.Joining.{loaded}
use Rattle.world_state.specs.contracts.state.CoreState.{the_view}
use Rattle.world_state.specs.Kept.{Kept, core_of, tried_of}
use Rattle.world_members.proofs.changes.set_try.Goals as goal

pub returns : goal.returns
returns c =
    let k = the_view c.core.inside in
    let P : Kept → Type 0 = λ q. core_of (record k { tried = c.put_try.new.tried.items }) ≡ loaded (core_of q) c.args.n c.args.l (tried_of c.args.attempt) in
    subst P c.core.view_is (ap (λ f. record (core_of k) { tried = f }) c.put_try.ensures.tries)

pub invariant_of-core : goal.invariant_of-core
invariant_of-core c = record {
  bitmaps = c.core.invariant.bitmaps;
  copies = c.core.invariant.copies;
  recoveries = c.core.invariant.recoveries;
  additions = c.core.invariant.additions;
  views = c.core.invariant.views;
  senders = c.core.invariant.senders;
  receivers = c.core.invariant.receivers;
  suspended = c.core.invariant.suspended;
  tried = c.put_try.ensures.size ∙ c.core.invariant.tried;
}
