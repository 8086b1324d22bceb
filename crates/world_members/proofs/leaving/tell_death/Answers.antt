use Rattle.std.proofs.Common.{◌≡◌, ◌==◌, ℕ, Bool, ap, ◌∙◌, subst, if◌then◌else◌}
use Rattle.msg_rounds.specs.Phases.{Receiving, new_receiving, has_published, heard_death}
use Rattle.dlm_space.specs.Parts.{locks_of}
use Rattle.world_members.specs.Changes.{receivers_told}
use Rattle.world_members.specs.Tables.{receivers_of}
use Rattle.world_state.specs.contracts.state.CoreState.{the_view}
use Rattle.world_state.specs.Kept.{Kept, core_of}
use Rattle.world_members.proofs.leaving.tell_death.Goals as goal

pub returns : goal.returns
returns c =
    let k = the_view c.core.inside in
    let n = c.args.n in
    let b = c.has_published-published.result in
    let told : Bool → ℕ → Receiving = λ b m. if m == n then new_receiving else if b then heard_death n (receivers_of k.receivers m) else receivers_of k.receivers m in
    let P : Kept → Type 0 = λ q. b ≡ has_published ((core_of q).sender n)
    → core_of (record k { receivers = c.tell_death.new.receivers; space = c.tell_death.new.space }) ≡ receivers_told (core_of q) n in
    subst P c.core.view_is
    (λ e. λ i. record (core_of k) { receiver = (c.tell_death.ensures.receivers ∙ ap told e) i; locks = ap locks_of c.tell_death.ensures.space i })
    c.has_published-published.ensures

pub invariant_of-core : goal.invariant_of-core
invariant_of-core c = record {
  bitmaps = c.core.invariant.bitmaps;
  copies = c.core.invariant.copies;
  recoveries = c.core.invariant.recoveries;
  additions = c.core.invariant.additions;
  views = c.core.invariant.views;
  senders = c.core.invariant.senders;
  receivers = c.tell_death.ensures.size;
  suspended = c.core.invariant.suspended;
  tried = c.core.invariant.tried;
}
