-- The core after one table's entry was replaced.
use Rattle.std.proofs.Common.{◌≡◌, ℕ, ◌<◌, ◌==◌, ◌&&◌, if◌then◌else◌, Bool, true, false, List, [], length, ap, refl, sym, ◌∙◌, arith, get_or, replicate, zero, suc}
use Rattle.std.proofs.Math.Path.{fun_ext}
use Rattle.std.proofs.lemmas.Bool.Decides.{nat_tests}
use Rattle.std.specs.Prelude.{slice_set, Option, Some, None}
use Rattle.std.specs.Option.{option_map}
use Rattle.dlm_modes.specs.Points.{with_at}
use Rattle.cluster_model.specs.Changes.{headed}
use Rattle.mdc_types.specs.declared.roles.NodeState.{NodeState}
use Rattle.mdc_types.specs.declared.roles.NodeState.TheVariants.{Out}
use Rattle.leg_failure.specs.Views as views
use Rattle.msg_rounds.specs.Phases.{Receiving, new_receiving}
use Rattle.msg_rounds.specs.declared.phases.SenderPhase.{SenderPhase}
use Rattle.msg_rounds.specs.declared.phases.SenderPhase.TheVariants.{Idle}
use Rattle.cluster_msgs.specs.declared.msg.Msg.{Msg}
use Rattle.suspend_ranges.specs.Suspended.{ranges_of}
use Rattle.mdc_types.specs.declared.numbers.Range.{Range}
use Rattle.cluster_model.specs.State as machine
use Rattle.world_state.specs.Kept.{Kept, core_of, no_parts, offer_of, tried_of}
use Rattle.world_state.specs.declared.attempt.Attempt.{Attempt}
use Rattle.world_state.specs.declared.attempt.Attempt.TheVariants.{Untried}
use Rattle.world_state.specs.declared.offer.Offer.{Offer}
use Rattle.world_state.proofs.Points.{point-set, get-set}

module _ (k : Kept) (n : ℕ) where
  pub state_set : (v : NodeState) → n < length k.states
      → core_of (record k { states = slice_set k.states n v }) ≡ record (core_of k) { state = with_at (core_of k).state n v }
  state_set v lt = ap (λ f. record (core_of k) { state = f }) (point-set (λ x. x) k.states n v Out lt)

  pub view_set : (v : views.Parts) → n < length k.views
      → core_of (record k { views = slice_set k.views n v }) ≡ record (core_of k) { view = with_at (core_of k).view n (views.view_of v) }
  view_set v lt = ap (λ f. record (core_of k) { view = f }) (point-set views.view_of k.views n v no_parts lt)

  pub sender_set : (v : SenderPhase) → n < length k.senders
      → core_of (record k { senders = slice_set k.senders n v }) ≡ record (core_of k) { sender = with_at (core_of k).sender n v }
  sender_set v lt = ap (λ f. record (core_of k) { sender = f }) (point-set (λ x. x) k.senders n v Idle lt)

  pub offer_set : (v : Option Offer) → n < length k.offers
      → core_of (record k { offers = slice_set k.offers n v }) ≡ record (core_of k) { offer = with_at (core_of k).offer n (option_map offer_of v) }
  offer_set v lt = ap (λ f. record (core_of k) { offer = f }) (point-set (option_map offer_of) k.offers n v None lt)

  pub receiver_set : (v : Receiving) → n < length k.receivers
      → core_of (record k { receivers = slice_set k.receivers n v }) ≡ record (core_of k) { receiver = with_at (core_of k).receiver n v }
  receiver_set v lt = ap (λ f. record (core_of k) { receiver = f }) (point-set (λ x. x) k.receivers n v new_receiving lt)

  pub heard_set : (v : Option Msg) → n < length k.heard
      → core_of (record k { heard = slice_set k.heard n v }) ≡ record (core_of k) { heard = with_at (core_of k).heard n v }
  heard_set v lt = ap (λ f. record (core_of k) { heard = f }) (point-set (λ x. x) k.heard n v None lt)

  -- two keys
  headed_at : (l s m j : ℕ) (xs : List ℕ) (b : Bool) → (m == n) ≡ b → l < length xs → get_or k.heads n [] ≡ xs
      → get_or (if b then slice_set xs l s else get_or k.heads m []) j 0 ≡ (if b && (j == l) then s else get_or (get_or k.heads m []) j 0)
  headed_at l s m j xs true is lt e =
      let same : m ≡ n = grind (arith, nat_tests, is) in
      get-set xs l j s 0 lt ∙ rw (same, e) refl
  headed_at l s m j xs false is lt e = refl

  pub head_set : (l s : ℕ) (xs : List ℕ) → xs ≡ get_or k.heads n [] → n < length k.heads → l < length xs
      → core_of (record k { heads = slice_set k.heads n (slice_set xs l s) }) ≡ headed (core_of k) n l (Some s)
  head_set l s xs e lt lt_l = ap (λ f. record (core_of k) { head = f }) (fun_ext (λ m. fun_ext (λ j.
      ap (λ ys. get_or ys j 0) (get-set k.heads n m (slice_set xs l s) [] lt) ∙ headed_at l s m j xs (m == n) refl lt_l (sym e))))

  -- the ranges that a node's writes wait for
  pub suspended_set : (v : List (Option Range)) → n < length k.suspended
      → core_of (record k { suspended = slice_set k.suspended n v }) ≡ record (core_of k) { suspended = with_at (core_of k).suspended n (ranges_of v) }
  suspended_set v lt = ap (λ f. record (core_of k) { suspended = f }) (point-set ranges_of k.suspended n v [] lt)

  -- what a joining node has of the legs
  pub tries_set : (v : List Attempt) → n < length k.tried
      → core_of (record k { tried = slice_set k.tried n v }) ≡ record (core_of k) { tried = with_at (core_of k).tried n (λ l. tried_of (get_or v l Untried)) }
  tries_set v lt = ap (λ f. record (core_of k) { tried = f }) (point-set (λ xs l. tried_of (get_or xs l Untried)) k.tried n v [] lt)

all_untried : (count l : ℕ) → tried_of (get_or (replicate count Untried) l Untried) ≡ machine.Untried
all_untried zero l = refl
all_untried (suc count) zero = refl
all_untried (suc count) (suc l) = all_untried count l

pub eight_untried : ◌≡◌ {A = ℕ → machine.Tried} (λ l. tried_of (get_or (replicate 8 Untried) l Untried)) (λ l. machine.Untried)
eight_untried = fun_ext (all_untried 8)
