-- What an accepted event transfers, and what becomes of it where it fails.
use Rattle.std.proofs.Common.{◌≡◌, ℕ, ◌<◌, ◌≤◌, Bool, true, false, Option, Some, None, List, length, get_or, map, refl, sym, ap, subst, ◌∙◌, arith}
use Rattle.std.specs.Prelude.{Result, if◌then◌else◌}
use Rattle.std.proofs.lemmas.List.{length-map}
use Rattle.mdc_types.specs.declared.events.Event.{Event}
use Rattle.mdc_types.specs.declared.outcomes.Outcome.{Outcome}
use Rattle.mdc_types.specs.declared.outcomes.Outcome.TheVariants.{Io, Lost}
use Rattle.mdc_types.specs.declared.numbers.Sector.{Sector}
use Rattle.mdc_types.specs.declared.failed.Failed.{Failed}
use Rattle.node_recovery.specs.Progress.{Recovering}
use Rattle.leg_failure.specs.Views.{is_last}
use Rattle.cluster_model.specs.State.{Core, sizes}
use Rattle.cluster_model.specs.Table.{refusal}
use Rattle.cluster_model.specs.After.{after, after_loss}
use Rattle.cluster_model.specs.Transfers.{Transfer, transfer_of}
use Rattle.cluster_model.specs.Failures.{tried, request_failed, leg_lost, slot_failed}
use Rattle.world_state.specs.Ready.{Ready}
use Rattle.world_state.specs.Told.{Fits, LegsSeen, Sent, Received}

-- it is with a leg that there is, and with a sector of it
pub record Reach (l at : ℕ) (lengths : List ℕ) : Type 0 where
  pub leg : l < 8
  pub there : l < length lengths
  pub within : at < get_or lengths l 0

below_eight : (l legs : ℕ) → l < legs → legs ≤ 8 → l < 8
below_eight l legs lt le = omega arith

pub reach : (core : Core) (e : Event) (t : Transfer) (lengths : List ℕ) → Ready core → refusal core e ≡ None → transfer_of core e ≡ Some t
    → Fits (sizes core) lengths → Reach t.leg t.place lengths
reach core e t lengths ready ok is fits =
    let on = ready.on_legs e t ok is in
    record {
      leg = below_eight t.leg (sizes core).legs on.leg ready.range.legs.sizes_fit.legs.1;
      there = subst (λ n. t.leg < n) (sym fits.count) on.leg;
      within = subst (λ n. t.place < n) (sym (fits.each t.leg on.leg)) on.place;
    }

pub there_is : {A : Type 0} (f : A → ℕ) (xs : List A) (l at : ℕ) → Reach l at (map f xs) → l < length xs
there_is f xs l at r = subst (λ n. l < n) (length-map xs f) r.there

-- the node lost the leg, or the last leg stays
pub fallen : (core left : Core) (e : Event) (t : Transfer) (o : Outcome) (new : Core) → transfer_of core e ≡ Some t
    → tried core e ≡ left → request_failed left e ≡ left
    → o ≡ (if is_last (core.view t.node) t.leg then Io t.leg else Lost t.leg)
    → new ≡ (if is_last (core.view t.node) t.leg then left else leg_lost left t.node t.leg)
    → new ≡ after core e o
fallen core left e t o new is try stay eo en = by (is_last (core.view t.node) t.leg) eo en
  where
    by : (b : Bool) → o ≡ (if b then Io t.leg else Lost t.leg) → new ≡ (if b then left else leg_lost left t.node t.leg) → new ≡ after core e o
    by true eo en = subst (λ (x : Outcome). new ≡ after core e x) (sym eo) (en ∙ sym (ap (λ (x : Core). request_failed x e) try ∙ stay))
    by false eo en = subst (λ (x : Outcome). new ≡ after core e x) (sym eo) (en ∙ sym (ap (after_loss (tried core e)) is ∙ ap (λ (x : Core). leg_lost x t.node t.leg) try))

-- what a call on a leg gave

pub as_got : {cut : Bool} {l at : ℕ} {before now : LegsSeen} (r s : Result Sector Failed) → r ≡ s → Received cut l at r before now → Received cut l at s before now
as_got {cut} {l} {at} {before} {now} r s e x = subst (λ (y : Result Sector Failed). Received cut l at y before now) e x

pub as_sent : {cut : Bool} {l at : ℕ} {v : Sector} {before now : LegsSeen} (a b : Bool) → a ≡ b → Sent cut l at v a before now → Sent cut l at v b before now
as_sent {cut} {l} {at} {v} {before} {now} a b e x = subst (λ (y : Bool). Sent cut l at v y before now) e x

-- a page that was tried leaves the view
pub failed_view : (core : Core) (p l : ℕ) (x : Option Recovering) → (slot_failed core p l x).view ≡ core.view
failed_view core p l None = refl
failed_view core p l (Some r) = refl
