-- What a node settled since its recovery began was settled since the slot was pending.
use Rattle.std.proofs.Common.{◌≡◌, ◌⊎◌, inl, inr, ℕ, ◌==◌, ◌&&◌, Bool, true, false, not, if◌then◌else◌, List, [], ◌∷◌, ◌++◌, Option, None, refl, ap, subst, arith}
use Rattle.std.proofs.lemmas.Bool.Decides.{nat_tests}
use Rattle.dlm_modes.specs.Guards.{first_of}
use Rattle.mdc_types.specs.declared.events.Event.{Event}
use Rattle.mdc_types.specs.declared.events.Event.TheVariants as events
use Rattle.mdc_types.specs.declared.numbers.Sector.{Sector}
use Rattle.mdc_types.specs.declared.outcomes.Entry.{Entry}
use Rattle.mdc_types.specs.declared.outcomes.Outcome.{Outcome}
use Rattle.mdc_types.specs.declared.outcomes.Outcome.TheVariants as outcomes
use Rattle.mdc_types.specs.declared.refusals.Refusal.{Refusal}
use Rattle.plain_history.specs.History.{PlainWrite, live_writes, values_step, candidates}
use Rattle.plain_history.specs.Seen.{OpenSince}
use Rattle.cluster_model.specs.Contents.{SoundOpening}
use Rattle.cluster_model.specs.Guards.{of_live, is_out}
use Rattle.cluster_model.specs.Opening.{Origin}
use Rattle.cluster_model.specs.Recovered.{BecamePending, makes_pending, offered_unclean, wish_in}
use Rattle.cluster_model.specs.Run.{Run}
use Rattle.cluster_model.specs.State.{State, Core}
use Rattle.cluster_model.specs.Table.{refusal}
use Rattle.laws_sound.proofs.Guarded.{all_none, unless_none}
use Rattle.laws_roles.specs.Laws.{Tells}
use Rattle.storage_ways.proofs.Runs.{sound}
use Rattle.storage_ways.specs.Since.{since_step, since_in}
use Rattle.laws_writes.proofs.Ghosts.{is_open}
use Rattle.laws_pending.proofs.Back.{begins, Opened, opened_before}
use Rattle.laws_pending.proofs.Opened.{opened_step}
use Rattle.laws_pending.proofs.Points.{clash, same_point}
use Rattle.laws_pending.proofs.Tracing.{traced_run}

-- The entry settles the sector, or it was settled before and no recovery of the node begins.

settled_or : (n s t : ℕ) (v : Sector) (since : Bool) (vs : List Sector) → (if s == t then true else since) ≡ true → (is_open (if t == s then v ∷ [] else vs) ≡ false) ⊎ (since ≡ true)
settled_or n s t v since vs e = by (t == s) refl
  where
    other : (t == s) ≡ false → since ≡ true
    other f = grind (arith, nat_tests)

    by : (b : Bool) → (t == s) ≡ b → (is_open (if b then v ∷ [] else vs) ≡ false) ⊎ (since ≡ true)
    by true f = inl refl
    by false f = inr (other f)

with_none : (A : Type 0) (n : ℕ) (e : Event) (since : Bool) → begins n e ≡ false → A ⊎ (since ≡ true) → A ⊎ ((since ≡ true) × (begins n e ≡ false))
with_none A n e since none (inl a) = inl a
with_none A n e since none (inr f) = inr (f, none)

began : (n m : ℕ) (since : Bool) → (if n == m then false else since) ≡ true → (since ≡ true) × ((n == m) ≡ false)
began n m since e = by (n == m) e
  where
    by : (b : Bool) → (if b then false else since) ≡ true → (since ≡ true) × (b ≡ false)
    by true f = cc
    by false f = (f, refl)

settled_by : (n s : ℕ) (e : Event) (o : Outcome) (since : ℕ → ℕ → Bool) (writes : ℕ → ℕ → Option PlainWrite) (vs : ℕ → List Sector) → since_step e o since n s ≡ true
    → (is_open (values_step e o writes vs s) ≡ false) ⊎ ((since n s ≡ true) × (begins n e ≡ false))
settled_by n s (events.Settle m) (outcomes.Settled t v) since writes vs e = with_none _ n (events.Settle m) (since n s) refl (settled_or n s t v (since n s) (vs s) e)
settled_by n s (events.Settle m) o since writes vs e = inr (e, refl)
settled_by n s (events.Recover m d) o since writes vs e = inr (began n m (since n s) e)
settled_by n s ev o since writes vs e = inr (e, refl)

-- Where a slot becomes pending, its node is live.

not_out : (b : Bool) → not b ≡ true → b ≡ false
not_out b e = grind arith

live_by : (core : Core) (n : ℕ) (gs : List (Option Refusal)) → first_of (of_live core n gs) ≡ None → is_out (core.state n) ≡ false
live_by core n gs ok = not_out (is_out (core.state n)) (unless_none (not (is_out (core.state n))) _ (all_none (of_live core n gs) ok).1.1.0)

and_left : (a b : Bool) → (a && b) ≡ true → a ≡ true
and_left a b e = grind arith

pub was_live : (core : Core) (d : ℕ) (past : List Entry) (e : Event) → makes_pending d past e ≡ true → refusal core e ≡ None → is_out (core.state d) ≡ false
was_live core d past (events.Die m) made ok = subst (λ k. is_out (core.state k) ≡ false) (same_point m d made) (live_by core m _ ok)
was_live core d past (events.FinishRound m) made ok = subst (λ k. is_out (core.state k) ≡ false) (same_point m d (and_left (m == d) (offered_unclean (wish_in d past)) made)) (live_by core m _ ok)
was_live core d past e made ok = cc

-- and no recovery begins there
pub made_apart : (n d : ℕ) (past : List Entry) (e : Event) → makes_pending d past e ≡ true → begins n e ≡ false
made_apart n d past (events.Recover m k) made = cc
made_apart n d past e made = refl

module _ (o : Origin) (start : State) (opening : SoundOpening o start) (tells : Tells o start) (n d : ℕ) where
  -- where the slot has just become pending, nobody recovers it
  pub not_there : (before : List Entry) (place : State) → BecamePending d before place → (mid : State) → Run start before mid → Opened mid.core n d → ⊥
  not_there [] place became mid run there = let told = (traced_run o start opening.opens [] mid run n there.recovering there.is).0 in cc
  not_there (x ∷ past) place became mid run there =
      let old = opened_before o start run.0 mid past x opening.opens run.1 run.2 n d (made_apart n d past x.event became) there in
      let known = sound o start opening.opens tells past run.0 run.1 in
      let pending : run.0.core.members.pending d ≡ true = subst (λ k. run.0.core.members.pending k ≡ true) old.slot (known.turns.slot n old.recovering old.is) in
      clash (is_out (run.0.core.state d)) (ap is_out (known.phases.pending d pending)) (was_live run.0.core d past x.event became run.2.accepted)

  -- so what was settled since the recovery began has one value, or a write of it started since
  pub open_since : (base : ℕ → List Sector) (s : ℕ) (before later : List Entry) (place end : State) → BecamePending d before place → Run start (later ++ before) end → Opened end.core n d → since_in (later ++ before) n s ≡ true
      → is_open (candidates base (later ++ before) s) ≡ true → OpenSince later before s
  open_since base s before [] place end became run there since two = absurd (not_there before place became end run there)
  open_since base s before (x ∷ later) place end became run there since two = by
      (settled_by n s x.event x.outcome (since_in (later ++ before)) (live_writes (later ++ before)) (candidates base (later ++ before)) since)
      (open_since base s before later place run.0 became run.1)
    where
      by : (is_open (candidates base (x ∷ (later ++ before)) s) ≡ false) ⊎ ((since_in (later ++ before) n s ≡ true) × (begins n x.event ≡ false))
          → (Opened run.0.core n d → since_in (later ++ before) n s ≡ true → is_open (candidates base (later ++ before) s) ≡ true → OpenSince later before s) → OpenSince (x ∷ later) before s
      by (inl one) rest = absurd (clash (is_open (candidates base (x ∷ (later ++ before)) s)) two one)
      by (inr old) rest = opened_step base later before x s (rest (opened_before o start run.0 end (later ++ before) x opening.opens run.1 run.2 n d old.1 there) old.0) two
