-- A read that gave a value: from which leg it was, and what stands there.
use Rattle.std.proofs.Common.{◌≡◌, ◌⊎◌, inl, inr, ℕ, zero, suc, ◌+◌, ◌<◌, ◌≤◌, ◌||◌, Bool, true, false, if◌then◌else◌, Option, Some, None, refl, sym, ap, subst, ◌∙◌, arith}
use Rattle.std.specs.Prelude.{is_some}
use Rattle.std.proofs.lemmas.Bool.Decides.{nat_tests, eqb_tells}
use Rattle.dlm_modes.proofs.FirstLaws.{first_such_some}
use Rattle.dlm_modes.specs.First.{first_such}
use Rattle.mdc_types.specs.declared.events.Event.TheVariants as events
use Rattle.mdc_types.specs.declared.numbers.Sector.{Sector}
use Rattle.mdc_types.specs.declared.outcomes.Outcome.TheVariants as outcomes
use Rattle.leg_failure.specs.Views.{is_last, works}
use Rattle.mirror_io.specs.Flight.{read_in}
use Rattle.mirror_io.specs.declared.live.LiveRead.{LiveRead}
use Rattle.node_member.specs.Members.{first_pending}
use Rattle.read_balance.specs.Choice.{least_leg, nearest_leg}
use Rattle.suspend_ranges.specs.Suspended.{covering}
use Rattle.cluster_model.specs.Failures.{lost_or_io}
use Rattle.cluster_model.specs.Reads.{read_leg, read_sector, reads_first}
use Rattle.cluster_model.specs.Run.{Moves, Quiet, Written, Read, Failed, Left}
use Rattle.cluster_model.specs.State.{State, Core, Legs, place_of}
use Rattle.cluster_model.specs.Transfers.{Transfer, transfer_of, in_transfer, reads_at, reads_from}
use Rattle.laws_pending.specs.Reads.{IsFirstLeg}
use Rattle.laws_pending.proofs.Points.{such_one}

-- what a read that gave v went to
pub record Given (old : State) (n k l : ℕ) (v : Sector) (new : Legs) : Type 0 where
  pub transfer : Transfer
  pub is : transfer_of old.core (events.In n k) ≡ Some transfer
  pub leg : transfer.leg ≡ l
  pub value : old.legs.told l ≡ true → v ≡ old.legs.content l transfer.place
  pub legs : new ≡ old.legs

no_value : (core : Core) (t : Transfer) (l : ℕ) (v : Sector) → outcomes.Value l v ≡ lost_or_io core t → ⊥
no_value core t l v is = by (is_last (core.view t.node) t.leg) is
  where
    by : (b : Bool) → outcomes.Value l v ≡ (if b then outcomes.Io t.leg else outcomes.Lost t.leg) → ⊥
    by true e = cc
    by false e = cc

pub given : (old : State) (n k l : ℕ) (v : Sector) (new : Legs) → Moves old (events.In n k) (outcomes.Value l v) new → Given old n k l v new
given old n k l v new (Quiet none is legs) = cc
given old n k l v new (Written t u at value path is legs) = cc
given old n k l v new (Read t u at value path gives is legs) =
    let leg : t.leg ≡ l = cc in
    let same : v ≡ u = cc in
    record {
      transfer = t;
      is = at;
      leg = leg;
      value = λ told. same ∙ gives (subst (λ j. old.legs.told j ≡ true) (sym leg) told) ∙ ap (λ j. old.legs.content j t.place) leg;
      legs = legs;
    }
given old n k l v new (Failed t at is legs) = absurd (no_value old.core t l v is)
given old n k l v new (Left t u at value path is legs) = absurd (no_value old.core t l v is)

-- Where reads aren't balanced.

some_read : (x : Option LiveRead) (s : ℕ) → read_sector x ≡ Some s → (r : LiveRead) × (x ≡ Some r) × (r.sector ≡ s)
some_read None s e = cc
some_read (Some r) s e = let same : r.sector ≡ s = cc in (r, refl, same)

some_leg : (x : Option ℕ) (n place : ℕ) (t : Transfer) → reads_at n place x ≡ Some t → (x ≡ Some t.leg) × (t.place ≡ place)
some_leg None n place t e = cc
some_leg (Some l) n place t e =
    let same : reads_from n l place ≡ t = cc in
    (ap (λ (x : Transfer). Some x.leg) same, ap (λ (x : Transfer). x.place) (sym same))

-- the read goes to the least leg that works
pub first_place : (core : Core) (n k s : ℕ) (t : Transfer) → read_sector (read_in k (core.reads n)) ≡ Some s → reads_first core n s ≡ true → transfer_of core (events.In n k) ≡ Some t
    → (least_leg (works (core.view n)) ≡ Some t.leg) × (t.place ≡ place_of core s)
first_place core n k s t asked first is =
    let r = some_read (read_in k (core.reads n)) s asked in
    let to : reads_at n (place_of core r.0.sector) (read_leg core n r.0) ≡ Some t = ap (in_transfer core n) (sym r.1) ∙ is in
    let leg : read_leg core n r.0 ≡ least_leg (works (core.view n)) =
    ap (λ b. if b then least_leg (works (core.view n)) else if works (core.view n) r.0.chosen then Some r.0.chosen else nearest_leg (works (core.view n)) (core.head n) r.0.sector)
    (ap (λ x. reads_first core n x) r.2 ∙ first) in
    some_leg (least_leg (works (core.view n))) n (place_of core s) t
    (ap (λ x. reads_at n (place_of core x) (least_leg (works (core.view n)))) (sym r.2) ∙ ap (λ x. reads_at n (place_of core r.0.sector) x) (sym leg) ∙ to)

le_cases : (i j : ℕ) → i ≤ j → (i ≡ j) ⊎ (i + 1 ≤ j)
le_cases i j le = grind (arith, nat_tests, eqb_tells i j)

-- what comes before the first doesn't pass
before_first : (p : ℕ → Bool) (i n k j : ℕ) → first_such p i n ≡ Some k → i ≤ j → j < k → p j ≡ false
unfolding first_such
before_first p i zero k j is le lt = cc
before_first p i (suc n) k j is le lt =
    elim (p i) as (λ b. p i ≡ b → (if b then Some i else first_such p (i + 1) n) ≡ Some k → p j ≡ false) [
      | true ↦ λ t found. let e : i ≡ k = cc in absurd (omega arith)
      | false ↦ λ f found. elim (le_cases i j le) [
        | inl same ↦ subst (λ x. p x ≡ false) same f
        | inr more ↦ before_first p (i + 1) n k j found more lt
      ]
    ] refl is

pub is_first : (core : Core) (n l : ℕ) → least_leg (works (core.view n)) ≡ Some l → IsFirstLeg core n l
is_first core n l e = record {
  chosen = (first_such_some (works (core.view n)) 0 8 l e).passes;
  first = λ k lt. before_first (works (core.view n)) 0 8 l k e (omega arith) lt;
}

or_right : (a b : Bool) → b ≡ true → (a || b) ≡ true
or_right a b e = grind arith

-- while a slot is pending they aren't
pub pending_first : (core : Core) (n s d : ℕ) → d < 16 → core.members.pending d ≡ true → reads_first core n s ≡ true
pending_first core n s d lt e = or_right (is_some (covering (core.suspended n) s)) (is_some (first_pending core.members)) (such_one core.members.pending 16 d lt e)
