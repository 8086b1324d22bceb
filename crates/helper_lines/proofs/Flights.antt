-- Live writes taken by their numbers, and the first live read.
use Rattle.std.proofs.Common.{◌≡◌, ℕ, ◌+◌, ◌-◌, ◌^◌, ◌<◌, ◌≤◌, ◌==◌, Bool, true, false, List, [], ◌∷◌, Option, Some, None, IsSome, refl, ap, sym, ◌∙◌, arith, eq-eqb, if◌then◌else◌}
use Rattle.std.specs.Prelude.{nat_le, is_none}
use Rattle.std.proofs.lemmas.Bool.Decides.{nat_tests, eqb_tells}
use Rattle.mdc_types.specs.declared.events.Event.{Event}
use Rattle.mdc_types.specs.declared.events.Event.TheVariants.{EndWrite}
use Rattle.mirror_io.specs.Flight.{write_in, write_from, read_from, missing_leg, WritesRise}
use Rattle.mirror_io.specs.declared.live.LiveWrite.{LiveWrite}
use Rattle.mirror_io.specs.declared.live.LiveRead.{LiveRead}
use Rattle.leg_failure.specs.Views.{is_target}
use Rattle.cluster_model.specs.State.{Core}
use Rattle.cluster_model.specs.Table.{refusal}
use Rattle.cluster_model.specs.Writes.{unwritten_target}
use Rattle.world_state.specs.Ready.{Ready}
use Rattle.driver_rules.specs.Lines.{allowed, first_undone, first_to_end, first_read, with_target}
use Rattle.helper_lines.specs.Flights.{writes_from, IsNext}
use Rattle.helper_lines.proofs.Alternatives.{if_found, if_not_found}

all_from : (f lo hi : ℕ) (ws : List LiveWrite) → WritesRise lo hi ws → f ≤ lo → writes_from f ws ≡ ws
all_from f lo hi [] rise le = refl
all_from f lo hi (w ∷ ws) rise le =
    let here : nat_le f w.number ≡ true = grind (arith, nat_tests, rise.0) in
    rw here refl

at_head : (f k lo hi : ℕ) (w : LiveWrite) (ws : List LiveWrite) → WritesRise lo hi (w ∷ ws) → nat_le f w.number ≡ true → w.number ≡ k → IsNext f k (w ∷ ws) w
at_head f k lo hi w ws rise here is =
    let past : nat_le (k + 1) w.number ≡ false = grind (arith, nat_tests) in
    let same : (w.number == k) ≡ true = eq-eqb w.number k is in
    let rest : writes_from (k + 1) ws ≡ ws = all_from (k + 1) (w.number + 1) hi ws rise.2 (omega arith) in
    record {
      number = is;
      from = grind (arith, nat_tests);
      found = rw same refl;
      rest = rw (here, past, rest) refl;
    }

after_head : (f k : ℕ) (w v : LiveWrite) (ws : List LiveWrite) → nat_le f w.number ≡ false → IsNext f k ws v → w.number < k → IsNext f k (w ∷ ws) v
after_head f k w v ws below next lt =
    let past : nat_le (k + 1) w.number ≡ false = grind (arith, nat_tests) in
    let other : (w.number == k) ≡ false = grind (arith, nat_tests, eqb_tells w.number k) in
    record {
      number = next.number;
      from = next.from;
      found = rw other next.found;
      rest = rw (below, past) next.rest;
    }

-- what is found from a number on is the next
next_write : (f k lo hi : ℕ) (ws : List LiveWrite) → WritesRise lo hi ws → write_from f ws ≡ Some k → (k < hi) × (w : LiveWrite) × IsNext f k ws w
next_write f k lo hi [] rise is = cc
next_write f k lo hi (w ∷ ws) rise is =
    elim (nat_le f w.number) as (λ b. nat_le f w.number ≡ b → (if b then Some w.number else write_from f ws) ≡ Some k → (k < hi) × (v : LiveWrite) × IsNext f k (w ∷ ws) v) [
      | true ↦ λ here is. let same : w.number ≡ k = cc in (omega (arith, rise.1), w, at_head f k lo hi w ws rise here same)
      | false ↦ λ below is.
          let next = next_write f k (w.number + 1) hi ws rise.2 is in
          let le : f ≤ k = next.2.from in
          let lt : w.number < f = grind (arith, nat_tests) in
          (next.0, next.1, after_head f k w next.1 ws below next.2 (omega arith))
    ] refl is

no_write_from : (f : ℕ) (ws : List LiveWrite) → write_from f ws ≡ None → writes_from f ws ≡ []
no_write_from f [] is = refl
no_write_from f (w ∷ ws) is =
    elim (nat_le f w.number) as (λ b. (if b then Some w.number else write_from f ws) ≡ None → (if b then w ∷ ws else writes_from f ws) ≡ []) [
      | true ↦ λ is. cc
      | false ↦ λ is. no_write_from f ws is
    ] is

some_is : {A : Type 0} (x : Option A) (a : A) → x ≡ Some a → IsSome x
some_is None a is = cc
some_is (Some b) a is = refl

module _ (core : Core) (n : ℕ) where
  -- at every place

  pub next_there : Ready core → (f k : ℕ) → write_from f (core.writes n) ≡ Some k → (w : LiveWrite) × IsNext f k (core.writes n) w
  next_there ready f k is = let next = next_write f k 0 (core.writes_made n) (core.writes n) (ready.range.flight.requests n).order.writes_rise is in (next.1, next.2)

  pub is_there : Ready core → (f k : ℕ) → write_from f (core.writes n) ≡ Some k → IsSome (write_in k (core.writes n))
  is_there ready f k is = let next = next_there ready f k is in some_is _ next.0 next.1.found

  pub number_fits : Ready core → (f k : ℕ) → write_from f (core.writes n) ≡ Some k → (k < core.writes_made n) × (k < 2 ^ 32 - 1)
  number_fits ready f k is =
      let next = next_write f k 0 (core.writes_made n) (core.writes n) (ready.range.flight.requests n).order.writes_rise is in
      (next.0, omega (arith, next.0, ready.writes_left n))

  pub no_more : (f : ℕ) → write_from f (core.writes n) ≡ None → writes_from f (core.writes n) ≡ []
  no_more f is = no_write_from f (core.writes n) is

  pub all_writes : Ready core → writes_from 0 (core.writes n) ≡ core.writes n
  all_writes ready = all_from 0 0 (core.writes_made n) (core.writes n) (ready.range.flight.requests n).order.writes_rise (omega arith)

  -- the first write with a target that doesn't have it

  abbrev undone_from : ℕ → Option (ℕ × ℕ)
  undone_from f = first_undone (is_target (core.view n)) (writes_from f (core.writes n))

  abbrev at_leg : ℕ → ℕ → Option (ℕ × ℕ)
  at_leg l k = Some (k, l)

  missing_at : (k : ℕ) (w : LiveWrite) (x : Option ℕ) → write_in k (core.writes n) ≡ Some w → unwritten_target core n (write_in k (core.writes n)) ≡ x → missing_leg (is_target (core.view n)) w ≡ x
  missing_at k w x found is = sym (ap (unwritten_target core n) found) ∙ is

  pub undone_found : (f k l : ℕ) (w : LiveWrite) → IsNext f k (core.writes n) w → unwritten_target core n (write_in k (core.writes n)) ≡ Some l → undone_from f ≡ Some (k, l)
  undone_found f k l w next is =
      ap (first_undone (is_target (core.view n))) next.rest
      ∙ ap (λ x. with_target w.number x (undone_from (k + 1))) (missing_at k w (Some l) next.found is)
      ∙ ap (at_leg l) next.number

  pub undone_more : (f k : ℕ) (w : LiveWrite) → IsNext f k (core.writes n) w → unwritten_target core n (write_in k (core.writes n)) ≡ None → undone_from f ≡ undone_from (k + 1)
  undone_more f k w next is =
      ap (first_undone (is_target (core.view n))) next.rest
      ∙ ap (λ x. with_target w.number x (undone_from (k + 1))) (missing_at k w None next.found is)

  -- the first write that may end

  abbrev to_end_from : ℕ → Option Event
  to_end_from f = first_to_end core n (writes_from f (core.writes n))

  allowed_of : (k m : ℕ) (x : Option Event) → m ≡ k → allowed core (EndWrite n k) ≡ x → allowed core (EndWrite n m) ≡ x
  allowed_of k m x same is = ap (λ j. allowed core (EndWrite n j)) same ∙ is

  pub to_end_found : (f k : ℕ) (e : Event) (w : LiveWrite) → IsNext f k (core.writes n) w → allowed core (EndWrite n k) ≡ Some e → to_end_from f ≡ Some e
  to_end_found f k e w next is =
      ap (first_to_end core n) next.rest
      ∙ if_found (is_none (refusal core (EndWrite n w.number))) (EndWrite n w.number) e (to_end_from (k + 1)) (allowed_of k w.number (Some e) next.number is)

  pub to_end_more : (f k : ℕ) (w : LiveWrite) → IsNext f k (core.writes n) w → allowed core (EndWrite n k) ≡ None → to_end_from f ≡ to_end_from (k + 1)
  to_end_more f k w next is =
      ap (first_to_end core n) next.rest
      ∙ if_not_found (is_none (refusal core (EndWrite n w.number))) (EndWrite n w.number) (to_end_from (k + 1)) (allowed_of k w.number None next.number is)

-- reads

pub first_read_is : (rs : List LiveRead) → read_from 0 rs ≡ first_read rs
first_read_is [] = refl
first_read_is (r ∷ rs) =
    let here : nat_le 0 r.number ≡ true = grind (arith, nat_tests) in
    rw here refl
