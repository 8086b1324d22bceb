-- At a sound opening a slot answers for each sector with two values: it marks the chunk on all legs
-- that work, and waits for its recovery.
use Rattle.std.proofs.Common.{◌≡◌, inl, inr, ℕ, zero, suc, ◌<◌, ◌≤◌, ◌&&◌, ◌||◌, not, if◌then◌else◌, Bool, true, false, length, List, [], ◌∷◌, Option, Some, None, refl, sym, ap, subst, ◌∙◌, arith}
use Rattle.std.specs.Prelude.{nat_lt, get_or, is_some, is_none as has_none, unwrap_or, replicate}
use Rattle.std.specs.Str.{bytes_eq}
use Rattle.std.proofs.lemmas.Bool.{cases_lt}
use Rattle.std.proofs.lemmas.Bool.Decides.{nat_tests}
use Rattle.std.proofs.lemmas.List.{get_or-replicate, get_or_past, length-replicate}
use Rattle.slot_pages.proofs.GrammarLaws.{no_bit}
use Rattle.dlm_modes.specs.First.{first_such, each_such}
use Rattle.dlm_modes.proofs.FirstLaws.{IsFirst, first_such_some, first_such_none}
use Rattle.mdc_types.specs.Bits.{has_bit}
use Rattle.mdc_types.specs.Geometry.{nodes_of, chunks_of, chunk_of}
use Rattle.mdc_types.specs.Roles.{role_of, is_working}
use Rattle.mdc_types.specs.Sectors.{zero_sector}
use Rattle.mdc_types.specs.declared.numbers.Sector.{Sector}
use Rattle.plain_history.specs.History.{values_at}
use Rattle.cluster_model.specs.State.{State, Legs}
use Rattle.cluster_model.specs.Stored.{bit_on, data_on}
use Rattle.cluster_model.specs.Opening.{Origin, IsOrigin}
use Rattle.cluster_model.specs.Contents.{IsHeader, SoundOpening, MarksOnAll, works_at, some_mark, is_marked_slot, with_new, values_on}
use Rattle.laws_roles.proofs.InState.{working_role}
use Rattle.laws_writes.proofs.Ghosts.{Ghost, is_open, has_value}
use Rattle.laws_writes.proofs.Places.{chunk_lt}

-- the slot marks the chunk on each leg that works
abbrev pub marks_all : Origin → Legs → ℕ → ℕ → Bool
marks_all o legs c k = each_such (λ l. not (works_at o l) || bit_on o.sizes legs k c l) 0 8

abbrev pub first_keeper : Origin → Legs → ℕ → ℕ
first_keeper o legs s = unwrap_or (first_such (marks_all o legs (chunk_of o.sizes s)) 0 (nodes_of o.sizes)) 0

abbrev pub first_values : Origin → ℕ → List Sector
first_values o s = if nat_lt s o.sizes.room then values_at o.base s else zero_sector ∷ []

-- the ghosts of writes at the opening
abbrev pub first_ghost : Origin → Legs → Ghost
first_ghost o legs = record {
  values = first_values o;
  keeper = first_keeper o legs;
  number = λ s. 0;
  broke = λ n s. false;
}

-- Tests of a row of numbers.

pub each_one : (p : ℕ → Bool) (n : ℕ) → each_such p 0 n ≡ true → (k : ℕ) → k < n → p k ≡ true
each_one p n e k lt = by (first_such (λ j. not (p j)) 0 n) refl e
  where
    not_false : (b : Bool) → not b ≡ false → b ≡ true
    not_false b e = grind arith

    by : (x : Option ℕ) → first_such (λ j. not (p j)) 0 n ≡ x → has_none x ≡ true → p k ≡ true
    by None is some = not_false (p k) (first_such_none (λ j. not (p j)) 0 n is k (omega arith) (omega (arith, lt)))
    by (Some j) is some = cc

pub each_from : (p : ℕ → Bool) (n : ℕ) → ((k : ℕ) → k < n → p k ≡ true) → each_such p 0 n ≡ true
each_from p n all = by (first_such (λ j. not (p j)) 0 n) refl
  where
    by : (x : Option ℕ) → first_such (λ j. not (p j)) 0 n ≡ x → has_none x ≡ true
    by None is = refl
    by (Some j) is =
        let f : IsFirst (λ i. not (p i)) 0 n j = first_such_some (λ i. not (p i)) 0 n j is in
        let no_one : not (p j) ≡ true = f.passes in
        let yes = all j (omega (arith, f.below)) in absurd (grind arith)

-- some number passes, so one is found
pub found_one : (p : ℕ → Bool) (n k : ℕ) → k < n → p k ≡ true → is_some (first_such p 0 n) ≡ true
found_one p n k lt e = by (first_such p 0 n) refl
  where
    by : (x : Option ℕ) → first_such p 0 n ≡ x → is_some x ≡ true
    by None is = let none = first_such_none p 0 n is k (omega arith) (omega (arith, lt)) in cc
    by (Some j) is = refl

pub found_passes : (p : ℕ → Bool) (n : ℕ) → is_some (first_such p 0 n) ≡ true → (p (unwrap_or (first_such p 0 n) 0) ≡ true) × (unwrap_or (first_such p 0 n) 0 < n)
found_passes p n e = by (first_such p 0 n) refl e
  where
    by : (x : Option ℕ) → first_such p 0 n ≡ x → is_some x ≡ true → (p (unwrap_or x 0) ≡ true) × (unwrap_or x 0 < n)
    by None is some = cc
    by (Some j) is some = let f : IsFirst p 0 n j = first_such_some p 0 n j is in (f.passes, omega (arith, f.below))

-- Two values.

pub open_two : (vs : List Sector) → is_open vs ≡ true → 1 < length vs
open_two [] e = cc
open_two (v ∷ []) e = cc
open_two (v ∷ u ∷ us) e = omega arith

two_in_room : (o : Origin) (s : ℕ) → is_open (first_values o s) ≡ true → (s < o.sizes.room) × (1 < length (get_or o.base s []))
two_in_room o s e = by (nat_lt s o.sizes.room) refl e
  where
    by : (b : Bool) → nat_lt s o.sizes.room ≡ b → is_open (if b then values_at o.base s else zero_sector ∷ []) ≡ true → (s < o.sizes.room) × (1 < length (get_or o.base s []))
    by true t e = (grind (arith, nat_tests), open_two (get_or o.base s []) e)
    by false t e = cc

-- Legs that work.

pub working_below : (o : Origin) → IsOrigin o → (l : ℕ) → is_working (role_of o.roles l) ≡ true → l < 8
working_below o i l e = elim (cases_lt l 8) [
  | inl lt ↦ lt
  | inr le ↦ let few = i.sizes.legs.1 in let spare = ap is_working (i.legs l (omega (arith, few, le))) in cc
]

pub or_given : (a b : Bool) → (not a || b) ≡ true → a ≡ true → b ≡ true
or_given a b e f = grind arith

pub given_or : (a b : Bool) → (a ≡ true → b ≡ true) → (not a || b) ≡ true
given_or a b h = by a refl
  where
    by : (x : Bool) → a ≡ x → (not x || b) ≡ true
    by true e = h e
    by false e = refl

-- There is a value at each sector.

new_some : (v : Sector) (vs : List Sector) → has_value (with_new v vs) ≡ true
new_some v [] = refl
new_some v (u ∷ us) = by (bytes_eq v.bytes u.bytes)
  where
    by : (b : Bool) → has_value (if b then u ∷ us else u ∷ with_new v us) ≡ true
    by true = refl
    by false = refl

values_some : (o : Origin) (legs : Legs) (s l n : ℕ) → l < n → works_at o l ≡ true → has_value (values_on o legs s n) ≡ true
unfolding values_on
values_some o legs s l zero lt e = absurd (omega (arith, lt))
values_some o legs s l (suc n) lt e = by (works_at o n) refl (λ le. values_some o legs s l n le e)
  where
    by : (b : Bool) → works_at o n ≡ b → (l < n → has_value (values_on o legs s n) ≡ true)
        → has_value (if b then with_new (data_on o.sizes legs n s) (values_on o legs s n) else values_on o legs s n) ≡ true
    by true w rest = new_some (data_on o.sizes legs n s) (values_on o legs s n)
    by false w rest = elim (cases_lt l n) [
      | inl le ↦ rest le
      | inr past ↦ let same : l ≡ n = omega (arith, lt, past) in let works = ap (works_at o) same in absurd (not_both (works_at o n) (sym works ∙ e) w)
    ]
      where
        not_both : (b : Bool) → b ≡ true → b ≡ false → ⊥
        not_both b e f = cc

one_each : (n k : ℕ) (v : List Sector) → length v ≤ 1 → length (get_or (replicate n v) k []) ≤ 1
one_each n k v few = elim (cases_lt k n) [
  | inl lt ↦ subst (λ x. length x ≤ 1) (sym (get_or-replicate n k v [] lt)) few
  | inr le ↦ subst (λ x. length x ≤ 1) (sym (get_or_past (replicate n v) k [] (subst (λ m. m ≤ k) (sym (length-replicate n v)) le))) (omega arith)
]

-- a header has one value at each sector
pub header_one : (o : Origin) (legs : Legs) (s : ℕ) → IsHeader o legs → 1 < length (get_or o.base s []) → ⊥
header_one o legs s h two =
    let base : length (get_or o.base s []) ≡ length (get_or (replicate o.sizes.room (zero_sector ∷ [])) s []) = ap (λ (x : Origin). length (get_or x.base s [])) h.header in
    let few = one_each o.sizes.room s (zero_sector ∷ []) (omega arith) in omega (arith, base, few, two)

module _ (o : Origin) (start : State) (sound : SoundOpening o start) where
  keeps : (s : ℕ) → is_open (first_values o s) ≡ true
      → (marks_all o start.legs (chunk_of o.sizes s) (first_keeper o start.legs s) ≡ true) × (first_keeper o start.legs s < nodes_of o.sizes)
  keeps s e =
      let two = two_in_room o s e in
      let all : MarksOnAll o start.legs s = sound.base s two.0 two.1 in
      found_passes (marks_all o start.legs (chunk_of o.sizes s)) (nodes_of o.sizes)
      (found_one (marks_all o start.legs (chunk_of o.sizes s)) (nodes_of o.sizes) all.0 all.1
      (each_from (λ l. not (works_at o l) || bit_on o.sizes start.legs all.0 (chunk_of o.sizes s) l) 8
      (λ l lt. given_or (works_at o l) (bit_on o.sizes start.legs all.0 (chunk_of o.sizes s) l) (λ w. all.2 l (working_role (role_of o.roles l) w)))))

  pub first_bit : (s l : ℕ) → is_open (first_values o s) ≡ true → is_working (role_of o.roles l) ≡ true
      → (nat_lt (first_keeper o start.legs s) (nodes_of o.sizes) && bit_on o.sizes start.legs (first_keeper o start.legs s) (chunk_of o.sizes s) l) ≡ true
  first_bit s l e w =
      let k = keeps s e in
      let bit = or_given (works_at o l) (bit_on o.sizes start.legs (first_keeper o start.legs s) (chunk_of o.sizes s) l)
      (each_one (λ j. not (works_at o j) || bit_on o.sizes start.legs (first_keeper o start.legs s) (chunk_of o.sizes s) j) 8 k.0 l (working_below o sound.opens.origin l w)) w in
      let node = k.1 in
      let there : nat_lt (first_keeper o start.legs s) (nodes_of o.sizes) ≡ true = grind (arith, nat_tests) in
      and_true (nat_lt (first_keeper o start.legs s) (nodes_of o.sizes)) (bit_on o.sizes start.legs (first_keeper o start.legs s) (chunk_of o.sizes s) l) there bit
    where
      and_true : (a b : Bool) → a ≡ true → b ≡ true → (a && b) ≡ true
      and_true a b e f = grind arith

  some_leg : (l : ℕ) × (l < 8) × (is_working (role_of o.roles l) ≡ true)
  some_leg = let f = found_passes (λ l. is_working (role_of o.roles l)) 8 sound.opens.origin.leg in (unwrap_or (first_such (λ l. is_working (role_of o.roles l)) 0 8) 0, f.1, f.0)

  pub first_some : (s : ℕ) → has_value (first_values o s) ≡ true
  first_some s = by (nat_lt s o.sizes.room) refl
    where
      at : s < o.sizes.room → has_value (get_or o.base s []) ≡ true
      at lt = elim sound.opens.contents [
        | inl h ↦ ap (λ (x : Origin). has_value (get_or x.base s [])) h.header ∙ ap has_value (get_or-replicate o.sizes.room s (zero_sector ∷ []) [] lt)
        | inr h ↦ let l = some_leg in ap has_value ((h.contents sound.told).base s lt) ∙ values_some o start.legs s l.0 8 l.1 l.2
      ]

      by : (b : Bool) → nat_lt s o.sizes.room ≡ b → has_value (if b then values_at o.base s else zero_sector ∷ []) ≡ true
      by true t = at (grind (arith, nat_tests))
      by false t = refl

  -- it is one of the images' pending slots, since a leg that works has its bit
  pub first_pending : (s : ℕ) → is_open (first_values o s) ≡ true → has_bit o.pending (first_keeper o start.legs s) ≡ true
  first_pending s e = elim sound.opens.contents [
    | inl h ↦ absurd (header_one o start.legs s h (two_in_room o s e).1)
    | inr h ↦
        let k = keeps s e in
        let two = two_in_room o s e in
        let l = some_leg in
        let c : ℕ = chunk_of o.sizes s in
        let bit = or_given (works_at o l.0) (bit_on o.sizes start.legs (first_keeper o start.legs s) c l.0)
        (each_one (λ j. not (works_at o j) || bit_on o.sizes start.legs (first_keeper o start.legs s) c j) 8 k.0 l.0 l.1) l.2 in
        let mark : some_mark o start.legs (first_keeper o start.legs s) c ≡ true
        = found_one (λ j. works_at o j && bit_on o.sizes start.legs (first_keeper o start.legs s) c j) 8 l.0 l.1 (and_both (works_at o l.0) (bit_on o.sizes start.legs (first_keeper o start.legs s) c l.0) l.2 bit) in
        let slot : is_marked_slot o start.legs (first_keeper o start.legs s) ≡ true
        = found_one (some_mark o start.legs (first_keeper o start.legs s)) (chunks_of o.sizes) c (chunk_lt o.sizes s sound.opens.origin.sizes two.0) mark in
        (h.contents sound.told).pending (first_keeper o start.legs s) k.1 ∙ slot
  ]
    where
      and_both : (a b : Bool) → a ≡ true → b ≡ true → (a && b) ≡ true
      and_both a b e f = grind arith

  -- and its node isn't in
  pub keeper_out : (s : ℕ) → is_open (first_values o s) ≡ true → has_bit o.members (first_keeper o start.legs s) ≡ false
  keeper_out s e = elim sound.opens.contents [
    | inl h ↦ absurd (header_one o start.legs s h (two_in_room o s e).1)
    | inr h ↦ ap (λ m. has_bit m (first_keeper o start.legs s)) h.nobody.0 ∙ no_bit (first_keeper o start.legs s)
  ]
