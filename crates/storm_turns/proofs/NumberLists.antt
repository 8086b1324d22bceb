-- Lists of small numbers.
use Rattle.std.proofs.Common.{◌≡◌, ⊎_elim, ℕ, zero, suc, ◌+◌, ◌-◌, ◌<◌, ◌≤◌, Bool, true, false, if◌then◌else◌, List, [], ◌∷◌, ◌++◌, length, get_or, Option, Some, None, refl, sym, ap, subst, ◌∙◌, arith}
use Rattle.std.proofs.lemmas.List.{length-append, get_or_append_left}
use Rattle.std.proofs.Math.Seq.{get_or-append_seam}
use Rattle.std.proofs.lemmas.Bool.{cases_lt}
use Rattle.driver_rules.specs.Storms.{those_below, last_of, greatest_of_two}

-- none yet
pub those_below_start : (test : ℕ → Bool) → those_below test 0 ≡ []
unfolding those_below
those_below_start test = refl

-- one more that passes, or doesn't
pub those_below_more : (test : ℕ → Bool) (n : ℕ) → test n ≡ true → those_below test (n + 1) ≡ those_below test n ++ n ∷ []
unfolding those_below
those_below_more test n passes = let e : n + 1 ≡ suc n = omega arith in rw (e, passes) refl

pub those_below_same : (test : ℕ → Bool) (n : ℕ) → test n ≡ false → those_below test (n + 1) ≡ those_below test n
unfolding those_below
those_below_same test n fails = let e : n + 1 ≡ suc n = omega arith in rw (e, fails) refl

pub those_below_few : (test : ℕ → Bool) (n : ℕ) → length (those_below test n) ≤ n
unfolding those_below
those_below_few test zero = omega arith
those_below_few test (suc n) =
    let rest = those_below_few test n in
    elim (test n) as (λ b. length (if b then those_below test n ++ n ∷ [] else those_below test n) ≤ suc n) [
      | true ↦ omega (arith, length-append (those_below test n) (n ∷ []))
      | false ↦ omega arith
    ]

-- The last.

last_at : (x : ℕ) (xs : List ℕ) → last_of (x ∷ xs) ≡ Some (get_or (x ∷ xs) (length xs) 0)
last_at x [] = refl
last_at x (y ∷ xs) = last_at y xs

pub greatest_none : (xs : List ℕ) → length xs < 2 → None ≡ greatest_of_two xs
greatest_none [] few = refl
greatest_none (x ∷ []) few = refl
greatest_none (x ∷ y ∷ xs) few = absurd (omega arith)

pub greatest_some : (xs : List ℕ) → 2 ≤ length xs → Some (get_or xs (length xs - 1) 0) ≡ greatest_of_two xs
greatest_some [] more = absurd (omega arith)
greatest_some (x ∷ []) more = absurd (omega arith)
greatest_some (x ∷ y ∷ xs) more =
    let at : length (x ∷ y ∷ xs) - 1 ≡ suc (length xs) = omega arith in
    ap (λ k. Some (get_or (x ∷ y ∷ xs) k 0)) at ∙ sym (last_at y xs)

-- Each is below the bound.
pub those_below_bound : (test : ℕ → Bool) (n k : ℕ) → k < length (those_below test n) → get_or (those_below test n) k 0 < n
unfolding those_below
those_below_bound test zero k lt = absurd (omega arith)
those_below_bound test (suc n) k lt =
    elim (test n) as (λ b. k < length (if b then those_below test n ++ n ∷ [] else those_below test n) → get_or (if b then those_below test n ++ n ∷ [] else those_below test n) k 0 < suc n) [
      | true ↦ λ lt. ⊎_elim
          (λ inner. let at = those_below_bound test n k inner in omega (arith, get_or_append_left (those_below test n) (n ∷ []) 0 k inner, at))
          (λ past.
          let last : k ≡ length (those_below test n) = omega (arith, length-append (those_below test n) (n ∷ [])) in
          let value : get_or (those_below test n ++ n ∷ []) k 0 ≡ n = ap (λ j. get_or (those_below test n ++ n ∷ []) j 0) last ∙ get_or-append_seam (those_below test n) n [] 0 in
          omega (arith, value))
          (cases_lt k (length (those_below test n)))
      | false ↦ λ lt. let at = those_below_bound test n k lt in omega arith
    ] lt
