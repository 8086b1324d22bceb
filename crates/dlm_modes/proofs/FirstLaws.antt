-- The laws of the first number that passes, and of loops that seek it.
use Rattle.std.proofs.lemmas.Bool.Decides.{nat_tests, eqb_tells}
use Rattle.std.proofs.Common.{◌⊎◌, inl, inr, ◌≡◌, ℕ, zero, suc, ◌+◌, ◌-◌, ◌<◌, ◌≤◌, Bool, true, false, Option, Some, None, refl, ap, subst, arith, if◌then◌else◌}
use Rattle.std.specs.Prelude.{is_some}
use Rattle.dlm_modes.specs.First.{first_such}

first_such-suc : (p : ℕ → Bool) (i n : ℕ) → first_such p i (suc n) ≡ (if p i then Some i else first_such p (i + 1) n)
unfolding first_such
first_such-suc p i n = refl

first_such-zero : (p : ℕ → Bool) (i : ℕ) → first_such p i 0 ≡ None
unfolding first_such
first_such-zero p i = refl

le_cases : (i k : ℕ) → i ≤ k → (i ≡ k) ⊎ (i < k)
le_cases i k le = grind (arith, nat_tests, eqb_tells i k)

-- one that does not pass
pub first_such_more : (p : ℕ → Bool) (i n : ℕ) → i < n → p i ≡ false → first_such p i (n - i) ≡ first_such p (i + 1) (n - (i + 1))
first_such_more p i n lt fails =
    let e : n - i ≡ suc (n - (i + 1)) = omega arith in
    rw (e, first_such-suc, fails) refl

-- one that passes
pub first_such_found : (p : ℕ → Bool) (i n : ℕ) → i < n → p i ≡ true → first_such p i (n - i) ≡ Some i
first_such_found p i n lt passes =
    let e : n - i ≡ suc (n - (i + 1)) = omega arith in
    rw (e, first_such-suc, passes) refl

-- none
pub first_such_end : (p : ℕ → Bool) (i n : ℕ) → n ≤ i → first_such p i (n - i) ≡ None
first_such_end p i n le =
    let e : n - i ≡ 0 = omega arith in
    rw (e, first_such-zero) refl

pub first_such_start : (p : ℕ → Bool) (n : ℕ) → first_such p 0 n ≡ first_such p 0 (n - 0)
first_such_start p n = let e : n ≡ n - 0 = omega arith in ap (first_such p 0) e

pub record IsFirst (p : ℕ → Bool) (i n k : ℕ) : Type 0 where
  pub passes : p k ≡ true
  pub from : i ≤ k
  pub below : k < i + n

-- what is found passes
pub first_such_some : (p : ℕ → Bool) (i n k : ℕ) → first_such p i n ≡ Some k → IsFirst p i n k
unfolding first_such
first_such_some p i zero k is = cc
first_such_some p i (suc n) k is =
    elim (p i) as (λ b. p i ≡ b → (if b then Some i else first_such p (i + 1) n) ≡ Some k → IsFirst p i (suc n) k) [
      | true ↦ λ t is. let e : i ≡ k = cc in record { passes = subst (λ j. p j ≡ true) e t; from = omega arith; below = omega arith }
      | false ↦ λ t is. let r = first_such_some p (i + 1) n k is in record { passes = r.passes; from = omega arith; below = omega arith }
    ] refl is

-- where nothing is found, nothing passes
pub first_such_none : (p : ℕ → Bool) (i n : ℕ) → first_such p i n ≡ None → (k : ℕ) → i ≤ k → k < i + n → p k ≡ false
unfolding first_such
first_such_none p i zero is k le lt = absurd (omega arith)
first_such_none p i (suc n) is k le lt =
    elim (p i) as (λ b. p i ≡ b → (if b then Some i else first_such p (i + 1) n) ≡ None → p k ≡ false) [
      | true ↦ λ t is. cc
      | false ↦ λ t is. elim (le_cases i k le) [ inl same ↦ subst (λ j. p j ≡ false) same t | inr above ↦ first_such_none p (i + 1) n is k (omega arith) (omega arith) ]
    ] refl is

some_of : (p : ℕ → Bool) (i n k : ℕ) (x : Option ℕ) → first_such p i n ≡ x → i ≤ k → k < i + n → p k ≡ true → is_some x ≡ true
some_of p i n k None is le lt passes = let fails = first_such_none p i n is k le lt in cc
some_of p i n k (Some j) is le lt passes = refl

-- where one passes, one is found
pub first_such_has : (p : ℕ → Bool) (i n k : ℕ) → i ≤ k → k < i + n → p k ≡ true → is_some (first_such p i n) ≡ true
first_such_has p i n k le lt passes = some_of p i n k (first_such p i n) refl le lt passes

-- tests that agree find the same
pub first_such_same : (p q : ℕ → Bool) (i n : ℕ) → ((k : ℕ) → i ≤ k → k < i + n → p k ≡ q k) → first_such p i n ≡ first_such q i n
unfolding first_such
first_such_same p q i zero same = refl
first_such_same p q i (suc n) same =
    let here : p i ≡ q i = same i (omega arith) (omega arith) in
    let rest : first_such p (i + 1) n ≡ first_such q (i + 1) n = first_such_same p q (i + 1) n (λ k le lt. same k (omega arith) (omega arith)) in
    rw (here, rest) refl
