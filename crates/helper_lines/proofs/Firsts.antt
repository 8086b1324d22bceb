-- The first number that passes a test, among those that pass another.
use Rattle.std.proofs.Common.{◌≡◌, ℕ, zero, suc, ◌+◌, ◌-◌, ◌<◌, ◌≤◌, ◌⊎◌, inl, inr, Bool, true, false, Option, Some, None, refl, ap, sym, subst, ◌∙◌, arith, if◌then◌else◌}
use Rattle.std.proofs.lemmas.Bool.Decides.{nat_tests, eqb_tells}
use Rattle.dlm_modes.specs.First.{first_such}
use Rattle.dlm_modes.proofs.FirstLaws.{first_such_some, first_such_none, first_such_found, first_such_more, first_such_end, IsFirst}

le_cases : (i k : ℕ) → i ≤ k → (i ≡ k) ⊎ (i < k)
le_cases i k le = grind (arith, nat_tests, eqb_tells i k)

-- below what is found, nothing passes
pub first_such_below : (p : ℕ → Bool) (i n k : ℕ) → first_such p i n ≡ Some k → (j : ℕ) → i ≤ j → j < k → p j ≡ false
unfolding first_such
first_such_below p i zero k is j le lt = cc
first_such_below p i (suc n) k is j le lt =
    elim (p i) as (λ b. p i ≡ b → (if b then Some i else first_such p (i + 1) n) ≡ Some k → p j ≡ false) [
      | true ↦ λ t is. let e : i ≡ k = cc in absurd (omega arith)
      | false ↦ λ t is. elim (le_cases i j le) [ inl same ↦ subst (λ m. p m ≡ false) same t | inr above ↦ first_such_below p (i + 1) n k is j (omega arith) lt ]
    ] refl is

-- what doesn't pass may be skipped
skip : (p : ℕ → Bool) (i k n m : ℕ) → i + m ≡ k → ((j : ℕ) → i ≤ j → j < k → p j ≡ false) → first_such p i (m + n) ≡ first_such p k n
unfolding first_such
skip p i k n zero is fails = let e : i ≡ k = omega arith in let z : zero + n ≡ n = omega arith in rw (e, z) refl
skip p i k n (suc m) is fails =
    let here : p i ≡ false = fails i (omega arith) (omega arith) in
    let e : suc m + n ≡ suc (m + n) = omega arith in
    rw e (rw here (skip p (i + 1) k n m (omega arith) (λ j le lt. fails j (omega arith) lt)))

pub first_such_skip : (p : ℕ → Bool) (i k n : ℕ) → i ≤ k → k ≤ n → ((j : ℕ) → i ≤ j → j < k → p j ≡ false) → first_such p i (n - i) ≡ first_such p k (n - k)
first_such_skip p i k n le lt fails =
    let e : n - i ≡ (k - i) + (n - k) = omega arith in
    rw e (skip p i k (n - k) (k - i) (omega arith) fails)

-- where none passes, none is found
pub first_such_never : (p : ℕ → Bool) (n : ℕ) → ((j : ℕ) → j < n → p j ≡ false) → first_such p 0 n ≡ None
first_such_never p n fails =
    let skipped : first_such p 0 (n - 0) ≡ first_such p n (n - n) = first_such_skip p 0 n n (omega arith) (omega arith) (λ j le lt. fails j lt) in
    let e : n - 0 ≡ n = omega arith in
    ap (first_such p 0) (sym e) ∙ skipped ∙ first_such_end p n n (omega arith)

-- the first that passes, where those before it don't
pub first_such_here : (p : ℕ → Bool) (n k : ℕ) → k < n → p k ≡ true → ((j : ℕ) → j < k → p j ≡ false) → first_such p 0 n ≡ Some k
first_such_here p n k lt passes fails =
    let skipped : first_such p 0 (n - 0) ≡ first_such p k (n - k) = first_such_skip p 0 k n (omega arith) (omega arith) (λ j le below. fails j below) in
    let e : n - 0 ≡ n = omega arith in
    ap (first_such p 0) (sym e) ∙ skipped ∙ first_such_found p k n lt passes

none_of : (r : ℕ → Bool) (i m : ℕ) → ((j : ℕ) → i ≤ j → j < i + m → r j ≡ false) → first_such r i m ≡ None
unfolding first_such
none_of r i zero fails = refl
none_of r i (suc m) fails =
    let here : r i ≡ false = fails i (omega arith) (omega arith) in
    rw here (none_of r (i + 1) m (λ j le lt. fails j (omega arith) (omega arith)))

-- The first that passes both tests, by the first that passes the one.
module _ (p q : ℕ → Bool) (only : (j : ℕ) → q j ≡ true → p j ≡ true) where
  not_one : (j : ℕ) → p j ≡ false → q j ≡ false
  not_one j fails =
      elim (q j) as (λ b. q j ≡ b → b ≡ false) [ true ↦ λ is. let passes = only j is in cc | false ↦ λ is. refl ] refl

  below : (f n k : ℕ) → first_such p f (n - f) ≡ Some k → (j : ℕ) → f ≤ j → j < k → q j ≡ false
  below f n k is j le lt = not_one j (first_such_below p f (n - f) k is j le lt)

  pub among_found : (f n k : ℕ) → first_such p f (n - f) ≡ Some k → q k ≡ true → first_such q f (n - f) ≡ Some k
  among_found f n k is passes =
      let first = first_such_some p f (n - f) k is in
      first_such_skip q f k n first.from (omega (arith, first.from, first.below)) (below f n k is) ∙ first_such_found q k n (omega (arith, first.from, first.below)) passes

  pub among_more : (f n k : ℕ) → first_such p f (n - f) ≡ Some k → q k ≡ false → first_such q f (n - f) ≡ first_such q (k + 1) (n - (k + 1))
  among_more f n k is fails =
      let first = first_such_some p f (n - f) k is in
      first_such_skip q f k n first.from (omega (arith, first.from, first.below)) (below f n k is) ∙ first_such_more q k n (omega (arith, first.from, first.below)) fails

  pub among_none : (f n : ℕ) → first_such p f (n - f) ≡ None → first_such q f (n - f) ≡ None
  among_none f n is = none_of q f (n - f) (λ j le lt. not_one j (first_such_none p f (n - f) is j le lt))

-- from 0 on

pub first_such_none_at : (p : ℕ → Bool) (n : ℕ) → first_such p 0 n ≡ None → (j : ℕ) → j < n → p j ≡ false
first_such_none_at p n none j lt = first_such_none p 0 n none j (omega arith) (omega arith)

pub first_such_some_at : (p : ℕ → Bool) (n k : ℕ) → first_such p 0 n ≡ Some k → (k < n) × (p k ≡ true)
first_such_some_at p n k is = let first = first_such_some p 0 n k is in (omega (arith, first.below), first.passes)

pub first_such_before : (p : ℕ → Bool) (n k : ℕ) → first_such p 0 n ≡ Some k → (j : ℕ) → j < k → p j ≡ false
first_such_before p n k is j lt = first_such_below p 0 n k is j (omega arith) lt

-- numbers of a loop that goes on after what it found

pub within : (f k n : ℕ) → f ≤ k → k < f + (n - f) → k < n
within f k n from below = omega arith

pub falls : (f k n : ℕ) → f ≤ k → k < n → n - (k + 1) < n - f
falls f k n from below = omega arith
