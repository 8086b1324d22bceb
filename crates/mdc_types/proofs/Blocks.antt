-- Searches that pass over blocks.
use Rattle.std.proofs.Common.{◌≡◌, ℕ, zero, suc, ◌+◌, ◌-◌, ◌*◌, ◌/◌, ◌<◌, ◌≤◌, ◌==◌, set, Bool, true, false, Option, Some, None, refl, sym, ◌∙◌, ap, subst, inl, inr, arith, if◌then◌else◌}
use Rattle.std.specs.Prelude.{min, max, is_some, List, length, get_or}
use Rattle.std.proofs.lemmas.Bool.{cases_lt, cases_eq}
use Rattle.std.proofs.lemmas.Bool.Decides.{nat_tests}
use Rattle.std.proofs.lemmas.List.{get_or-set_same, get_or-set_other}
use Rattle.dlm_modes.specs.First.{first_such}
use Rattle.dlm_modes.proofs.FirstLaws.{first_such_more, first_such_end, first_such_none, first_such_has, first_such_some}

-- a search may begin past those that don't pass
pub pass_over : (p : ℕ → Bool) (i d n : ℕ) → ((k : ℕ) → i ≤ k → k < i + d → k < n → p k ≡ false)
    → first_such p i (n - i) ≡ first_such p (i + d) (n - (i + d))
pass_over p i zero n none = let e : i + 0 ≡ i = omega arith in rw e refl
pass_over p i (suc d) n none = elim (cases_lt i n) [
  | inl lt ↦
      let e : i + suc d ≡ i + 1 + d = omega arith in
      first_such_more p i n lt (none i (omega arith) (omega arith) lt)
      ∙ rw e (pass_over p (i + 1) d n (λ k le below in_range. none k (omega (arith, le)) (omega (arith, below)) in_range))
  | inr past ↦ first_such_end p i n past ∙ sym (first_such_end p (i + suc d) n (omega (arith, past)))
]

-- what is found early is found
pub found_early : (p : ℕ → Bool) (i n m k : ℕ) → first_such p i n ≡ Some k → n ≤ m → first_such p i m ≡ Some k
unfolding first_such
found_early p i zero m k is le = cc
found_early p i (suc n) zero k is le = absurd (omega (arith, le))
found_early p i (suc n) (suc m) k is le =
    elim (p i) as (λ b. (if b then Some i else first_such p (i + 1) n) ≡ Some k → (if b then Some i else first_such p (i + 1) m) ≡ Some k) [
      | true ↦ λ is. is
      | false ↦ λ is. found_early p (i + 1) n m k is (omega (arith, le))
    ] is

-- none between two places
pub none_between : (p : ℕ → Bool) (i m : ℕ) → ((k : ℕ) → i ≤ k → k < m → p k ≡ false) → first_such p i (m - i) ≡ None
none_between p i m none =
    pass_over p i (m - i) m (λ k le lt below. none k le below)
    ∙ first_such_end p (i + (m - i)) m (omega arith)

pub contra : (p : ℕ → Bool) (k : ℕ) (b : Bool) → (p k ≡ true → b ≡ true) → b ≡ false → p k ≡ false
contra p k b gives is = elim (p k) as (λ x. (x ≡ true → b ≡ true) → x ≡ false) [
  | true ↦ λ gives. let t = gives refl in cc
  | false ↦ λ gives. refl
] gives

module _ (p : ℕ → Bool) (n b from : ℕ) where
  abbrev start : ℕ
  start = max (128 * b) from

  abbrev next : ℕ
  next = max (128 * (b + 1)) from

  -- nothing in a block: the search goes on at the next
  pub next_block : from / 128 ≤ b → first_such p start (min (128 * b + 128) n - start) ≡ None
      → first_such p start (n - start) ≡ first_such p next (n - next)
  next_block le none =
      let there : start + (next - start) ≡ next = omega (arith, le) in
      pass_over p start (next - start) n (λ k low high below.
      first_such_none p start (min (128 * b + 128) n - start) none k low (omega (arith, le, low, high, below)))
      ∙ ap (λ (j : ℕ). first_such p j (n - j)) there

  pub found_block : (k : ℕ) → first_such p start (min (128 * b + 128) n - start) ≡ Some k
      → first_such p start (n - start) ≡ Some k
  found_block k is = found_early p start (min (128 * b + 128) n - start) (n - start) k is (omega arith)

pub get-set : (xs : List Bool) (n m : ℕ) (v : Bool) → n < length xs → get_or (set xs n v) m false ≡ (if m == n then v else get_or xs m false)
get-set xs n m v lt = elim (cases_eq m n) [
  | inl same ↦ grind (arith, nat_tests, get_or-set_same)
  | inr other ↦ grind (arith, nat_tests, get_or-set_other)
]

-- a chunk of the block that passes is found in it
pub in_block : (p : ℕ → Bool) (n b k : ℕ) → k < n → k / 128 ≡ b → p k ≡ true
    → is_some (first_such p (128 * b) (min (128 * b + 128) n - 128 * b)) ≡ true
in_block p n b k below here passes =
    first_such_has p (128 * b) (min (128 * b + 128) n - 128 * b) k (omega (arith, here)) (omega (arith, here, below)) passes

-- what is before the first doesn't pass
pub before_first : (p : ℕ → Bool) (i n c : ℕ) → first_such p i n ≡ Some c → (k : ℕ) → i ≤ k → k < c → p k ≡ false
unfolding first_such
before_first p i zero c is k le lt = cc
before_first p i (suc n) c is k le lt =
    elim (p i) as (λ b. p i ≡ b → (if b then Some i else first_such p (i + 1) n) ≡ Some c → p k ≡ false) [
      | true ↦ λ t is. let e : i ≡ c = cc in absurd (omega (arith, e, le, lt))
      | false ↦ λ f is. elim (cases_eq k i) [
        | inl same ↦ subst (λ j. p j ≡ false) (sym same) f
        | inr ne ↦ before_first p (i + 1) n c is k (omega (arith, le, ne)) lt
      ]
    ] refl is

-- where what is found lies
pub found_in : (p : ℕ → Bool) (i n c : ℕ) → first_such p i (n - i) ≡ Some c → (i ≤ c) × (c < n)
found_in p i n c is = let first = first_such_some p i (n - i) c is in (first.from, omega (arith, first.from, first.below))

pub none_is : (o : Option ℕ) → is_some o ≡ false → o ≡ None
none_is None is = refl
none_is (Some k) is = cc
