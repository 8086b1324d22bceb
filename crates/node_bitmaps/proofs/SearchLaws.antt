-- Searches that begin late or end early, and sets that a search narrows.
use Rattle.std.proofs.Common.{◌≡◌, ℕ, ◌+◌, ◌-◌, ◌<◌, ◌≤◌, Bool, true, false, not, ◌&&◌, Option, Some, None, refl, inl, inr, arith}
use Rattle.std.specs.Prelude.{is_some}
use Rattle.std.proofs.lemmas.Bool.{cases_lt}
use Rattle.dlm_modes.specs.First.{first_such}
use Rattle.dlm_modes.proofs.FirstLaws.{first_such_some, first_such_none, first_such_has, first_such_more, first_such_found}

found_none : (q : ℕ → Bool) (i n : ℕ) (o : Option ℕ) → first_such q i n ≡ o
    → ((k : ℕ) → i ≤ k → k < i + n → q k ≡ false) → is_some o ≡ false
found_none q i n None is none = refl
found_none q i n (Some k) is none = let first = first_such_some q i n k is in let fails = none k
    first.from first.below in let passes = first.passes in cc

-- where none passes, none is found
pub none_such : (q : ℕ → Bool) (i n : ℕ) → ((k : ℕ) → i ≤ k → k < i + n → q k ≡ false)
    → is_some (first_such q i n) ≡ false
none_such q i n none = found_none q i n (first_such q i n) refl none

skipped : (q : ℕ → Bool) (s n : ℕ) (o : Option ℕ) → first_such q s (n - s) ≡ o
    → ((k : ℕ) → k < s → q k ≡ false) → is_some (first_such q 0 n) ≡ is_some o
skipped q s n (Some k) is none = let first = first_such_some q s (n - s) k is in first_such_has q 0
    n k (omega arith) (omega (arith, first.from, first.below)) first.passes
skipped q s n None is none = none_such q 0 n (λ k from below. elim (cases_lt k s) [
  | inl lt ↦ none k lt
  | inr past ↦ first_such_none q s (n - s) is k past (omega arith)
])

-- a search that begins where those before don't pass
pub skip : (q : ℕ → Bool) (s n : ℕ) → ((k : ℕ) → k < s → q k ≡ false) → is_some (first_such q 0 n)
    ≡ is_some (first_such q s (n - s))
skip q s n none = skipped q s n (first_such q s (n - s)) refl none

-- a set that keeps a leg while none passes, after one step of the search
pub narrowed : (q : ℕ → Bool) (a : Bool) (c n : ℕ) → c < n
    → (a && not (is_some (first_such q c (n - c))))
    ≡ ((a && not (q c)) && not (is_some (first_such q (c + 1) (n - (c + 1)))))
narrowed q a c n lt = elim (q c) as (λ b. q c ≡ b → (a && not (is_some (first_such q c (n - c))))
    ≡ ((a && not b) && not (is_some (first_such q (c + 1) (n - (c + 1)))))) [
      | true ↦ λ is. rw (first_such_found q c n lt is) (grind arith)
      | false ↦ λ is. rw (first_such_more q c n lt is) (grind arith)
    ] refl
