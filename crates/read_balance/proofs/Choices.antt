-- The leg that a read goes to works, and there is one where some leg works.
use Rattle.std.proofs.lemmas.Bool.Decides.{nat_tests, eqb_tells}
use Rattle.std.proofs.Common.{◌⊎◌, inl, inr, ◌≡◌, ℕ, zero, suc, ◌+◌, ◌<◌, ◌≤◌, Bool, true, false, not, ◌||◌, Option, Some, None, is_some, refl, ap, sym, ◌∙◌, arith, add-one, if◌then◌else◌}
use Rattle.std.proofs.lemmas.Nat.Bits.{bit_at-lt, bit_at-zero, same_from_bits_below}
use Rattle.std.specs.Int.{bit_at}
use Rattle.mdc_types.specs.Bits.{has_bit}
use Rattle.std.specs.Prelude.{◌^◌, ◌==◌, ◌↔◌, IsNone, MatchOption, IfSome, is_none, nat_le, ◌&&◌}
use Rattle.dlm_modes.specs.First.{first_such, each_such}
use Rattle.dlm_modes.proofs.FirstLaws.{first_such_some, first_such_none}
use Rattle.read_balance.specs.Choice.{distance, is_nearest, chosen_leg, nearer_leg}

-- the nearest leg of those below n, as it is found in one pass
abbrev pub nearest_below : (ℕ → Bool) → (ℕ → ℕ) → ℕ → ℕ → Option ℕ
nearest_below works head s zero = None
nearest_below works head s (suc n) = if works n then Some (nearer_leg head s (nearest_below works head s n) n) else nearest_below works head s n

-- no leg below n works
abbrev pub NoneBelow : (ℕ → Bool) → ℕ → Type 0
NoneBelow works n = (k : ℕ) → k < n → works k ≡ false

-- leg l works, and no working leg below n is nearer, nor as near and lower
pub record IsNearestBelow (works : ℕ → Bool) (head : ℕ → ℕ) (s n l : ℕ) : Type 0 where
  pub chosen : works l ≡ true
  pub below : l < n
  pub least : (k : ℕ) → k < n → works k ≡ true → distance s (head l) ≤ distance s (head k)
  pub first : (k : ℕ) → k < l → works k ≡ true → distance s (head l) < distance s (head k)

below_cases : (k n : ℕ) → k < suc n → (k ≡ n) ⊎ (k < n)
below_cases k n lt = grind (arith, nat_tests, eqb_tells k n)

nearest_either : (works : ℕ → Bool) (head : ℕ → ℕ) (s n l : ℕ) → IsNearestBelow works head s n l → works n ≡ true
    → (b : Bool) → nat_le (distance s (head l)) (distance s (head n)) ≡ b → IsNearestBelow works head s (suc n) (if b then l else n)
nearest_either works head s n l old is true le = record {
  chosen = old.chosen;
  below = omega (arith, old.below);
  least = λ k lt wk. elim (below_cases k n lt) [ inl same ↦ rw same (grind (arith, nat_tests, le)) | inr below ↦ old.least k below wk ];
  first = old.first;
}
nearest_either works head s n l old is false le =
    let nearer : distance s (head n) < distance s (head l) = grind (arith, nat_tests, le) in
    record {
      chosen = is;
      below = omega arith;
      least = λ k lt wk. elim (below_cases k n lt) [ inl same ↦ rw same (omega arith) | inr below ↦ omega (arith, nearer, old.least k below wk) ];
      first = λ k lt wk. omega (arith, nearer, old.least k lt wk);
    }

nearest_step : (works : ℕ → Bool) (head : ℕ → ℕ) (s n : ℕ) (found : Option ℕ) → MatchOption found (NoneBelow works n) (IsNearestBelow works head s n)
    → (b : Bool) → works n ≡ b → MatchOption (if b then Some (nearer_leg head s found n) else found) (NoneBelow works (suc n)) (IsNearestBelow works head s (suc n))
nearest_step works head s n None old false is = λ k lt. elim (below_cases k n lt) [ inl same ↦ rw same is | inr below ↦ old k below ]
nearest_step works head s n None old true is = record {
  chosen = is;
  below = omega arith;
  least = λ k lt wk. elim (below_cases k n lt) [ inl same ↦ rw same (omega arith) | inr below ↦ let no : works k ≡ false = old k below in absurd (cc) ];
  first = λ k lt wk. let no : works k ≡ false = old k lt in absurd (cc);
}
nearest_step works head s n (Some l) old false is = record {
  chosen = old.chosen;
  below = omega (arith, old.below);
  least = λ k lt wk. elim (below_cases k n lt) [ inl same ↦ let no : works k ≡ false = rw same is in absurd (cc) | inr below ↦ old.least k below wk ];
  first = old.first;
}
nearest_step works head s n (Some l) old true is = nearest_either works head s n l old is (nat_le (distance s (head l)) (distance s (head n))) refl

nearest_found : (works : ℕ → Bool) (head : ℕ → ℕ) (s n : ℕ) → MatchOption (nearest_below works head s n) (NoneBelow works n) (IsNearestBelow works head s n)
nearest_found works head s zero = λ k lt. absurd (omega arith)
nearest_found works head s (suc n) = nearest_step works head s n (nearest_below works head s n) (nearest_found works head s n) (works n) refl

pub nearest_below-more : (works : ℕ → Bool) (head : ℕ → ℕ) (s n : ℕ) → nearest_below works head s (n + 1) ≡ (if works n then Some (nearer_leg head s (nearest_below works head s n) n) else nearest_below works head s n)
nearest_below-more works head s n = rw add-one refl

le_cases : (i k : ℕ) → i ≤ k → (i ≡ k) ⊎ (i < k)
le_cases i k le = grind (arith, nat_tests, eqb_tells i k)

-- the one that passes where those before it don't is found
pub first_such_is : (p : ℕ → Bool) (i n k : ℕ) → i ≤ k → k < i + n → p k ≡ true → ((j : ℕ) → i ≤ j → j < k → p j ≡ false) → first_such p i n ≡ Some k
unfolding first_such
first_such_is p i zero k from below passes before = absurd (omega arith)
first_such_is p i (suc n) k from below passes before = elim (le_cases i k from) [
  | inl same ↦ let here : p i ≡ true = rw same passes in rw here (ap Some same)
  | inr later ↦ rw (before i (omega arith) later) (first_such_is p (i + 1) n k (omega arith) (omega arith) passes (λ j le lt. before j (omega arith) lt))
]

-- nothing is found where nothing passes
pub first_such_nothing : (p : ℕ → Bool) (i n : ℕ) → ((j : ℕ) → i ≤ j → j < i + n → p j ≡ false) → first_such p i n ≡ None
unfolding first_such
first_such_nothing p i zero none = refl
first_such_nothing p i (suc n) none = rw (none i (omega arith) (omega arith)) (first_such_nothing p (i + 1) n (λ j le lt. none j (omega arith) (omega arith)))

pub each_such_all : (p : ℕ → Bool) (i n : ℕ) → ((j : ℕ) → i ≤ j → j < i + n → p j ≡ true) → each_such p i n ≡ true
each_such_all p i n all = ap is_none (first_such_nothing (λ k. not (p k)) i n (λ j le lt. ap not (all j le lt)))

pub each_such_fails : (p : ℕ → Bool) (i n k : ℕ) → i ≤ k → k < i + n → p k ≡ false → each_such p i n ≡ false
each_such_fails p i n k from below fails = elim (first_such (λ j. not (p j)) i n) as (λ o. first_such (λ j. not (p j)) i n ≡ o → is_none o ≡ false) [
  | None ↦ λ is. let no : not (p k) ≡ false = first_such_none (λ j. not (p j)) i n is k from below in let yes : not (p k) ≡ true = ap not fails in absurd (cc)
  | Some j ↦ λ is. refl
] refl

-- whether leg l is the nearest of those below n
abbrev pub nearest_test : (ℕ → Bool) → (ℕ → ℕ) → ℕ → ℕ → ℕ → Bool
nearest_test works head s n l = works l && each_such (λ j. not (works j) || nat_le (distance s (head l)) (distance s (head j))) 0 n

near_test : (b : Bool) (x y : ℕ) → (b ≡ true → x ≤ y) → (not b || nat_le x y) ≡ true
near_test false x y near = refl
near_test true x y near = let le : x ≤ y = near refl in grind (arith, nat_tests)

far_test : (b : Bool) (x y : ℕ) → b ≡ true → y < x → (not b || nat_le x y) ≡ false
far_test false x y is far = absurd (cc)
far_test true x y is far = grind (arith, nat_tests)

passes_test : (works : ℕ → Bool) (head : ℕ → ℕ) (s n l : ℕ) → IsNearestBelow works head s n l → nearest_test works head s n l ≡ true
passes_test works head s n l is = rw is.chosen (each_such_all (λ j. not (works j) || nat_le (distance s (head l)) (distance s (head j))) 0 n (λ j le lt. near_test (works j) (distance s (head l)) (distance s (head j)) (is.least j (omega arith))))

fails_test : (works : ℕ → Bool) (head : ℕ → ℕ) (s n l : ℕ) → IsNearestBelow works head s n l → (k : ℕ) → k < l → nearest_test works head s n k ≡ false
fails_test works head s n l is k lt = elim (works k) as (λ b. works k ≡ b → (b && each_such (λ j. not (works j) || nat_le (distance s (head k)) (distance s (head j))) 0 n) ≡ false) [
  | false ↦ λ w. refl
  | true ↦ λ w. each_such_fails (λ j. not (works j) || nat_le (distance s (head k)) (distance s (head j))) 0 n l (omega arith) (omega (arith, is.below)) (far_test (works l) (distance s (head k)) (distance s (head l)) is.chosen (is.first k lt w))
] refl

-- what the pass finds is the first leg that passes the test
first_nearest : (works : ℕ → Bool) (head : ℕ → ℕ) (s n : ℕ) (found : Option ℕ) → MatchOption found (NoneBelow works n) (IsNearestBelow works head s n) → found ≡ first_such (nearest_test works head s n) 0 n
first_nearest works head s n None none = sym (first_such_nothing (nearest_test works head s n) 0 n (λ j le lt. rw (none j (omega arith)) refl))
first_nearest works head s n (Some l) is = sym (first_such_is (nearest_test works head s n) 0 n l (omega arith) (omega (arith, is.below)) (passes_test works head s n l is) (λ j le lt. fails_test works head s n l is j lt))

pub nearest_below-is : (works : ℕ → Bool) (head : ℕ → ℕ) (s n : ℕ) → nearest_below works head s n ≡ first_such (nearest_test works head s n) 0 n
nearest_below-is works head s n = first_nearest works head s n (nearest_below works head s n) (nearest_found works head s n)

found_within : (works : ℕ → Bool) (head : ℕ → ℕ) (s n m : ℕ) (found : Option ℕ) → MatchOption found (NoneBelow works n) (IsNearestBelow works head s n) → n ≤ m → IfSome found (λ l. l < m)
found_within works head s n m None is le = tt
found_within works head s n m (Some l) is le = omega (arith, is.below)

pub nearest_below-within : (works : ℕ → Bool) (head : ℕ → ℕ) (s n m : ℕ) → n ≤ m → IfSome (nearest_below works head s n) (λ l. l < m)
nearest_below-within works head s n m = found_within works head s n m (nearest_below works head s n) (nearest_found works head s n)

-- a chosen leg works
pub chosen_works : (works : ℕ → Bool) (head : ℕ → ℕ) (s : ℕ) (first_only : Bool) (l : ℕ) → chosen_leg works head s first_only ≡ Some l → works l ≡ true
chosen_works works head s true l is = (first_such_some works 0 8 l is).passes
chosen_works works head s false l is = both (works l) _ (first_such_some (is_nearest works head s) 0 8 l is).passes
  where
    both : (a b : Bool) → (a && b) ≡ true → a ≡ true
    both true b is = refl
    both false b is = absurd (cc)

-- and is one of the eight
pub chosen_below : (works : ℕ → Bool) (head : ℕ → ℕ) (s : ℕ) (first_only : Bool) (l : ℕ) → chosen_leg works head s first_only ≡ Some l → l < 8
chosen_below works head s true l is = omega (arith, (first_such_some works 0 8 l is).below)
chosen_below works head s false l is = omega (arith, (first_such_some (is_nearest works head s) 0 8 l is).below)

some_found : (works : ℕ → Bool) (head : ℕ → ℕ) (s n k : ℕ) (found : Option ℕ) → MatchOption found (NoneBelow works n) (IsNearestBelow works head s n) → k < n → works k ≡ true → is_some found ≡ true
some_found works head s n k None none lt works-k = let no : works k ≡ false = none k lt in absurd (cc)
some_found works head s n k (Some l) is lt works-k = refl

-- where some leg works, one is chosen
pub some_chosen : (works : ℕ → Bool) (head : ℕ → ℕ) (s : ℕ) (first_only : Bool) (k : ℕ) → k < 8 → works k ≡ true → is_some (chosen_leg works head s first_only) ≡ true
some_chosen works head s true k lt is = elim (first_such works 0 8) as (λ o. first_such works 0 8 ≡ o → is_some o ≡ true) [
  | None ↦ λ e. let no : works k ≡ false = first_such_none works 0 8 e k (omega arith) (omega arith) in absurd (cc)
  | Some l ↦ λ e. refl
] refl
some_chosen works head s false k lt is = ap is_some (sym (nearest_below-is works head s 8)) ∙ some_found works head s 8 k (nearest_below works head s 8) (nearest_found works head s 8) lt is

-- where none works, none is chosen
pub none_chosen : (works : ℕ → Bool) (head : ℕ → ℕ) (s : ℕ) (first_only : Bool) → NoneBelow works 8 → chosen_leg works head s first_only ≡ None
none_chosen works head s first_only none = elim (chosen_leg works head s first_only) as (λ o. chosen_leg works head s first_only ≡ o → o ≡ None) [
  | None ↦ λ e. refl
  | Some l ↦ λ e. let no : works l ≡ false = none l (chosen_below works head s first_only l e) in let yes : works l ≡ true = chosen_works works head s first_only l e in absurd (cc)
] refl

-- of a set of legs none is chosen where it is empty, and there alone
pub none_of_set : (set : ℕ) (head : ℕ → ℕ) (s : ℕ) (first_only : Bool) → set < 2 ^ 8 → IsNone (chosen_leg (has_bit set) head s first_only) ↔ (set ≡ 0)
none_of_set set head s first_only fits = (
  λ none. same_from_bits_below 8 set 0 fits (omega arith) (λ l lt. no_bit l none lt),
  λ empty. ap is_some (none_chosen (has_bit set) head s first_only (λ l lt. rw (empty, bit_at-zero l) refl)),
)
  where
    clear : (b : ℕ) → b < 2 → ((b == 1) ≡ true → ⊥) → b ≡ 0
    clear b lt not = grind (arith, nat_tests, eqb_tells b 1)

    no_bit : (l : ℕ) → IsNone (chosen_leg (has_bit set) head s first_only) → l < 8 → bit_at set l ≡ bit_at 0 l
    no_bit l none lt = clear (bit_at set l) (bit_at-lt set l) (λ has. let some : is_some (chosen_leg (has_bit set) head s first_only) ≡ true = some_chosen (has_bit set) head s first_only l lt has in cc) ∙ sym (bit_at-zero l)

pub chosen_within : (works : ℕ → Bool) (head : ℕ → ℕ) (s : ℕ) (first_only : Bool) → IfSome (chosen_leg works head s first_only) (λ l. l < 8)
chosen_within works head s first_only = elim (chosen_leg works head s first_only) as (λ o. chosen_leg works head s first_only ≡ o → IfSome o (λ l. l < 8)) [
  | None ↦ λ e. tt
  | Some l ↦ λ e. chosen_below works head s first_only l e
] refl
