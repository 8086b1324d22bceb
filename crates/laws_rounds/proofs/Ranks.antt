-- The rank falls at each event that brings a round nearer to its end.
use Rattle.std.proofs.Common.{◌≡◌, ◌≢◌, ◌⊎◌, inl, inr, ℕ, zero, suc, ◌+◌, ◌<◌, ◌≤◌, ◌==◌, Bool, true, false, not, ◌&&◌, Option, Some, None, refl, subst, arith}
use Rattle.std.proofs.lemmas.Bool.{eqb-false}
use Rattle.std.specs.Prelude.{is_some}
use Rattle.dlm_modes.specs.First.{first_such}
use Rattle.dlm_modes.proofs.FirstLaws.{first_such_some, first_such_none}
use Rattle.msg_rounds.specs.Refusals.{is_published}
use Rattle.msg_rounds.specs.declared.phases.SenderPhase.{SenderPhase}
use Rattle.laws_rounds.specs.Machine.{Rounds, Take, Processed, Resume, Drop, after}
use Rattle.laws_rounds.specs.Going.{rank_of, rank_below, rank}

-- sums

pub below_le : (v w : Rounds) (k : ℕ) → ((n : ℕ) → rank_of v n ≤ rank_of w n) → rank_below v k ≤ rank_below w k
unfolding rank_below
below_le v w zero le = omega arith
below_le v w (suc k) le = omega (arith, le k, below_le v w k le)

le_cases : (n k : ℕ) → n < suc k → (n ≡ k) ⊎ (n < k)
le_cases n k lt = grind (arith, Rattle.std.proofs.lemmas.Bool.Decides.nat_tests, Rattle.std.proofs.lemmas.Bool.Decides.eqb_tells n k)

below_lt_at : (v w : Rounds) (k n : ℕ) → rank_of v n < rank_of w n → ((m : ℕ) → rank_of v m ≤ rank_of w m) → ((lt : n < k) → rank_below v k < rank_below w k) → (n ≡ k) ⊎ (n < k) → rank_below v k + rank_of v k < rank_below w k + rank_of w k
below_lt_at v w k n less le before (inl is) = let here : rank_of v k < rank_of w k = subst (λ j. rank_of v j < rank_of w j) is less in omega (arith, below_le v w k le)
below_lt_at v w k n less le before (inr lt) = omega (arith, before lt, le k)

below_lt : (v w : Rounds) (k n : ℕ) → n < k → rank_of v n < rank_of w n → ((m : ℕ) → rank_of v m ≤ rank_of w m) → rank_below v k < rank_below w k
unfolding rank_below
below_lt v w zero n lt less le = absurd (omega arith)
below_lt v w (suc k) n lt less le = below_lt_at v w k n less le (λ before. below_lt v w k n before less le) (le_cases n k lt)

-- one node's rank falls, and no other's rises
pub falls_at : (v w : Rounds) (n : ℕ) → n < 16 → rank_of v n < rank_of w n → ((m : ℕ) → m ≢ n → rank_of v m ≤ rank_of w m) → rank v < rank w
falls_at v w n lt less le = below_lt v w 16 n lt less (λ m. by_test m (m == n) refl)
  where
    by_test : (m : ℕ) (b : Bool) → (m == n) ≡ b → rank_of v m ≤ rank_of w m
    by_test m true is = grind (arith, Rattle.std.proofs.lemmas.Bool.Decides.eqb_tells m n)
    by_test m false is = le m (eqb-false m n is)

-- who has published

some_such_le : (p q : ℕ → Bool) (i n : ℕ) (found : Option ℕ) (other : Option ℕ) → ((k : ℕ) → p k ≡ true → q k ≡ true) → first_such p i n ≡ found → first_such q i n ≡ other → is_some found ≡ true → is_some other ≡ true
some_such_le p q i n found (Some j) le f g is = refl
some_such_le p q i n None None le f g is = is
some_such_le p q i n (Some k) None le f g is =
    let first = first_such_some p i n k f in
    let none = first_such_none q i n g k first.from first.below in
    absurd (clash (le k first.passes) none)
  where
    clash : q k ≡ true → q k ≡ false → ⊥
    clash a b = cc

abbrev published_else : (ℕ → SenderPhase) → ℕ → ℕ → Bool
published_else sender n m = not (m == n) && is_published (sender m)

-- where fewer have published
pub another_le : (f g : ℕ → SenderPhase) (n : ℕ) → ((m : ℕ) → is_published (f m) ≡ true → is_published (g m) ≡ true) → is_some (first_such (published_else f n) 0 16) ≡ true → is_some (first_such (published_else g n) 0 16) ≡ true
another_le f g n le = some_such_le (published_else f n) (published_else g n) 0 16 _ _ (λ m. less m) refl refl
  where
    less : (m : ℕ) → published_else f n m ≡ true → published_else g n m ≡ true
    less m is = grind (arith, le m)

pub none_published : (f : ℕ → SenderPhase) (n : ℕ) → ((m : ℕ) → m ≢ n → is_published (f m) ≡ false) → is_some (first_such (published_else f n) 0 16) ≡ false
none_published f n none = by_found (first_such (published_else f n) 0 16) refl
  where
    clash : (m : ℕ) → published_else f n m ≡ true → ⊥
    clash m is = grind (arith, none m, eqb-false m n)

    by_found : (found : Option ℕ) → first_such (published_else f n) 0 16 ≡ found → is_some found ≡ false
    by_found None is = refl
    by_found (Some m) is = absurd (clash m (first_such_some (published_else f n) 0 16 m is).passes)

pub one_published : (f : ℕ → SenderPhase) (n m : ℕ) → m < 16 → m ≢ n → is_published (f m) ≡ true → is_some (first_such (published_else f n) 0 16) ≡ true
one_published f n m lt ne is = by_found (first_such (published_else f n) 0 16) refl
  where
    passes : published_else f n m ≡ true
    passes = grind (arith, Rattle.std.proofs.lemmas.Bool.Decides.eqb_tells m n)

    clash : published_else f n m ≡ false → ⊥
    clash none = grind (arith, passes)

    by_found : (found : Option ℕ) → first_such (published_else f n) 0 16 ≡ found → is_some found ≡ true
    by_found (Some k) e = refl
    by_found None e = absurd (clash (first_such_none (published_else f n) 0 16 e m (omega arith) (omega arith)))

-- what becomes of the others

pub others_take : (w : Rounds) (n m : ℕ) → m ≢ n → rank_of (after w (Take n)) m ≡ rank_of w m
others_take w n m ne = grind arith

pub others_processed : (w : Rounds) (n m : ℕ) → m ≢ n → rank_of (after w (Processed n)) m ≡ rank_of w m
others_processed w n m ne = grind arith

pub others_resume : (w : Rounds) (n m : ℕ) → m ≢ n → rank_of (after w (Resume n)) m ≡ rank_of w m
others_resume w n m ne = grind arith

pub others_drop : (w : Rounds) (n m : ℕ) → m ≢ n → rank_of (after w (Drop n)) m ≡ rank_of w m
others_drop w n m ne = grind arith
