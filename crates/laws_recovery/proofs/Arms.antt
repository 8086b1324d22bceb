-- What changes the arms: slots that are pending, and what open recoveries found.
use Rattle.std.proofs.Common.{◌≡◌, ℕ, ◌==◌, ◌||◌, Bool, true, false, if◌then◌else◌, Option, Some, None, refl, sym, ap, subst, ◌∙◌, arith}
use Rattle.dlm_modes.specs.Points.{with_at}
use Rattle.node_recovery.specs.Progress.{Recovering, begun, with_cleared, with_found, with_read}
use Rattle.storage_ways.proofs.Parts.{found_in}
use Rattle.laws_writes.proofs.Points.{at_point, same_point, clash}

abbrev pub armed : (ℕ → Bool) → (ℕ → Option Recovering) → ℕ → ℕ → Bool
armed pending recovery k c = pending k || found_in (recovery k) c

-- a node goes: its slot is pending, or another's arm stays
pub arm_out : (pending : ℕ → Bool) (recovery : ℕ → Option Recovering) (n k c : ℕ) → armed pending recovery k c ≡ true → armed (with_at pending n true) (with_at recovery n None) k c ≡ true
arm_out pending recovery n k c old = grind arith

pub arm_else : (pending : ℕ → Bool) (recovery : ℕ → Option Recovering) (n k c : ℕ) → (k == n) ≡ false → armed pending recovery k c ≡ true → armed (with_at pending n false) (with_at recovery n None) k c ≡ true
arm_else pending recovery n k c apart old = grind arith

more_found : (p : Bool) (x y : Option Recovering) (c : ℕ) → (found_in x c ≡ true → found_in y c ≡ true) → (p || found_in x c) ≡ true → (p || found_in y c) ≡ true
more_found p x y c more e = grind (arith, more)

pub arm_more : (pending : ℕ → Bool) (recovery : ℕ → Option Recovering) (n k c : ℕ) (y : Option Recovering) → (found_in (recovery n) c ≡ true → found_in y c ≡ true) → armed pending recovery k c ≡ true → armed pending (with_at recovery n y) k c ≡ true
arm_more pending recovery n k c y more old = at_point (λ x. (pending k || found_in x c) ≡ true) recovery n y k
    (λ is. more_found (pending k) (recovery n) y c more (subst (λ j. (pending k || found_in (recovery j) c) ≡ true) is old)) (λ apart. old)

pub arm_begun : (pending : ℕ → Bool) (recovery : ℕ → Option Recovering) (n d k c : ℕ) → recovery n ≡ None → armed pending recovery k c ≡ true → armed pending (with_at recovery n (Some (begun d))) k c ≡ true
arm_begun pending recovery n d k c none old = arm_more pending recovery n k c (Some (begun d)) (λ e. absurd (clash (found_in (recovery n) c) e (ap (λ x. found_in x c) none))) old

or_more : (a b : Bool) → a ≡ true → (a || b) ≡ true
or_more a b e = grind arith

pub arm_read : (pending : ℕ → Bool) (recovery : ℕ → Option Recovering) (n p i k c : ℕ) (r : Recovering) (has : ℕ → Bool) → recovery n ≡ Some r → armed pending recovery k c ≡ true → armed pending (with_at recovery n (Some (with_found (with_read r p i) has))) k c ≡ true
arm_read pending recovery n p i k c r has is old = arm_more pending recovery n k c (Some (with_found (with_read r p i) has)) (λ e. or_more (r.found c) (has c) (sym (ap (λ x. found_in x c) is) ∙ e)) old

pub arm_clear : (pending : ℕ → Bool) (recovery : ℕ → Option Recovering) (n p i k c : ℕ) (r : Recovering) → recovery n ≡ Some r → armed pending recovery k c ≡ true → armed pending (with_at recovery n (Some (with_cleared r p i))) k c ≡ true
arm_clear pending recovery n p i k c r is old = arm_more pending recovery n k c (Some (with_cleared r p i)) (λ e. sym (ap (λ x. found_in x c) is) ∙ e) old

or_right_true : (a b : Bool) → b ≡ true → (a || b) ≡ true
or_right_true a b e = grind arith

pub arm_of : (pending : ℕ → Bool) (recovery : ℕ → Option Recovering) (n c : ℕ) (r : Recovering) → recovery n ≡ Some r → r.found c ≡ true → armed pending recovery n c ≡ true
arm_of pending recovery n c r is found = or_right_true (pending n) (found_in (recovery n) c) (ap (λ x. found_in x c) is ∙ found)

pub arm_ended : (pending : ℕ → Bool) (recovery : ℕ → Option Recovering) (d n k c : ℕ) → (k == d) ≡ false → (found_in (recovery n) c ≡ true → ⊥) → armed pending recovery k c ≡ true → armed (with_at pending d false) (with_at recovery n None) k c ≡ true
arm_ended pending recovery d n k c apart met old = by (k == n) refl
  where
    by : (b : Bool) → (k == n) ≡ b → (with_at pending d false k || found_in (if b then None else recovery k) c) ≡ true
    by true e = let same = same_point k n e in let none = not_found (found_in (recovery n) c) met in grind (arith, ap (λ j. found_in (recovery j) c) same)
      where
        not_found : (b : Bool) → (b ≡ true → ⊥) → b ≡ false
        not_found true f = absurd (f refl)
        not_found false f = refl
    by false e = grind arith
