-- What a change of one holder keeps: any two holders agree.
use Rattle.std.proofs.Common.{◌≡◌, ◌≢◌, ◌≤◌, ℕ, Bool, true, false, not, Option, Some, None, refl, sym, ap, arith}
use Rattle.std.proofs.lemmas.Bool.Decides.{nat_tests}
use Rattle.dlm_modes.proofs.FirstLaws.{first_such_some}
use Rattle.dlm_modes.specs.First.{first_such}
use Rattle.dlm_modes.specs.Points.{with_at}
use Rattle.dlm_modes.specs.declared.mode.Mode.{Mode}
use Rattle.dlm_modes.specs.declared.mode.Mode.TheVariants.{EX}
use Rattle.dlm_space.specs.Locks.{Lock, is_against, blocker}
use Rattle.dlm_space.specs.Orderly.{agree}
use Rattle.dlm_space.proofs.GuardLaws.{none_against}
use Rattle.laws_rounds.specs.Invariants.{IsApart}

agree_sym : (a b : Option Mode) → agree a b ≡ true → agree b a ≡ true
agree_sym a b e = grind arith

apart_at : {A : Type 0} (R : A → A → Bool) (f : ℕ → A) (n : ℕ) (v : A) → ((a b : A) → R a b ≡ true → R b a ≡ true) → ((p q : ℕ) → p ≢ q → R (f p) (f q) ≡ true) → ((m : ℕ) → m ≢ n → R v (f m) ≡ true) → (p q : ℕ) → p ≢ q → R (with_at f n v p) (with_at f n v q) ≡ true
apart_at R f n v s h g p q ne = grind (arith, nat_tests, h p q, g p, g q, s v (f p))

pub apart_hold : (f : ℕ → Option Mode) (n : ℕ) (v : Option Mode) → IsApart f → ((m : ℕ) → m ≢ n → agree v (f m) ≡ true) → IsApart (with_at f n v)
apart_hold f n v h g = apart_at agree f n v agree_sym h g

pub apart_none : (f : ℕ → Option Mode) (n : ℕ) → IsApart f → IsApart (with_at f n None)
apart_none f n h = apart_hold f n None h (λ m ne. refl)

ex_least : (v : Mode) (b : Option Mode) → agree (Some EX) b ≡ true → agree (Some v) b ≡ true
ex_least v b e = grind arith

agrees_less : (f : ℕ → Option Mode) (n m : ℕ) (v : Mode) → IsApart f → f n ≡ Some EX → m ≢ n → agree (Some v) (f m) ≡ true
agrees_less f n m v h e ne = ex_least v (f m) (rw e at (h n m (λ s. ne (sym s))))

-- a holder of EX goes to another mode
pub apart_less : (f : ℕ → Option Mode) (n : ℕ) (v : Mode) → IsApart f → f n ≡ Some EX → IsApart (with_at f n (Some v))
apart_less f n v h e = apart_hold f n (Some v) h (λ m ne. agrees_less f n m v h e ne)

-- Who is in the way.

-- all others agree, where the lock space found nobody
pub others_agree : (lock : Lock) (n : ℕ) (mode : Mode) → ((m : ℕ) → 16 ≤ m → lock.held m ≡ None) → blocker lock n mode ≡ None → (m : ℕ) → m ≢ n → agree (Some mode) (lock.held m) ≡ true
others_agree lock n mode far e m ne = ap not (none_against lock n mode far e m ne)

no_first : (p : ℕ → Bool) → ((k : ℕ) → p k ≡ false) → first_such p 0 16 ≡ None
no_first p none = by_found (first_such p 0 16) refl
  where
    by_found : (x : Option ℕ) → first_such p 0 16 ≡ x → x ≡ None
    by_found None e = refl
    by_found (Some k) e = let yes = (first_such_some p 0 16 k e).passes in let no = none k in cc

against_not : (lock : Lock) (n : ℕ) (mode : Mode) → ((m : ℕ) → m ≢ n → agree (Some mode) (lock.held m) ≡ true) → (m : ℕ) → is_against lock n mode m ≡ false
against_not lock n mode free m = grind (arith, nat_tests, free m)

-- and the other way
pub nobody_blocks : (lock : Lock) (n : ℕ) (mode : Mode) → ((m : ℕ) → m ≢ n → agree (Some mode) (lock.held m) ≡ true) → blocker lock n mode ≡ None
nobody_blocks lock n mode free = no_first (is_against lock n mode) (against_not lock n mode free)
