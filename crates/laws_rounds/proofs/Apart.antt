-- What a change of one holder keeps: any two holders agree.
use Rattle.std.proofs.Common.{◌≡◌, ◌≢◌, ℕ, Bool, true, Option, Some, None, refl, sym, arith}
use Rattle.std.proofs.lemmas.Bool.Decides.{nat_tests}
use Rattle.dlm_modes.specs.Points.{with_at}
use Rattle.dlm_modes.specs.declared.mode.Mode.{Mode}
use Rattle.dlm_modes.specs.declared.mode.Mode.TheVariants.{EX}
use Rattle.dlm_space.specs.Orderly.{agree}
use Rattle.laws_rounds.specs.Invariants.{IsApart}

agree_sym : (a b : Option Mode) → agree a b ≡ true → agree b a ≡ true
agree_sym a b e = grind arith

apart_at : {A : Type 0} (R : A → A → Bool) (f : ℕ → A) (n : ℕ) (v : A) → ((a b : A) → R a b ≡ true → R b a ≡ true) → ((p q : ℕ) → p ≢ q → R (f p) (f q) ≡ true) → ((m : ℕ) → m ≢ n → R v (f m) ≡ true) → (p q : ℕ) → p ≢ q → R (with_at f n v p) (with_at f n v q) ≡ true
apart_at R f n v s h g p q ne = grind (arith, nat_tests, h p q, g p, g q, s v (f p))

pub apart_hold : (f : ℕ → Option Mode) (n : ℕ) (v : Option Mode) → IsApart f → ((m : ℕ) → m ≢ n → agree v (f m) ≡ true) → IsApart (with_at f n v)
apart_hold f n v h g = apart_at agree f n v agree_sym h g

pub apart_none : (f : ℕ → Option Mode) (n : ℕ) → IsApart f → IsApart (with_at f n None)
apart_none f n h = apart_hold f n None h (λ m ne. refl)

-- what agrees with EX agrees with the mode
ex_least : (v : Mode) (b : Option Mode) → agree (Some EX) b ≡ true → agree (Some v) b ≡ true
ex_least v b e = grind arith

agrees_less : (f : ℕ → Option Mode) (n m : ℕ) (v : Mode) → IsApart f → f n ≡ Some EX → m ≢ n → agree (Some v) (f m) ≡ true
agrees_less f n m v h e ne = ex_least v (f m) (rw e at (h n m (λ s. ne (sym s))))

-- a holder of EX goes to another mode
pub apart_less : (f : ℕ → Option Mode) (n : ℕ) (v : Mode) → IsApart f → f n ≡ Some EX → IsApart (with_at f n (Some v))
apart_less f n v h e = apart_hold f n (Some v) h (λ m ne. agrees_less f n m v h e ne)
