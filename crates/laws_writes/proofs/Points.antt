-- At a point where something changed, and at the others.
use Rattle.std.proofs.Common.{◌≡◌, ℕ, ◌==◌, ◌&&◌, ◌||◌, Bool, true, false, if◌then◌else◌, refl, arith}
use Rattle.std.proofs.lemmas.Bool.Decides.{nat_tests}
use Rattle.dlm_modes.specs.Points.{with_at}

pub same_point : (m n : ℕ) → (m == n) ≡ true → m ≡ n
same_point m n e = grind (arith, nat_tests)

pub either_if : {A : Type 0} (P : A → Type 0) (b : Bool) (v u : A) → (b ≡ true → P v) → (b ≡ false → P u) → P (if b then v else u)
either_if P true v u new old = new refl
either_if P false v u new old = old refl

pub at_point : {A : Type 0} (P : A → Type 0) (f : ℕ → A) (n : ℕ) (v : A) (m : ℕ) → (m ≡ n → P v) → ((m == n) ≡ false → P (f m)) → P (with_at f n v m)
at_point P f n v m new old = either_if P (m == n) v (f m) (λ e. new (same_point m n e)) old

pub fails : (b c : Bool) → (b ≡ true → c ≡ true) → c ≡ false → b ≡ false
fails b c f e = grind (arith, f)

pub clash : (b : Bool) → b ≡ true → b ≡ false → ⊥
clash b t f = cc

pub and_left : (a b : Bool) → (a && b) ≡ true → a ≡ true
and_left a b e = grind arith

pub and_right : (a b : Bool) → (a && b) ≡ true → b ≡ true
and_right a b e = grind arith

pub or_right : (a b : Bool) → a ≡ false → (a || b) ≡ true → b ≡ true
or_right a b n e = grind arith

pub or_left_true : (a b : Bool) → a ≡ true → (a || b) ≡ true
or_left_true a b e = grind arith

pub else_is : (b : Bool) (m n : ℕ) → b ≡ false → (if b then m else n) ≡ n
else_is b m n e = grind arith
