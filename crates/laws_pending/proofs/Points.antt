-- At a point where something changed, and at the others; and what bounded searches tell.
use Rattle.std.proofs.Common.{◌≡◌, ℕ, ◌<◌, ◌==◌, Bool, true, false, not, if◌then◌else◌, Option, Some, None, refl, sym, ap, ◌∙◌, arith}
use Rattle.std.specs.Prelude.{is_some, is_none}
use Rattle.std.proofs.lemmas.Bool.Decides.{nat_tests}
use Rattle.dlm_modes.proofs.FirstLaws.{first_such_some, first_such_none, first_such_has}
use Rattle.dlm_modes.specs.First.{first_such, each_such}
use Rattle.dlm_modes.specs.Points.{with_at}

pub same_point : (m n : ℕ) → (m == n) ≡ true → m ≡ n
same_point m n e = grind (arith, nat_tests)

pub apart_sym : (m n : ℕ) → (m == n) ≡ false → (n == m) ≡ false
apart_sym m n e = grind (arith, nat_tests)

pub either_if : {A : Type 0} (P : A → Type 0) (b : Bool) (v u : A) → (b ≡ true → P v) → (b ≡ false → P u) → P (if b then v else u)
either_if P true v u new old = new refl
either_if P false v u new old = old refl

pub at_point : {A : Type 0} (P : A → Type 0) (f : ℕ → A) (n : ℕ) (v : A) (m : ℕ) → (m ≡ n → P v) → ((m == n) ≡ false → P (f m)) → P (with_at f n v m)
at_point P f n v m new old = either_if P (m == n) v (f m) (λ e. new (same_point m n e)) old

pub clash : (b : Bool) → b ≡ true → b ≡ false → ⊥
clash b t f = cc

pub by_test : {P : Type 0} (b : Bool) → (b ≡ true → P) → (b ≡ false → P) → P
by_test true t f = t refl
by_test false t f = f refl

pub if_true : (b x y : Bool) → b ≡ true → (if b then x else y) ≡ true → x ≡ true
if_true b x y t e = grind arith

pub if_false : (b x y u : Bool) → b ≡ false → (if b then x else y) ≡ u → y ≡ u
if_false b x y u f e = grind arith

pub some_one : (x : Option ℕ) → is_some x ≡ true → (k : ℕ) × (x ≡ Some k)
some_one None e = cc
some_one (Some k) e = (k, refl)

-- what a search found passes
pub has_such : (f : ℕ → Bool) (n : ℕ) → is_some (first_such f 0 n) ≡ true → (k : ℕ) × ((k < n) × (f k ≡ true))
has_such f n e =
    let one = some_one (first_such f 0 n) e in
    let first = first_such_some f 0 n one.0 one.1 in
    (one.0, (omega (arith, first.below), first.passes))

pub such_one : (f : ℕ → Bool) (n k : ℕ) → k < n → f k ≡ true → is_some (first_such f 0 n) ≡ true
such_one f n k lt e = first_such_has f 0 n k (omega arith) (omega arith) e

-- where each passes, this one does; and the other way
pub each_one : (f : ℕ → Bool) (n k : ℕ) → each_such f 0 n ≡ true → k < n → f k ≡ true
each_one f n k each lt = by (first_such (λ j. not (f j)) 0 n) refl
  where
    double : (b : Bool) → not b ≡ false → b ≡ true
    double b e = grind arith

    by : (x : Option ℕ) → first_such (λ j. not (f j)) 0 n ≡ x → f k ≡ true
    by None e = double (f k) (first_such_none (λ j. not (f j)) 0 n e k (omega arith) (omega arith))
    by (Some j) e = let some : is_none (Some j) ≡ true = sym (ap is_none e) ∙ each in cc

pub each_of : (f : ℕ → Bool) (n : ℕ) → ((k : ℕ) → k < n → f k ≡ true) → each_such f 0 n ≡ true
each_of f n all = by (first_such (λ j. not (f j)) 0 n) refl
  where
    fails : (b : Bool) → b ≡ true → not b ≡ true → ⊥
    fails b t e = grind arith

    by : (x : Option ℕ) → first_such (λ j. not (f j)) 0 n ≡ x → is_none (first_such (λ j. not (f j)) 0 n) ≡ true
    by None e = ap is_none e
    by (Some j) e = let first = first_such_some (λ j. not (f j)) 0 n j e in absurd (fails (f j) (all j (omega (arith, first.below))) first.passes)
