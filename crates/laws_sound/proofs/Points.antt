-- What holds at each point of functions that are changed at one.
use Rattle.std.proofs.Common.{◌≡◌, ℕ, ◌==◌, Bool, true, false, Option, Some, None, refl, sym, subst, arith, if◌then◌else◌}
use Rattle.std.proofs.lemmas.Bool.Decides.{nat_tests}
use Rattle.dlm_modes.specs.Points.{with_at}

pub same_point : (m n : ℕ) → (m == n) ≡ true → m ≡ n
same_point m n e = grind (arith, nat_tests)

-- all hold still where the new one does
pub at_one : {A : Type 0} (P : ℕ → A → Type 0) (f : ℕ → A) (n : ℕ) (v : A) → ((m : ℕ) → P m (f m)) → P n v → (m : ℕ) → P m (with_at f n v m)
at_one P f n v old new m = by (m == n) refl
  where
    by : (b : Bool) → (m == n) ≡ b → P m (if b then v else f m)
    by true e = subst (λ x. P x v) (sym (same_point m n e)) new
    by false e = old m

pub at_two : {A B : Type 0} (P : ℕ → A → B → Type 0) (f : ℕ → A) (g : ℕ → B) (n : ℕ) (v : A) (w : B) → ((m : ℕ) → P m (f m) (g m)) → P n v w → (m : ℕ) → P m (with_at f n v m) (with_at g n w m)
at_two P f g n v w old new m = by (m == n) refl
  where
    by : (b : Bool) → (m == n) ≡ b → P m (if b then v else f m) (if b then w else g m)
    by true e = subst (λ x. P x v w) (sym (same_point m n e)) new
    by false e = old m

pub at_three : {A B C : Type 0} (P : ℕ → A → B → C → Type 0) (f : ℕ → A) (g : ℕ → B) (h : ℕ → C) (n : ℕ) (u : A) (v : B) (w : C) → ((m : ℕ) → P m (f m) (g m) (h m)) → P n u v w → (m : ℕ) → P m (with_at f n u m) (with_at g n v m) (with_at h n w m)
at_three P f g h n u v w old new m = by (m == n) refl
  where
    by : (b : Bool) → (m == n) ≡ b → P m (if b then u else f m) (if b then v else g m) (if b then w else h m)
    by true e = subst (λ x. P x u v w) (sym (same_point m n e)) new
    by false e = old m

-- what is found holds still: the new one, and none
pub some_at : {A : Type 0} (P : ℕ → A → Type 0) (f : ℕ → Option A) (n : ℕ) (x : Option A) → ((m : ℕ) (a : A) → f m ≡ Some a → P m a) → ((a : A) → x ≡ Some a → P n a) → (m : ℕ) (a : A) → with_at f n x m ≡ Some a → P m a
some_at P f n x old new m a is = by (m == n) refl is
  where
    by : (b : Bool) → (m == n) ≡ b → (if b then x else f m) ≡ Some a → P m a
    by true e is = subst (λ k. P k a) (sym (same_point m n e)) (new a is)
    by false e is = old m a is

pub none_at : {A : Type 0} (P : ℕ → A → Type 0) (f : ℕ → Option A) (n : ℕ) → ((m : ℕ) (a : A) → f m ≡ Some a → P m a) → (m : ℕ) (a : A) → with_at f n None m ≡ Some a → P m a
none_at P f n old = some_at P f n None old (λ a is. cc)

pub some_is : {A : Type 0} (P : A → Type 0) (v : A) → P v → (a : A) → Some v ≡ Some a → P a
some_is P v p a is = let e : v ≡ a = cc in subst P e p
