-- Lists with one element replaced, as functions of the place.
use Rattle.std.proofs.Common.{◌≡◌, ℕ, ◌<◌, ◌==◌, if◌then◌else◌, zero, suc, List, [], ◌∷◌, length, arith}
use Rattle.std.proofs.Common.{refl, set}
use Rattle.std.proofs.Math.Path.{fun_ext}
use Rattle.std.specs.Prelude.{get_or}
use Rattle.dlm_modes.specs.Points.{with_at}

-- what is read of a list with one element replaced
pub get-set : {A : Type 0} (xs : List A) (n m : ℕ) (v d : A) → n < length xs
    → get_or (set xs n v) m d ≡ (if m == n then v else get_or xs m d)
get-set [] n m v d lt = absurd (omega (arith, lt))
get-set (x ∷ xs) zero zero v d lt = refl
get-set (x ∷ xs) zero (suc m) v d lt = grind arith
get-set (x ∷ xs) (suc n) zero v d lt = grind arith
get-set (x ∷ xs) (suc n) (suc m) v d lt = grind (arith, get-set xs n m v d (omega (arith, lt)))

-- the list as a function, read through f
pub point-set : {A B : Type 0} (f : A → B) (xs : List A) (n : ℕ) (v d : A) → n < length xs
    → (λ m. f (get_or (set xs n v) m d)) ≡ with_at (λ m. f (get_or xs m d)) n (f v)
point-set f xs n v d lt = fun_ext (λ m. grind (arith, get-set xs n m v d lt))
