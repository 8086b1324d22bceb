-- Tables with one entry that changes.
use Rattle.std.proofs.Common.{◌≡◌, ℕ, ◌<◌, ◌==◌, inl, inr, List, length, get_or, set, ap, ◌∙◌, arith, if◌then◌else◌}
use Rattle.std.proofs.Math.Path.{fun_ext}
use Rattle.std.proofs.lemmas.Bool.Decides.{nat_tests}
use Rattle.std.proofs.lemmas.Bool.{cases_eq}
use Rattle.std.proofs.lemmas.List.{get_or_default, get_or-set_same, get_or-set_other}
use Rattle.dlm_modes.specs.Points.{with_at}

-- what is read of a list with one element replaced
pub get-set : {A : Type 0} (xs : List A) (n m : ℕ) (v d : A) → n < length xs → get_or (set xs n v) m d ≡ (if m == n then v else get_or xs m d)
get-set xs n m v d lt = elim (cases_eq m n) [
  | inl same ↦ grind (arith, nat_tests, get_or-set_same)
  | inr other ↦ grind (arith, nat_tests, get_or-set_other)
]

moved : {A B : Type 0} (f : A → B) (n m : ℕ) (v w got : A) → got ≡ (if m == n then v else w) → f got ≡ (if m == n then f v else f w)
moved f n m v w got e = grind (arith, nat_tests, e)

-- the entry of n is replaced
pub table-set : {A B : Type 0} (f : A → B) (xs : List A) (n : ℕ) (v d : A) → n < length xs
    → (λ m. f (get_or (set xs n v) m d)) ≡ with_at (λ m. f (get_or xs m d)) n (f v)
table-set f xs n v d lt = fun_ext (λ m. moved f n m v (get_or xs m d) (get_or (set xs n v) m d) (get-set xs n m v d lt))

-- a call on the entry of n, which was found there
pub table-call : {A B : Type 0} (f : A → B) (change : B → B) (xs : List A) (n : ℕ) (v d got : A) → n < length xs
    → got ≡ get_or xs n got → f v ≡ change (f got)
    → (λ m. f (get_or (set xs n v) m d)) ≡ with_at (λ m. f (get_or xs m d)) n (change (f (get_or xs n d)))
table-call f change xs n v d got lt here is =
    table-set f xs n v d lt
    ∙ ap (with_at (λ m. f (get_or xs m d)) n) (is ∙ ap (λ x. change (f x)) (here ∙ get_or_default xs n got d lt))
