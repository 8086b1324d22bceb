-- Tables of places.
use Rattle.std.proofs.Common.{◌≡◌, ℕ, ◌+◌, ◌<◌, inl, inr, List, [], ◌∷◌, ◌++◌, get_or, set, refl, sym, ap, subst, ◌∙◌, arith, length-append}
use Rattle.std.proofs.lemmas.Bool.{cases_lt}
use Rattle.std.proofs.lemmas.List.{get_or_default, get_or_append_left, get_or_push}
use Rattle.dlm_modes.specs.Points.{with_at}
use Rattle.node_copies.specs.Places.{AreAll}
use Rattle.node_bits.proofs.Tables.{table-call}

pub all_none : {A : Type 0} (P : A → Type 0) (d : A) → AreAll A P d 0 []
all_none P d = record { many = refl; each = λ n lt. absurd (omega arith) }

pub all_more : {A : Type 0} (P : A → Type 0) (d : A) (k : ℕ) (xs : List A) (x : A) → AreAll A P d k xs → P x → AreAll A P d (k + 1) (xs ++ x ∷ [])
all_more P d k xs x all so = record {
  many = length-append xs (x ∷ []) ∙ ap (λ n. n + 1) all.many;
  each = λ n lt. elim (cases_lt n k) [
    | inl below ↦ subst P (sym (get_or_append_left xs (x ∷ []) d n (omega (arith, all.many)))) (all.each n below)
    | inr past ↦ subst P (sym (get_or_push xs x d n (omega (arith, all.many)))) so
  ];
}

-- what is found at n
pub all_at : {A : Type 0} (P : A → Type 0) (d : A) (xs : List A) (n : ℕ) (got : A) → AreAll A P d 16 xs → n < 16 → got ≡ get_or xs n got → P got
all_at P d xs n got all lt here = subst P (sym (here ∙ get_or_default xs n got d (omega (arith, all.many)))) (all.each n lt)

pub stands_at : {A B : Type 0} (f : A → B) (P : A → Type 0) (d : A) (xs : List A) (n : ℕ) (got : A) → AreAll A P d 16 xs → n < 16 → got ≡ get_or xs n got → f got ≡ f (get_or xs n d)
stands_at f P d xs n got all lt here = ap f (here ∙ get_or_default xs n got d (omega (arith, all.many)))

-- a call on the place of n
pub place_call : {A B : Type 0} (f : A → B) (P : A → Type 0) (change : B → B) (d : A) (xs : List A) (n : ℕ) (got x : A) → AreAll A P d 16 xs → n < 16 → got ≡ get_or xs n got → f x ≡ change (f got)
    → (λ m. f (get_or (set xs n x) m d)) ≡ with_at (λ m. f (get_or xs m d)) n (change (f (get_or xs n d)))
place_call f P change d xs n got x all lt here is = table-call f change xs n x d got (omega (arith, all.many)) here is
