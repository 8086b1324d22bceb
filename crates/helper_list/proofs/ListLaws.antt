-- What lines give, one after another.
use Rattle.std.proofs.Common.{◌≡◌, ℕ, zero, suc, ◌+◌, ◌-◌, ◌<◌, ◌≤◌, ◌&&◌, Bool, true, false, List, [], ◌∷◌, ◌++◌, length, get_or, take, Option, Some, None, refl, ap, sym, ◌∙◌, arith, if◌then◌else◌}
use Rattle.std.specs.Prelude.{is_some}
use Rattle.std.proofs.lemmas.List.{take_more, append-nil}
use Rattle.dlm_modes.specs.Guards.{first_of}
use Rattle.dlm_modes.specs.First.{first_such}
use Rattle.mdc_types.specs.Geometry.{nodes_of}
use Rattle.mdc_types.specs.declared.events.Event.{Event}
use Rattle.cluster_model.specs.State.{Core, sizes}
use Rattle.driver_rules.specs.Helpers.{found, first_in, first_of_node, first_enabled, is_live, has_help, next_help}

-- the first that was found
pub first_found : {A : Type 0} (xs : List (Option A)) → first_in (found xs) ≡ first_of xs
first_found [] = refl
first_found (None ∷ xs) = first_found xs
first_found (Some a ∷ xs) = refl

pub found_append : {A : Type 0} (xs ys : List (Option A)) → found (xs ++ ys) ≡ found xs ++ found ys
found_append [] ys = refl
found_append (None ∷ xs) ys = found_append xs ys
found_append (Some a ∷ xs) ys = ap (λ zs. a ∷ zs) (found_append xs ys)

pub first_append_some : {A : Type 0} (xs ys : List (Option A)) (a : A) → first_of xs ≡ Some a → first_of (xs ++ ys) ≡ Some a
first_append_some [] ys a is = cc
first_append_some (None ∷ xs) ys a is = first_append_some xs ys a is
first_append_some (Some b ∷ xs) ys a is = is

pub first_append_none : {A : Type 0} (xs ys : List (Option A)) → first_of xs ≡ None → first_of (xs ++ ys) ≡ first_of ys
first_append_none [] ys is = refl
first_append_none (None ∷ xs) ys is = first_append_none xs ys is
first_append_none (Some b ∷ xs) ys is = cc

-- the help of a node that may be live

pub helps : {A : Type 0} (live : Bool) (x : Option A) (a : A) → (if live then x else None) ≡ Some a → (live && is_some x) ≡ true
helps true x a is = ap is_some is
helps false x a is = cc

pub helped_by : {A : Type 0} (live : Bool) (x : Option A) (a : A) → (if live then x else None) ≡ Some a → x ≡ Some a
helped_by true x a is = is
helped_by false x a is = cc

pub no_help : {A : Type 0} (live : Bool) (x : Option A) → (if live then x else None) ≡ None → (live && is_some x) ≡ false
no_help true x is = ap is_some is
no_help false x is = refl

-- one line more

take_one : {A : Type 0} (xs : List A) (i : ℕ) (d : A) → i < length xs → take (i + 1) xs ≡ take i xs ++ get_or xs i d ∷ []
take_one xs i d lt = take_more xs i d lt

pub found_some : {A : Type 0} (xs : List (Option A)) (i : ℕ) (d : Option A) (a : A) → i < length xs → get_or xs i d ≡ Some a → found (take (i + 1) xs) ≡ found (take i xs) ++ a ∷ []
found_some xs i d a lt is = ap found (take_one xs i d lt) ∙ found_append (take i xs) (get_or xs i d ∷ []) ∙ ap (λ x. found (take i xs) ++ found (x ∷ [])) is

pub found_none : {A : Type 0} (xs : List (Option A)) (i : ℕ) (d : Option A) → i < length xs → get_or xs i d ≡ None → found (take (i + 1) xs) ≡ found (take i xs)
found_none xs i d lt is = ap found (take_one xs i d lt) ∙ found_append (take i xs) (get_or xs i d ∷ []) ∙ ap (λ x. found (take i xs) ++ found (x ∷ [])) is ∙ append-nil (found (take i xs))
