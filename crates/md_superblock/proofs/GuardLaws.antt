-- What lets through: each guard of a list.
use Rattle.std.proofs.Common.{◌≡◌, Bool, true, false, [], ◌∷◌, Option, Some, None, refl}
use Rattle.std.specs.Option.{option_map}
use Rattle.dlm_modes.specs.Guards.{unless, or_then, first_of}

pub three_pass : {R : Type 0} (a b c : Bool) (p q r : R)
    → first_of (unless a p ∷ unless b q ∷ unless c r ∷ []) ≡ None → (a ≡ true) × (b ≡ true) × (c ≡ true)
three_pass true true true p q r e = (refl, refl, refl)
three_pass true true false p q r e = cc
three_pass true false c p q r e = cc
three_pass false b c p q r e = cc

pub four_pass : {R : Type 0} (a b c d : Bool) (p q r s : R)
    → first_of (unless a p ∷ unless b q ∷ unless c r ∷ unless d s ∷ []) ≡ None → (a ≡ true) × (b ≡ true) × (c ≡ true) × (d ≡ true)
four_pass true true true true p q r s e = (refl, refl, refl, refl)
four_pass true true true false p q r s e = cc
four_pass true true false d p q r s e = cc
four_pass true false c d p q r s e = cc
four_pass false b c d p q r s e = cc

pub five_pass : {R : Type 0} (a b c d f : Bool) (p q r s t : R)
    → first_of (unless a p ∷ unless b q ∷ unless c r ∷ unless d s ∷ unless f t ∷ []) ≡ None
    → (a ≡ true) × (b ≡ true) × (c ≡ true) × (d ≡ true) × (f ≡ true)
five_pass true true true true true p q r s t e = (refl, refl, refl, refl, refl)
five_pass true true true true false p q r s t e = cc
five_pass true true true false f p q r s t e = cc
five_pass true true false d f p q r s t e = cc
five_pass true false c d f p q r s t e = cc
five_pass false b c d f p q r s t e = cc

pub three_none : {R : Type 0} (a b c : Option R) → first_of (a ∷ b ∷ c ∷ []) ≡ None → (a ≡ None) × (b ≡ None) × (c ≡ None)
three_none None None None e = (refl, refl, refl)
three_none None None (Some z) e = cc
three_none None (Some y) c e = cc
three_none (Some x) b c e = cc

pub option_map_none : {A R : Type 0} (f : A → R) (a : Option A) → option_map f a ≡ None → a ≡ None
option_map_none f None e = refl
option_map_none f (Some x) e = cc

pub then_none : {R : Type 0} (a : Option R) (b : Bool) (r : R) → or_then a (unless b r) ≡ None → (a ≡ None) × (b ≡ true)
then_none None true r e = (refl, refl)
then_none None false r e = cc
then_none (Some x) b r e = cc
