-- Guards in order.
use Rattle.std.proofs.Common.{◌≡◌, Option, Some, None, List, ◌∷◌, refl}
use Rattle.mdc_types.specs.declared.refusals.Refusal.{Refusal}
use Rattle.dlm_modes.specs.Guards.{first_of}

pub first_of_some : (g : Option Refusal) (r : Refusal) (rest : List (Option Refusal)) → g ≡ Some r → first_of (g ∷ rest) ≡ Some r
first_of_some g r rest is = rw is refl

pub first_of_none : (g : Option Refusal) (rest : List (Option Refusal)) → g ≡ None → first_of (g ∷ rest) ≡ first_of rest
first_of_none g rest is = rw is refl
