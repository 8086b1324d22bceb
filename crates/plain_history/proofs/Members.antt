-- Which values are among the candidates.
use Rattle.std.proofs.Common.{◌≡◌, ◌⊎◌, zero, suc, List, [], ◌∷◌, ◌++◌, refl, subst, inl, inr, arith}
use Rattle.std.specs.List.{Contains}
use Rattle.mdc_types.specs.declared.numbers.Sector.{Sector}
use Rattle.plain_history.specs.History.{IsIn, here, there}

-- the last value, and those before it
pub IsIn-last : (v : Sector) (vs : List Sector) → IsIn v (vs ++ v ∷ [])
IsIn-last v [] = here
IsIn-last v (u ∷ vs) = there (IsIn-last v vs)

pub IsIn-kept : (v u : Sector) (vs : List Sector) → IsIn v vs → IsIn v (vs ++ u ∷ [])
IsIn-kept v u [] has = elim has [ ]
IsIn-kept v u (w ∷ vs) here = here
IsIn-kept v u (w ∷ vs) (there more) = there (IsIn-kept v u vs more)

pub IsIn-cases : (v u : Sector) (vs : List Sector) → IsIn v (vs ++ u ∷ []) → IsIn v vs ⊎ (v ≡ u)
IsIn-cases v u [] here = inr refl
IsIn-cases v u [] (there more) = elim more [ ]
IsIn-cases v u (w ∷ vs) here = inl here
IsIn-cases v u (w ∷ vs) (there more) = elim (IsIn-cases v u vs more) [ inl before ↦ inl (there before) | inr same ↦ inr same ]

-- a lone value
pub IsIn-only : (v u : Sector) → IsIn v (u ∷ []) → v ≡ u
IsIn-only v u here = refl
IsIn-only v u (there more) = elim more [ ]

pub IsIn-none : {A : Type 0} (v : Sector) → IsIn v [] → A
IsIn-none v has = elim has [ ]

-- between `IsIn` and std's word
pub IsIn-from_contains : (v : Sector) (vs : List Sector) → Contains vs v → IsIn v vs
IsIn-from_contains v [] has = absurd (omega (arith, has.1))
IsIn-from_contains v (u ∷ vs) (zero, lt, is) = subst (λ w. IsIn w (u ∷ vs)) is here
IsIn-from_contains v (u ∷ vs) (suc k, lt, is) = there (IsIn-from_contains v vs (k, omega (arith, lt), is))

pub Contains-from_in : (v : Sector) (vs : List Sector) → IsIn v vs → Contains vs v
Contains-from_in v [] has = elim has [ ]
Contains-from_in v (u ∷ vs) here = (0, omega arith, refl)
Contains-from_in v (u ∷ vs) (there more) = let later = Contains-from_in v vs more in (suc later.0, omega (arith, later.1), later.2)
