-- Several rows of sectors, the last one first.
use Rattle.std.specs.Prelude.{◌≡◌, ℕ, Bool, false, ◌||◌, min, List, [], ◌∷◌, length, Option, Some, None}
use Rattle.dlm_modes.specs.First.{first_such}
use Rattle.mdc_types.specs.declared.numbers.Sector.{Sector}
use Rattle.image_faults.specs.Compare.{differs_at}

-- the row differs from one of these at this place
abbrev pub differs_from : List Sector → List (List Sector) → ℕ → Bool
differs_from a [] s = false
differs_from a (b ∷ rows) s = differs_at a b s || differs_from a rows s

-- two of them differ at this place
abbrev pub two_differ : List (List Sector) → ℕ → Bool
two_differ [] s = false
two_differ (a ∷ rows) s = differs_from a rows s || two_differ rows s

-- the first place in which two of them differ, where each has n sectors
abbrev pub first_where_two_differ : ℕ → List (List Sector) → Option ℕ
first_where_two_differ n rows = first_such (two_differ rows) 0 n

-- the row that came first
abbrev pub oldest : List (List Sector) → Option (List Sector)
oldest [] = None
oldest (a ∷ []) = Some a
oldest (a ∷ b ∷ rows) = oldest (b ∷ rows)

-- what is kept of rows: the one that came first, and the first place in which two differ
pub record Kept : Type 0 where
  pub first : Option (List Sector)
  pub place : Option ℕ

-- this is kept of these rows, each of n sectors
pub record IsKeptOf (n : ℕ) (rows : List (List Sector)) (kept : Kept) : Type 0 where
  pub lengths : (a : List Sector) → kept.first ≡ Some a → length a ≡ n
  pub first : kept.first ≡ oldest rows
  pub place : kept.place ≡ first_where_two_differ n rows

abbrev pub lesser : Option ℕ → Option ℕ → Option ℕ
lesser None b = b
lesser (Some a) None = Some a
lesser (Some a) (Some b) = Some (min a b)
