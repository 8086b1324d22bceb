-- Places of a table, one for each of so many nodes.
use Rattle.std.specs.Prelude.{◌≡◌, ℕ, ◌<◌, Bool, true, false, List, length, get_or, Option, Some, None}
use Rattle.mdc_types.specs.Geometry.{Sizes}

-- a value that is there while a flag says so
abbrev pub some_if : {A : Type 0} → Bool → A → Option A
some_if true a = Some a
some_if false a = None

-- so many places, and something is so of each; d stands past them
pub record AreAll (A : Type 0) (P : A → Type 0) (d : A) (count : ℕ) (places : List A) : Type 0 where
  pub many : length places ≡ count
  pub each : (n : ℕ) → n < count → P (get_or places n d)

-- the sizes of no array
abbrev pub no_sizes : Sizes
no_sizes = record { legs = 0; sectors = 0; room = 0; chunk = 0; second = false }
