-- Rows of sectors that were read of legs.
use Rattle.std.specs.Prelude.{◌≡◌, ℕ, ◌+◌, ◌<◌, Bool, true, List, [], length, get_or, Option, Some, None}
use Rattle.mdc_types.specs.Roles.{role_of, is_working}
use Rattle.mdc_types.specs.Sectors.{zero_sector}
use Rattle.mdc_types.specs.declared.roles.Roles.{Roles}
use Rattle.mdc_types.specs.declared.numbers.Sector.{Sector}
use Rattle.image_faults.specs.declared.faults.ImageError.{ImageError}
use Rattle.image_faults.specs.declared.faults.ImageError.TheVariants.{Image, Shelf, Device, Memory}

-- the row is what the leg has from this sector on
pub record IsRow (leg : List Sector) (at : ℕ) (row : List Sector) : Type 0 where
  pub each : (i : ℕ) → i < length row → get_or row i zero_sector ≡ get_or leg (at + i) zero_sector

-- the same where the leg tells
abbrev pub GivesRow : Option (List Sector) → ℕ → List Sector → Type 0
GivesRow None at row = Unit {0}
GivesRow (Some leg) at row = IsRow leg at row

-- why leg l wasn't read, by the counts of all legs
abbrev pub IsReadEnd : ℕ → List ℕ → ImageError → Type 0
IsReadEnd l faults (Device k) = (k ≡ l) × (0 < get_or faults l 0)
IsReadEnd l faults (Memory e) = Unit {0}
IsReadEnd l faults (Image k f) = ⊥
IsReadEnd l faults (Shelf k) = ⊥

abbrev pub works : Roles → ℕ → Bool
works roles l = is_working (role_of roles l)

-- each leg that works has its row of so many sectors from `at` on
pub record AreRowsOf (told : List (Option (List Sector))) (roles : Roles) (at count : ℕ)
    (rows : List (List Sector)) : Type 0 where
  pub many : length rows ≡ length told
  pub each : (l : ℕ) → l < length told → works roles l ≡ true
      → (length (get_or rows l []) ≡ count) × GivesRow (get_or told l None) at (get_or rows l [])
