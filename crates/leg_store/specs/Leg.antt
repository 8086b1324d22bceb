-- What the calls of a leg do to its contents, where these are told.
use Rattle.std.specs.Prelude.{◌≡◌, ◌⊎◌, ℕ, List, length, slice_get, slice_set, Option, Some, None}
use Rattle.mdc_types.specs.declared.numbers.Sector.{Sector}

-- a read gives the sector, and anything where the contents aren't told
abbrev pub Gives : Option (List Sector) → ℕ → Sector → Type 0
Gives None at v = Unit {0}
Gives (Some c) at v = slice_get c at ≡ Some v

-- the contents with a sector replaced
abbrev pub put : Option (List Sector) → ℕ → Sector → Option (List Sector)
put None at v = None
put (Some c) at v = Some (slice_set c at v)

-- a write that failed leaves the old sector or the new one, and all else
abbrev pub LeftOldOrNew : Option (List Sector) → ℕ → Sector → Option (List Sector) → Type 0
LeftOldOrNew old at v new = (new ≡ old) ⊎ (new ≡ put old at v)

-- what is told has so many sectors
abbrev pub HasLength : Option (List Sector) → ℕ → Type 0
HasLength None n = Unit {0}
HasLength (Some c) n = length c ≡ n
