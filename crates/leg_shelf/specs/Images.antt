-- A file as the sectors of a leg.
use Rattle.std.specs.Prelude.{ℕ, ◌+◌, ◌-◌, ◌*◌, ◌/◌, ◌^◌, min, List, [], ◌++◌, length, map}
use Rattle.std.specs.Prelude.{drop, slice_range, unwrap_or, Option}
use Rattle.std.specs.List.{flat_map, range_with_len}
use Rattle.mdc_types.specs.declared.numbers.Sector.{Sector}

-- sector k of the bytes
abbrev pub sector_at : List ℕ → ℕ → Sector
sector_at bytes k = record { bytes = slice_range bytes (512 * k) (512 * k + 512) }

-- whole sectors in so many bytes, of which a leg has at most 2^32 - 1
abbrev pub whole_sectors : ℕ → ℕ
whole_sectors size = min (size / 512) (2 ^ 32 - 1)

-- the sectors of the leg of these bytes
abbrev pub sectors_in : List ℕ → List Sector
sectors_in bytes = map (sector_at bytes) (range_with_len 0 (whole_sectors (length bytes)))

-- the bytes of sectors, one after another
abbrev pub bytes_of : List Sector → List ℕ
bytes_of sectors = flat_map (λ s. s.bytes) sectors

-- the sectors, followed by what the file had past them
abbrev pub with_sectors : Option (List ℕ) → List Sector → List ℕ
with_sectors old sectors = bytes_of sectors ++ drop (512 * length sectors) (unwrap_or old [])
