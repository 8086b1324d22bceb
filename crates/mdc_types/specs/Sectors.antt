-- Sectors as lists of bytes.
use Rattle.std.specs.Prelude.{◌≡◌, ℕ, ◌<◌, List, length, slice_index, replicate}
use Rattle.mdc_types.specs.declared.numbers.Sector.{Sector}

-- 512 bytes
pub record IsSector (bytes : List ℕ) : Type 0 where
  pub size : length bytes ≡ 512
  pub each : (i : ℕ) → slice_index bytes i < 256

-- 512 zero bytes
abbrev pub zero_sector : Sector
zero_sector = record { bytes = replicate 512 0 }
