-- Legs of a header in memory.
use Rattle.std.specs.Prelude.{◌≡◌, ◌<◌, ℕ, List, length, map, get_or, None}
use Rattle.mdc_types.specs.Geometry.{length_of}
use Rattle.mdc_types.specs.Sectors.{zero_sector}
use Rattle.mdc_types.specs.declared.numbers.Sector.{Sector}
use Rattle.leg_store.specs.Memory.{Memory, told}
use Rattle.cluster_model.specs.Opening.{Origin}
use Rattle.cluster_model.specs.Contents.{header_sector}
use Rattle.world_state.specs.Told.{sectors_of}

abbrev pub sectors_at : List Memory → ℕ → List Sector
sectors_at legs l = sectors_of (get_or (map told legs) l None)

-- these are the first n legs of the header
pub record AreHeaderLegs (o : Origin) (n : ℕ) (legs : List Memory) : Type 0 where
  pub count : length legs ≡ n
  pub lengths : (l : ℕ) → l < n → length (sectors_at legs l) ≡ length_of o.sizes
  pub sectors : (l at : ℕ) → l < n → at < length_of o.sizes
      → get_or (sectors_at legs l) at zero_sector ≡ header_sector o l at
