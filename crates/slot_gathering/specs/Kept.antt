-- What is kept of a gathering, as plain data.
use Rattle.std.specs.Prelude.{◌≡◌, ℕ, ◌≤◌, Bool, false, List, get_or}
use Rattle.mdc_types.specs.Geometry.{Sizes, chunks_of, most_chunks}
use Rattle.slot_gathering.specs.Gatherings.{Gathering, all_pages}

pub record Kept : Type 0 where
  -- those of the array
  pub sizes : Sizes
  -- how many pages were gathered
  pub next : ℕ
  -- by chunk
  pub gathered : List Bool

-- the gathering that they stand for
abbrev pub gathering_of : Kept → Gathering
gathering_of k = record { next = k.next; gathered = λ c. get_or k.gathered c false }

-- there is a flag for each chunk, of which there are as few as in any array, and no page is
-- gathered twice
pub record IsKept (g : Sizes) (next flags : ℕ) : Type 0 where
  pub chunks : flags ≡ chunks_of g
  pub bits : chunks_of g ≤ most_chunks g
  pub pages : next ≤ all_pages g
