-- The sizes of an array.
use Rattle.std.specs.Prelude.{◌≡◌, ℕ, ◌+◌, ◌-◌, ◌*◌, ◌/◌, ◌≤◌, ◌==◌, nat_lt, nat_le, min, Bool, true, not, ◌||◌, if◌then◌else◌, Result, Ok, Err}
use Rattle.mdc_types.specs.declared.geometry.GeomError.{GeomError}
use Rattle.mdc_types.specs.declared.geometry.GeomError.TheVariants.{Legs, Sectors, Room, Chunk, Bits}

pub record Sizes : Type 0 where
  pub legs : ℕ
  -- of the array, and of what each leg has room for
  pub sectors : ℕ
  pub room : ℕ
  -- in sectors
  pub chunk : ℕ
  -- whether the image version is 2
  pub second : Bool

-- the least number of parts of this size that cover so many
abbrev pub parts_of : ℕ → ℕ → ℕ
parts_of count size = (count + (size - 1)) / size

abbrev pub chunks_of : Sizes → ℕ
chunks_of g = parts_of g.room g.chunk

-- a slot has this many bits
abbrev pub most_chunks : Sizes → ℕ
most_chunks g = if g.second then 63488 else 30720

-- a power of two up to 1024
abbrev pub chunk_size_test : ℕ → Bool
chunk_size_test c = (c == 1) || (c == 2) || (c == 4) || (c == 8) || (c == 16) || (c == 32) || (c == 64) || (c == 128) || (c == 256) || (c == 512) || (c == 1024)

-- the first bound that is passed, or the sizes
abbrev pub checked : Sizes → Result Sizes GeomError
checked g =
    if nat_lt g.legs 2 || nat_lt 8 g.legs then Err Legs
    else if nat_lt g.sectors 1 || nat_lt 131072 g.sectors then Err Sectors
    else if nat_lt g.room g.sectors || nat_lt 131072 g.room then Err Room
    else if not (chunk_size_test g.chunk) then Err Chunk
    else if nat_lt (most_chunks g) (chunks_of g) then Err Bits
    else Ok g

abbrev pub geometry_of : ℕ → ℕ → ℕ → ℕ → Bool → Result Sizes GeomError
geometry_of legs sectors room chunk second = checked (record { legs = legs; sectors = sectors; room = room; chunk = chunk; second = second })

-- the sizes are within the bounds
pub record IsGeometry (g : Sizes) : Type 0 where
  pub legs : (2 ≤ g.legs) × (g.legs ≤ 8)
  pub sectors : (1 ≤ g.sectors) × (g.sectors ≤ g.room)
  pub room : g.room ≤ 131072
  pub chunk : chunk_size_test g.chunk ≡ true
  pub bits : chunks_of g ≤ most_chunks g

-- nodes that there may be, each with its bitmap slot
abbrev pub nodes_of : Sizes → ℕ
nodes_of g = if g.second then 16 else 8

-- where data sector 0 lies on a leg: by whether the image version is 2, and of an array
abbrev pub data_offset_of : Bool → ℕ
data_offset_of second = if second then 272 else 80

abbrev pub data_offset : Sizes → ℕ
data_offset g = data_offset_of g.second

-- the sectors of a leg
abbrev pub length_of : Sizes → ℕ
length_of g = data_offset g + g.room

-- pages that a slot has room for
abbrev pub slot_pages : Sizes → ℕ
slot_pages g = if g.second then 16 else 8

-- where page p of slot n lies on a leg
abbrev pub page_sector : Sizes → ℕ → ℕ → ℕ
page_sector g n p = 16 + slot_pages g * n + p

-- page 0 has 2048 bits, and each page after it 4096
abbrev pub page_of : ℕ → ℕ
page_of c = if nat_lt c 2048 then 0 else 1 + (c - 2048) / 4096

-- pages of a slot in use
abbrev pub pages_of : Sizes → ℕ
pages_of g = if nat_le (chunks_of g) 2048 then 1 else 1 + parts_of (chunks_of g - 2048) 4096

-- the chunk of a sector
abbrev pub chunk_of : Sizes → ℕ → ℕ
chunk_of g s = s / g.chunk

-- the first sector of a chunk, and the first past it
abbrev pub chunk_start : Sizes → ℕ → ℕ
chunk_start g c = c * g.chunk

abbrev pub chunk_end : Sizes → ℕ → ℕ
chunk_end g c = min (c * g.chunk + g.chunk) g.room
