-- The image of version 2 that is made of another.
use Rattle.std.specs.Prelude.{◌≡◌, ℕ, ◌+◌, ◌-◌, ◌/◌, ◌%◌, ◌==◌, nat_lt, nat_le, Bool, true, false, List, [], map}
use Rattle.std.specs.Prelude.{get_or, if◌then◌else◌, Option, Some, None}
use Rattle.std.specs.List.{range_with_len}
use Rattle.mdc_types.specs.Geometry.{Sizes, data_offset, length_of}
use Rattle.mdc_types.specs.Sectors.{zero_sector}
use Rattle.mdc_types.specs.declared.numbers.Sector.{Sector}
use Rattle.md_superblock.specs.Arrays.{spelled}
use Rattle.md_superblock.specs.Superblock.{IsSuper}
use Rattle.md_superblock.specs.declared.superblock.Super.{Super}
use Rattle.slot_pages.specs.Slot.{spelled_page}
use Rattle.leg_shelf.specs.Images.{bytes_of}
use Rattle.image_faults.specs.Legs.{HaveSets}
use Rattle.image_faults.specs.declared.legs.LegEnd.{LegEnd}
use Rattle.image_faults.specs.declared.legs.LegEnd.TheVariants.{Fault, Failed, Memory}
use Rattle.image_faults.specs.declared.legs.LegImage.{LegImage}

-- the same sizes, and the same superblock, of image version 2
abbrev pub second_sizes : Sizes → Sizes
second_sizes g = record g { second = true }

abbrev pub second_super : Super → Super
second_super s = record s { version = 2 }

-- what was read of a leg: its superblock, its sizes, and the set of each slot
pub record WasRead : Type 0 where
  pub superblock : Super
  pub sizes : Sizes
  pub slots : List (List Bool)

abbrev pub read_of : LegImage → WasRead
read_of image = record {
  superblock = image.superblock;
  sizes = image.geometry;
  slots = image.slots.items;
}

-- a slot has the set that it had, and is empty where it is new
abbrev pub slot_set : WasRead → ℕ → ℕ → Bool
slot_set r k c = get_or (get_or r.slots k []) c false

-- what stands before the data, which begins at sector 272: the superblock, sixteen slots of sixteen
-- pages, and else zeros
abbrev pub second_head : WasRead → ℕ → Sector
second_head r at =
    let slot = (at - 16) / 16 in
    let page = (at - 16) % 16 in
    if at == 8 then record { bytes = spelled (second_super r.superblock) }
    else if nat_le 16 at then record {
      bytes = spelled_page (second_sizes r.sizes) r.superblock.uuid page (slot_set r slot);
    }
    else zero_sector

-- each sector of the new image: its head, and the old data
abbrev pub second_sector : WasRead → List Sector → ℕ → Sector
second_sector r leg at =
    if nat_lt at 272 then second_head r at else get_or leg (at - 272 + data_offset r.sizes) zero_sector

-- its first sectors
abbrev pub second_sectors : WasRead → List Sector → ℕ → List Sector
second_sectors r leg n = map (second_sector r leg) (range_with_len 0 n)

-- the bytes of the new image of a leg with these sectors, of which this was read
abbrev pub second_image : WasRead → List Sector → List ℕ
second_image r leg = bytes_of (second_sectors r leg (length_of (second_sizes r.sizes)))

-- the sector stands there, where the leg tells what it holds
abbrev pub GivesSecond : WasRead → Option (List Sector) → ℕ → Sector → Type 0
GivesSecond r None at v = Unit {0}
GivesSecond r (Some leg) at v = v ≡ second_sector r leg at

-- these are the bytes of the first n sectors, where the leg tells
abbrev pub MadeTo : WasRead → Option (List Sector) → ℕ → List ℕ → Type 0
MadeTo r None n bytes = Unit {0}
MadeTo r (Some leg) n bytes = bytes ≡ bytes_of (second_sectors r leg n)

-- these are the bytes of the new image, where the leg tells
abbrev pub IsMade : WasRead → Option (List Sector) → List ℕ → Type 0
IsMade r told bytes = MadeTo r told (length_of (second_sizes r.sizes)) bytes

-- why it wasn't made: no fault is found any more
abbrev pub IsMakeEnd : LegEnd → Type 0
IsMakeEnd (Fault f) = ⊥
IsMakeEnd Failed = Unit {0}
IsMakeEnd (Memory e) = Unit {0}

-- what was read of a leg is in its ranges, and there is a set for each slot
pub record IsReadable (r : WasRead) : Type 0 where
  pub superblock : IsSuper r.superblock
  pub sets : HaveSets r.sizes r.slots
