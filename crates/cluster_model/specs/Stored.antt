-- What stands on the legs, read as superblocks, bits and data.
use Rattle.std.specs.Prelude.{◌≡◌, ℕ, ◌+◌, Bool, Option}
use Rattle.mdc_types.specs.Geometry.{Sizes, data_offset, page_of, page_sector}
use Rattle.mdc_types.specs.declared.numbers.Sector.{Sector}
use Rattle.md_superblock.specs.Arrays.{Array, Says, says_in}
use Rattle.slot_pages.specs.Slot.{page_has}
use Rattle.cluster_model.specs.State.{Legs}

-- what the superblock of leg l says, where sector 8 has one of this array as device l
abbrev pub super_on : Array → Legs → ℕ → Option Says
super_on a legs l = says_in a l (legs.content l 8).bytes

-- the bit of chunk c in slot n stands on leg l
abbrev pub bit_on : Sizes → Legs → ℕ → ℕ → ℕ → Bool
bit_on g legs n c l = page_has g (page_of c) (legs.content l (page_sector g n (page_of c))).bytes c

-- what leg l has at data sector s
abbrev pub data_on : Sizes → Legs → ℕ → ℕ → Sector
data_on g legs l s = legs.content l (data_offset g + s)
