-- The first fault of a sector that spells no superblock.
use Rattle.std.specs.Prelude.{ℕ, ◌^◌, ◌==◌, nat_le, nat_lt, Bool, not, ◌&&◌, ◌||◌, List, [], ◌∷◌, slice_index, slice_range, nat_eq, Option, is_some, is_none, if◌then◌else◌}
use Rattle.std.specs.Cmp.Lexicographic.{pointwise}
use Rattle.std.specs.Option.{option_map}
use Rattle.dlm_modes.specs.First.{first_such}
use Rattle.dlm_modes.specs.Guards.{unless, or_then, first_of}
use Rattle.md_superblock.specs.declared.faults.Field.{Field}
use Rattle.md_superblock.specs.declared.faults.Field.TheVariants as field
use Rattle.md_superblock.specs.declared.faults.SuperFault.{SuperFault}
use Rattle.md_superblock.specs.declared.faults.SuperFault.TheVariants.{Magic, Version, Sum, Level, Range, Role}
use Rattle.md_superblock.specs.Layout.{number_at, checksum_of, is_named}
use Rattle.mdc_types.specs.Names.{is_name, device_uuid}
use Rattle.md_superblock.specs.Superblock.{role_number, role_at}

-- from the least to the most
abbrev pub is_within : ℕ → ℕ → ℕ → Bool
is_within least most n = nat_le least n && nat_le n most

-- the magic number, the version, the checksum and the level
unfoldable pub head_fault : List ℕ → Option SuperFault
head_fault bytes = first_of (
    unless (number_at bytes 0 4 == 0xa92b4efc) (Magic (number_at bytes 0 4))
    ∷ unless (number_at bytes 4 4 == 1) (Version (number_at bytes 4 4))
    ∷ unless (number_at bytes 216 4 == checksum_of bytes) (Sum (number_at bytes 216 4) (checksum_of bytes))
    ∷ unless (number_at bytes 72 4 == 1) (Level (number_at bytes 72 4))
    ∷ [])

-- the other fields that all legs share, in bytes 0 to 127
unfoldable pub array_fault : List ℕ → Option Field
array_fault bytes = first_of (
    unless (number_at bytes 8 4 == 1) field.FeatureMap
    ∷ unless (is_name (slice_range bytes 32 64)) field.Name
    ∷ unless (is_within 1 131072 (number_at bytes 80 8)) field.Size
    ∷ unless (is_within 2 8 (number_at bytes 92 4)) field.RaidDisks
    ∷ unless (number_at bytes 96 4 == 8) field.BitmapOffset
    ∷ [])

-- those of this leg, in bytes 128 to 191
unfoldable pub device_fault : List ℕ → Option Field
device_fault bytes = first_of (
    unless (number_at bytes 128 8 == 80 || number_at bytes 128 8 == 272) field.DataOffset
    ∷ unless (is_within (number_at bytes 80 8) 131072 (number_at bytes 136 8)) field.DataSize
    ∷ unless (number_at bytes 144 8 == 8) field.SuperblockOffset
    ∷ unless (nat_lt (number_at bytes 160 4) (number_at bytes 92 4)) field.DeviceNumber
    ∷ unless (pointwise nat_eq (slice_range bytes 168 184) (device_uuid (slice_range bytes 16 32) (number_at bytes 160 4))) field.DeviceUuid
    ∷ [])

-- a byte that no field has, and that isn't 0
abbrev pub is_stray : List ℕ → ℕ → Bool
is_stray bytes i = not (is_named i || slice_index bytes i == 0)

abbrev pub rest_is_zero : List ℕ → Bool
rest_is_zero bytes = is_none (first_such (is_stray bytes) 0 512)

-- those of the array's state, and the bytes that no field has
unfoldable pub state_fault : List ℕ → Option Field
state_fault bytes = first_of (
    unless (is_within 1 (2 ^ 63) (number_at bytes 200 8)) field.Events
    ∷ unless (number_at bytes 220 4 == 8) field.MaxDev
    ∷ unless (rest_is_zero bytes) field.Rest
    ∷ [])

-- the first field that is out of its range
abbrev pub range_fault : List ℕ → Option Field
range_fault bytes = first_of (array_fault bytes ∷ device_fault bytes ∷ state_fault bytes ∷ [])

-- whether the 16 bits of device l are a role of it: from raid disks on only spare is
abbrev pub has_role : List ℕ → ℕ → Bool
has_role bytes l = if nat_lt l (number_at bytes 92 4) then is_some (role_at bytes l) else role_number bytes l == 0xffff

abbrev pub is_working_at : List ℕ → ℕ → Bool
is_working_at bytes l = role_number bytes l == l

-- the first device without a role, and 8 where none works
abbrev pub role_fault : List ℕ → Option ℕ
role_fault bytes = or_then (first_such (λ l. not (has_role bytes l)) 0 8) (unless (is_some (first_such (is_working_at bytes) 0 8)) 8)

-- the first fault of all
unfoldable pub fault_of : List ℕ → Option SuperFault
fault_of bytes = first_of (head_fault bytes ∷ option_map Range (range_fault bytes) ∷ option_map Role (role_fault bytes) ∷ [])
