-- The superblock's grammar: what a sector that spells a superblock holds.
use Rattle.std.specs.Prelude.{◌≡◌, ℕ, ◌+◌, ◌*◌, ◌^◌, ◌<◌, ◌≤◌, ◌==◌, true, false, List, length, slice_index, slice_range, if◌then◌else◌, unwrap_or, Option}
use Rattle.mdc_types.specs.declared.roles.Role.{Role}
use Rattle.mdc_types.specs.declared.roles.Role.TheVariants.{Spare}
use Rattle.mdc_types.specs.declared.roles.Roles.{Roles}
use Rattle.mdc_types.specs.Geometry.{data_offset_of}
use Rattle.mdc_types.specs.Names.{is_name, device_uuid}
use Rattle.mdc_types.specs.Roles.{role_of, role_code, role_of_code, some_works, eight}
use Rattle.md_superblock.specs.declared.superblock.Super.{Super}
use Rattle.mdc_types.specs.Sectors.{IsSector}
use Rattle.md_superblock.specs.Layout.{number_at, checksum_of, is_named}

-- its fields are in their ranges
pub record IsSuper (s : Super) : Type 0 where
  pub name : is_name s.name ≡ true
  pub size : (1 ≤ s.sectors) × (s.sectors ≤ s.room)
  pub room : s.room ≤ 131072
  pub raid_disks : (2 ≤ s.geometry_legs) × (s.geometry_legs ≤ 8)
  pub version : (1 ≤ s.version) × (s.version ≤ 2)
  pub device : s.device < s.geometry_legs
  pub events : (1 ≤ s.events) × (s.events ≤ 2 ^ 63)
  pub spares : (l : ℕ) → s.geometry_legs ≤ l → l < 8 → role_of s.roles l ≡ Spare
  pub working : some_works (role_of s.roles) ≡ true

-- the number of 16 bits of device l's role
abbrev pub role_number : List ℕ → ℕ → ℕ
role_number bytes l = number_at bytes (256 + 2 * l) 2

-- the sector spells the superblock: each field of the table, with zeros between
pub record IsWritten (s : Super) (bytes : List ℕ) : Type 0 where
  pub sector : IsSector bytes
  pub magic : number_at bytes 0 4 ≡ 0xa92b4efc
  pub major_version : number_at bytes 4 4 ≡ 1
  pub feature_map : number_at bytes 8 4 ≡ 1
  pub array_uuid : slice_range bytes 16 32 ≡ s.uuid
  pub name : slice_range bytes 32 64 ≡ s.name
  pub level : number_at bytes 72 4 ≡ 1
  pub size : number_at bytes 80 8 ≡ s.sectors
  pub raid_disks : number_at bytes 92 4 ≡ s.geometry_legs
  pub bitmap_offset : number_at bytes 96 4 ≡ 8
  pub data_offset : number_at bytes 128 8 ≡ data_offset_of (s.version == 2)
  pub data_size : number_at bytes 136 8 ≡ s.room
  pub superblock_offset : number_at bytes 144 8 ≡ 8
  pub device_number : number_at bytes 160 4 ≡ s.device
  pub device_uuid : slice_range bytes 168 184 ≡ device_uuid s.uuid s.device
  pub events : number_at bytes 200 8 ≡ s.events
  pub checksum : number_at bytes 216 4 ≡ checksum_of bytes
  pub max_dev : number_at bytes 220 4 ≡ 8
  pub roles : (l : ℕ) → l < 8 → role_number bytes l ≡ role_code l (role_of s.roles l)
  pub devices : length s.roles.legs ≡ 8
  pub rest : (i : ℕ) → i < 512 → is_named i ≡ false → slice_index bytes i ≡ 0

-- the role of device l, where its 16 bits are one
abbrev pub role_at : List ℕ → ℕ → Option Role
role_at bytes l = role_of_code l (role_number bytes l)

abbrev pub role_or_spare : List ℕ → ℕ → Role
role_or_spare bytes l = unwrap_or (role_at bytes l) Spare

abbrev pub roles_of : List ℕ → Roles
roles_of bytes = eight (role_or_spare bytes)

-- what the fields say
unfoldable pub super_of : List ℕ → Super
super_of bytes =
    record {
      geometry_legs = number_at bytes 92 4;
      sectors = number_at bytes 80 8;
      room = number_at bytes 136 8;
      version = if number_at bytes 128 8 == 272 then 2 else 1;
      name = slice_range bytes 32 64;
      uuid = slice_range bytes 16 32;
      device = number_at bytes 160 4;
      events = number_at bytes 200 8;
      roles = roles_of bytes;
    }
