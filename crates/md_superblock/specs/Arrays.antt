-- The superblocks of one array: what they share, what each says of its state, and the sector of each.
use Rattle.std.specs.Prelude.{◌≡◌, ◌↔◌, ℕ, ◌<◌, ◌==◌, Bool, ◌&&◌, List, ◌++◌, length, replicate, slice_index, Option, Some, None, is_none, if◌then◌else◌, option_and_then}
use Rattle.std.specs.Str.{bytes_eq}
use Rattle.mdc_types.specs.Geometry.{Sizes}
use Rattle.mdc_types.specs.declared.roles.Roles.{Roles}
use Rattle.md_superblock.specs.declared.identity.ArrayState.{ArrayState}
use Rattle.md_superblock.specs.declared.identity.Identity.{Identity}
use Rattle.md_superblock.specs.declared.superblock.Super.{Super}
use Rattle.mdc_types.specs.Sectors.{IsSector}
use Rattle.md_superblock.specs.Layout.{bytes_of, with_bytes, checksum_of}
use Rattle.md_superblock.specs.Superblock.{IsSuper, IsWritten, super_of}
use Rattle.md_superblock.specs.Pieces.{with_pieces, array_pieces, device_pieces, state_pieces, role_pieces}
use Rattle.md_superblock.specs.Faults.{fault_of}

-- what all superblocks of an array share: a name of 32 bytes, and a uuid of 16
pub record Array : Type 0 where
  pub sizes : Sizes
  pub name : List ℕ
  pub uuid : List ℕ

-- what a superblock says of the array's state
pub record Says : Type 0 where
  pub events : ℕ
  pub roles : Roles
  pub size : ℕ

-- the same of the program's values
abbrev pub array_of : Identity → Array
array_of x = record { sizes = x.geometry; name = x.name; uuid = x.uuid }

abbrev pub said : ArrayState → Says
said x = record { events = x.events; roles = x.roles; size = x.size }

-- the image version, as the superblock has it
abbrev pub version_of : Bool → ℕ
version_of second = if second then 2 else 1

-- the superblock of the array as device l
abbrev pub super_for : Array → ℕ → Says → Super
super_for a l says =
    record {
      geometry_legs = a.sizes.legs;
      sectors = says.size;
      room = a.sizes.room;
      version = version_of a.sizes.second;
      name = a.name;
      uuid = a.uuid;
      device = l;
      events = says.events;
      roles = says.roles;
    }

-- zeros, with each field but the checksum at its place
unfoldable pub unsummed : Super → List ℕ
unsummed s =
    let pieces = array_pieces s ++ device_pieces s ++ state_pieces s ++ role_pieces s.roles 8 in
    with_pieces (replicate 512 0) pieces

-- the 512 bytes that spell a superblock: its fields, and the checksum of these
unfoldable pub spelled : Super → List ℕ
spelled s = with_bytes (unsummed s) 216 (bytes_of 4 (checksum_of (unsummed s)))

-- the superblock that a sector spells
unfoldable pub super_in : List ℕ → Option Super
super_in bytes = if is_none (fault_of bytes) then Some (super_of bytes) else None

-- whether it is one of this array, as device l
abbrev pub is_of : Array → ℕ → Super → Bool
is_of a l s =
    (s.geometry_legs == a.sizes.legs) && (s.room == a.sizes.room)
    && (s.version == version_of a.sizes.second)
    && bytes_eq s.name a.name && bytes_eq s.uuid a.uuid && (s.device == l)

abbrev pub says_of : Super → Says
says_of s = record { events = s.events; roles = s.roles; size = s.sectors }

-- what a sector says of this array's state, where it is the superblock of its device l
unfoldable pub says_in : Array → ℕ → List ℕ → Option Says
says_in a l bytes =
    option_and_then (λ s. if is_of a l s then Some (says_of s) else None) (super_in bytes)

-- n bytes
pub record AreBytes (n : ℕ) (bytes : List ℕ) : Type 0 where
  pub size : length bytes ≡ n
  pub each : (i : ℕ) → slice_index bytes i < 256

-- the arrays of a superblock are those of its type
pub record HasArrays (s : Super) : Type 0 where
  pub uuid : AreBytes 16 s.uuid
  pub name : AreBytes 32 s.name
  pub roles : length s.roles.legs ≡ 8

-- a superblock that can be written
pub record IsWritable (s : Super) : Type 0 where
  pub ranges : IsSuper s
  pub arrays : HasArrays s

-- what is spelled spells the superblock
abbrev pub SpelledIsWritten : Type 0
SpelledIsWritten = (s : Super) → IsWritable s → IsWritten s (spelled s)

-- a sector says the superblock that is written there, and no other
abbrev pub SaysTheSuper : Type 0
SaysTheSuper =
    (s : Super) (bytes : List ℕ) → IsSector bytes
    → (super_in bytes ≡ Some s) ↔ (IsSuper s × IsWritten s bytes)

-- the sector is the superblock of the array as device l with this state
abbrev pub Holds : Array → ℕ → Says → List ℕ → Type 0
Holds a l says bytes = IsSuper (super_for a l says) × IsWritten (super_for a l says) bytes

-- a sector says the state of the array that it holds, and no other
abbrev pub SaysTheState : Type 0
SaysTheState =
    (a : Array) (l : ℕ) (says : Says) (bytes : List ℕ) → IsSector bytes
    → (says_in a l bytes ≡ Some says) ↔ Holds a l says bytes

-- what was spelled is read again
abbrev pub SaysAgain : Type 0
SaysAgain =
    (a : Array) (l : ℕ) (says : Says)
    → IsWritable (super_for a l says) → says_in a l (spelled (super_for a l says)) ≡ Some says
