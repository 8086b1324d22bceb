-- The fields of a superblock as bytes at their places, one piece after the other.
use Rattle.std.specs.Prelude.{ℕ, zero, suc, ◌+◌, ◌*◌, ◌==◌, List, [], ◌∷◌, ◌++◌}
use Rattle.mdc_types.specs.declared.roles.Roles.{Roles}
use Rattle.mdc_types.specs.Roles.{role_of, role_code}
use Rattle.md_superblock.specs.declared.superblock.Super.{Super}
use Rattle.md_superblock.specs.Layout.{bytes_of, with_bytes}
use Rattle.mdc_types.specs.Geometry.{data_offset_of}
use Rattle.mdc_types.specs.Names.{device_uuid}

-- bytes from byte at on, and how many they are
pub record Piece : Type 0 where
  pub at : ℕ
  pub size : ℕ
  pub bytes : List ℕ

abbrev pub piece : ℕ → ℕ → List ℕ → Piece
piece at size bytes = record { at = at; size = size; bytes = bytes }

-- a number of n bytes
abbrev pub number : ℕ → ℕ → ℕ → Piece
number at n x = piece at n (bytes_of n x)

-- these bytes with the pieces written in turn
abbrev pub with_pieces : List ℕ → List Piece → List ℕ
with_pieces bytes [] = bytes
with_pieces bytes (p ∷ ps) = with_pieces (with_bytes bytes p.at p.bytes) ps

abbrev pub array_pieces : Super → List Piece
array_pieces s =
    number 0 4 0xa92b4efc ∷ number 4 4 1 ∷ number 8 4 1 ∷ piece 16 16 s.uuid ∷ piece 32 32 s.name
    ∷ number 72 4 1 ∷ number 80 8 s.sectors ∷ number 92 4 s.geometry_legs ∷ number 96 4 8 ∷ []

abbrev pub device_pieces : Super → List Piece
device_pieces s =
    number 128 8 (data_offset_of (s.version == 2)) ∷ number 136 8 s.room ∷ number 144 8 8 ∷ number 160 4 s.device
    ∷ piece 168 16 (device_uuid s.uuid s.device) ∷ []

abbrev pub state_pieces : Super → List Piece
state_pieces s = number 200 8 s.events ∷ number 220 4 8 ∷ []

abbrev pub role_piece : Roles → ℕ → Piece
role_piece roles l = number (256 + 2 * l) 2 (role_code l (role_of roles l))

-- those of the first n roles
unfoldable pub role_pieces : Roles → ℕ → List Piece
role_pieces roles zero = []
role_pieces roles (suc n) = role_pieces roles n ++ role_piece roles n ∷ []
