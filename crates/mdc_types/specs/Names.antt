-- Names of arrays and of their devices.
use Rattle.std.specs.Prelude.{ℕ, ◌==◌, nat_le, Bool, not, ◌&&◌, ◌||◌, List, length, drop, slice_set, unwrap_or, position}
use Rattle.std.specs.Char.{is_ascii_alphanumeric}
use Rattle.std.specs.List.{list_all}

-- a device's uuid: the array's, its last byte replaced by the leg
abbrev pub device_uuid : List ℕ → ℕ → List ℕ
device_uuid uuid l = slice_set uuid 15 l

-- a letter, a digit or `_`
abbrev pub is_name_byte : ℕ → Bool
is_name_byte b = is_ascii_alphanumeric b || b == 95

-- how many of these begin the name: the place of its first other byte
unfoldable pub name_length : List ℕ → ℕ
name_length name = unwrap_or (position (λ b. not (is_name_byte b)) name) (length name)

abbrev pub is_zero : List ℕ → Bool
is_zero bytes = list_all (λ b. b == 0) bytes

-- an array's name: 1 to 31 letters, digits or `_`, then zeros
abbrev pub is_name : List ℕ → Bool
is_name name = nat_le 1 (name_length name) && nat_le (name_length name) 31 && is_zero (drop (name_length name) name)
