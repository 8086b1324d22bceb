-- The value of a sector, in hexadecimal.
use Rattle.std.specs.Prelude.{ℕ, zero, ◌+◌, ◌/◌, ◌%◌, nat_lt, if◌then◌else◌, List, [], ◌∷◌, codes}
use Rattle.std.specs.List.{flat_map}

-- a byte before those that stay: it stays unless it is zero and none of those does
abbrev pub kept_before : ℕ → List ℕ → List ℕ
kept_before zero [] = []
kept_before byte kept = byte ∷ kept

-- the bytes without the zeros at the end
abbrev pub trimmed : List ℕ → List ℕ
trimmed [] = []
trimmed (byte ∷ bytes) = kept_before byte (trimmed bytes)

abbrev pub hex_digit : ℕ → ℕ
hex_digit d = if nat_lt d 10 then 48 + d else 87 + d

-- a byte in two digits
abbrev pub hex_byte : ℕ → List ℕ
hex_byte byte = hex_digit (byte / 16) ∷ hex_digit (byte % 16) ∷ []

-- a dash where nothing stays
abbrev pub hex_or_dash : List ℕ → List ℕ
hex_or_dash [] = codes "-"
hex_or_dash bytes = flat_map hex_byte bytes

abbrev pub value_text : List ℕ → List ℕ
value_text bytes = hex_or_dash (trimmed bytes)
