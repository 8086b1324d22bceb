-- Numbers and values, as words of a script.
use Rattle.std.specs.Prelude.{ℕ, ◌+◌, ◌-◌, ◌*◌, ◌^◌, ◌==◌, nat_lt, nat_le, Bool, false, not, ◌&&◌, if◌then◌else◌, List, [], ◌∷◌, ◌++◌, length, replicate, codes, Option, Some, None}
use Rattle.std.specs.Char.{is_ascii_digit}
use Rattle.std.specs.Str.{all_ascii_digits, bytes_eq}
use Rattle.mdc_types.specs.declared.numbers.Sector.{Sector}
use Rattle.script_text.specs.Steps.{◌>>=◌, guarded}

-- what decimal digits write, each with the weight of its place
abbrev pub decimal : List ℕ → ℕ
decimal [] = 0
decimal (d ∷ digits) = (d - 48) * 10 ^ length digits + decimal digits

-- digits, `0` to `9`, of which `0` comes first only where it is alone
abbrev pub is_numeral : List ℕ → Bool
is_numeral [] = false
is_numeral (d ∷ []) = is_ascii_digit d
is_numeral (d ∷ e ∷ digits) = not (d == 48) && all_ascii_digits (d ∷ e ∷ digits)

-- a number, of 32 bits
abbrev pub number_of : List ℕ → Option ℕ
number_of word = guarded (is_numeral word && nat_lt (decimal word) (2 ^ 32)) (decimal word)

-- a node or a leg, of 8 bits
abbrev pub byte_of : List ℕ → Option ℕ
byte_of word = number_of word >>= λ n. guarded (nat_lt n 256) n

-- a hexadecimal digit, `0` to `9` or `a` to `f`
abbrev pub hex_digit : ℕ → Option ℕ
hex_digit d =
    if nat_le 48 d && nat_le d 57 then Some (d - 48)
    else if nat_le 97 d && nat_le d 102 then Some (d - 87)
    else None

abbrev pub hex_byte : Option ℕ → Option ℕ → Option ℕ
hex_byte high low = high >>= λ h. low >>= λ l. Some (16 * h + l)

abbrev pub onto_bytes : Option ℕ → Option (List ℕ) → Option (List ℕ)
onto_bytes byte bytes = byte >>= λ b. bytes >>= λ bs. Some (b ∷ bs)

-- two digits for each byte
abbrev pub hex_bytes : List ℕ → Option (List ℕ)
hex_bytes [] = Some []
hex_bytes (d ∷ []) = None
hex_bytes (d ∷ e ∷ digits) = onto_bytes (hex_byte (hex_digit d) (hex_digit e)) (hex_bytes digits)

-- the bytes, and zero bytes after them
unfoldable pub sector_of : List ℕ → Sector
sector_of bytes = record { bytes = bytes ++ replicate (512 - length bytes) 0 }

-- from one byte on, up to a whole sector
abbrev pub fits_sector : List ℕ → Bool
fits_sector bytes = nat_lt 0 (length bytes) && nat_le (length bytes) 512

-- what a sector is to hold: nothing but zeros at `-`, else the bytes of the digits and then zeros
abbrev pub value_of : List ℕ → Option Sector
value_of word =
    if bytes_eq word (codes "-") then Some (sector_of [])
    else (hex_bytes word >>= λ bytes. guarded (fits_sector bytes) (sector_of bytes))
