-- Sets of numbers, roles of legs, and checksums, as they are printed.
use Rattle.std.specs.Prelude.{ℕ, zero, suc, ◌+◌, ◌/◌, ◌%◌, nat_lt, Bool, false, if◌then◌else◌, List, [], ◌∷◌, ◌++◌, map, take, length, get_or, codes, decimal}
use Rattle.std.specs.Int.{to_be_bytes, w32}
use Rattle.std.specs.List.{flat_map}
use Rattle.mdc_types.specs.declared.roles.Role.{Role}
use Rattle.mdc_types.specs.declared.roles.Role.TheVariants.{Working, Rebuilding, Faulty, Spare}
use Rattle.mdc_types.specs.declared.roles.Roles.{Roles}

-- the numbers below a count that are in the set, rising
abbrev pub members : (ℕ → Bool) → ℕ → List ℕ
members has zero = []
members has (suc n) = members has n ++ (if has n then n ∷ [] else [])

abbrev pub after_comma : ℕ → List ℕ
after_comma n = codes "," ++ decimal n

-- the numbers with commas between them, and a dash where there is none
abbrev pub numbers_word : List ℕ → List ℕ
numbers_word [] = codes "-"
numbers_word (n ∷ ns) = decimal n ++ flat_map after_comma ns

-- the chunks of a set, which has one flag for each chunk of the array
abbrev pub chunks_word : List Bool → List ℕ
chunks_word set = numbers_word (members (λ c. get_or set c false) (length set))

-- `W`, `R`, `F` or `S`
abbrev pub role_letter : Role → ℕ
role_letter Working = 87
role_letter Rebuilding = 82
role_letter Faulty = 70
role_letter Spare = 83

-- of the first legs, one letter each
abbrev pub roles_word : Roles → ℕ → List ℕ
roles_word roles legs = map role_letter (take legs roles.legs)

abbrev pub hex_digit : ℕ → ℕ
hex_digit d = if nat_lt d 10 then 48 + d else 87 + d

-- a byte in two digits
abbrev pub hex_byte : ℕ → List ℕ
hex_byte byte = hex_digit (byte / 16) ∷ hex_digit (byte % 16) ∷ []

-- a checksum in eight hexadecimal digits, the highest first
abbrev pub sum_word : ℕ → List ℕ
sum_word sum = flat_map hex_byte (to_be_bytes w32 sum)
