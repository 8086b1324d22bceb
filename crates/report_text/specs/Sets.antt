-- Sets of numbers, and roles of legs.
use Rattle.std.specs.Prelude.{ℕ, zero, suc, Bool, if◌then◌else◌, List, [], ◌∷◌, ◌++◌, map, take, codes, decimal}
use Rattle.std.specs.List.{flat_map}
use Rattle.mdc_types.specs.declared.roles.Role.{Role}
use Rattle.mdc_types.specs.declared.roles.Role.TheVariants.{Working, Rebuilding, Faulty, Spare}
use Rattle.mdc_types.specs.declared.roles.Roles.{Roles}

-- the numbers below a count that are in the set, rising
abbrev pub members : (ℕ → Bool) → ℕ → List ℕ
members has zero = []
members has (suc n) = members has n ++ (if has n then n ∷ [] else [])

abbrev pub after_comma : ℕ → List ℕ
after_comma n = codes "," ++ decimal n

-- the numbers with commas between them, and a dash where there is none
abbrev pub numbers_text : List ℕ → List ℕ
numbers_text [] = codes "-"
numbers_text (n ∷ ns) = decimal n ++ flat_map after_comma ns

abbrev pub set_text : (ℕ → Bool) → ℕ → List ℕ
set_text has count = numbers_text (members has count)

-- `W`, `R`, `F` or `S`
abbrev pub role_letter : Role → ℕ
role_letter Working = 87
role_letter Rebuilding = 82
role_letter Faulty = 70
role_letter Spare = 83

-- of the first legs, one letter each
abbrev pub roles_text : Roles → ℕ → List ℕ
roles_text roles legs = map role_letter (take legs roles.legs)
