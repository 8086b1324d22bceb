-- The names of an array's files, one a leg.
use Rattle.std.specs.Prelude.{ℕ, ◌+◌, List, [], ◌∷◌, ◌++◌, map, get_or}
use Rattle.std.specs.List.{range_with_len}

-- the name of leg l's file: that of the array, a dot, and the leg
abbrev pub leg_name : List ℕ → ℕ → List ℕ
leg_name name l = name ++ 46 ∷ (48 + l) ∷ []

-- of legs 0 to 7
abbrev pub leg_names : List ℕ → List (List ℕ)
leg_names name = map (leg_name name) (range_with_len 0 8)

-- the name of leg l's file, among these
abbrev pub file_of : List (List ℕ) → ℕ → List ℕ
file_of names l = get_or names l []
