-- Lines of a report: a name, and values after it.
use Rattle.std.specs.Prelude.{ℕ, List, ◌++◌, codes}
use Rattle.std.specs.List.{flat_map}

-- a value, after one blank
abbrev pub spaced : List ℕ → List ℕ
spaced value = codes " " ++ value

abbrev pub line : List ℕ → List (List ℕ) → List ℕ
line name values = name ++ flat_map spaced values
