-- What a file of the folder may be called.
use Rattle.std.specs.Prelude.{ℕ, ◌==◌, Bool, false, not, ◌&&◌, ◌||◌, List, [], ◌∷◌}
use Rattle.std.specs.List.{list_all}
use Rattle.mdc_types.specs.Names.{is_name_byte}

-- a letter, a digit, `_` or a dot
abbrev pub is_file_byte : ℕ → Bool
is_file_byte b = is_name_byte b || b == 46

-- the first is there, and no dot
abbrev pub begins_well : List ℕ → Bool
begins_well [] = false
begins_well (first ∷ rest) = not (first == 46)

-- one or more of these, the first no dot: so no `..`, and no path
abbrev pub is_file_name : List ℕ → Bool
is_file_name name = begins_well name && list_all is_file_byte name
