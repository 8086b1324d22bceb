-- Where rows of sectors differ.
use Rattle.std.specs.Prelude.{ℕ, not, Bool, List, length, get_or, Option}
use Rattle.std.specs.Str.{bytes_eq}
use Rattle.dlm_modes.specs.First.{first_such}
use Rattle.mdc_types.specs.Sectors.{zero_sector}
use Rattle.mdc_types.specs.declared.numbers.Sector.{Sector}

-- they have other bytes at this place
abbrev pub differs_at : List Sector → List Sector → ℕ → Bool
differs_at a b i = not (bytes_eq (get_or a i zero_sector).bytes (get_or b i zero_sector).bytes)

-- the first place in which they differ, of two that are equally long
abbrev pub first_difference : List Sector → List Sector → Option ℕ
first_difference a b = first_such (differs_at a b) 0 (length a)
