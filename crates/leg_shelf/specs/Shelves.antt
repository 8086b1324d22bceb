-- What a shelf has under its names, where it tells it, and what its calls give and leave.
use Rattle.std.specs.Prelude.{◌≡◌, ℕ, ◌+◌, ◌-◌, ◌^◌, min, Bool, true, false, List, length}
use Rattle.std.specs.Prelude.{Option, Some, None, Result, Ok, Err}
use Rattle.std.specs.Map.{update}
use Rattle.std.specs.Option.{option_map}
use Rattle.std.specs.Str.{bytes_eq}
use Rattle.mdc_types.specs.declared.numbers.Sector.{Sector}
use Rattle.leg_shelf.specs.Images.{sectors_in, with_sectors}
use Rattle.leg_shelf.specs.declared.shelf.ShelfEnd.{ShelfEnd}
use Rattle.leg_shelf.specs.declared.shelf.ShelfEnd.TheVariants.{Failed, Memory}

-- the bytes under each name, None where there is no such name
abbrev pub Files : Type 0
Files = List ℕ → Option (List ℕ)

-- of a shelf that doesn't tell
abbrev pub untold : Option Files
untold = None

-- a call failed, and didn't want memory
abbrev pub is_fault : ShelfEnd → Bool
is_fault Failed = true
is_fault (Memory e) = false

abbrev pub failed : {T : Type 0} → Result T ShelfEnd → Bool
failed (Ok v) = false
failed (Err e) = is_fault e

-- what stands under the name: none where the shelf doesn't tell
abbrev pub file_at : Option Files → List ℕ → Option (List ℕ)
file_at None name = None
file_at (Some files) name = files name

-- these are the bytes under the name, and any where the shelf doesn't tell
abbrev pub GivesBytes : Option Files → List ℕ → Option (List ℕ) → Type 0
GivesBytes None name found = Unit {0}
GivesBytes (Some files) name found = found ≡ files name

-- how many they are
abbrev pub GivesSize : Option Files → List ℕ → Option ℕ → Type 0
GivesSize None name found = Unit {0}
GivesSize (Some files) name found = found ≡ option_map length (files name)

-- a leg has the sectors of the bytes under the name, by what it tells
abbrev pub GivesLeg : Option Files → List ℕ → Option (Option (List Sector)) → Type 0
GivesLeg None name found = Unit {0}
GivesLeg (Some files) name found = found ≡ option_map (λ bytes. Some (sectors_in bytes)) (files name)

-- the shelf with this under the name, and all else as before
abbrev pub put_file : Option Files → List ℕ → Option (List ℕ) → Option Files
put_file None name bytes = None
put_file (Some files) name bytes = Some (update bytes_eq files name bytes)

-- the other names are as before
abbrev pub OthersStay : Option Files → List ℕ → Option Files → Type 0
OthersStay old name new = (left : Option (List ℕ)) × (new ≡ put_file old name left)

-- the name has the leg's sectors now, where the leg tells them
abbrev pub TakesLeg : Option Files → List ℕ → Option (List Sector) → Option Files → Type 0
TakesLeg old name None new = OthersStay old name new
TakesLeg old name (Some sectors) new =
    new ≡ put_file old name (Some (with_sectors (file_at old name) sectors))

-- a count with more, which stays at its last value
abbrev pub counted : ℕ → ℕ → ℕ
counted count more = min (count + more) (2 ^ 64 - 1)
