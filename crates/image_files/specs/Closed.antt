-- What stands under the names once legs were given back.
use Rattle.std.specs.Prelude.{Bool, true, false, ◌≡◌, ℕ, zero, suc, ◌+◌, ◌-◌, ◌<◌, List, [], ◌∷◌, get_or, Option}
use Rattle.std.specs.Prelude.{None, Result, Ok, Err, ◌≤◌, ◌^◌, min}
use Rattle.mdc_types.specs.declared.numbers.Sector.{Sector}
use Rattle.leg_shelf.specs.Shelves.{Files, TakesLeg, OthersStay, counted}
use Rattle.image_faults.specs.declared.faults.ImageError.{ImageError}
use Rattle.image_faults.specs.declared.faults.ImageError.TheVariants.{Image, Shelf, Device, Memory}
use Rattle.image_files.specs.Names.{file_of}

-- the legs below n were given back, each under its name
abbrev pub AreGivenBack : List (List ℕ) → List (Option (List Sector)) → ℕ → Option Files
    → Option Files → Type 0
AreGivenBack names told zero old new = new ≡ old
AreGivenBack names told (suc n) old new =
    (mid : Option Files) × AreGivenBack names told n old mid
    × TakesLeg mid (file_of names n) (get_or told n None) new

-- of so many legs' names from leg l on any may have changed, and no other
abbrev pub OnlyTheseChange : List (List ℕ) → ℕ → ℕ → Option Files → Option Files → Type 0
OnlyTheseChange names l zero old new = new ≡ old
OnlyTheseChange names l (suc n) old new =
    (mid : Option Files) × OnlyTheseChange names l n old mid
    × OthersStay mid (file_of names (l + n)) new

-- leg l, below n, is the first that wasn't taken back
abbrev pub IsFirstRefused : List (List ℕ) → List (Option (List Sector)) → ℕ → ℕ → Option Files
    → Option Files → Type 0
IsFirstRefused names told n l old new =
    (mid : Option Files) × (l < n) × AreGivenBack names told l old mid
    × OnlyTheseChange names l (n - l) mid new

-- n legs were given back, so far as the shelf took them
abbrev pub Closes : List (List ℕ) → List (Option (List Sector)) → ℕ → Option Files
    → Result (Unit {0}) ImageError → Option Files → Type 0
Closes names told n old (Ok u) new = AreGivenBack names told n old new
Closes names told n old (Err (Shelf l)) new = IsFirstRefused names told n l old new
Closes names told n old (Err (Memory e)) new = OnlyTheseChange names 0 n old new
Closes names told n old (Err (Image l f)) new = ⊥
Closes names told n old (Err (Device l)) new = ⊥

-- how leg l wasn't taken back
abbrev pub IsCloseEnd : ℕ → ImageError → Type 0
IsCloseEnd l (Shelf k) = k ≡ l
IsCloseEnd l (Memory e) = Unit {0}
IsCloseEnd l (Image k f) = ⊥
IsCloseEnd l (Device k) = ⊥

-- a fault of the shelf
abbrev pub is_shelf_fault : ImageError → Bool
is_shelf_fault (Shelf l) = true
is_shelf_fault (Image l f) = false
is_shelf_fault (Device l) = false
is_shelf_fault (Memory e) = false

-- the first of two ends
abbrev pub first_end : Result (Unit {0}) ImageError → Result (Unit {0}) ImageError → Result (Unit {0}) ImageError
first_end (Ok u) next = next
first_end (Err e) next = Err e

-- a count with those of all legs
abbrev pub counted_all : ℕ → List ℕ → ℕ
counted_all count [] = count
counted_all count (f ∷ fs) = counted_all (counted count f) fs

-- a count never falls, where it isn't past its type's last value
abbrev pub NeverFalls : ℕ → ℕ → Type 0
NeverFalls before now = min before (2 ^ 64 - 1) ≤ now

-- the counts of all legs came to the shelf's. For want of memory it may be that none did
abbrev pub CountsAll : ℕ → List ℕ → Result (Unit {0}) ImageError → ℕ → Type 0
CountsAll before faults (Ok u) now = now ≡ counted_all before faults
CountsAll before faults (Err (Shelf l)) now = now ≡ counted_all before faults
CountsAll before faults (Err (Image l f)) now = now ≡ counted_all before faults
CountsAll before faults (Err (Device l)) now = now ≡ counted_all before faults
CountsAll before faults (Err (Memory e)) now = NeverFalls before now
