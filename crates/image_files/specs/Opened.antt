-- A file that was opened as a leg, and what is wrong with one that wasn't.
use Rattle.std.specs.Prelude.{◌≡◌, ℕ, List, length, Option, Some, None}
use Rattle.std.specs.Option.{option_map}
use Rattle.mdc_types.specs.declared.numbers.Sector.{Sector}
use Rattle.leg_shelf.specs.Images.{sectors_in}
use Rattle.leg_shelf.specs.Shelves.{Files}
use Rattle.image_faults.specs.Sizes.{size_fault}
use Rattle.image_faults.specs.declared.faults.ImageError.{ImageError}
use Rattle.image_faults.specs.declared.faults.ImageError.TheVariants.{Image, Shelf, Device, Memory}

-- these bytes stand under the name, and the leg has their sectors
pub record IsOpened (files : Files) (name : List ℕ) (leg : Option (List Sector)) (size : ℕ) : Type 0 where
  pub bytes : List ℕ
  pub there : files name ≡ Some bytes
  pub sectors : leg ≡ Some (sectors_in bytes)
  pub many : size ≡ length bytes

-- the same where the shelf tells
abbrev pub OpensFile : Option Files → List ℕ → Option (List Sector) → ℕ → Type 0
OpensFile None name leg size = Unit {0}
OpensFile (Some files) name leg size = IsOpened files name leg size

-- why the file of leg l wasn't opened: a fault of its size, where the shelf tells
abbrev pub RefusesFile : Option Files → List ℕ → ℕ → ImageError → Type 0
RefusesFile None name l (Image k f) = k ≡ l
RefusesFile (Some files) name l (Image k f) =
    (k ≡ l) × (size_fault (option_map length (files name)) ≡ Some f)
RefusesFile told name l (Shelf k) = k ≡ l
RefusesFile told name l (Memory e) = Unit {0}
RefusesFile told name l (Device k) = ⊥
