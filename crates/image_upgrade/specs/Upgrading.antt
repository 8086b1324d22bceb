-- What `upgrade_images` leaves on the shelf and prints, by its end.
use Rattle.std.specs.Prelude.{◌≡◌, ◌⊎◌, ℕ, false, List, [], length, Option}
use Rattle.mdc_types.specs.Faults.{Rose}
use Rattle.mdc_types.specs.declared.numbers.Sector.{Sector}
use Rattle.leg_shelf.specs.Shelves.{Files}
use Rattle.cluster_model.specs.Opening.{Origin, IsOrigin}
use Rattle.cluster_model.specs.Contents.{HasImages}
use Rattle.world_state.specs.Told.{legs_of}
use Rattle.image_faults.specs.declared.faults.ImageError.TheVariants as errors
use Rattle.image_faults.specs.declared.legs.LegImage.{LegImage}
use Rattle.image_files.specs.Closed.{OnlyTheseChange}
use Rattle.image_files.specs.Laws.{WereOpened}
use Rattle.image_files.specs.Names.{leg_names}
use Rattle.image_texts.specs.Lines.{image_text, shelf_text, upgraded_text}
use Rattle.image_opening.specs.Faults.{TellsFault}
use Rattle.image_opening.specs.Opened.{AreOpened, TellsFiles}
use Rattle.image_opening.specs.declared.versions.Versions.TheVariants.{First}
use Rattle.image_ends.specs.Seen.{ShelfSeen, ShelfRose}
use Rattle.image_ends.specs.declared.ends.CommandEnd.{CommandEnd}
use Rattle.image_ends.specs.declared.ends.CommandEnd.TheVariants as ends
use Rattle.second_opening.specs.Laws.{second_origin}
use Rattle.image_upgrade.specs.Stored.{AreStored, StoredBelow}
use Rattle.image_upgrade.specs.declared.ends.UpgradeError.{UpgradeError}
use Rattle.image_upgrade.specs.declared.ends.UpgradeError.TheVariants.{Old, New}

-- these are the images of the array of this name, one of each leg, and the array is of version 1. Where
-- the shelf tells its files they are what stands there, and without a fault
pub record AreOld (files : Option Files) (from : List ℕ) (images : List LegImage)
    (told : List (Option (List Sector))) : Type 0 where
  pub opening : Origin
  pub origin : IsOrigin opening
  pub first : opening.sizes.second ≡ false
  pub all : length images ≡ opening.sizes.legs
  pub lengths : List ℕ
  pub opened : AreOpened files (leg_names from) images told lengths
  pub sound : TellsFiles files → HasImages opening (legs_of told)

-- the files under the new name, opened again, are an array without a fault, which opens with what the
-- old one opened with, but for the version: so it is where the shelf tells its files
abbrev pub StandAlike : Origin → Option Files → List ℕ → Option Files → Type 0
StandAlike o files to new =
    TellsFiles files
    → (told : List (Option (List Sector))) (sizes : ℕ → ℕ) → length told ≡ o.sizes.legs
    → WereOpened new (leg_names to) told sizes → HasImages (second_origin o) (legs_of told)

-- just the new images of all legs were stored, each made of the old one, and they open as these did
abbrev pub AreUpgraded : ShelfSeen → List ℕ → List ℕ → List ℕ → Type 0
AreUpgraded h from to text =
    (images : List LegImage) × ((told : List (Option (List Sector)))
    × ((old : AreOld h.files from images told)
    × AreStored to images told (length images) h.files h.files_after
    × StandAlike old.opening h.files to h.files_after
    × (text ≡ upgraded_text to (length images))))

-- no other names than those of the old array's legs have changed
abbrev pub OthersStand : ShelfSeen → List ℕ → Type 0
OthersStand h from = OnlyTheseChange (leg_names from) 0 8 h.files h.files_after

-- the new images of the legs below n stand; but for them only the name of the new leg n may have
-- changed, and those of the old legs, which were given back
abbrev pub NewBelow : ShelfSeen → List ℕ → List ℕ → ℕ → Type 0
NewBelow h from to n =
    (images : List LegImage) × ((told : List (Option (List Sector)))
    × ((mid : Option Files)
    × (AreOld h.files from images told × StoredBelow to images told n h.files mid
    × OnlyTheseChange (leg_names from) 0 8 mid h.files_after)))

-- none, or some first of the new images stand
abbrev pub SomeNew : ShelfSeen → List ℕ → List ℕ → Type 0
SomeNew h from to = OthersStand h from ⊎ ((n : ℕ) × NewBelow h from to n)

-- why an array wasn't upgraded
abbrev pub UpgradeErrs : ShelfSeen → List ℕ → List ℕ → UpgradeError → Type 0
UpgradeErrs h from to (Old (errors.Image l f)) =
    TellsFault h.files (leg_names from) First (errors.Image l f) × OthersStand h from
UpgradeErrs h from to (Old (errors.Shelf l)) = ShelfRose h × SomeNew h from to
UpgradeErrs h from to (Old (errors.Device l)) = Rose h.leg_faults h.leg_faults_after × SomeNew h from to
UpgradeErrs h from to (Old (errors.Memory e)) = SomeNew h from to
UpgradeErrs h from to (New l) = ShelfRose h × NewBelow h from to l

abbrev pub UpgradeEnds : ShelfSeen → List ℕ → List ℕ → CommandEnd → List ℕ → Type 0
-- all new images were stored, and nothing else has changed
UpgradeEnds h from to ends.Done text = AreUpgraded h from to text
-- the first fault of the old images, where the shelf tells its files, is this one of leg l
UpgradeEnds h from to (ends.Image l f) text =
    TellsFault h.files (leg_names from) First (errors.Image l f) × OthersStand h from
    × (text ≡ image_text l f)
-- the shelf failed in a call on this leg's old file, or the leg did
UpgradeEnds h from to (ends.Shelf l) text =
    (ShelfRose h ⊎ Rose h.leg_faults h.leg_faults_after) × SomeNew h from to
    × (text ≡ shelf_text from l)
-- the shelf failed in a call on this leg's new file
UpgradeEnds h from to (ends.ShelfTo l) text =
    ShelfRose h × NewBelow h from to l × (text ≡ shelf_text to l)
UpgradeEnds h from to ends.Memory text = SomeNew h from to × (text ≡ [])
UpgradeEnds h from to ends.Write text = ⊥
