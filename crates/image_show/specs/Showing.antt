-- What `show_images` tells of the images, by its end.
use Rattle.std.specs.Prelude.{◌≡◌, ◌⊎◌, ℕ, List, [], length, Option}
use Rattle.mdc_types.specs.Faults.{Rose}
use Rattle.mdc_types.specs.declared.numbers.Sector.{Sector}
use Rattle.leg_shelf.specs.Shelves.{Files}
use Rattle.cluster_model.specs.Opening.{Origin, IsOrigin}
use Rattle.cluster_model.specs.Contents.{HasImages}
use Rattle.world_state.specs.Told.{legs_of}
use Rattle.image_faults.specs.declared.faults.ImageError.{ImageError}
use Rattle.image_faults.specs.declared.faults.ImageError.TheVariants as errors
use Rattle.image_faults.specs.declared.legs.LegImage.{LegImage}
use Rattle.image_files.specs.Closed.{OnlyTheseChange}
use Rattle.image_files.specs.Names.{leg_names}
use Rattle.image_texts.specs.Lines.{image_text, shelf_text}
use Rattle.image_texts.specs.Shown.{show_text}
use Rattle.image_opening.specs.Faults.{TellsFault}
use Rattle.image_opening.specs.Opened.{AreOpened, TellsFiles}
use Rattle.image_opening.specs.declared.versions.Versions.TheVariants.{Any}
use Rattle.image_ends.specs.Seen.{ShelfSeen, ShelfRose}
use Rattle.image_ends.specs.declared.ends.CommandEnd.{CommandEnd}
use Rattle.image_ends.specs.declared.ends.CommandEnd.TheVariants as ends

-- these are the images of the array of this name, one of each leg. Where the shelf tells its files they
-- are what stands there, and without a fault
pub record AreShown (files : Option Files) (name : List ℕ) (images : List LegImage) : Type 0 where
  pub opening : Origin
  pub origin : IsOrigin opening
  pub all : length images ≡ opening.sizes.legs
  pub told : List (Option (List Sector))
  pub lengths : List ℕ
  pub opened : AreOpened files (leg_names name) images told lengths
  pub sound : TellsFiles files → HasImages opening (legs_of told)

-- the shelf failed, or a leg of it
abbrev pub SomeRose : ShelfSeen → Type 0
SomeRose h = ShelfRose h ⊎ Rose h.leg_faults h.leg_faults_after

-- of other names than those of the array none has changed
abbrev pub OthersStand : ShelfSeen → List ℕ → Type 0
OthersStand h name = OnlyTheseChange (leg_names name) 0 8 h.files h.files_after

-- why the images weren't read and given back
abbrev pub ShowErrs : ShelfSeen → List ℕ → ImageError → Type 0
ShowErrs h name (errors.Image l f) =
    TellsFault h.files (leg_names name) Any (errors.Image l f) × OthersStand h name
ShowErrs h name (errors.Shelf l) = ShelfRose h × OthersStand h name
ShowErrs h name (errors.Device l) = Rose h.leg_faults h.leg_faults_after × OthersStand h name
ShowErrs h name (errors.Memory e) = OthersStand h name

abbrev pub ShowEnds : ShelfSeen → List ℕ → CommandEnd → List ℕ → Type 0
-- all images were read and given back as they were
ShowEnds h name ends.Done text =
    ((images : List LegImage) × (AreShown h.files name images × (text ≡ show_text images)))
    × (h.files_after ≡ h.files)
-- the first fault of the images, where the shelf tells its files, is this one of leg l
ShowEnds h name (ends.Image l f) text =
    TellsFault h.files (leg_names name) Any (errors.Image l f) × OthersStand h name
    × (text ≡ image_text l f)
-- the shelf failed in a call on this leg's file, or the leg did
ShowEnds h name (ends.Shelf l) text =
    SomeRose h × OthersStand h name × (text ≡ shelf_text name l)
ShowEnds h name ends.Memory text = OthersStand h name × (text ≡ [])
ShowEnds h name ends.Write text = ⊥
ShowEnds h name (ends.ShelfTo l) text = ⊥
