-- The faults of an array's images, and in which order they are told.
use Rattle.std.specs.Prelude.{◌≡◌, ◌⊎◌, ℕ, ◌<◌, ◌==◌, ◌-◌, ◌/◌, ◌^◌, min, not, List, [], length}
use Rattle.std.specs.Prelude.{Option, None, Some, Err, unwrap_or}
use Rattle.std.specs.Option.{option_map}
use Rattle.dlm_modes.specs.Guards.{unless, or_then}
use Rattle.mdc_types.specs.declared.numbers.Sector.{Sector}
use Rattle.md_superblock.specs.declared.superblock.Super.{Super}
use Rattle.leg_shelf.specs.Images.{sectors_in}
use Rattle.leg_shelf.specs.Shelves.{Files}
use Rattle.image_faults.specs.Sizes.{size_fault}
use Rattle.image_faults.specs.declared.faults.ImageError.{ImageError}
use Rattle.image_faults.specs.declared.faults.ImageError.TheVariants.{Image, Shelf, Device, Memory}
use Rattle.image_faults.specs.declared.faults.ImageFault.{ImageFault}
use Rattle.image_faults.specs.declared.faults.ImageFault.TheVariants.{Upgraded}
use Rattle.image_faults.specs.declared.legs.LegEnd.{LegEnd}
use Rattle.image_faults.specs.declared.legs.LegEnd.TheVariants as ends
use Rattle.image_faults.specs.declared.legs.LegImage.{LegImage}
use Rattle.image_files.specs.Names.{file_of}
use Rattle.image_files.specs.Ends.{IsOfLeg, HasFailed}
use Rattle.cluster_model.specs.Stored.{data_on}
use Rattle.world_state.specs.Told.{legs_of}
use Rattle.image_array.specs.Heads.{IsHead}
use Rattle.image_array.specs.Legs.{AreAll, next_fault, super_at}
use Rattle.image_array.specs.Values.{IsBase, JudgesData}
use Rattle.image_array.specs.declared.heads.Head.{Head}
use Rattle.image_opening.specs.Opened.{AreOpened, AllLegsTell}
use Rattle.image_opening.specs.declared.versions.Versions.{Versions}
use Rattle.image_opening.specs.declared.versions.Versions.TheVariants.{Any, First}

-- image version 2, where only version 1 is taken
abbrev pub version_fault : Versions → Super → Option ImageFault
version_fault Any s = None
version_fault First s = unless (not (s.version == 2)) Upgraded

-- the first fault of the next leg after those that were read, by its file: of its size, by itself, and
-- against those before it
abbrev pub file_fault : List LegImage → Option (List ℕ) → Option ImageFault
file_fault images file =
    let bytes = unwrap_or file [] in
    or_then (size_fault (option_map length file))
    (next_fault images (length bytes) (sectors_in bytes))

-- the array has a leg after those that were read, as leg 0 says, whose version is taken
pub record HasNext (versions : Versions) (images : List LegImage) : Type 0 where
  pub within : 0 < length images → length images < (super_at images 0).geometry_legs
  pub taken : 0 < length images → version_fault versions (super_at images 0) ≡ None

-- the legs before leg l have no fault, and this is the first that leg l has
pub record FaultsLeg (files : Files) (names : List (List ℕ)) (versions : Versions) (l : ℕ)
    (f : ImageFault) : Type 0 where
  pub images : List LegImage
  pub told : List (Option (List Sector))
  pub lengths : List ℕ
  pub opened : AreOpened (Some files) names images told lengths
  pub before : length images ≡ l
  pub has_next : HasNext versions images
  pub fault : file_fault images (files (file_of names l)) ≡ Some f

-- leg 0 has no fault of its own, but its version isn't taken
pub record FaultsVersion (files : Files) (names : List (List ℕ)) (versions : Versions) (l : ℕ)
    (f : ImageFault) : Type 0 where
  pub images : List LegImage
  pub told : List (Option (List Sector))
  pub lengths : List ℕ
  pub opened : AreOpened (Some files) names images told lengths
  pub one : length images ≡ 1
  pub first : l ≡ 0
  pub fault : version_fault versions (super_at images 0) ≡ Some f

-- no leg has a fault of its own, but legs that work differ where nothing is marked: this tells the
-- first such sector, and the first leg that works and differs there from the first leg that works
pub record FaultsData (files : Files) (names : List (List ℕ)) (versions : Versions) (l : ℕ)
    (f : ImageFault) : Type 0 where
  pub images : List LegImage
  pub told : List (Option (List Sector))
  pub lengths : List ℕ
  pub opened : AreOpened (Some files) names images told lengths
  pub all : AreAll images
  pub taken : version_fault versions (super_at images 0) ≡ None
  pub head : Head
  pub said : IsHead images head
  pub fault : JudgesData head images (data_on head.geometry (legs_of told)) 0 head.geometry.room
      (Err (Image l f))

-- the first fault of the images under these names is this one of leg l
abbrev pub FaultsArray : Files → List (List ℕ) → Versions → ℕ → ImageFault → Type 0
FaultsArray files names versions l f =
    FaultsLeg files names versions l f
    ⊎ (FaultsVersion files names versions l f ⊎ FaultsData files names versions l f)

-- a fault that is told is the first, where the shelf tells its files
abbrev pub TellsFault : Option Files → List (List ℕ) → Versions → ImageError → Type 0
TellsFault None names versions e = Unit {0}
TellsFault (Some files) names versions (Image l f) = FaultsArray files names versions l f
TellsFault (Some files) names versions (Shelf l) = Unit {0}
TellsFault (Some files) names versions (Device l) = Unit {0}
TellsFault (Some files) names versions (Memory e) = Unit {0}

-- why the legs weren't opened and read, by the counts of those that were opened
pub record IsOpenEnd (files : Option Files) (names : List (List ℕ)) (versions : Versions)
    (faults : List ℕ) (e : ImageError) : Type 0 where
  pub leg : IsOfLeg e
  pub failed : HasFailed faults e
  pub fault : TellsFault files names versions e

-- One leg.

-- why leg l's image wasn't read
abbrev pub leg_error : ℕ → LegEnd → ImageError
leg_error l (ends.Fault f) = Image l f
leg_error l ends.Failed = Device l
leg_error l (ends.Memory e) = Memory e

-- what is told of the next leg, which is leg l and whose file has so many bytes, is its first fault,
-- where the leg tells and has the file's whole sectors
abbrev pub TellsNext : Option (List Sector) → List LegImage → ℕ → ℕ → ImageError → Type 0
TellsNext None images size l (Image k f) = k ≡ l
TellsNext (Some leg) images size l (Image k f) =
    (k ≡ l) × (length leg ≡ min (size / 512) (2 ^ 32 - 1) → next_fault images size leg ≡ Some f)
TellsNext told images size l (Device k) = k ≡ l
TellsNext told images size l (Memory e) = Unit {0}
TellsNext told images size l (Shelf k) = ⊥

-- the leg has failed where it is told
abbrev pub LegFailed : ℕ → ImageError → Type 0
LegFailed faults (Device k) = 0 < faults
LegFailed faults (Image k f) = Unit {0}
LegFailed faults (Shelf k) = Unit {0}
LegFailed faults (Memory e) = Unit {0}

-- why the next leg, which is leg l, wasn't opened or read: the first fault of its file, where the
-- shelf tells
abbrev pub TellsFile : Option Files → List (List ℕ) → List LegImage → ℕ → ImageError → Type 0
TellsFile None names images l (Image k f) = k ≡ l
TellsFile (Some files) names images l (Image k f) =
    (k ≡ l) × (file_fault images (files (file_of names l)) ≡ Some f)
TellsFile files names images l (Shelf k) = k ≡ l
TellsFile files names images l (Device k) = k ≡ l
TellsFile files names images l (Memory e) = Unit {0}

-- the same, by the counts of the legs that were opened
pub record IsNextEnd (files : Option Files) (names : List (List ℕ)) (images : List LegImage) (l : ℕ)
    (faults : List ℕ) (e : ImageError) : Type 0 where
  pub told : TellsFile files names images l e
  pub failed : HasFailed faults e

-- The data.

-- the values of the sectors below n, where all legs tell
pub record HaveBase (told : List (Option (List Sector))) (head : Head) (images : List LegImage)
    (n : ℕ) (base : List (List Sector)) : Type 0 where
  pub many : length base ≡ n
  pub values : AllLegsTell told
      → IsBase head images (data_on head.geometry (legs_of told)) n base

abbrev pub TellsData : List (Option (List Sector)) → Head → List LegImage → ImageError → Type 0
TellsData told head images (Image l f) =
    AllLegsTell told → JudgesData head images (data_on head.geometry (legs_of told)) 0
    head.geometry.room (Err (Image l f))
TellsData told head images (Shelf l) = ⊥
TellsData told head images (Device l) = Unit {0}
TellsData told head images (Memory e) = Unit {0}

-- why the data wasn't taken in
pub record IsDataEnd (told : List (Option (List Sector))) (head : Head) (images : List LegImage)
    (faults : List ℕ) (e : ImageError) : Type 0 where
  pub leg : IsOfLeg e
  pub failed : HasFailed faults e
  pub fault : TellsData told head images e

-- the same, with what the legs say
pub record IsArrayEnd (told : List (Option (List Sector))) (images : List LegImage) (faults : List ℕ)
    (e : ImageError) : Type 0 where
  pub head : Head
  pub said : IsHead images head
  pub end : IsDataEnd told head images faults e
