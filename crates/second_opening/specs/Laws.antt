-- The law of images that were made into those of version 2.
use Rattle.std.specs.Prelude.{◌≡◌, ℕ, ◌<◌, false, List, length, get_or, Some}
use Rattle.mdc_types.specs.Geometry.{length_of}
use Rattle.mdc_types.specs.Sectors.{zero_sector}
use Rattle.mdc_types.specs.declared.numbers.Sector.{Sector}
use Rattle.md_superblock.specs.Arrays.{AreBytes}
use Rattle.cluster_model.specs.Contents.{HasImages}
use Rattle.cluster_model.specs.Opening.{Origin, IsOrigin}
use Rattle.cluster_model.specs.State.{Legs}
use Rattle.leg_shelf.specs.Images.{sectors_in}
use Rattle.leg_shelf.specs.Shelves.{Files}
use Rattle.disk_image.specs.Files.{leg_name, legs_in}
use Rattle.image_faults.specs.declared.legs.LegImage.{LegImage}
use Rattle.image_array.specs.Legs.{AreLegs, IsReadAs, super_at, sizes_at, slots_at}
use Rattle.image_second.specs.Second.{WasRead, second_sizes, second_sector, second_image}

-- the opening, but for the version
abbrev pub second_origin : Origin → Origin
second_origin o = record o { sizes = second_sizes o.sizes }

-- what was read of leg l
abbrev pub read_at : List LegImage → ℕ → WasRead
read_at images l = record {
  superblock = super_at images l;
  sizes = sizes_at images l;
  slots = slots_at images l;
}

-- the array opens with this, and is of version 1; these images were read of its legs; and the new legs
-- have the new images that are made of them
pub record AreMade (o : Origin) (images : List LegImage) (old new : Legs) : Type 0 where
  pub origin : IsOrigin o
  pub first : o.sizes.second ≡ false
  pub name : AreBytes 32 o.name
  pub uuid : AreBytes 16 o.uuid
  pub all : length images ≡ o.sizes.legs
  pub legs : AreLegs images
  pub chunk : (sizes_at images 0).chunk ≡ o.sizes.chunk
  pub leg : ℕ → List Sector
  pub size : ℕ → ℕ
  pub read : (l : ℕ) → l < o.sizes.legs → IsReadAs (leg l) (size l) images l
  pub old_content : (l at : ℕ) → l < o.sizes.legs → old.content l at ≡ get_or (leg l) at zero_sector
  pub new_content : (l at : ℕ) → l < o.sizes.legs → at < length_of (second_sizes o.sizes)
      → new.content l at ≡ second_sector (read_at images l) (leg l) at

-- what is upgraded opens as before, but for the version
abbrev pub UpgradedImagesOpenAlike : Type 0
UpgradedImagesOpenAlike =
    (o : Origin) (images : List LegImage) (old new : Legs) → AreMade o images old new
    → HasImages o old → HasImages (second_origin o) new

-- the array opens with this, and is of version 1; these images were read of the sectors of its legs'
-- files; and under this name stand the new images that are made of them
pub record AreStoredNew (o : Origin) (images : List LegImage) (old : Legs) (files : Files)
    (to : List ℕ) : Type 0 where
  pub origin : IsOrigin o
  pub first : o.sizes.second ≡ false
  pub all : length images ≡ o.sizes.legs
  pub legs : AreLegs images
  pub bytes : ℕ → List ℕ
  pub size : ℕ → ℕ
  pub read : (l : ℕ) → l < o.sizes.legs → IsReadAs (sectors_in (bytes l)) (size l) images l
  pub old_content : (l at : ℕ) → l < o.sizes.legs
      → old.content l at ≡ get_or (sectors_in (bytes l)) at zero_sector
  pub stored : (l : ℕ) → l < o.sizes.legs
      → files (leg_name to l) ≡ Some (second_image (read_at images l) (sectors_in (bytes l)))

-- the first n legs have what stands in the files of this name
abbrev pub HoldFiles : ℕ → Files → List ℕ → Legs → Type 0
HoldFiles n files name legs =
    (l at : ℕ) → l < n → legs.content l at ≡ (legs_in files name).content l at

-- the files of the new images, opened again, are without a fault and open as the old ones, but for
-- the version
abbrev pub OpenAlike : Type 0
OpenAlike =
    (o : Origin) (images : List LegImage) (old : Legs) (files : Files) (to : List ℕ) (new : Legs)
    → AreStoredNew o images old files to → HoldFiles o.sizes.legs files to new
    → HasImages o old → HasImages (second_origin o) new
