-- The law of new images.
use Rattle.std.specs.Prelude.{◌≡◌, ℕ, true, List, Some}
use Rattle.mdc_types.specs.Geometry.{IsGeometry}
use Rattle.mdc_types.specs.Names.{is_name}
use Rattle.md_superblock.specs.Arrays.{Array, AreBytes}
use Rattle.leg_shelf.specs.Shelves.{Files}
use Rattle.cluster_model.specs.Opening.{IsOrigin, core_at}
use Rattle.cluster_model.specs.Contents.{HasImages, IsImages, SoundOpening}
use Rattle.disk_image.specs.Files.{legs_in}
use Rattle.disk_image.specs.Created.{created_at, with_images}

-- an array that there may be
pub record IsArray (a : Array) : Type 0 where
  pub sizes : IsGeometry a.sizes
  pub name : is_name a.name ≡ true
  pub bytes : AreBytes 32 a.name
  pub uuid : AreBytes 16 a.uuid

-- these files have the new images of the array under the name
abbrev pub HaveNewImages : Array → List ℕ → Files → Type 0
HaveNewImages a name files =
    (old : Files) × (Some files ≡ with_images (Some old) name (created_at a) a.sizes.legs)

-- new images are without a fault, their opening is that of a header with the array's numbers, name
-- and uuid but no members, and it is sound
abbrev pub NewImagesAreSound : Type 0
NewImagesAreSound =
    (a : Array) (name : List ℕ) (files : Files) → IsArray a → HaveNewImages a name files
    → let o = created_at a in let legs = legs_in files name in
    IsOrigin o × IsImages o legs × HasImages o legs
    × SoundOpening o (record { core = core_at o; legs = legs })
