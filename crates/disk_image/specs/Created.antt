-- New images of an array.
use Rattle.std.specs.Prelude.{ℕ, zero, suc, ◌<◌, Bool, true, false, List, map, Option, Some}
use Rattle.std.specs.Prelude.{nat_lt, if◌then◌else◌}
use Rattle.std.specs.List.{range_with_len}
use Rattle.mdc_types.specs.Geometry.{length_of}
use Rattle.mdc_types.specs.declared.roles.Role.{Role}
use Rattle.mdc_types.specs.declared.roles.Role.TheVariants.{Working, Spare}
use Rattle.md_superblock.specs.Arrays.{Array}
use Rattle.leg_shelf.specs.Images.{bytes_of}
use Rattle.leg_shelf.specs.Shelves.{Files, put_file, OthersStay}
use Rattle.cluster_model.specs.Opening.{Origin, header_at}
use Rattle.cluster_model.specs.Contents.{header_sector}
use Rattle.disk_image.specs.Files.{leg_name}
use Rattle.image_faults.specs.declared.faults.ImageError.{ImageError}
use Rattle.image_faults.specs.declared.faults.ImageError.TheVariants.{Image, Shelf, Device, Memory}

-- what a new array opens with: as a header of its sizes, but for its name, and with no members
abbrev pub created_at : Array → Origin
created_at a = record (header_at a.sizes 0 false 0) { name = a.name; uuid = a.uuid }

-- the role of a leg there
abbrev pub new_role : ℕ → ℕ → Role
new_role legs l = if nat_lt l legs then Working else Spare

-- the bytes of leg l
abbrev pub image_of : Origin → ℕ → List ℕ
image_of o l = bytes_of (map (header_sector o l) (range_with_len 0 (length_of o.sizes)))

-- with the images of the first n legs
abbrev pub with_images : Option Files → List ℕ → Origin → ℕ → Option Files
with_images old name o zero = old
with_images old name o (suc n) =
    put_file (with_images old name o n) (leg_name name n) (Some (image_of o n))

-- the images of the legs below l stand, and of other names only that of leg l may have changed
abbrev pub StandsTo : Option Files → List ℕ → Origin → ℕ → Option Files → Type 0
StandsTo old name o l new =
    (l < o.sizes.legs) × OthersStay (with_images old name o l) (leg_name name l) new

-- what a call that ended so has left
abbrev pub LeavesImages : Option Files → List ℕ → Origin → ImageError → Option Files → Type 0
LeavesImages old name o (Shelf l) new = StandsTo old name o l new
LeavesImages old name o (Memory e) new = (l : ℕ) × StandsTo old name o l new
LeavesImages old name o (Image l f) new = ⊥
LeavesImages old name o (Device l) new = ⊥

-- a fault of the shelf
abbrev pub is_shelf_fault : ImageError → Bool
is_shelf_fault (Shelf l) = true
is_shelf_fault e = false
