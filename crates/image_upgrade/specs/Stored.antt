-- The new images of an upgrade, under the new name.
use Rattle.std.specs.Prelude.{◌≡◌, ◌≤◌, ◌<◌, ℕ, zero, suc, List, length, get_or, Option, Some, None, Result, Ok, Err}
use Rattle.mdc_types.specs.Geometry.{length_of}
use Rattle.mdc_types.specs.declared.numbers.Sector.{Sector}
use Rattle.leg_shelf.specs.Shelves.{Files, put_file, OthersStay}
use Rattle.disk_image.specs.Files.{leg_name}
use Rattle.image_faults.specs.declared.legs.LegImage.{LegImage}
use Rattle.image_array.specs.Legs.{super_at, sizes_at, slots_at}
use Rattle.image_second.specs.Second.{WasRead, IsReadable, second_image}
use Rattle.image_upgrade.specs.declared.ends.UpgradeError.{UpgradeError}
use Rattle.image_upgrade.specs.declared.ends.UpgradeError.TheVariants.{Old, New}

-- what was read of leg l
abbrev pub read_at : List LegImage → ℕ → WasRead
read_at images l = record {
  superblock = super_at images l;
  sizes = sizes_at images l;
  slots = slots_at images l;
}

-- they are in their ranges, and each leg has so many sectors as its image says
pub record AreReadable (images : List LegImage) (lengths : List ℕ) : Type 0 where
  pub each : (l : ℕ) → l < length images → IsReadable (read_at images l)
  pub long : (l : ℕ) → l < length images → get_or lengths l 0 ≡ length_of (sizes_at images l)

-- the new image of a leg stands under this name, where the leg tells what it holds
abbrev pub PutsNew : Option Files → List ℕ → WasRead → Option (List Sector) → Option Files → Type 0
PutsNew old file r None new = OthersStay old file new
PutsNew old file r (Some leg) new = new ≡ put_file old file (Some (second_image r leg))

-- one was stored, or of other names none has changed
abbrev pub OneStored : {T : Type 0} → Option Files → List ℕ → WasRead → Option (List Sector)
    → Result T UpgradeError → Option Files → Type 0
OneStored old file r told (Ok u) new = PutsNew old file r told new
OneStored old file r told (Err e) new = OthersStay old file new

-- the new images of the first n legs stand under the new name
abbrev pub AreStored : List ℕ → List LegImage → List (Option (List Sector)) → ℕ → Option Files
    → Option Files → Type 0
AreStored to images told zero old new = new ≡ old
AreStored to images told (suc n) old new =
    (mid : Option Files) × AreStored to images told n old mid
    × PutsNew mid (leg_name to n) (read_at images n) (get_or told n None) new

-- those of the legs below n, and of other names only that of leg n may have changed
abbrev pub StoredBelow : List ℕ → List LegImage → List (Option (List Sector)) → ℕ → Option Files
    → Option Files → Type 0
StoredBelow to images told n old new =
    (mid : Option Files) × (n ≤ length images) × AreStored to images told n old mid
    × OthersStay mid (leg_name to n) new

-- all were stored, or the first few: where the shelf failed at leg l, those of the legs below l
abbrev pub StoredSome : {T : Type 0} → List ℕ → List LegImage → List (Option (List Sector)) → Option Files
    → Result T UpgradeError → Option Files → Type 0
StoredSome to images told old (Ok t) new = AreStored to images told (length images) old new
StoredSome to images told old (Err (New l)) new = StoredBelow to images told l old new
StoredSome to images told old (Err (Old e)) new = (n : ℕ) × StoredBelow to images told n old new
