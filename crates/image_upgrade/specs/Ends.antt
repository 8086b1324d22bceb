-- What an error of an upgrade tells.
use Rattle.std.specs.Prelude.{◌≡◌, ℕ, ◌<◌, Bool, true, List}
use Rattle.image_faults.specs.declared.faults.ImageError.{ImageError}
use Rattle.image_faults.specs.declared.faults.ImageError.TheVariants as errors
use Rattle.image_faults.specs.declared.legs.LegEnd.{LegEnd}
use Rattle.image_faults.specs.declared.legs.LegEnd.TheVariants.{Fault, Failed, Memory}
use Rattle.image_files.specs.Closed as closed
use Rattle.image_files.specs.Ends as files
use Rattle.image_upgrade.specs.declared.ends.UpgradeError.{UpgradeError}
use Rattle.image_upgrade.specs.declared.ends.UpgradeError.TheVariants.{Old, New}

-- why the new image of leg l wasn't made
abbrev pub made_error : ℕ → LegEnd → ImageError
made_error l (Fault f) = errors.Image l f
made_error l Failed = errors.Device l
made_error l (Memory e) = errors.Memory e

-- a fault of the shelf
abbrev pub is_shelf_fault : UpgradeError → Bool
is_shelf_fault (Old e) = closed.is_shelf_fault e
is_shelf_fault (New l) = true

-- the leg of an error is one of eight
abbrev pub IsOfLeg : UpgradeError → Type 0
IsOfLeg (Old e) = files.IsOfLeg e
IsOfLeg (New l) = l < 8

-- a leg that is told to have failed has, by the counts of all legs
abbrev pub HasFailed : List ℕ → UpgradeError → Type 0
HasFailed faults (Old e) = files.HasFailed faults e
HasFailed faults (New l) = Unit {0}

-- the same of one leg, by its count
abbrev pub LegFailed : ℕ → UpgradeError → Type 0
LegFailed faults (Old (errors.Device l)) = 0 < faults
LegFailed faults (Old (errors.Image l f)) = Unit {0}
LegFailed faults (Old (errors.Shelf l)) = Unit {0}
LegFailed faults (Old (errors.Memory e)) = Unit {0}
LegFailed faults (New l) = Unit {0}

-- why bytes weren't put under leg l's name
abbrev pub IsPutEnd : ℕ → UpgradeError → Type 0
IsPutEnd l (Old (errors.Memory e)) = Unit {0}
IsPutEnd l (Old (errors.Device k)) = ⊥
IsPutEnd l (Old (errors.Image k f)) = ⊥
IsPutEnd l (Old (errors.Shelf k)) = ⊥
IsPutEnd l (New k) = k ≡ l

-- why the new image of leg l wasn't stored
abbrev pub IsStoreEnd : ℕ → UpgradeError → Type 0
IsStoreEnd l (Old (errors.Device k)) = k ≡ l
IsStoreEnd l (Old (errors.Memory e)) = Unit {0}
IsStoreEnd l (Old (errors.Image k f)) = ⊥
IsStoreEnd l (Old (errors.Shelf k)) = ⊥
IsStoreEnd l (New k) = k ≡ l

-- why the new images weren't all stored: no fault of the old ones is found any more
abbrev pub IsNewEnd : UpgradeError → Type 0
IsNewEnd (Old (errors.Device l)) = l < 8
IsNewEnd (Old (errors.Memory e)) = Unit {0}
IsNewEnd (Old (errors.Image l f)) = ⊥
IsNewEnd (Old (errors.Shelf l)) = ⊥
IsNewEnd (New l) = l < 8
