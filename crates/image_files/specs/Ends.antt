-- What an error of a call on the legs of an array tells.
use Rattle.std.specs.Prelude.{ℕ, ◌<◌, List, get_or}
use Rattle.image_faults.specs.declared.faults.ImageError.{ImageError}
use Rattle.image_faults.specs.declared.faults.ImageError.TheVariants.{Image, Shelf, Device, Memory}

-- the leg of an error is one of eight
abbrev pub IsOfLeg : ImageError → Type 0
IsOfLeg (Image l f) = l < 8
IsOfLeg (Shelf l) = l < 8
IsOfLeg (Device l) = l < 8
IsOfLeg (Memory e) = Unit {0}

-- a leg that is told to have failed has, by the counts of all legs
abbrev pub HasFailed : List ℕ → ImageError → Type 0
HasFailed faults (Device l) = 0 < get_or faults l 0
HasFailed faults (Image l f) = Unit {0}
HasFailed faults (Shelf l) = Unit {0}
HasFailed faults (Memory e) = Unit {0}

-- the end of a transfer
abbrev pub IsTransferEnd : ImageError → Type 0
IsTransferEnd (Device l) = Unit {0}
IsTransferEnd (Memory e) = Unit {0}
IsTransferEnd (Image l f) = ⊥
IsTransferEnd (Shelf l) = ⊥
