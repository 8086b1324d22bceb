-- The legs of an array that were opened from their files, and what was read of them.
use Rattle.std.specs.Prelude.{◌≡◌, ℕ, ◌*◌, ◌<◌, true, List, length, get_or, Option, None, is_some}
use Rattle.mdc_types.specs.Geometry.{length_of}
use Rattle.mdc_types.specs.declared.numbers.Sector.{Sector}
use Rattle.leg_shelf.specs.Shelves.{Files}
use Rattle.image_faults.specs.declared.legs.LegImage.{LegImage}
use Rattle.image_files.specs.Laws.{WereOpened}
use Rattle.image_array.specs.Legs.{AreLegs, ReadAs, sizes_at}

-- the bytes of leg l, which are whole sectors
abbrev pub bytes_at : List ℕ → ℕ → ℕ
bytes_at lengths l = 512 * get_or lengths l 0

-- what was read of each leg is what stands on it, where it tells, and none has a fault by itself; and
-- each has so many sectors as its superblock says
pub record AreReadOf (images : List LegImage) (told : List (Option (List Sector))) (lengths : List ℕ)
    : Type 0 where
  pub read : (l : ℕ) → l < length images → ReadAs (get_or told l None) (bytes_at lengths l) images l
  pub long : (l : ℕ) → l < length images → get_or lengths l 0 ≡ length_of (sizes_at images l)

-- these are the first legs of an array: they go with each other, each was opened from its file, and
-- they were read
pub record AreOpened (files : Option Files) (names : List (List ℕ)) (images : List LegImage)
    (told : List (Option (List Sector))) (lengths : List ℕ) : Type 0 where
  pub legs : AreLegs images
  pub many : (length told ≡ length images) × (length lengths ≡ length images)
  pub opened : WereOpened files names told (bytes_at lengths)
  pub read : AreReadOf images told lengths

-- each leg tells what it holds
abbrev pub AllLegsTell : List (Option (List Sector)) → Type 0
AllLegsTell told = (l : ℕ) → l < length told → is_some (get_or told l None) ≡ true

-- a shelf tells what it holds
abbrev pub TellsFiles : Option Files → Type 0
TellsFiles files = is_some files ≡ true
