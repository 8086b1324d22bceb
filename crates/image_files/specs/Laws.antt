-- The law of legs that are opened and given back.
use Rattle.std.specs.Prelude.{◌≡◌, ℕ, ◌<◌, List, length, get_or, Option, None, Ok}
use Rattle.mdc_types.specs.declared.numbers.Sector.{Sector}
use Rattle.leg_shelf.specs.Shelves.{Files}
use Rattle.image_files.specs.Names.{file_of}
use Rattle.image_files.specs.Opened.{OpensFile}
use Rattle.image_files.specs.Closed.{Closes}

-- these legs were opened from these files, which have so many bytes
pub record WereOpened (files : Option Files) (names : List (List ℕ)) (told : List (Option (List Sector)))
    (sizes : ℕ → ℕ) : Type 0 where
  pub each : (l : ℕ) → l < length told → OpensFile files (file_of names l) (get_or told l None) (sizes l)

-- given back as they were, they leave all files as they were
abbrev pub OpenedAndClosed : Type 0
OpenedAndClosed =
    (old new : Option Files) (names : List (List ℕ)) (told : List (Option (List Sector))) (sizes : ℕ → ℕ)
    → WereOpened old names told sizes → Closes names told (length told) old (Ok tt) new → new ≡ old
