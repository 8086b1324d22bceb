-- How the text of an end was printed.
use Rattle.std.specs.Prelude.{◌≡◌, ◌⊎◌, ℕ, List}
use Rattle.image_faults.specs.declared.faults.ImageError.{ImageError}
use Rattle.image_faults.specs.declared.faults.ImageError.TheVariants as errors
use Rattle.image_texts.specs.Lines.{image_text, shelf_text}
use Rattle.image_ends.specs.Seen.{SinkSeen, SinkRose, Wrote, WroteLess, WroteNothing}
use Rattle.image_ends.specs.declared.ends.CommandEnd.{CommandEnd}
use Rattle.image_ends.specs.declared.ends.CommandEnd.TheVariants as ends

-- all of the text was written, and the end is its own; or a write failed
pub data Told (k : SinkSeen) (text : List ℕ) (end : CommandEnd) : CommandEnd → Type 0 where
  all : Wrote k text → Told k text end end
  less : SinkRose k → WroteLess k text → Told k text end ends.Write

-- the same, or there was no memory for the text
abbrev pub ToldOrNot : SinkSeen → List ℕ → CommandEnd → CommandEnd → Type 0
ToldOrNot k text end result =
    Told k text end result ⊎ ((result ≡ ends.Memory) × WroteNothing k)

-- how a command ended whose call on the images of the array of this name wasn't done
abbrev pub TellsError : SinkSeen → List ℕ → ImageError → CommandEnd → Type 0
TellsError k name (errors.Image l f) result = ToldOrNot k (image_text l f) (ends.Image l f) result
TellsError k name (errors.Shelf l) result = ToldOrNot k (shelf_text name l) (ends.Shelf l) result
TellsError k name (errors.Device l) result = ToldOrNot k (shelf_text name l) (ends.Shelf l) result
TellsError k name (errors.Memory e) result = (result ≡ ends.Memory) × WroteNothing k
