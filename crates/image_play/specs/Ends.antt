-- What a script over images leaves on the shelf and prints, by how it ended.
use Rattle.std.specs.Prelude.{◌≡◌, ℕ, List, [], Option, Result, Ok, Err}
use Rattle.script_text.specs.declared.script.Line.{Line}
use Rattle.script_text.specs.Outside.{with_back, WroteFront}
use Rattle.image_faults.specs.declared.faults.ImageError.{ImageError}
use Rattle.image_faults.specs.declared.faults.ImageError.TheVariants as errors
use Rattle.image_texts.specs.Lines.{image_text, shelf_text}
use Rattle.image_ends.specs.Seen.{ShelfSeen, SinkSeen, ShelfRose, SinkRose}
use Rattle.image_ends.specs.Seen.{Wrote, WroteLess, WroteNothing}
use Rattle.image_ends.specs.declared.ends.CommandEnd.{CommandEnd}
use Rattle.image_ends.specs.declared.ends.CommandEnd.TheVariants as commands
use Rattle.image_ends.specs.Told.{TellsError}
use Rattle.image_show.specs.Showing.{ShowErrs, OthersStand}
use Rattle.script_play.specs.declared.running.RunEnd.{RunEnd}
use Rattle.script_play.specs.declared.running.RunEnd.TheVariants as runs
use Rattle.image_play.specs.Playing.{Runs}
use Rattle.image_play.specs.declared.ends.ImagesEnd.{ImagesEnd}
use Rattle.image_play.specs.declared.ends.ImagesEnd.TheVariants as ends

-- what is printed of an error
abbrev pub error_text : List ℕ → ImageError → List ℕ
error_text name (errors.Image l f) = image_text l f
error_text name (errors.Shelf l) = shelf_text name l
error_text name (errors.Device l) = shelf_text name l
error_text name (errors.Memory e) = []

-- all lines were played and their text was written, and then leg l wasn't taken back; so much was
-- written by then
pub record FailsClosing (h : ShelfSeen) (name : List ℕ) (lines : List Line) (k : SinkSeen)
    (mid : Option (List ℕ)) (l : ℕ) : Type 0 where
  pub runs : Runs h.files h.files_after name lines k.written mid runs.Done (Err (errors.Shelf l))
  pub rose : ShelfRose h

-- the shelf failed at leg l, or the leg did
pub data AtLeg (h : ShelfSeen) (name : List ℕ) (lines : List Line) (k : SinkSeen) (l : ℕ)
    : Type 0 where
  opening : ShowErrs h name (errors.Shelf l) → Wrote k (shelf_text name l) → AtLeg h name lines k l
  reading : ShowErrs h name (errors.Device l) → Wrote k (shelf_text name l) → AtLeg h name lines k l
  closing : (mid : Option (List ℕ)) → FailsClosing h name lines k mid l
      → (k.written_after ≡ with_back mid (shelf_text name l)) → AtLeg h name lines k l

-- which text was cut short: of an error, of the lines, or of a leg that wasn't taken back
pub data Cut (h : ShelfSeen) (name : List ℕ) (lines : List Line) (k : SinkSeen) : Type 0 where
  of_error : (e : ImageError) → ShowErrs h name e → WroteLess k (error_text name e)
      → Cut h name lines k
  of_lines : (closed : Result (Unit {0}) ImageError)
      → Runs h.files h.files_after name lines k.written k.written_after runs.Write closed
      → Cut h name lines k
  of_closing : (mid : Option (List ℕ)) (l : ℕ) → FailsClosing h name lines k mid l
      → WroteFront mid (shelf_text name l) k.written_after → Cut h name lines k

-- where memory was wanting: before the first line, in a line, or once all were played
pub data NoMemory (h : ShelfSeen) (name : List ℕ) (lines : List Line) (k : SinkSeen)
    : Type 0 where
  before : WroteNothing k → OthersStand h name → NoMemory h name lines k
  in_line : (closed : Result (Unit {0}) ImageError)
      → Runs h.files h.files_after name lines k.written k.written_after runs.Memory closed
      → NoMemory h name lines k
  closing : (e : ImageError)
      → Runs h.files h.files_after name lines k.written k.written_after runs.Done (Err e)
      → NoMemory h name lines k

abbrev pub Ends : ShelfSeen → List ℕ → List Line → SinkSeen → ImagesEnd → Type 0
-- all lines were played, and the legs were given back
Ends h name lines k ends.Done =
    Runs h.files h.files_after name lines k.written k.written_after runs.Done (Ok tt)
-- an event found the trace full, and then the legs were given back, so far as the shelf took them
Ends h name lines k ends.TraceFull =
    (closed : Result (Unit {0}) ImageError)
    × Runs h.files h.files_after name lines k.written k.written_after runs.TraceFull closed
-- the first fault of the images, where the shelf tells its files, is this one of leg l
Ends h name lines k (ends.Image l f) =
    ShowErrs h name (errors.Image l f) × Wrote k (image_text l f)
Ends h name lines k (ends.Shelf l) = AtLeg h name lines k l
Ends h name lines k ends.Write = SinkRose k × Cut h name lines k
Ends h name lines k ends.Memory = NoMemory h name lines k

-- the end of a command, as one of a script
abbrev pub images_end : CommandEnd → ImagesEnd
images_end commands.Done = ends.Done
images_end (commands.Image l f) = ends.Image l f
images_end (commands.Shelf l) = ends.Shelf l
images_end (commands.ShelfTo l) = ends.Shelf l
images_end commands.Write = ends.Write
images_end commands.Memory = ends.Memory

-- how the last words were told, once the lines had ended so and the legs were given back so
abbrev pub Finishes : SinkSeen → List ℕ → RunEnd → Result (Unit {0}) ImageError → ImagesEnd → Type 0
Finishes k name runs.Done (Ok u) result = (result ≡ ends.Done) × WroteNothing k
Finishes k name runs.Done (Err e) result =
    (end : CommandEnd) × (TellsError k name e end × (result ≡ images_end end))
Finishes k name runs.Write closed result = (result ≡ ends.Write) × WroteNothing k
Finishes k name runs.Memory closed result = (result ≡ ends.Memory) × WroteNothing k
Finishes k name runs.TraceFull closed result = (result ≡ ends.TraceFull) × WroteNothing k
