-- What the parts of the reader find.
use Rattle.std.specs.Prelude.{◌≡◌, ℕ, ◌+◌, ◌-◌, ◌<◌, ◌≤◌, List, [], ◌∷◌, length, drop, Option, Some, None, Result, Ok, Err, Vec, true}
use Rattle.std.specs.declared.alloc.Global.{Global}
use Rattle.std.specs.Borrow.{Bor}
use Rattle.std.specs.Option.{option_copied}
use Rattle.script_text.specs.declared.script.Start.{Start}
use Rattle.script_text.specs.declared.script.FaultLine.{FaultLine}
use Rattle.script_text.specs.declared.faults.FaultKind.{FaultKind}
use Rattle.script_text.specs.declared.faults.ScriptFault.{ScriptFault}
use Rattle.script_text.specs.declared.faults.ScriptEnd.{ScriptEnd}
use Rattle.script_text.specs.declared.faults.ScriptEnd.TheVariants.{Fault, Memory}
use Rattle.script_text.specs.Lines.{lines_of, text_of, words_after, script_limit}
use Rattle.script_text.specs.Header.{Setup}
use Rattle.script_text.specs.Script.{ScriptValue, said_by, with_lines, body_of, line_of, setup_in, new_setup, judged}
use Rattle.script_text.specs.Places.{lines_at, AreLines}

-- the bytes begin with a line of this text, which has so many bytes
pub record BeginsWithLine (bytes text : List ℕ) (size : ℕ) : Type 0 where
  pub line : List ℕ
  pub lines : lines_of bytes ≡ line ∷ lines_of (drop size bytes)
  pub text_is : text_of line ≡ text
  pub size_is : length line ≡ size
  pub some : 0 < size
  pub within : size ≤ length bytes

-- the words of a line that isn't skipped, as its first and what follows, and those of a skipped one
abbrev pub words_read : Option (Bor (List ℕ) × Option (Bor (List ℕ))) → List (List ℕ)
words_read None = []
words_read (Some said) = said.0.now ∷ words_after (option_copied said.1)

-- a line stands at this place and has a fault
pub record HasFault (bytes : List ℕ) (at : ℕ) (kind : FaultKind) : Type 0 where
  pub line : List ℕ
  pub lines : List (List ℕ)
  pub first : lines_of (drop at bytes) ≡ line ∷ lines
  pub said : said_by (script_limit - at) line ≡ Err kind

-- a line of these words stands at this place, and the next begins at the other
pub record HasLine (bytes : List ℕ) (at : ℕ) (words : List (List ℕ)) (next : ℕ) : Type 0 where
  pub line : List ℕ
  pub first : lines_of (drop at bytes) ≡ line ∷ lines_of (drop next bytes)
  pub said : said_by (script_limit - at) line ≡ Ok words
  pub next_is : next ≡ at + length line
  pub later : at < next
  pub within : next ≤ length bytes
  pub room : next ≤ script_limit

-- What a reader found of the line at a place: its fault, or what it says and where the next begins.
abbrev pub ReadsLine : List ℕ → ℕ → Result (Option (Bor (List ℕ) × Option (Bor (List ℕ))) × ℕ) FaultKind → Type 0
ReadsLine bytes at (Err kind) = HasFault bytes at kind
ReadsLine bytes at (Ok x) = HasLine bytes at (words_read x.0) x.1

-- The lines from a place on, where line n begins.

abbrev pub body_at : {L : Type 0} → (List ℕ → List (List ℕ) → Result L FaultKind) → List ℕ → ℕ → ℕ → Result (List L) ScriptFault
body_at of bytes at n = body_of of n (script_limit - at) (lines_of (drop at bytes))

abbrev pub setup_at : List ℕ → Setup → ℕ → ℕ → Result ScriptValue ScriptFault
setup_at bytes s at n = setup_in true s n (script_limit - at) (lines_of (drop at bytes))

-- What a reader found of the header: the array, where the next line begins, and its number.
abbrev pub ReadsStart : List ℕ → Result (Start × ℕ × ℕ) ScriptFault → Type 0
ReadsStart bytes (Err fault) = judged bytes ≡ Err fault
ReadsStart bytes (Ok x) = judged bytes ≡ setup_at bytes (new_setup x.0) x.1 x.2

-- What a reader found of the setup: the array, its transfers that fail, where the next line begins, and its number.
abbrev pub ReadsSetup : List ℕ → Result ScriptValue ScriptFault → Result (Start × Vec FaultLine Global × ℕ × ℕ) ScriptEnd → Type 0
ReadsSetup bytes there (Err (Fault fault)) = there ≡ Err fault
ReadsSetup bytes there (Err Memory) = Unit {0}
ReadsSetup bytes there (Ok x) = there ≡ with_lines (record { start = x.0; faults = x.1.items }) (body_at line_of bytes x.2 x.3)

-- What a reader found of the lines: where they begin, or a fault, but for want of memory.
abbrev pub ReadsPlaces : {L : Type 0} → (List ℕ → List (List ℕ) → Result L FaultKind) → List ℕ → Result (List L) ScriptFault → Result (Vec ℕ Global) ScriptEnd → Type 0
ReadsPlaces of bytes there (Err (Fault fault)) = there ≡ Err fault
ReadsPlaces of bytes there (Err Memory) = Unit {0}
ReadsPlaces of bytes there (Ok places) = AreLines of bytes places.items × (there ≡ Ok (lines_at of bytes places.items))
