-- The grammar of the scripts of an array that images hold. `Err` is outside it, and tells what is wrong
-- with a line, by the kinds and in the order of every script.
use Rattle.std.specs.Prelude.{◌≡◌, ℕ, ◌+◌, ◌-◌, if◌then◌else◌, List, [], ◌∷◌, length, codes}
use Rattle.std.specs.Prelude.{Option, Some, None, Result, Ok, Err}
use Rattle.std.specs.Result.{result_ok}
use Rattle.std.specs.Str.{bytes_eq}
use Rattle.script_text.specs.declared.script.Line.{Line}
use Rattle.script_text.specs.declared.faults.ScriptEnd.{ScriptEnd}
use Rattle.script_text.specs.declared.faults.ScriptEnd.TheVariants.{Fault, Memory}
use Rattle.script_text.specs.declared.faults.ScriptFault.{ScriptFault}
use Rattle.script_text.specs.declared.faults.FaultKind.{FaultKind}
use Rattle.script_text.specs.declared.faults.FaultKind.TheVariants as kinds
use Rattle.script_text.specs.Judging.{at_line}
use Rattle.script_text.specs.Lines.{lines_of, script_limit}
use Rattle.script_text.specs.Arguments.{alone}
use Rattle.script_text.specs.Reading.{body_at}
use Rattle.script_text.specs.Script.{line_of, said_by, header_then, body_of, fault_in}

-- The header: the word `images` alone.
abbrev pub images_header : List ℕ → List (List ℕ) → Result (Unit {0}) FaultKind
images_header word args =
    if bytes_eq word (codes "images") then alone tt args
    else Err kinds.NoArray

-- The whole script: the header, and then the lines of every script, up to the line `end`. No lines of a
-- setup stand between them.

-- the script from line n on
abbrev pub images_in : ℕ → ℕ → List (List ℕ) → Result (List Line) ScriptFault
images_in n room [] = at_line n (Err kinds.NoArray)
images_in n room (line ∷ lines) =
    header_then images_header n (said_by room line) (images_in (n + 1) (room - length line) lines)
    (λ header. body_of line_of (n + 1) (room - length line) lines)

-- the lines after the header, or the first line outside the grammar and what is wrong with it
abbrev pub images_judged : List ℕ → Result (List Line) ScriptFault
images_judged bytes = images_in 1 script_limit (lines_of bytes)

abbrev pub images_of : List ℕ → Option (List Line)
images_of bytes = result_ok (images_judged bytes)

-- the bytes are in the grammar, and the lines after the header are these
abbrev pub IsImageScript : List ℕ → List Line → Type 0
IsImageScript bytes lines = images_of bytes ≡ Some lines

-- the first line outside the grammar, and what is wrong with it
abbrev pub images_fault_of : List ℕ → ScriptFault
images_fault_of bytes = fault_in (images_judged bytes)

-- what reading the bytes answers
abbrev pub ReadsImages : Result (List Line) ScriptEnd → List ℕ → Type 0
ReadsImages (Ok lines) bytes = IsImageScript bytes lines
ReadsImages (Err (Fault fault)) bytes = (images_of bytes ≡ None) × (fault ≡ images_fault_of bytes)
ReadsImages (Err Memory) bytes = Unit {0}

-- What a reader found of the header: where the next line begins, and that line's number.
abbrev pub ReadsImagesHeader : List ℕ → Result (ℕ × ℕ) ScriptFault → Type 0
ReadsImagesHeader bytes (Err fault) = images_judged bytes ≡ Err fault
ReadsImagesHeader bytes (Ok x) = images_judged bytes ≡ body_at line_of bytes x.0 x.1
