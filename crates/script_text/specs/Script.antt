-- The grammar of scripts. `Err` is outside it, and tells what is wrong with a line: its first kind, in
-- the order long, utf8, no-array, word, count, number, value, range, no-end.
use Rattle.std.specs.Prelude.{◌≡◌, ℕ, ◌+◌, ◌-◌, ◌==◌, nat_lt, Bool, true, false, if◌then◌else◌, List, [], ◌∷◌, length, codes, Option, Some, None, Result, Ok, Err}
use Rattle.std.specs.Result.{result_ok}
use Rattle.std.specs.Str.{is_utf8, bytes_eq}
use Rattle.script_text.specs.declared.script.Start.{Start}
use Rattle.script_text.specs.declared.script.FaultLine.{FaultLine}
use Rattle.script_text.specs.declared.script.Line.{Line}
use Rattle.script_text.specs.declared.script.Line.TheVariants as line_kinds
use Rattle.script_text.specs.declared.faults.ScriptEnd.{ScriptEnd}
use Rattle.script_text.specs.declared.faults.ScriptEnd.TheVariants.{Fault, Memory}
use Rattle.script_text.specs.declared.faults.ScriptFault.{ScriptFault}
use Rattle.script_text.specs.declared.faults.FaultKind.{FaultKind}
use Rattle.script_text.specs.declared.faults.FaultKind.TheVariants as kinds
use Rattle.script_text.specs.Judging.{◌>>=◌, at_line}
use Rattle.script_text.specs.Lines.{lines_of, text_of, words_of, script_limit}
use Rattle.script_text.specs.Arguments.{alone, one_byte, one_number, two_bytes, two_numbers}
use Rattle.script_text.specs.Events.{event_of}
use Rattle.script_text.specs.Header.{Setup, start_of, is_setup, setup_line, with_line}

pub record ScriptValue : Type 0 where
  pub start : Start
  pub faults : List FaultLine
  pub lines : List Line

-- The lines of events, of events that the program chooses, and of queries.

abbrev pub event_line : List ℕ → List (List ℕ) → Result Line FaultKind
event_line word args = do
  event ← event_of word args
  Ok (line_kinds.Event event)

-- `storm SEED K`
abbrev pub storm_line : List (List ℕ) → Result Line FaultKind
storm_line args = do
  x ← two_numbers args
  Ok (line_kinds.Storm x.0 x.1)

-- `slot L D`
abbrev pub slot_line : List (List ℕ) → Result Line FaultKind
slot_line args = do
  x ← two_bytes args
  Ok (line_kinds.Slot x.0 x.1)

abbrev pub line_of : List ℕ → List (List ℕ) → Result Line FaultKind
line_of word args =
    if bytes_eq word (codes "check") then alone line_kinds.Check args
    else if bytes_eq word (codes "record") then alone line_kinds.Record args
    else if bytes_eq word (codes "view") then (one_byte args >>= λ n. Ok (line_kinds.View n))
    else if bytes_eq word (codes "map") then (one_byte args >>= λ n. Ok (line_kinds.Map n))
    else if bytes_eq word (codes "size") then (one_byte args >>= λ n. Ok (line_kinds.Size n))
    else if bytes_eq word (codes "slot") then slot_line args
    else if bytes_eq word (codes "compare") then alone line_kinds.Compare args
    else if bytes_eq word (codes "auto") then (one_number args >>= λ k. Ok (line_kinds.Auto k))
    else if bytes_eq word (codes "storm") then storm_line args
    else event_line word args

-- The whole script. Lines are counted from 1, and `room` is how many bytes more the script may have.

-- an empty line, and one that begins with `#`, byte 35, are skipped: they have no words
abbrev pub words_said : List ℕ → List (List ℕ)
words_said [] = []
words_said (b ∷ text) = if b == 35 then [] else words_of (b ∷ text)

-- the words of a line that the script has room for and that is UTF-8
abbrev pub said_by : ℕ → List ℕ → Result (List (List ℕ)) FaultKind
said_by room line =
    if nat_lt room (length line) then Err kinds.Long
    else if is_utf8 (text_of line) then Ok (words_said (text_of line))
    else Err kinds.Utf8

abbrev pub onto_lines : {L : Type 0} → Result L ScriptFault → Result (List L) ScriptFault → Result (List L) ScriptFault
onto_lines line lines = do
  first ← line
  others ← lines
  Ok (first ∷ others)

-- line n, and the lines after it, where `of` says what a line's first word and the words after it are. The line
-- `end` has no other words, and no lines follow it
abbrev pub line_then : {L : Type 0} → (List ℕ → List (List ℕ) → Result L FaultKind) → ℕ → Result (List (List ℕ)) FaultKind → Result (List L) ScriptFault → Result (List L) ScriptFault
line_then of n (Err kind) later = at_line n (Err kind)
line_then of n (Ok []) later = later
line_then of n (Ok (word ∷ args)) later =
    if bytes_eq word (codes "end") then at_line n (alone [] args)
    else onto_lines (at_line n (of word args)) later

-- the lines from line n on, up to the line `end`
abbrev pub body_of : {L : Type 0} → (List ℕ → List (List ℕ) → Result L FaultKind) → ℕ → ℕ → List (List ℕ) → Result (List L) ScriptFault
body_of of n room [] = at_line n (Err kinds.NoEnd)
body_of of n room (line ∷ lines) = line_then of n (said_by room line) (body_of of (n + 1) (room - length line) lines)

-- the script of a setup and the lines after it
abbrev pub with_lines : Setup → Result (List Line) ScriptFault → Result ScriptValue ScriptFault
with_lines s lines = do
  ls ← lines
  Ok (record { start = s.start; faults = s.faults; lines = ls })

-- line n changes the setup, or is skipped: what follows is a function of what was first and the setup. Else the
-- lines of the body begin
abbrev pub setup_then : Bool → Setup → ℕ → Result (List (List ℕ)) FaultKind → (Bool → Setup → Result ScriptValue ScriptFault) → Result ScriptValue ScriptFault → Result ScriptValue ScriptFault
setup_then first s n (Err kind) later body = body
setup_then first s n (Ok []) later body = later first s
setup_then first s n (Ok (word ∷ args)) later body =
    if is_setup first word then (at_line n (setup_line s.start word args) >>= λ line. later false (with_line s line))
    else body

-- the script from line n on, after the header; `first` says that no line of the setup was yet
abbrev pub setup_in : Bool → Setup → ℕ → ℕ → List (List ℕ) → Result ScriptValue ScriptFault
setup_in first s n room [] = with_lines s (body_of line_of n room [])
setup_in first s n room (line ∷ lines) =
    setup_then first s n (said_by room line) (λ f t. setup_in f t (n + 1) (room - length line) lines) (with_lines s (body_of line_of n room (line ∷ lines)))

abbrev pub new_setup : Start → Setup
new_setup start = record { start = start; faults = [] }

-- line n is skipped, or is the header: what follows is the same, or what comes after the header, where
-- `of` says what a header's first word and the words after it are
abbrev pub header_then : {H S : Type 0} → (List ℕ → List (List ℕ) → Result H FaultKind) → ℕ
    → Result (List (List ℕ)) FaultKind → Result S ScriptFault → (H → Result S ScriptFault) → Result S ScriptFault
header_then of n (Err kind) later after = at_line n (Err kind)
header_then of n (Ok []) later after = later
header_then of n (Ok (word ∷ args)) later after = at_line n (of word args) >>= after

abbrev pub script_in : ℕ → ℕ → List (List ℕ) → Result ScriptValue ScriptFault
script_in n room [] = at_line n (Err kinds.NoArray)
script_in n room (line ∷ lines) =
    header_then start_of n (said_by room line) (script_in (n + 1) (room - length line) lines) (λ start. setup_in true (new_setup start) (n + 1) (room - length line) lines)

-- the script, or the first line outside the grammar and what is wrong with it
abbrev pub judged : List ℕ → Result ScriptValue ScriptFault
judged bytes = script_in 1 script_limit (lines_of bytes)

abbrev pub script_of : List ℕ → Option ScriptValue
script_of bytes = result_ok (judged bytes)

-- the bytes are in the grammar, and the script is this one
abbrev pub IsScript : List ℕ → ScriptValue → Type 0
IsScript bytes script = script_of bytes ≡ Some script

-- the fault of what is outside the grammar; a script has none, and gets line 0, which is no line
abbrev pub fault_in : {A : Type 0} → Result A ScriptFault → ScriptFault
fault_in (Err fault) = fault
fault_in (Ok script) = record { line = 0; kind = kinds.NoEnd }

-- the first line outside the grammar, and what is wrong with it
abbrev pub fault_of : List ℕ → ScriptFault
fault_of bytes = fault_in (judged bytes)

-- what reading the bytes answers
abbrev pub Reads : Result ScriptValue ScriptEnd → List ℕ → Type 0
Reads (Ok script) bytes = IsScript bytes script
Reads (Err (Fault fault)) bytes = (script_of bytes ≡ None) × (fault ≡ fault_of bytes)
Reads (Err Memory) bytes = Unit {0}
