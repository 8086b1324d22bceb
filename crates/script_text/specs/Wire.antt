-- The grammar of the scripts of a lock space that is spread over nodes. `Err` is outside it, and tells
-- what is wrong with a line: its first kind, in the order long, utf8, no-array, word, count, number,
-- range, no-end.
use Rattle.std.specs.Prelude.{◌≡◌, ℕ, ◌+◌, ◌-◌, nat_le, ◌&&◌, if◌then◌else◌}
use Rattle.std.specs.Prelude.{List, [], ◌∷◌, length, codes}
use Rattle.std.specs.Prelude.{Option, Some, None, Result, Ok, Err, ok_or}
use Rattle.std.specs.Result.{result_ok}
use Rattle.std.specs.Str.{bytes_eq}
use Rattle.dlm_modes.specs.declared.mode.Mode.{Mode}
use Rattle.mdc_types.specs.Resources.{IsResource}
use Rattle.mdc_types.specs.declared.resources.Res.{Res}
use Rattle.script_text.specs.declared.wire.WireLine.{WireLine}
use Rattle.script_text.specs.declared.wire.WireLine.TheVariants as calls
use Rattle.script_text.specs.declared.faults.ScriptEnd.{ScriptEnd}
use Rattle.script_text.specs.declared.faults.ScriptEnd.TheVariants.{Fault, Memory}
use Rattle.script_text.specs.declared.faults.ScriptFault.{ScriptFault}
use Rattle.script_text.specs.declared.faults.FaultKind.{FaultKind}
use Rattle.script_text.specs.declared.faults.FaultKind.TheVariants as kinds
use Rattle.script_text.specs.Judging.{◌>>=◌, at_line}
use Rattle.script_text.specs.Lines.{lines_of, script_limit, two, three, second, third}
use Rattle.script_text.specs.Arguments.{byte_word, res_word, mode_word}
use Rattle.script_text.specs.Arguments.{fits_res, fits_mode, fitting}
use Rattle.script_text.specs.Arguments.{one_byte, one_number, two_bytes, one_res}
use Rattle.script_text.specs.Reading.{body_at}
use Rattle.script_text.specs.Script.{said_by, header_then, body_of, fault_in}

pub record WireValue : Type 0 where
  pub nodes : ℕ
  pub lines : List WireLine

-- The header, `nodes N`.

-- there are 1 to 16 nodes
abbrev pub nodes_in : ℕ → Result ℕ FaultKind
nodes_in n = if nat_le 1 n && nat_le n 16 then Ok n else Err kinds.Range

abbrev pub nodes_of : List ℕ → List (List ℕ) → Result ℕ FaultKind
nodes_of word args =
    if bytes_eq word (codes "nodes") then (one_number args >>= nodes_in)
    else Err kinds.NoArray

-- The lines, over the words that follow the first. A node is any number of 8 bits.

-- `N RES MODE`
abbrev pub byte_res_mode : List (List ℕ) → Result (ℕ × Res × Mode) FaultKind
byte_res_mode args = do
  fits ← fitting (fits_res (second args) && fits_mode (third args))
  words ← ok_or (three args) kinds.Count
  node ← byte_word words.0
  res ← res_word words.1
  mode ← mode_word words.2
  Ok (node, res, mode)

-- `N RES`
abbrev pub byte_res : List (List ℕ) → Result (ℕ × Res) FaultKind
byte_res args = do
  fits ← fitting (fits_res (second args))
  words ← ok_or (two args) kinds.Count
  node ← byte_word words.0
  res ← res_word words.1
  Ok (node, res)

abbrev pub ask_line : List (List ℕ) → Result WireLine FaultKind
ask_line args = do
  x ← byte_res_mode args
  Ok (calls.Ask x.0 x.1 x.2)

abbrev pub convert_line : List (List ℕ) → Result WireLine FaultKind
convert_line args = do
  x ← byte_res_mode args
  Ok (calls.Convert x.0 x.1 x.2)

abbrev pub release_line : List (List ℕ) → Result WireLine FaultKind
release_line args = do
  x ← byte_res args
  Ok (calls.Release x.0 x.1)

abbrev pub deliver_line : List (List ℕ) → Result WireLine FaultKind
deliver_line args = do
  x ← two_bytes args
  Ok (calls.Deliver x.0 x.1)

abbrev pub serve_line : List (List ℕ) → Result WireLine FaultKind
serve_line args = do
  res ← one_res args
  Ok (calls.Serve res)

abbrev pub die_line : List (List ℕ) → Result WireLine FaultKind
die_line args = do
  node ← one_byte args
  Ok (calls.Die node)

abbrev pub holds_line : List (List ℕ) → Result WireLine FaultKind
holds_line args = do
  x ← byte_res args
  Ok (calls.Holds x.0 x.1)

abbrev pub wire_line_of : List ℕ → List (List ℕ) → Result WireLine FaultKind
wire_line_of word args =
    if bytes_eq word (codes "ask") then ask_line args
    else if bytes_eq word (codes "convert") then convert_line args
    else if bytes_eq word (codes "release") then release_line args
    else if bytes_eq word (codes "deliver") then deliver_line args
    else if bytes_eq word (codes "serve") then serve_line args
    else if bytes_eq word (codes "die") then die_line args
    else if bytes_eq word (codes "holds") then holds_line args
    else Err kinds.Word

-- the line is of a resource, if it names one
abbrev pub IsWireLine : WireLine → Type 0
IsWireLine (calls.Ask node res mode) = IsResource res
IsWireLine (calls.Convert node res mode) = IsResource res
IsWireLine (calls.Release node res) = IsResource res
IsWireLine (calls.Deliver a b) = Unit {0}
IsWireLine (calls.Serve res) = IsResource res
IsWireLine (calls.Die node) = Unit {0}
IsWireLine (calls.Holds node res) = IsResource res

-- The whole script: the header, and then the lines up to the line `end`, with the skipping, the room
-- and the count of lines of every script.

abbrev pub with_nodes : ℕ → Result (List WireLine) ScriptFault → Result WireValue ScriptFault
with_nodes nodes lines = do
  ls ← lines
  Ok (record { nodes = nodes; lines = ls })

-- the script from line n on
abbrev pub wire_in : ℕ → ℕ → List (List ℕ) → Result WireValue ScriptFault
wire_in n room [] = at_line n (Err kinds.NoArray)
wire_in n room (line ∷ lines) =
    header_then nodes_of n (said_by room line) (wire_in (n + 1) (room - length line) lines)
    (λ nodes. with_nodes nodes (body_of wire_line_of (n + 1) (room - length line) lines))

-- the script, or the first line outside the grammar and what is wrong with it
abbrev pub wire_judged : List ℕ → Result WireValue ScriptFault
wire_judged bytes = wire_in 1 script_limit (lines_of bytes)

abbrev pub wire_script_of : List ℕ → Option WireValue
wire_script_of bytes = result_ok (wire_judged bytes)

-- the bytes are in the grammar, and the script is this one
abbrev pub IsWireScript : List ℕ → WireValue → Type 0
IsWireScript bytes script = wire_script_of bytes ≡ Some script

-- the first line outside the grammar, and what is wrong with it
abbrev pub wire_fault_of : List ℕ → ScriptFault
wire_fault_of bytes = fault_in (wire_judged bytes)

-- what reading the bytes answers
abbrev pub ReadsWire : Result WireValue ScriptEnd → List ℕ → Type 0
ReadsWire (Ok script) bytes = IsWireScript bytes script
ReadsWire (Err (Fault fault)) bytes = (wire_script_of bytes ≡ None) × (fault ≡ wire_fault_of bytes)
ReadsWire (Err Memory) bytes = Unit {0}

-- What a reader found of the header: the number of nodes, where the next line begins, and that
-- line's number.
abbrev pub ReadsNodes : List ℕ → Result (ℕ × ℕ × ℕ) ScriptFault → Type 0
ReadsNodes bytes (Err fault) = wire_judged bytes ≡ Err fault
ReadsNodes bytes (Ok x) = wire_judged bytes ≡ with_nodes x.0 (body_at wire_line_of bytes x.1 x.2)
