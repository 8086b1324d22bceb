-- The grammar of the scripts of a lock space. They have no header. `Err` is outside it, and tells what is
-- wrong with a line: its first kind, in the order long, utf8, word, count, number, range, no-end.
use Rattle.std.specs.Prelude.{◌≡◌, ℕ, ◌<◌, nat_lt, ◌&&◌, if◌then◌else◌, List, codes, Option, Some, None, Result, Ok, Err, ok_or}
use Rattle.std.specs.Result.{result_ok}
use Rattle.std.specs.Str.{bytes_eq}
use Rattle.dlm_modes.specs.declared.mode.Mode.{Mode}
use Rattle.mdc_types.specs.Resources.{IsResource}
use Rattle.mdc_types.specs.declared.resources.Res.{Res}
use Rattle.script_text.specs.declared.locks.LockLine.{LockLine}
use Rattle.script_text.specs.declared.locks.LockLine.TheVariants as calls
use Rattle.script_text.specs.declared.faults.ScriptEnd.{ScriptEnd}
use Rattle.script_text.specs.declared.faults.ScriptEnd.TheVariants.{Fault, Memory}
use Rattle.script_text.specs.declared.faults.ScriptFault.{ScriptFault}
use Rattle.script_text.specs.declared.faults.FaultKind.{FaultKind}
use Rattle.script_text.specs.declared.faults.FaultKind.TheVariants as kinds
use Rattle.script_text.specs.Judging.{◌>>=◌}
use Rattle.script_text.specs.Lines.{lines_of, script_limit, one, two, three, second, third}
use Rattle.script_text.specs.Arguments.{byte_word, res_word, mode_word, fits_res, fits_mode, fitting, one_res}
use Rattle.script_text.specs.Script.{body_of, fault_in}

-- The words.

-- there are sixteen nodes
abbrev pub node_in : ℕ → Result ℕ FaultKind
node_in n = if nat_lt n 16 then Ok n else Err kinds.Range

abbrev pub node_word : List ℕ → Result ℕ FaultKind
node_word word = byte_word word >>= node_in

-- The lines, over the words that follow the first.

-- `N RES MODE`
abbrev pub node_res_mode : List (List ℕ) → Result (ℕ × Res × Mode) FaultKind
node_res_mode args = do
  fits ← fitting (fits_res (second args) && fits_mode (third args))
  words ← ok_or (three args) kinds.Count
  node ← node_word words.0
  res ← res_word words.1
  mode ← mode_word words.2
  Ok (node, res, mode)

-- `N RES`
abbrev pub node_res : List (List ℕ) → Result (ℕ × Res) FaultKind
node_res args = do
  fits ← fitting (fits_res (second args))
  words ← ok_or (two args) kinds.Count
  node ← node_word words.0
  res ← res_word words.1
  Ok (node, res)

-- `N`
abbrev pub one_node : List (List ℕ) → Result ℕ FaultKind
one_node args = do
  word ← ok_or (one args) kinds.Count
  node_word word

abbrev pub ask_line : List (List ℕ) → Result LockLine FaultKind
ask_line args = do
  x ← node_res_mode args
  Ok (calls.Ask x.0 x.1 x.2)

abbrev pub now_line : List (List ℕ) → Result LockLine FaultKind
now_line args = do
  x ← node_res_mode args
  Ok (calls.Now x.0 x.1 x.2)

abbrev pub convert_line : List (List ℕ) → Result LockLine FaultKind
convert_line args = do
  x ← node_res_mode args
  Ok (calls.Convert x.0 x.1 x.2)

abbrev pub up_line : List (List ℕ) → Result LockLine FaultKind
up_line args = do
  x ← node_res_mode args
  Ok (calls.Up x.0 x.1 x.2)

abbrev pub grant_line : List (List ℕ) → Result LockLine FaultKind
grant_line args = do
  res ← one_res args
  Ok (calls.Grant res)

abbrev pub release_line : List (List ℕ) → Result LockLine FaultKind
release_line args = do
  x ← node_res args
  Ok (calls.Release x.0 x.1)

abbrev pub die_line : List (List ℕ) → Result LockLine FaultKind
die_line args = do
  node ← one_node args
  Ok (calls.Die node)

abbrev pub calls_line : List (List ℕ) → Result LockLine FaultKind
calls_line args = do
  x ← node_res args
  Ok (calls.Calls x.0 x.1)

abbrev pub lock_line_of : List ℕ → List (List ℕ) → Result LockLine FaultKind
lock_line_of word args =
    if bytes_eq word (codes "ask") then ask_line args
    else if bytes_eq word (codes "now") then now_line args
    else if bytes_eq word (codes "convert") then convert_line args
    else if bytes_eq word (codes "up") then up_line args
    else if bytes_eq word (codes "grant") then grant_line args
    else if bytes_eq word (codes "release") then release_line args
    else if bytes_eq word (codes "die") then die_line args
    else if bytes_eq word (codes "calls") then calls_line args
    else Err kinds.Word

abbrev pub IsNodeRes : ℕ → Res → Type 0
IsNodeRes node res = (node < 16) × IsResource res

-- the line is of a node below 16, and of a resource
abbrev pub IsLockLine : LockLine → Type 0
IsLockLine (calls.Ask node res mode) = IsNodeRes node res
IsLockLine (calls.Now node res mode) = IsNodeRes node res
IsLockLine (calls.Convert node res mode) = IsNodeRes node res
IsLockLine (calls.Up node res mode) = IsNodeRes node res
IsLockLine (calls.Grant res) = IsResource res
IsLockLine (calls.Release node res) = IsNodeRes node res
IsLockLine (calls.Die node) = node < 16
IsLockLine (calls.Calls node res) = IsNodeRes node res

-- The whole script: the lines up to the line `end`, with the skipping, the room and the count of lines of every script.

-- the script, or the first line outside the grammar and what is wrong with it
abbrev pub locks_judged : List ℕ → Result (List LockLine) ScriptFault
locks_judged bytes = body_of lock_line_of 1 script_limit (lines_of bytes)

abbrev pub lock_script_of : List ℕ → Option (List LockLine)
lock_script_of bytes = result_ok (locks_judged bytes)

-- the bytes are in the grammar, and the script is this one
abbrev pub IsLockScript : List ℕ → List LockLine → Type 0
IsLockScript bytes script = lock_script_of bytes ≡ Some script

-- the first line outside the grammar, and what is wrong with it
abbrev pub lock_fault_of : List ℕ → ScriptFault
lock_fault_of bytes = fault_in (locks_judged bytes)

-- what reading the bytes answers
abbrev pub ReadsLocks : Result (List LockLine) ScriptEnd → List ℕ → Type 0
ReadsLocks (Ok script) bytes = IsLockScript bytes script
ReadsLocks (Err (Fault fault)) bytes = (lock_script_of bytes ≡ None) × (fault ≡ lock_fault_of bytes)
ReadsLocks (Err Memory) bytes = Unit {0}
