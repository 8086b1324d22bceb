-- What begins a script: the header, and the lines between it and the others.
use Rattle.std.specs.Prelude.{ℕ, nat_le, nat_lt, Bool, true, false, ◌&&◌, ◌||◌, is_ok, is_some, if◌then◌else◌, List, [], ◌∷◌, ◌++◌, codes, Option, Some, None, Result, Err, ok_or}
use Rattle.std.specs.Str.{bytes_eq}
use Rattle.mdc_types.specs.Bits.{with_bit}
use Rattle.mdc_types.specs.Geometry.{Sizes, geometry_of}
use Rattle.mdc_types.specs.declared.geometry.GeomError.{GeomError}
use Rattle.script_text.specs.declared.script.Start.{Start}
use Rattle.script_text.specs.declared.script.FaultLine.{FaultLine}
use Rattle.script_text.specs.declared.header.SetupLine.{SetupLine}
use Rattle.script_text.specs.declared.header.SetupLine.TheVariants.{Room, Spare, Fault}
use Rattle.script_text.specs.declared.faults.FaultKind.{FaultKind}
use Rattle.script_text.specs.declared.faults.FaultKind.TheVariants as kinds
use Rattle.script_text.specs.Steps.{guarded}
use Rattle.script_text.specs.Judging.{◌>>=◌}
use Rattle.script_text.specs.Lines.{three, four, third}
use Rattle.script_text.specs.Arguments.{number_word, one_number, fitting}

-- the array of a script, and its transfers that fail
pub record Setup : Type 0 where
  pub start : Start
  pub faults : List FaultLine

-- The array.

-- its sizes, if there is such an array
abbrev pub start_sizes : Start → Result Sizes GeomError
start_sizes s = geometry_of s.legs s.sectors s.room s.chunk s.second

abbrev pub most_nodes : Bool → ℕ
most_nodes second = if second then 16 else 8

-- there is a node and no more than there may be, and there is such an array
abbrev pub is_start : Start → Bool
is_start s = nat_le 1 s.nodes && nat_le s.nodes (most_nodes s.second) && is_ok (start_sizes s)

-- `LEGS SECTORS CHUNK NODES`, which is warm or not, of image version 2 or not: the room is the size
abbrev pub new_start : Bool → Bool → ℕ → ℕ → ℕ → ℕ → Start
new_start warm second legs sectors chunk nodes =
    record { legs = legs; sectors = sectors; room = sectors; chunk = chunk; nodes = nodes; warm = warm; second = second; spares = 0 }

-- the array of these numbers, if there is such an array
abbrev pub start_with : Bool → Bool → ℕ → ℕ → ℕ → ℕ → Option Start
start_with warm second legs sectors chunk nodes =
    guarded (is_start (new_start warm second legs sectors chunk nodes)) (new_start warm second legs sectors chunk nodes)

abbrev pub start_line : Bool → Bool → List (List ℕ) → Result Start FaultKind
start_line warm second args = do
  words ← ok_or (four args) kinds.Count
  legs ← number_word words.0
  sectors ← number_word words.1
  chunk ← number_word words.2
  nodes ← number_word words.3
  ok_or (start_with warm second legs sectors chunk nodes) kinds.Range

-- the header
abbrev pub start_of : List ℕ → List (List ℕ) → Result Start FaultKind
start_of word args =
    if bytes_eq word (codes "warm") then start_line true false args
    else if bytes_eq word (codes "array") then start_line false false args
    else if bytes_eq word (codes "warm2") then start_line true true args
    else if bytes_eq word (codes "array2") then start_line false true args
    else Err kinds.NoArray

-- The lines after the header.

-- whether the line is one of them: `room` stands first among them
abbrev pub is_setup : Bool → List ℕ → Bool
is_setup first word = (first && bytes_eq word (codes "room")) || bytes_eq word (codes "spare") || bytes_eq word (codes "fault")

-- each leg has room for so many sectors
abbrev pub with_room : Start → ℕ → Start
with_room s room = record s { room = room }

-- the leg opens as a spare
abbrev pub with_spare : Start → ℕ → Start
with_spare s l = record s { spares = with_bit s.spares l }

-- `room R`
abbrev pub room_line : Start → List (List ℕ) → Result SetupLine FaultKind
room_line s args = do
  room ← one_number args
  ok_or (guarded (is_ok (start_sizes (with_room s room))) (Room room)) kinds.Range

-- `spare L`, but for leg 0
abbrev pub spare_line : Start → List (List ℕ) → Result SetupLine FaultKind
spare_line s args = do
  l ← one_number args
  ok_or (guarded (nat_lt 0 l && nat_lt l s.legs) (Spare l)) kinds.Range

-- what a write that fails leaves: `new`, or `old`
abbrev pub left_of : List ℕ → Option Bool
left_of word =
    if bytes_eq word (codes "new") then Some true
    else if bytes_eq word (codes "old") then Some false
    else None

-- another word that is there is told before the words are counted
abbrev pub fits_left : Option (List ℕ) → Bool
fits_left None = true
fits_left (Some word) = is_some (left_of word)

-- `fault L T old|new`
abbrev pub fault_line : Start → List (List ℕ) → Result SetupLine FaultKind
fault_line s args = do
  fits ← fitting (fits_left (third args))
  words ← ok_or (three args) kinds.Count
  l ← number_word words.0
  transfer ← number_word words.1
  new ← ok_or (left_of words.2) kinds.Word
  ok_or (guarded (nat_lt l s.legs) (Fault (record { leg = l; transfer = transfer; new = new }))) kinds.Range

abbrev pub setup_line : Start → List ℕ → List (List ℕ) → Result SetupLine FaultKind
setup_line s word args =
    if bytes_eq word (codes "room") then room_line s args
    else if bytes_eq word (codes "spare") then spare_line s args
    else fault_line s args

-- what such a line makes of the setup
abbrev pub with_line : Setup → SetupLine → Setup
with_line s (Room room) = record s { start = with_room s.start room }
with_line s (Spare l) = record s { start = with_spare s.start l }
with_line s (Fault f) = record s { faults = s.faults ++ f ∷ [] }
