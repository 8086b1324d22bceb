-- Lines by where they begin in the bytes of a script.
use Rattle.std.specs.Prelude.{◌≡◌, ℕ, ◌-◌, true, List, [], ◌∷◌, drop, Option, None, is_some, Result, Ok, Err}
use Rattle.std.specs.List.{AllByRecursion, filter_map}
use Rattle.std.specs.Result.{result_ok}
use Rattle.script_text.specs.declared.faults.FaultKind.{FaultKind}
use Rattle.script_text.specs.Lines.{lines_of, script_limit}
use Rattle.script_text.specs.Script.{said_by}

-- what the words of a line say
abbrev pub line_in : {L : Type 0} → (List ℕ → List (List ℕ) → Result L FaultKind) → Result (List (List ℕ)) FaultKind → Option L
line_in of (Err kind) = None
line_in of (Ok []) = None
line_in of (Ok (word ∷ args)) = result_ok (of word args)

-- what the first of these lines says
abbrev pub first_line : {L : Type 0} → (List ℕ → List (List ℕ) → Result L FaultKind) → ℕ → List (List ℕ) → Option L
first_line of room [] = None
first_line of room (line ∷ lines) = line_in of (said_by room line)

-- the line that begins at this place
abbrev pub line_at : {L : Type 0} → (List ℕ → List (List ℕ) → Result L FaultKind) → List ℕ → ℕ → Option L
line_at of bytes at = first_line of (script_limit - at) (lines_of (drop at bytes))

-- the lines at these places
abbrev pub lines_at : {L : Type 0} → (List ℕ → List (List ℕ) → Result L FaultKind) → List ℕ → List ℕ → List L
lines_at of bytes places = filter_map (line_at of bytes) places

-- a line begins at each of these places
abbrev pub AreLines : {L : Type 0} → (List ℕ → List (List ℕ) → Result L FaultKind) → List ℕ → List ℕ → Type 0
AreLines of bytes places = AllByRecursion (λ at. is_some (line_at of bytes at) ≡ true) places
