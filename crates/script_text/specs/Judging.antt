-- Steps of judging lines. `Err` tells what is wrong.
use Rattle.std.specs.Prelude.{ℕ, Result, Ok, Err}
use Rattle.script_text.specs.declared.faults.FaultKind.{FaultKind}
use Rattle.script_text.specs.declared.faults.ScriptFault.{ScriptFault}

infixl 10 ◌>>=◌
abbrev pub ◌>>=◌ : {A B E : Type 0} → Result A E → (A → Result B E) → Result B E
(Err fault) >>= f = Err fault
(Ok x) >>= f = f x

-- what is found of line n, or its fault
abbrev pub at_line : {A : Type 0} → ℕ → Result A FaultKind → Result A ScriptFault
at_line n (Err kind) = Err (record { line = n; kind = kind })
at_line n (Ok x) = Ok x
