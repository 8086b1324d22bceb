-- Lines of a script that were played from its header's opening.
use Rattle.std.specs.Prelude.{◌≤◌, ℕ, List, reverse, length, Option}
use Rattle.cluster_model.specs.Run.{Run}
use Rattle.laws_promises.specs.Laws.{Promised}
use Rattle.cluster_core.specs.World.{trace_limit}
use Rattle.cluster_core.specs.Stands.{Stand, state_at}
use Rattle.script_text.specs.Script.{ScriptValue}
use Rattle.script_text.specs.declared.script.Line.{Line}
use Rattle.script_play.specs.Playing.{Plays}
use Rattle.script_play.specs.QueryAnswers.{FindsLegal}
use Rattle.script_play.specs.Running.{Ran}
use Rattle.script_play.specs.declared.running.RunEnd.{RunEnd}
use Rattle.mdc.specs.Opened.{origin_of, Starts}

-- These lines were played from the header's opening, and `check` found all entries legal. There is one
-- trace, no longer than it may be, and a run with just its entries. Its reads and writes are one legal
-- history, and at each of its places all is as promised, whatever its events are and whichever
-- transfers failed.
pub record Playing (script : ScriptValue) (lines : List Line) (end : Stand) (text : List ℕ)
    : Type 0 where
  pub start : Stand
  pub starts : Starts script start
  pub plays : Plays FindsLegal start (reverse lines) end text
  pub run : Run (state_at start) end.past (state_at end)
  pub few : length end.past ≤ trace_limit
  pub promised : Promised (origin_of script.start) (state_at start) end.past (state_at end)

-- how the lines of a script ran, and what was written of their text
abbrev pub RanTo : ScriptValue → Option (List ℕ) → Option (List ℕ) → RunEnd → Type 0
RanTo script written now end =
    (last : Stand) × Ran (Playing script) script.lines last written now end
