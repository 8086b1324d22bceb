-- How the lines of a script ran, and what was written of their text.
use Rattle.std.specs.Prelude.{◌≡◌, ℕ, List, ◌++◌, take, slice_get, Option, Some}
use Rattle.script_text.specs.declared.script.Line.{Line}
use Rattle.script_text.specs.Outside.{with_back, WroteFront}
use Rattle.cluster_core.specs.Stands.{Stand}
use Rattle.script_play.specs.Playing.{Breaks, EndsFull}
use Rattle.script_play.specs.Texts.{trace_full_line}
use Rattle.script_play.specs.declared.running.RunEnd.{RunEnd}
use Rattle.script_play.specs.declared.running.RunEnd.TheVariants as ends

-- `Are lines end text` says that these lines led to this end, with this text.

-- the first lines were played, and the next one ended so that it led to `last`
pub record PlaysTo (Are : List Line → Stand → List ℕ → Type 0) (Ends : Stand → Line → Stand → Type 0)
    (lines : List Line) (last : Stand) (text : List ℕ) : Type 0 where
  pub count : ℕ
  pub line : Line
  pub next : slice_get lines count ≡ Some line
  pub end : Stand
  pub played : Are (take count lines) end text
  pub ends : Ends end line last

-- what lines say, as far as they were played
pub data RunText (Are : List Line → Stand → List ℕ → Type 0) (lines : List Line) (last : Stand)
    : List ℕ → Type 0 where
  of_lines : (count : ℕ) {text : List ℕ} → Are (take count lines) last text
      → RunText Are lines last text
  of_some : {text : List ℕ} → PlaysTo Are Breaks lines last text → RunText Are lines last text
  of_full : {text : List ℕ} → PlaysTo Are EndsFull lines last text
      → RunText Are lines last (text ++ trace_full_line)

-- how lines ran, where they led, and what was written of their text
abbrev pub Ran : (List Line → Stand → List ℕ → Type 0) → List Line → Stand → Option (List ℕ)
    → Option (List ℕ) → RunEnd → Type 0
-- to their end
Ran Are lines last written now ends.Done =
    (text : List ℕ) × (Are lines last text × (now ≡ with_back written text))
-- up to an event that found the trace full
Ran Are lines last written now ends.TraceFull =
    (text : List ℕ)
    × (PlaysTo Are EndsFull lines last text × (now ≡ with_back written (text ++ trace_full_line)))
-- up to a write that failed: a front of the text was written, but not all
Ran Are lines last written now ends.Write =
    (text : List ℕ) × (RunText Are lines last text × WroteFront written text now)
-- up to a want of memory
Ran Are lines last written now ends.Memory =
    (text : List ℕ) × (PlaysTo Are Breaks lines last text × (now ≡ with_back written text))
