-- The broken writes of a trace that are still open, by node and sector: a started write of the node
-- there was broken, and since then the sector wasn't decided and the node hasn't joined anew.
use Rattle.std.specs.Prelude.{ℕ, ◌==◌, Bool, true, false, ◌&&◌, if◌then◌else◌, List, [], ◌∷◌}
use Rattle.std.specs.Prelude.{Option, Some, None}
use Rattle.mdc_types.specs.declared.events.Event.{Event}
use Rattle.mdc_types.specs.declared.events.Event.TheVariants.{Join, Out, EndWrite, BreakWrite}
use Rattle.mdc_types.specs.declared.events.Event.TheVariants.{Settle}
use Rattle.mdc_types.specs.declared.outcomes.Entry.{Entry}
use Rattle.mdc_types.specs.declared.outcomes.Outcome.{Outcome}
use Rattle.mdc_types.specs.declared.outcomes.Outcome.TheVariants.{Io, Settled}
use Rattle.plain_history.specs.History.{PlainWrite, start, live_writes}

-- the write of node n is broken
abbrev pub broken_by : ℕ → Option PlainWrite → (ℕ → ℕ → Bool) → ℕ → ℕ → Bool
broken_by n None broken m s = broken m s
broken_by n (Some w) broken m s =
    if w.begun && (m == n) && (w.sector == s) then true else broken m s

-- the write ends, which decides its sector
abbrev pub decided_by : Option PlainWrite → (ℕ → ℕ → Bool) → ℕ → ℕ → Bool
decided_by None broken m s = broken m s
decided_by (Some w) broken m s = if w.sector == s then false else broken m s

-- a try that fails where the leg stays breaks the write, which it started
abbrev pub tried_by : ℕ → Option PlainWrite → Outcome → (ℕ → ℕ → Bool) → ℕ → ℕ → Bool
tried_by n w (Io l) broken m s = broken_by n (start w) broken m s
tried_by n w o broken m s = broken m s

-- after one entry more
abbrev pub broken_step : Event → Outcome → (ℕ → ℕ → Option PlainWrite) → (ℕ → ℕ → Bool)
    → ℕ → ℕ → Bool
broken_step (Out n k l) o writes broken m s = tried_by n (writes n k) o broken m s
broken_step (BreakWrite n k) o writes broken m s = broken_by n (writes n k) broken m s
broken_step (EndWrite n k) o writes broken m s = decided_by (writes n k) broken m s
broken_step (Settle n) (Settled t v) writes broken m s = if t == s then false else broken m s
broken_step (Join n) o writes broken m s = if m == n then false else broken m s
broken_step e o writes broken m s = broken m s

-- after these entries, the newest first
abbrev pub broken_in : List Entry → ℕ → ℕ → Bool
broken_in [] m s = false
broken_in (x ∷ past) m s =
    broken_step x.event x.outcome (live_writes past) (broken_in past) m s
