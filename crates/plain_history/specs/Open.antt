-- The open writes of a trace: those that started, and whose sector no end and no settle decided since.
-- Entries stand newest first.
use Rattle.std.specs.Prelude.{◌≡◌, ℕ, ◌==◌, true, ◌&&◌, if◌then◌else◌, List, [], ◌∷◌, Option, Some, None}
use Rattle.mdc_types.specs.declared.numbers.Sector.{Sector}
use Rattle.mdc_types.specs.declared.events.Event.{Event}
use Rattle.mdc_types.specs.declared.events.Event.TheVariants.{Out, EndWrite, Settle}
use Rattle.mdc_types.specs.declared.outcomes.Outcome.{Outcome}
use Rattle.mdc_types.specs.declared.outcomes.Outcome.TheVariants.{Settled}
use Rattle.mdc_types.specs.declared.outcomes.Entry.{Entry}
use Rattle.plain_history.specs.History.{PlainWrite, live_writes, candidates, IsIn}

-- the write is open no more where sector s is decided and is its own
abbrev pub close : ℕ → Option PlainWrite → Option PlainWrite
close s None = None
close s (Some w) = if w.sector == s then None else Some w

-- the end of a write decides its sector
abbrev pub close_by : Option PlainWrite → Option PlainWrite → Option PlainWrite
close_by None open_write = open_write
close_by (Some ended) open_write = close ended.sector open_write

-- the start of a live write opens it
abbrev pub open_by : Option PlainWrite → Option PlainWrite → Option PlainWrite
open_by None open_write = open_write
open_by (Some w) open_write = if w.begun then open_write else Some (record w { begun = true })

-- the open write k of node n after one entry more
abbrev pub open_step : Event → Outcome → (ℕ → ℕ → Option PlainWrite) → (ℕ → ℕ → Option PlainWrite)
    → ℕ → ℕ → Option PlainWrite
open_step (Out m j l) o live writes n k =
    if n == m && k == j then open_by (live n k) (writes n k) else writes n k
open_step (EndWrite m j) o live writes n k = close_by (live m j) (writes n k)
open_step (Settle m) (Settled s v) live writes n k = close s (writes n k)
open_step e o live writes n k = writes n k

-- the open write k of node n after these entries
abbrev pub open_writes : List Entry → ℕ → ℕ → Option PlainWrite
open_writes [] n k = None
open_writes (x ∷ past) n k = open_step x.event x.outcome (live_writes past) (open_writes past) n k

-- each open write's value is a candidate of its sector
abbrev pub OpenWritesAreCandidates : Type 0
OpenWritesAreCandidates = (base : ℕ → List Sector) (past : List Entry) (n k : ℕ) (w : PlainWrite)
    → open_writes past n k ≡ Some w → IsIn w.value (candidates base past w.sector)
