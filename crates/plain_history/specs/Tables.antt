-- What a plain history keeps of its trace: the live writes, the asked reads, and the candidates of each sector.
use Rattle.std.specs.Prelude.{◌≡◌, ◌<◌, ℕ, if◌then◌else◌, length, slice_set, List, [], ◌∷◌, ◌++◌, Option, Some, None}
use Rattle.mdc_types.specs.declared.numbers.Sector.{Sector}
use Rattle.mdc_types.specs.declared.events.Event.{Event}
use Rattle.mdc_types.specs.declared.events.Event.TheVariants.{AskWrite, Out, EndWrite, BreakWrite, AskRead, In, Die, Settle}
use Rattle.mdc_types.specs.declared.outcomes.Outcome.{Outcome}
use Rattle.mdc_types.specs.declared.outcomes.Outcome.TheVariants.{Write, Read, Lost, Io, Settled}
use Rattle.mdc_types.specs.declared.outcomes.Entry.{Entry}
use Rattle.plain_history.specs.declared.asked.AskedWrite.{AskedWrite}
use Rattle.plain_history.specs.declared.asked.AskedRead.{AskedRead}
use Rattle.plain_history.specs.History.{PlainWrite, live_writes, asked_reads, candidates, values_at, LegalEntry}
use Rattle.plain_history.specs.Asked.{write_in, read_in, new_write, new_read, without_write, without_read, without_writes_of, without_reads_of, start_in}

pub record Tables : Type 0 where
  pub writes : List AskedWrite
  pub reads : List AskedRead
  -- by sector
  pub values : List (List Sector)

abbrev pub tables_of : List AskedWrite → List AskedRead → List (List Sector) → Tables
tables_of writes reads values = record { writes = writes; reads = reads; values = values }

-- a write as the history has it
abbrev pub plain_of : Option AskedWrite → Option PlainWrite
plain_of None = None
plain_of (Some w) = Some (record { sector = w.sector; value = w.value; begun = w.begun })

abbrev pub writes_of : Tables → ℕ → ℕ → Option PlainWrite
writes_of t n k = plain_of (write_in n k t.writes)

abbrev pub reads_of : Tables → ℕ → ℕ → Option ℕ
reads_of t n k = read_in n k t.reads

-- the tables have these writes, reads and candidates
pub record Agrees (writes : ℕ → ℕ → Option PlainWrite) (reads : ℕ → ℕ → Option ℕ) (values : ℕ → List Sector) (t : Tables) : Type 0 where
  pub writes_are : (n k : ℕ) → writes n k ≡ writes_of t n k
  pub reads_are : (n k : ℕ) → reads n k ≡ reads_of t n k
  pub values_are : (s : ℕ) → values s ≡ values_at t.values s

-- the tables are those after these entries
abbrev pub Follows : (ℕ → List Sector) → List Entry → Tables → Type 0
Follows base past t = Agrees (live_writes past) (asked_reads past) (candidates base past) t

-- no two of the writes have one node and number
abbrev pub AreDistinct : List AskedWrite → Type 0
AreDistinct [] = Unit {0}
AreDistinct (w ∷ ws) = (write_in w.node w.number ws ≡ None) × AreDistinct ws

-- the writes are distinct, and their sectors have lists
pub record IsTidy (t : Tables) : Type 0 where
  pub distinct : AreDistinct t.writes
  pub within : (n k : ℕ) (w : AskedWrite) → write_in n k t.writes ≡ Some w → w.sector < length t.values

-- a written sector is one of so many
abbrev pub IsWithin : ℕ → Event → Type 0
IsWithin count (AskWrite n s v) = s < count
IsWithin count e = Unit {0}

-- the entry is legal at these tables
abbrev pub LegalIn : Tables → Event → Outcome → Type 0
LegalIn t e o = LegalEntry (writes_of t) (reads_of t) (values_at t.values) e o

-- the first transfer of a write appends its value
abbrev pub start_values : Option AskedWrite → List (List Sector) → List (List Sector)
start_values None values = values
start_values (Some w) values = if w.begun then values else slice_set values w.sector (values_at values w.sector ++ w.value ∷ [])

-- the end of a write leaves its value alone
abbrev pub end_values : Option AskedWrite → List (List Sector) → List (List Sector)
end_values None values = values
end_values (Some w) values = slice_set values w.sector (w.value ∷ [])

abbrev pub ask_write : Tables → ℕ → ℕ → ℕ → Sector → Tables
ask_write t n k s v = record t { writes = without_write n k t.writes ++ new_write n k s v ∷ [] }

abbrev pub start_write : Tables → ℕ → ℕ → Tables
start_write t n k = record t { writes = start_in n k t.writes; values = start_values (write_in n k t.writes) t.values }

-- a transfer that breaks its write, and is the start if it is the first
abbrev pub start_and_break : Tables → ℕ → ℕ → Tables
start_and_break t n k = record t { writes = without_write n k t.writes; values = start_values (write_in n k t.writes) t.values }

abbrev pub end_write : Tables → ℕ → ℕ → Tables
end_write t n k = record t { writes = without_write n k t.writes; values = end_values (write_in n k t.writes) t.values }

abbrev pub break_write : Tables → ℕ → ℕ → Tables
break_write t n k = record t { writes = without_write n k t.writes }

abbrev pub ask_read : Tables → ℕ → ℕ → ℕ → Tables
ask_read t n k s = record t { reads = without_read n k t.reads ++ new_read n k s ∷ [] }

abbrev pub end_read : Tables → ℕ → ℕ → Tables
end_read t n k = record t { reads = without_read n k t.reads }

abbrev pub die : Tables → ℕ → Tables
die t n = record t { writes = without_writes_of n t.writes; reads = without_reads_of n t.reads }

abbrev pub settle : Tables → ℕ → Sector → Tables
settle t s v = record t { values = slice_set t.values s (v ∷ []) }

-- the tables after one entry more
abbrev pub tables_after : Tables → Event → Outcome → Tables
tables_after t (AskWrite n s v) (Write k) = ask_write t n k s v
tables_after t (Out n k l) (Io i) = start_and_break t n k
tables_after t (Out n k l) o = start_write t n k
tables_after t (EndWrite n k) o = end_write t n k
tables_after t (BreakWrite n k) o = break_write t n k
tables_after t (AskRead n s) (Read k) = ask_read t n k s
tables_after t (In n k) (Lost l) = t
tables_after t (In n k) o = end_read t n k
tables_after t (Die n) o = die t n
tables_after t (Settle n) (Settled s v) = settle t s v
tables_after t e o = t
