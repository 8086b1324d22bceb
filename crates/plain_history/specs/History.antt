-- The plain history of a trace: the writes and reads of each sector with their values, and no legs, locks or views.
-- Entries stand newest first.
use Rattle.std.specs.Prelude.{◌≡◌, ◌≢◌, ℕ, ◌==◌, Bool, true, false, not, ◌&&◌, if◌then◌else◌, get_or, List, [], ◌∷◌, ◌++◌, Option, Some, None}
use Rattle.mdc_types.specs.declared.numbers.Sector.{Sector}
use Rattle.mdc_types.specs.declared.events.Event.{Event}
use Rattle.mdc_types.specs.declared.events.Event.TheVariants.{AskWrite, Out, EndWrite, BreakWrite, AskRead, In, Die, Settle}
use Rattle.mdc_types.specs.declared.outcomes.Outcome.{Outcome}
use Rattle.mdc_types.specs.declared.outcomes.Outcome.TheVariants.{Write, Read, Value, Lost, Io, Settled}
use Rattle.mdc_types.specs.declared.outcomes.Entry.{Entry}

-- a live write: one that was asked, and has not finished, was not broken, and whose node has not died since
pub record PlainWrite : Type 0 where
  pub sector : ℕ
  pub value : Sector
  -- whether it has started
  pub begun : Bool

-- a write that was just asked
abbrev pub asked : ℕ → Sector → PlainWrite
asked s v = record { sector = s; value = v; begun = false }

-- a write starts at its first transfer to a leg
abbrev pub start : Option PlainWrite → Option PlainWrite
start None = None
start (Some w) = Some (record w { begun = true })

-- the live write k of node n after one entry more
abbrev pub live_step : Event → Outcome → (ℕ → ℕ → Option PlainWrite) → ℕ → ℕ → Option PlainWrite
live_step (AskWrite m s v) (Write j) writes n k = if n == m && k == j then Some (asked s v) else writes n k
live_step (Out m j l) (Io i) writes n k = if n == m && k == j then None else writes n k
live_step (Out m j l) o writes n k = if n == m && k == j then start (writes n k) else writes n k
live_step (EndWrite m j) o writes n k = if n == m && k == j then None else writes n k
live_step (BreakWrite m j) o writes n k = if n == m && k == j then None else writes n k
live_step (Die m) o writes n k = if n == m then None else writes n k
live_step e o writes n k = writes n k

-- the live write k of node n after these entries
abbrev pub live_writes : List Entry → ℕ → ℕ → Option PlainWrite
live_writes [] n k = None
live_writes (x ∷ past) n k = live_step x.event x.outcome (live_writes past) n k

-- the sector of read k of node n after one entry more: a read whose leg was lost goes on
abbrev pub asked_step : Event → Outcome → (ℕ → ℕ → Option ℕ) → ℕ → ℕ → Option ℕ
asked_step (AskRead m s) (Read j) reads n k = if n == m && k == j then Some s else reads n k
asked_step (In m j) (Lost l) reads n k = reads n k
asked_step (In m j) o reads n k = if n == m && k == j then None else reads n k
asked_step (Die m) o reads n k = if n == m then None else reads n k
asked_step e o reads n k = reads n k

-- the sector of read k of node n, which was asked and has not ended
abbrev pub asked_reads : List Entry → ℕ → ℕ → Option ℕ
asked_reads [] n k = None
asked_reads (x ∷ past) n k = asked_step x.event x.outcome (asked_reads past) n k

-- the start of a write of the sector appends its value
abbrev pub with_start : Option PlainWrite → ℕ → List Sector → List Sector
with_start None s values = values
with_start (Some w) s values = if w.sector == s && not w.begun then values ++ w.value ∷ [] else values

-- the end of a write of the sector leaves its value alone
abbrev pub with_end : Option PlainWrite → ℕ → List Sector → List Sector
with_end None s values = values
with_end (Some w) s values = if w.sector == s then w.value ∷ [] else values

-- the candidates of sector s after one entry more
abbrev pub values_step : Event → Outcome → (ℕ → ℕ → Option PlainWrite) → (ℕ → List Sector) → ℕ → List Sector
values_step (Out n k l) o writes values s = with_start (writes n k) s (values s)
values_step (EndWrite n k) o writes values s = with_end (writes n k) s (values s)
values_step (Settle n) (Settled t v) writes values s = if t == s then v ∷ [] else values s
values_step e o writes values s = values s

-- the values that a read of sector s may give: what was decided last, or the opening's values, and then the values of the writes that started since
abbrev pub candidates : (ℕ → List Sector) → List Entry → ℕ → List Sector
candidates base [] s = base s
candidates base (x ∷ past) s = values_step x.event x.outcome (live_writes past) (candidates base past) s

-- an opening's values, by sector
abbrev pub values_at : List (List Sector) → ℕ → List Sector
values_at lists s = get_or lists s []

-- v is one of the values
pub data IsIn (v : Sector) : List Sector → Type 0 where
  here : {vs : List Sector} → IsIn v (v ∷ vs)
  there : {u : Sector} {vs : List Sector} → IsIn v vs → IsIn v (u ∷ vs)

-- the read was asked, and v is a candidate of its sector
abbrev pub IsReadable : Sector → (ℕ → List Sector) → Option ℕ → Type 0
IsReadable v values None = ⊥
IsReadable v values (Some s) = IsIn v (values s)

-- the read was asked, and has not ended
abbrev pub IsAsked : Option ℕ → Type 0
IsAsked None = ⊥
IsAsked (Some s) = Unit {0}

-- the write is live and has started
abbrev pub HasBegun : Option PlainWrite → Type 0
HasBegun None = ⊥
HasBegun (Some w) = w.begun ≡ true

-- no live write, of any node, is of sector s
abbrev pub IsFree : (ℕ → ℕ → Option PlainWrite) → ℕ → Type 0
IsFree writes s = (n k : ℕ) (w : PlainWrite) → writes n k ≡ Some w → w.sector ≢ s

-- what an entry may be, where these are the live writes, the asked reads and the candidates before it
abbrev pub LegalEntry : (ℕ → ℕ → Option PlainWrite) → (ℕ → ℕ → Option ℕ) → (ℕ → List Sector) → Event → Outcome → Type 0
-- a read gives a candidate of its sector
LegalEntry writes reads values (In n k) (Value l v) = IsReadable v values (reads n k)
-- and whatever it ends with, it was asked before
LegalEntry writes reads values (In n k) o = IsAsked (reads n k)
-- a sector is settled to a candidate
LegalEntry writes reads values (Settle n) (Settled s v) = IsIn v (values s)
-- a write ends after its start and while it is live
LegalEntry writes reads values (EndWrite n k) o = HasBegun (writes n k)
-- a write is asked where no other live write is of its sector
LegalEntry writes reads values (AskWrite n s v) o = IsFree writes s
LegalEntry writes reads values e o = Unit {0}

-- the entry is legal after these
abbrev pub LegalAfter : (ℕ → List Sector) → List Entry → Entry → Type 0
LegalAfter base past x = LegalEntry (live_writes past) (asked_reads past) (candidates base past) x.event x.outcome

-- each entry is legal after those before it
abbrev pub Legal : (ℕ → List Sector) → List Entry → Type 0
Legal base [] = Unit {0}
Legal base (x ∷ past) = LegalAfter base past x × Legal base past
