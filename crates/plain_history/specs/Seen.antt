-- Finished writes are seen: a later read gives the value of the write that finished, or of a write that started since.
use Rattle.std.specs.Prelude.{◌≡◌, ℕ, false, ◌⊎◌, List, [], ◌∷◌, ◌++◌, Some}
use Rattle.mdc_types.specs.declared.numbers.Sector.{Sector}
use Rattle.mdc_types.specs.declared.events.Event.TheVariants.{Out, EndWrite, In, Settle}
use Rattle.mdc_types.specs.declared.outcomes.Outcome.TheVariants.{Value, Settled}
use Rattle.mdc_types.specs.declared.outcomes.Entry.{Entry}
use Rattle.plain_history.specs.History.{PlainWrite, live_writes, asked_reads, Legal}

-- after these entries, x starts a write of sector s with value v
pub record Starts (past : List Entry) (x : Entry) (s : ℕ) (v : Sector) : Type 0 where
  pub node : ℕ
  pub number : ℕ
  pub leg : ℕ
  pub write : PlainWrite
  pub event : x.event ≡ Out node number leg
  pub live : live_writes past node number ≡ Some write
  pub first : write.begun ≡ false
  pub sector : write.sector ≡ s
  pub value : write.value ≡ v

-- after these entries, x ends a write of sector s with value v
pub record Ends (past : List Entry) (x : Entry) (s : ℕ) (v : Sector) : Type 0 where
  pub node : ℕ
  pub number : ℕ
  pub write : PlainWrite
  pub event : x.event ≡ EndWrite node number
  pub live : live_writes past node number ≡ Some write
  pub sector : write.sector ≡ s
  pub value : write.value ≡ v

-- x settles sector s
pub record Settles (x : Entry) (s : ℕ) : Type 0 where
  pub node : ℕ
  pub value : Sector
  pub event : x.event ≡ Settle node
  pub outcome : x.outcome ≡ Settled s value

-- after these entries, x decides sector s: it ends a write of it, or settles it
abbrev pub Decides : List Entry → Entry → ℕ → Type 0
Decides past x s = ((v : Sector) × Ends past x s v) ⊎ Settles x s

-- after these entries, x gives v for a read of sector s
pub record Gives (past : List Entry) (x : Entry) (s : ℕ) (v : Sector) : Type 0 where
  pub node : ℕ
  pub number : ℕ
  pub leg : ℕ
  pub event : x.event ≡ In node number
  pub outcome : x.outcome ≡ Value leg v
  pub asked : asked_reads past node number ≡ Some s

-- one of the later entries, which stand after the past ones, starts a write of sector s with value v
abbrev pub StartedSince : List Entry → List Entry → ℕ → Sector → Type 0
StartedSince [] past s v = ⊥
StartedSince (x ∷ later) past s v = Starts (later ++ past) x s v ⊎ StartedSince later past s v

-- one of the later entries, which stand after the past ones, starts a write of sector s, and no entry
-- after that start decides s
abbrev pub OpenSince : List Entry → List Entry → ℕ → Type 0
OpenSince [] past s = ⊥
OpenSince (x ∷ later) past s = ((v : Sector) × Starts (later ++ past) x s v)
    ⊎ (OpenSince later past s × (¬ Decides (later ++ past) x s))

-- in each legal trace, after the end of a write each later read of its sector gives its value or that of a write that started after that end
abbrev pub FinishedWritesAreSeen : Type 0
FinishedWritesAreSeen = (base : ℕ → List Sector) (past between later : List Entry) (end read : Entry) (s : ℕ) (v u : Sector)
    → Legal base (later ++ read ∷ (between ++ end ∷ past)) → Ends past end s v → Gives (between ++ end ∷ past) read s u
    → (u ≡ v) ⊎ StartedSince between (end ∷ past) s u
