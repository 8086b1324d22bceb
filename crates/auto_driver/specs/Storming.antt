-- A storm: turns one after another, and what is counted of them.
use Rattle.std.specs.Prelude.{◌≡◌, ◌⊎◌, ◌<◌, ◌+◌, ℕ, zero, suc, Bool, true, false}
use Rattle.std.specs.Prelude.{if◌then◌else◌, Option, Some, None}
use Rattle.mdc_types.specs.declared.events.Event.{Event}
use Rattle.mdc_types.specs.declared.events.Event.TheVariants.{AskWrite, EndWrite, In, Die}
use Rattle.mdc_types.specs.declared.events.Event.TheVariants.{Recovered}
use Rattle.mdc_types.specs.declared.outcomes.Outcome.{Outcome}
use Rattle.mdc_types.specs.declared.outcomes.Outcome.TheVariants.{Value}
use Rattle.mdc_types.specs.declared.refusals.Refusal.{Refusal}
use Rattle.cluster_model.specs.State.{Core}
use Rattle.cluster_model.specs.Table.{refusal}
use Rattle.driver_rules.specs.Storms.{Drawn, named, turn, cut_after}
use Rattle.world_state.specs.Kept.{core_of}
use Rattle.cluster_core.specs.Stands.{Stand, Makes, FindsFull}
use Rattle.auto_driver.specs.declared.counting.Counted.{Counted}
use Rattle.auto_driver.specs.declared.counting.Counted.TheVariants as counts
use Rattle.auto_driver.specs.declared.counting.Summary.{Summary}

-- What is counted.

-- an accepted event as what it counts, beside being an event
abbrev pub counted_as : Event → Outcome → Counted
counted_as (AskWrite n s v) o = counts.Write
counted_as (EndWrite n k) o = counts.Ended
counted_as (In n k) (Value l v) = counts.Read
counted_as (Die n) o = counts.Death
counted_as (Recovered n) o = counts.Recovered
counted_as e o = counts.Other

abbrev pub with_event : Summary → Counted → Summary
with_event s counts.Write = record s { events = s.events + 1; writes = s.writes + 1 }
with_event s counts.Ended = record s { events = s.events + 1; ended = s.ended + 1 }
with_event s counts.Read = record s { events = s.events + 1; reads = s.reads + 1 }
with_event s counts.Death = record s { events = s.events + 1; deaths = s.deaths + 1 }
with_event s counts.Recovered = record s { events = s.events + 1; recovered = s.recovered + 1 }
with_event s counts.Other = record s { events = s.events + 1 }

abbrev pub with_refused : Summary → Summary
with_refused s = record s { refused = s.refused + 1 }

-- each count but that of the turns is below m
pub record AllBelow (m : ℕ) (s : Summary) : Type 0 where
  pub events : s.events < m
  pub refused : s.refused < m
  pub writes : s.writes < m
  pub ended : s.ended < m
  pub reads : s.reads < m
  pub deaths : s.deaths < m
  pub recovered : s.recovered < m

-- nothing yet, of so many turns
abbrev pub none_of : ℕ → Summary
none_of turns = record {
  turns = turns;
  events = 0;
  refused = 0;
  writes = 0;
  ended = 0;
  reads = 0;
  deaths = 0;
  recovered = 0;
}

-- Turns.

-- where a storm is: the world, the generator's state, the leg that it cut and hasn't mended, and
-- what it counted
pub record Storm : Type 0 where
  pub at : Stand
  pub seed : ℕ
  pub cut : Option ℕ
  pub counts : Summary

-- what turn i of so many does there
abbrev pub does : ℕ → ℕ → Storm → Drawn
does turns i storm = turn (core_of storm.at.kept) i storm.seed storm.cut (named turns i)

-- an event is made and counted, or a guard refuses it, and then nothing else changes
pub data Tries (e : Event) (old : Stand) (before : Summary) (new : Stand) (now : Summary)
    : Type 0 where
  Refused : (why : Refusal) → refusal (core_of old.kept) e ≡ Some why → new ≡ old
      → now ≡ with_refused before → Tries e old before new now
  Made : (o : Outcome) → Makes old e o new → now ≡ with_event before (counted_as e o)
      → Tries e old before new now

-- the event, if there is one, is tried
abbrev pub Happens : Option Event → Stand → Summary → Stand → Summary → Type 0
Happens None old before new now = (new ≡ old) × (now ≡ before)
Happens (Some e) old before new now = Tries e old before new now

-- turn i of so many
pub record Turns (turns i : ℕ) (old new : Storm) : Type 0 where
  pub happens : Happens (does turns i old).event old.at old.counts new.at new.counts
  pub seed : new.seed ≡ (does turns i old).seed
  pub cut : new.cut ≡ cut_after (core_of old.at.kept) old.cut (named turns i)

-- the first of so many turns, from this seed on
abbrev pub Storms : ℕ → ℕ → ℕ → Stand → Storm → Type 0
Storms turns seed zero start storm =
    storm ≡ record { at = start; seed = seed; cut = None; counts = none_of turns }
Storms turns seed (suc i) start storm =
    (mid : Storm) × Storms turns seed i start mid × Turns turns i mid storm

-- all turns were made, and this is what was counted
pub record Stormed (turns seed : ℕ) (start end : Stand) (counts : Summary) : Type 0 where
  pub storm : Storm
  pub storms : Storms turns seed turns start storm
  pub ends : storm.at ≡ end
  pub counted : storm.counts ≡ counts

-- fewer turns were made
pub record StormedBelow (turns seed : ℕ) (start end : Stand) : Type 0 where
  pub made : ℕ
  pub few : made < turns
  pub storm : Storm
  pub storms : Storms turns seed made start storm
  pub ends : storm.at ≡ end

-- fewer turns were made, and the event of the next one finds the trace full
pub record StormedTillFull (turns seed : ℕ) (start end : Stand) : Type 0 where
  pub below : StormedBelow turns seed start end
  pub event : Event
  pub next : (does turns below.made below.storm).event ≡ Some event
  pub full : FindsFull end event
