-- What contracts see of a world.
use Rattle.std.specs.Prelude.{◌≡◌, ◌≤◌, ℕ, List, reverse, length, Option}
use Rattle.mdc_types.specs.declared.numbers.Sector.{Sector}
use Rattle.mdc_types.specs.declared.outcomes.Entry.{Entry}
use Rattle.leg_store.specs.Plans.{Plan}
use Rattle.cluster_model.specs.State.{State}
use Rattle.cluster_model.specs.Opening.{Origin}
use Rattle.cluster_model.specs.Contents.{Opens}
use Rattle.cluster_model.specs.Run.{Run}
use Rattle.world_state.specs.Kept.{Kept}
use Rattle.world_state.specs.Told.{LegsSeen, seen_of as legs_seen, state_with, Fits}

-- the most entries of a trace
abbrev pub trace_limit : ℕ
trace_limit = 65536

-- the opening, the state in memory, what the legs tell, the entries with the newest first, and how
-- many entries more the memory is there for
pub record Seen : Type 0 where
  pub origin : Origin
  pub kept : Kept
  pub legs : LegsSeen
  pub past : List Entry
  pub spare : ℕ

-- the machine's state
abbrev pub state : Seen → State
state seen = state_with seen.kept seen.legs

abbrev pub seen_of : {L : Type 0} → (L → Option (List Sector)) → (L → ℕ) → (L → ℕ)
    → (L → Option Plan) → Origin → Kept → List L → List Entry → ℕ → Seen
seen_of contents size faults plan origin kept legs trace spare = record {
  origin = origin;
  kept = kept;
  legs = legs_seen contents size faults plan legs;
  past = reverse trace;
  spare = spare;
}

-- a run from a state that belongs to the opening led here
pub record Reachable (seen : Seen) : Type 0 where
  pub start : State
  pub opens : Opens seen.origin start
  pub fits : Fits seen.origin.sizes seen.legs.sizes
  pub run : Run start seen.past (state seen)
  pub few : length seen.past ≤ trace_limit
