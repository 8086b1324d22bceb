-- Where a world stands, apart from where it came from.
use Rattle.std.specs.Prelude.{◌≡◌, ◌∷◌, List, length, None}
use Rattle.mdc_types.specs.declared.events.Event.{Event}
use Rattle.mdc_types.specs.declared.outcomes.Outcome.{Outcome}
use Rattle.mdc_types.specs.declared.outcomes.Entry.{Entry}
use Rattle.cluster_model.specs.State.{State}
use Rattle.cluster_model.specs.Table.{refusal}
use Rattle.cluster_model.specs.Run.{entry}
use Rattle.world_state.specs.Kept.{Kept, core_of}
use Rattle.world_state.specs.Told.{LegsSeen, Carries, state_with}
use Rattle.cluster_core.specs.World.{Seen, trace_limit}

-- what is kept of the state, what is seen of the legs, and the entries, the newest first
pub record Stand : Type 0 where
  pub kept : Kept
  pub legs : LegsSeen
  pub past : List Entry

-- where a world stands
abbrev pub stand : Seen → Stand
stand w = record { kept = w.kept; legs = w.legs; past = w.past }

-- the machine's state there
abbrev pub state_at : Stand → State
state_at at = state_with at.kept at.legs

-- an event whose guards hold: a step of the machine and one entry more. Its transfer fails just
-- where the path is cut or the leg's plan says so
pub record Makes (old : Stand) (e : Event) (o : Outcome) (new : Stand) : Type 0 where
  pub carries : Carries e o old.kept old.legs new.kept new.legs
  pub entries : new.past ≡ entry e o ∷ old.past

-- an event whose guards hold finds the trace full
pub record FindsFull (at : Stand) (e : Event) : Type 0 where
  pub accepted : refusal (core_of at.kept) e ≡ None
  pub full : length at.past ≡ trace_limit
