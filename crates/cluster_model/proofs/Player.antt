-- A player of scripts: it answers one event after another, and a transfer fails just where its path is cut.
use Rattle.std.proofs.Common.{◌≡◌, Bool, true, false, List, [], ◌∷◌, Option, Some, None, refl}
use Rattle.mdc_types.specs.Sectors.{zero_sector}
use Rattle.mdc_types.specs.declared.numbers.Sector.{Sector}
use Rattle.mdc_types.specs.declared.events.Event.{Event}
use Rattle.mdc_types.specs.declared.outcomes.Outcome.{Outcome}
use Rattle.mdc_types.specs.declared.outcomes.Outcome.TheVariants.{Done, Super, Settled, Page}
use Rattle.mdc_types.specs.declared.outcomes.Entry.{Entry}
use Rattle.mdc_types.specs.declared.refusals.Refusal.{Refusal}
use Rattle.cluster_model.specs.State.{State, Legs}
use Rattle.cluster_model.specs.Table.{refusal}
use Rattle.cluster_model.specs.Transfers.{Transfer, transfer_of, is_open_path}
use Rattle.cluster_model.specs.Failures.{failure}
use Rattle.cluster_model.specs.Outcomes.{outcome_of, outcome_read}
use Rattle.cluster_model.specs.After.{after}
use Rattle.cluster_model.specs.Run.{put, Moves, Quiet, Written, Read, Failed, Step, entry, Run}

-- over an open path: what is read, or that it was written; and the legs then
abbrev pub outcome_over : State → Event → Transfer → Option Sector → Outcome
outcome_over state e t None = outcome_read state.core e t (state.legs.content t.leg t.place)
outcome_over state e t (Some v) = Done

abbrev pub legs_over : Legs → Transfer → Option Sector → Legs
legs_over legs t None = legs
legs_over legs t (Some v) = put legs t.leg t.place v

abbrev pub outcome_by : State → Event → Transfer → Bool → Outcome
outcome_by state e t true = outcome_over state e t t.value
outcome_by state e t false = failure state.core e t

abbrev pub legs_by : State → Transfer → Bool → Legs
legs_by state t true = legs_over state.legs t t.value
legs_by state t false = state.legs

abbrev pub outcome_with : State → Event → Option Transfer → Outcome
outcome_with state e None = outcome_of state.core e
outcome_with state e (Some t) = outcome_by state e t (is_open_path state.core t)

abbrev pub legs_with : State → Option Transfer → Legs
legs_with state None = state.legs
legs_with state (Some t) = legs_by state t (is_open_path state.core t)

-- the outcome of an accepted event, and the state after it
abbrev pub outcome_at : State → Event → Outcome
outcome_at state e = outcome_with state e (transfer_of state.core e)

abbrev pub next : State → Event → State
next state e = record {
  core = after state.core e (outcome_at state e);
  legs = legs_with state (transfer_of state.core e);
}

-- what a line of a script is answered
pub data Answer : Type 0 where
  Accepted : (outcome : Outcome) → Answer
  Refused : (refusal : Refusal) → Answer

abbrev pub answer : State → Event → Option Refusal → Answer
answer state e None = Accepted (outcome_at state e)
answer state e (Some r) = Refused r

abbrev pub then_state : State → Event → Option Refusal → State
then_state state e None = next state e
then_state state e (Some r) = state

abbrev pub answers : State → List Event → List Answer
answers state [] = []
answers state (e ∷ script) =
    answer state e (refusal state.core e) ∷ answers (then_state state e (refusal state.core e)) script

-- the state after a script
abbrev pub end_of : State → List Event → State
end_of state [] = state
end_of state (e ∷ script) = end_of (then_state state e (refusal state.core e)) script

-- Each accepted event is a step of the machine.

over : (state : State) (e : Event) (t : Transfer) (v : Option Sector)
    → transfer_of state.core e ≡ Some t → t.value ≡ v
    → is_open_path state.core t ≡ true → Moves state e (outcome_over state e t v) (legs_over state.legs t v)
over state e t None is value way = Read t (state.legs.content t.leg t.place) is value way (λ told. refl) refl refl
over state e t (Some v) is value way = Written t v is value way refl refl

by : (state : State) (e : Event) (t : Transfer) (way : Bool) → transfer_of state.core e ≡ Some t
    → is_open_path state.core t ≡ way → Moves state e (outcome_by state e t way) (legs_by state t way)
by state e t true is way = over state e t t.value is refl way
by state e t false is way = Failed t is refl refl

with_transfer : (state : State) (e : Event) (t : Option Transfer) → transfer_of state.core e ≡ t
    → Moves state e (outcome_with state e t) (legs_with state t)
with_transfer state e None is = Quiet is refl refl
with_transfer state e (Some t) is = by state e t (is_open_path state.core t) is refl

pub next_is_step : (state : State) (e : Event) → refusal state.core e ≡ None
    → Step state e (outcome_at state e) (next state e)
next_is_step state e is = record { accepted = is; moves = with_transfer state e (transfer_of state.core e) refl; core = refl }

-- the entries of a script after those of the past, the newest first
abbrev pub entries_by : State → Event → Option Refusal → List Entry → List Entry
entries_by state e None past = entry e (outcome_at state e) ∷ past
entries_by state e (Some r) past = past

abbrev pub entries_after : List Entry → State → List Event → List Entry
entries_after past state [] = past
entries_after past state (e ∷ script) =
    entries_after (entries_by state e (refusal state.core e) past) (then_state state e (refusal state.core e)) script

one_more : (start : State) (past : List Entry) (mid : State) (e : Event) (r : Option Refusal)
    → refusal mid.core e ≡ r
    → Run start past mid → Run start (entries_by mid e r past) (then_state mid e r)
one_more start past mid e None is run = (mid, run, next_is_step mid e is)
one_more start past mid e (Some r) is run = run

-- a script that goes on from a run is a run
pub script_is_run : (start : State) (past : List Entry) (mid : State) (script : List Event)
    → Run start past mid → Run start (entries_after past mid script) (end_of mid script)
script_is_run start past mid [] run = run
script_is_run start past mid (e ∷ script) run =
    script_is_run start (entries_by mid e (refusal mid.core e) past) (then_state mid e (refusal mid.core e)) script
    (one_more start past mid e (refusal mid.core e) refl run)

-- Scripts with what is printed.

-- a page and a settled sector are printed as `done`, and of a superblock its events number
abbrev pub printed : Outcome → Outcome
printed (Page v) = Done
printed (Settled s v) = Done
printed (Super events v) = Super events zero_sector
printed o = o

abbrev pub printed_answer : Answer → Answer
printed_answer (Accepted o) = Accepted (printed o)
printed_answer (Refused r) = Refused r

pub record Line : Type 0 where
  pub event : Event
  pub answer : Answer

abbrev pub done : Event → Line
done e = record { event = e; answer = Accepted Done }

abbrev pub says : Event → Outcome → Line
says e o = record { event = e; answer = Accepted o }

abbrev pub refused : Event → Refusal → Line
refused e r = record { event = e; answer = Refused r }

abbrev pub replayed : State → List Line → List Line
replayed state [] = []
replayed state (x ∷ script) =
    record { event = x.event; answer = printed_answer (answer state x.event (refusal state.core x.event)) }
    ∷ replayed (then_state state x.event (refusal state.core x.event)) script

-- each line is answered so
abbrev pub Plays : State → List Line → Type 0
Plays state script = replayed state script ≡ script

abbrev pub events_of : List Line → List Event
events_of [] = []
events_of (x ∷ script) = x.event ∷ events_of script

-- the state after the script
abbrev pub after_script : State → List Line → State
after_script state script = end_of state (events_of script)
