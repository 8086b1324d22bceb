-- Steps and runs.
use Rattle.std.specs.Prelude.{◌≡◌, ℕ, ◌==◌, ◌&&◌, true, if◌then◌else◌, List, [], ◌∷◌, Some, None}
use Rattle.mdc_types.specs.declared.numbers.Sector.{Sector}
use Rattle.mdc_types.specs.declared.events.Event.{Event}
use Rattle.mdc_types.specs.declared.outcomes.Outcome.{Outcome}
use Rattle.mdc_types.specs.declared.outcomes.Outcome.TheVariants.{Done}
use Rattle.mdc_types.specs.declared.outcomes.Entry.{Entry}
use Rattle.cluster_model.specs.State.{State, Legs}
use Rattle.cluster_model.specs.Table.{refusal}
use Rattle.cluster_model.specs.Transfers.{Transfer, transfer_of, is_open_path}
use Rattle.cluster_model.specs.Failures.{failure}
use Rattle.cluster_model.specs.Outcomes.{outcome_of, outcome_read}
use Rattle.cluster_model.specs.After.{after}

-- the leg has v at this place, where it tells what it has
abbrev pub put : Legs → ℕ → ℕ → Sector → Legs
put legs l at v = record legs {
  content = λ j t. if (j == l) && (t == at) && legs.told l then v else legs.content j t;
}

-- the leg gives v at this place: anything where the contents aren't told
abbrev pub Gives : Legs → ℕ → ℕ → Sector → Type 0
Gives legs l at v = legs.told l ≡ true → v ≡ legs.content l at

-- Which outcome an accepted event may have, and what becomes of the legs: the only choice that
-- there is.
pub data Moves (old : State) (e : Event) (o : Outcome) (new : Legs) : Type 0 where
  -- the event transfers nothing
  Quiet : transfer_of old.core e ≡ None → o ≡ outcome_of old.core e → new ≡ old.legs
      → Moves old e o new
  -- a sector is written
  Written : (t : Transfer) (v : Sector) → transfer_of old.core e ≡ Some t → t.value ≡ Some v
      → is_open_path old.core t ≡ true
      → o ≡ Done → new ≡ put old.legs t.leg t.place v → Moves old e o new
  -- a sector is read
  Read : (t : Transfer) (v : Sector) → transfer_of old.core e ≡ Some t → t.value ≡ None
      → is_open_path old.core t ≡ true
      → Gives old.legs t.leg t.place v → o ≡ outcome_read old.core e t v → new ≡ old.legs
      → Moves old e o new
  -- the transfer failed, and nothing changed on the leg; it does over a cut path
  Failed : (t : Transfer) → transfer_of old.core e ≡ Some t → o ≡ failure old.core e t
      → new ≡ old.legs → Moves old e o new
  -- a write failed, and left the new sector
  Left : (t : Transfer) (v : Sector) → transfer_of old.core e ≡ Some t → t.value ≡ Some v
      → is_open_path old.core t ≡ true
      → o ≡ failure old.core e t → new ≡ put old.legs t.leg t.place v → Moves old e o new

-- one accepted event
pub record Step (old : State) (e : Event) (o : Outcome) (new : State) : Type 0 where
  pub accepted : refusal old.core e ≡ None
  pub moves : Moves old e o new.legs
  pub core : new.core ≡ after old.core e o

abbrev pub entry : Event → Outcome → Entry
entry e o = record { event = e; outcome = o }

-- A run, by its entries, the newest first.
abbrev pub Run : State → List Entry → State → Type 0
Run start [] end = end ≡ start
Run start (x ∷ past) end = (mid : State) × Run start past mid × Step mid x.event x.outcome end
