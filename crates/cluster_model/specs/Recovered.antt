-- What holds when the recovery of a slot ends.
use Rattle.std.specs.Prelude.{◌≡◌, ◌⊎◌, ℕ, ◌<◌, ◌==◌, Bool, true, false, ◌&&◌, ◌||◌, if◌then◌else◌}
use Rattle.std.specs.Prelude.{List, [], ◌∷◌, ◌++◌, Option, Some, None}
use Rattle.mdc_types.specs.Geometry.{Sizes, chunk_of}
use Rattle.mdc_types.specs.declared.events.Event.{Event}
use Rattle.mdc_types.specs.declared.events.Event.TheVariants.{Die, Offer, FinishRound, Recover}
use Rattle.mdc_types.specs.declared.events.Event.TheVariants.{SlotIn, Recovered}
use Rattle.mdc_types.specs.declared.events.Wish.{Wish}
use Rattle.mdc_types.specs.declared.outcomes.Outcome.{Outcome}
use Rattle.mdc_types.specs.declared.outcomes.Outcome.TheVariants.{Page}
use Rattle.mdc_types.specs.declared.outcomes.Entry.{Entry}
use Rattle.leg_failure.specs.Views.{works}
use Rattle.slot_pages.specs.Slot.{page_has}
use Rattle.plain_history.specs.Seen.{OpenSince}
use Rattle.cluster_model.specs.State.{State, sizes}
use Rattle.cluster_model.specs.Phases.{is_unclean}
use Rattle.cluster_model.specs.Run.{Run}
use Rattle.cluster_model.specs.Served.{Trusted, Marked}
use Rattle.cluster_model.specs.Stored.{data_on}

-- What entries tell, the newest first.

-- the slot that the node recovers
abbrev pub slot_step : ℕ → Event → Option ℕ → Option ℕ
slot_step n (Recover m d) slot = if m == n then Some d else slot
slot_step n (Recovered m) slot = if m == n then None else slot
slot_step n (Die m) slot = if m == n then None else slot
slot_step n e slot = slot

abbrev pub slot_in : ℕ → List Entry → Option ℕ
slot_in n [] = None
slot_in n (x ∷ past) = slot_step n x.event (slot_in n past)

-- a page that the node read in its recovery has the chunk
abbrev pub found_step : Sizes → ℕ → ℕ → Event → Outcome → Bool → Bool
found_step g n c (Recover m d) o found = if m == n then false else found
found_step g n c (SlotIn m p l) (Page v) found = found || ((m == n) && page_has g p v.bytes c)
found_step g n c e o found = found

abbrev pub found_in : Sizes → ℕ → List Entry → ℕ → Bool
found_in g n [] c = false
found_in g n (x ∷ past) c = found_step g n c x.event x.outcome (found_in g n past c)

-- what the node offered last
abbrev pub wish_step : ℕ → Event → Option Wish → Option Wish
wish_step n (Offer m wish) last = if m == n then Some wish else last
wish_step n e last = last

abbrev pub wish_in : ℕ → List Entry → Option Wish
wish_in n [] = None
wish_in n (x ∷ past) = wish_step n x.event (wish_in n past)

abbrev pub offered_unclean : Option Wish → Bool
offered_unclean None = false
offered_unclean (Some wish) = is_unclean wish

-- the slot becomes pending: its node dies, or its unclean leaving is whole
abbrev pub makes_pending : ℕ → List Entry → Event → Bool
makes_pending d past (Die m) = m == d
makes_pending d past (FinishRound m) = (m == d) && offered_unclean (wish_in d past)
makes_pending d past e = false

-- at this place, which is after these entries, the slot has just become pending; or at the opening
abbrev pub BecamePending : ℕ → List Entry → State → Type 0
BecamePending d [] place = place.core.members.pending d ≡ true
BecamePending d (x ∷ past) place = makes_pending d past x.event ≡ true

-- none of the later entries makes it so again
abbrev pub NotAgain : ℕ → List Entry → List Entry → Type 0
NotAgain d [] past = Unit {0}
NotAgain d (x ∷ later) past =
    (makes_pending d (later ++ past) x.event ≡ false) × NotAgain d later past

-- a place of a run
pub record Place (start : State) (past later : List Entry) (end : State) : Type 0 where
  pub state : State
  pub before : Run start past state
  pub after : Run state later end

-- the last place at which slot d became pending
pub record Pended (start : State) (past later : List Entry) (end : State) (d : ℕ) : Type 0 where
  pub place : Place start past later end
  pub became : BecamePending d past place.state
  pub last : NotAgain d later past

-- the slot marked the chunk on every leg that could be read
abbrev pub WasMarked : State → ℕ → ℕ → Type 0
WasMarked place d c = (l : ℕ) → l < (sizes place.core).legs → Trusted place l → Marked place d c l

-- all legs that the node reads from hold the same
abbrev pub AreEqual : State → ℕ → ℕ → Type 0
AreEqual state n s =
    (l k : ℕ) → works (state.core.view n) l ≡ true → works (state.core.view n) k ≡ true
    → data_on (sizes state.core) state.legs l s ≡ data_on (sizes state.core) state.legs k s

-- where node n's recovery may end after these entries: all that the slot had marked is equal, save
-- under later open writes
abbrev pub RecoveredEqual : State → List Entry → State → ℕ → Type 0
RecoveredEqual start past end n =
    (d c s : ℕ) (before later : List Entry) (pended : Pended start before later end d)
    → slot_in n past ≡ Some d → past ≡ later ++ before → s < (sizes end.core).room
    → chunk_of (sizes end.core) s ≡ c
    → (found_in (sizes end.core) n past c ≡ true) ⊎ WasMarked pended.place.state d c
    → AreEqual end n s ⊎ OpenSince later before s
