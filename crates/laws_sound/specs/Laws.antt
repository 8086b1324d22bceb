-- What is said of each run of the mirror.
use Rattle.std.specs.Prelude.{◌≡◌, ℕ, ◌<◌, true, false, is_some, length, List, Some, None}
use Rattle.mdc_types.specs.Geometry.{Sizes, length_of}
use Rattle.mdc_types.specs.Roles.{is_working, some_works}
use Rattle.mdc_types.specs.declared.events.Event.{Event}
use Rattle.mdc_types.specs.declared.outcomes.Entry.{Entry}
use Rattle.md_superblock.specs.Arrays.{super_for}
use Rattle.md_superblock.specs.Superblock.{IsSuper}
use Rattle.msg_rounds.specs.Phases.{is_idle, has_published}
use Rattle.msg_rounds.specs.Refusals.{is_taken}
use Rattle.cluster_msgs.specs.Messages.{IsMsg}
use Rattle.leg_failure.specs.Views.{works, working_leg}
use Rattle.cluster_model.specs.State.{State, Core, Offer, sizes}
use Rattle.cluster_model.specs.Opening.{Origin}
use Rattle.cluster_model.specs.Contents.{Opens}
use Rattle.cluster_model.specs.Phases.{is_in, is_metadata}
use Rattle.cluster_model.specs.Publishing.{message_of}
use Rattle.cluster_model.specs.Receiving.{published_message}
use Rattle.cluster_model.specs.Run.{Run}
use Rattle.cluster_model.specs.Superblocks.{says_of_offer}
use Rattle.cluster_model.specs.Table.{refusal}
use Rattle.cluster_model.specs.Transfers.{Transfer, transfer_of}
use Rattle.laws_sound.specs.Legs.{LegsFit}
use Rattle.laws_sound.specs.Requests.{InFlight, Counted}
use Rattle.laws_sound.specs.Copies.{InRoom}

-- along each run from an opening
abbrev pub Always : (List Entry → Core → Type 0) → Type 0
Always Holds = (o : Origin) (start end : State) (past : List Entry)
    → Opens o start → Run start past end → Holds past end.core

-- All numbers are in range: of legs, of requests in flight, and of what is copied and recovered.
pub record InRange (core : Core) : Type 0 where
  pub legs : LegsFit core
  pub flight : InFlight core
  pub room : InRoom core

abbrev pub RunsAreInRange : Type 0
RunsAreInRange = Always (λ past core. InRange core)

-- Each node that is in reads from some leg, and what it offers calls each leg working that works
-- there.
pub record KeepsALeg (core : Core) : Type 0 where
  pub leg : (n : ℕ) → is_in (core.state n) ≡ true → is_some (working_leg (core.view n)) ≡ true
  pub offered : (n : ℕ) (o : Offer) → core.offer n ≡ Some o → some_works o.role ≡ true
  pub working : (n l : ℕ) (o : Offer) → core.offer n ≡ Some o
      → works (core.view n) l ≡ true → is_working (o.role l) ≡ true

abbrev pub RunsKeepALeg : Type 0
RunsKeepALeg = Always (λ past core. KeepsALeg core)

-- What is offered spells a message of its node, which is read again.
pub record MessagesRead (core : Core) : Type 0 where
  pub offered : (n : ℕ) (o : Offer) → core.offer n ≡ Some o → IsMsg (message_of core n o)
  pub published : (n : ℕ) (o : Offer) → has_published (core.sender n) ≡ true → core.offer n ≡ Some o
      → published_message core ≡ Some (message_of core n o)
  -- a receiver that isn't idle has heard the message in the block
  pub heard : (n : ℕ) → is_idle (core.receiver n).phase ≡ false
      → core.heard n ≡ published_message core
  -- and who has taken one whose sender lives, that sender's
  pub taken : (n : ℕ) (o : Offer) → is_taken (core.receiver n).phase ≡ true
      → (core.receiver n).gone ≡ false → core.offer (core.receiver n).from ≡ Some o
      → core.heard n ≡ Some (message_of core (core.receiver n).from o)

abbrev pub MessagesAreRead : Type 0
MessagesAreRead = Always (λ past core. MessagesRead core)

-- how often each node was asked
abbrev pub RunsAreCounted : Type 0
RunsAreCounted = Always (λ past core. Counted core (length past))

-- A superblock that is offered can be written to each leg.
abbrev pub OffersWritten : Core → Type 0
OffersWritten core = (n l : ℕ) (o : Offer) → core.offer n ≡ Some o → is_metadata o.wish ≡ true
    → l < (sizes core).legs → IsSuper (super_for core.array l (says_of_offer o))

abbrev pub OffersAreWritten : Type 0
OffersAreWritten = Always (λ past core. OffersWritten core)

-- A transfer is with a leg of the array, and of a sector that the leg has.
pub record IsOnLeg (g : Sizes) (t : Transfer) : Type 0 where
  pub leg : t.leg < g.legs
  pub place : t.place < length_of g

abbrev pub TransfersAreOnLegs : Type 0
TransfersAreOnLegs = Always (λ past core. (e : Event) (t : Transfer)
    → refusal core e ≡ None → transfer_of core e ≡ Some t → IsOnLeg (sizes core) t)
