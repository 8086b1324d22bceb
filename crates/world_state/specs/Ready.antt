-- What every place of every run has, as far as the rows' code needs it.
use Rattle.std.specs.Prelude.{◌≡◌, ◌<◌, ◌-◌, ◌^◌, ℕ, Option, Some, None}
use Rattle.mdc_types.specs.declared.events.Event.{Event}
use Rattle.cluster_model.specs.State.{Core, sizes}
use Rattle.cluster_model.specs.Table.{refusal}
use Rattle.cluster_model.specs.Transfers.{Transfer, transfer_of}
use Rattle.laws_locks.specs.Rounded.{Rounded}
use Rattle.laws_locks.specs.Others.{OtherLocks}
use Rattle.laws_locks.specs.Unblocked.{Unblocked}
use Rattle.laws_locks.specs.Empties.{UpOnly}
use Rattle.laws_sound.specs.Laws.{InRange, KeepsALeg, MessagesRead, OffersWritten, IsOnLeg}

pub record Ready (core : Core) : Type 0 where
  -- numbers are in range, and each node that is in reads from some leg
  pub range : InRange core
  pub leg : KeepsALeg core
  -- what is offered can be written as a message and as a superblock
  pub messages : MessagesRead core
  pub supers : OffersWritten core
  -- what an accepted event transfers lies on a leg
  pub on_legs : (e : Event) (t : Transfer) → refusal core e ≡ None → transfer_of core e ≡ Some t
      → IsOnLeg (sizes core) t
  -- there are numbers left for writes and reads
  pub writes_left : (n : ℕ) → core.writes_made n < 2 ^ 32 - 1
  pub reads_left : (n : ℕ) → core.reads_made n < 2 ^ 32 - 1
  -- phases and locks agree, and no call that an accepted row makes at once is refused
  pub rounded : Rounded core
  pub others : OtherLocks core
  pub unblocked : Unblocked core
  -- who isn't up does nothing
  pub up_only : UpOnly core
