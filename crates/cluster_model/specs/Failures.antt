-- What a failed transfer is answered, and what it leaves.
use Rattle.std.specs.Prelude.{ℕ, true, if◌then◌else◌, Option, Some, None}
use Rattle.dlm_modes.specs.Points.{with_at}
use Rattle.mdc_types.specs.declared.events.Event.{Event}
use Rattle.mdc_types.specs.declared.events.Event.TheVariants.{Load, WriteSuper, WritePage, Out, In}
use Rattle.mdc_types.specs.declared.events.Event.TheVariants.{SlotOut}
use Rattle.mdc_types.specs.declared.outcomes.Outcome.{Outcome}
use Rattle.mdc_types.specs.declared.outcomes.Outcome.TheVariants.{Lost, Io, Unread, Unreached}
use Rattle.leg_failure.specs.Views.{is_target, is_last, lost_one}
use Rattle.node_recovery.specs.Progress.{Recovering}
use Rattle.cluster_model.specs.State.{Core}
use Rattle.cluster_model.specs.Changes.{voided}
use Rattle.cluster_model.specs.Bits.{page_failed}
use Rattle.cluster_model.specs.Writes.{start_write, write_ended}
use Rattle.cluster_model.specs.Reads.{end_read}
use Rattle.cluster_model.specs.Transfers.{Transfer}

-- the last working leg of a node stays; any other leg is lost
abbrev pub lost_or_io : Core → Transfer → Outcome
lost_or_io core t = if is_last (core.view t.node) t.leg then Io t.leg else Lost t.leg

-- a joiner loses nothing, and a superblock is also written to legs that aren't targets yet
abbrev pub failure : Core → Event → Transfer → Outcome
failure core (Load n l) t = Unread l
failure core (WriteSuper n l) t =
    if is_target (core.view n) l then lost_or_io core t else Unreached l
failure core e t = lost_or_io core t

-- What the try leaves, whether the leg is lost or stays.

abbrev pub slot_failed : Core → ℕ → ℕ → Option Recovering → Core
slot_failed core p l None = core
slot_failed core p l (Some r) = page_failed core r.slot p l

-- a write has started; of a page only what both pages have is sure
abbrev pub tried : Core → Event → Core
tried core (Out n k l) = start_write core n k
tried core (WritePage n p l) = page_failed core n p l
tried core (SlotOut n p l) = slot_failed core p l (core.recovery n)
tried core e = core

-- What comes of the failure.

-- the node lost the leg, and an offer that isn't published yet is void
abbrev pub leg_lost : Core → ℕ → ℕ → Core
leg_lost core n l = record (voided core n (core.sender n)) {
  view = with_at core.view n (lost_one (core.view n) l);
}

-- the leg stays: a write that it fails is broken, and a read ends
abbrev pub request_failed : Core → Event → Core
request_failed core (Out n k l) = write_ended core n k true
request_failed core (In n k) = end_read core n k
request_failed core e = core
