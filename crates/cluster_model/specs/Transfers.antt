-- Which sector an event transfers, between which node and leg. Each event has at most one
-- transfer.
use Rattle.std.specs.Prelude.{ℕ, Bool, false, not, Option, Some, None, option_map}
use Rattle.mdc_types.specs.Geometry.{page_sector}
use Rattle.mdc_types.specs.declared.numbers.Sector.{Sector}
use Rattle.mdc_types.specs.declared.events.Event.{Event}
use Rattle.mdc_types.specs.declared.events.Event.TheVariants.{Load, WriteSuper, WritePage, Out, In}
use Rattle.mdc_types.specs.declared.events.Event.TheVariants.{Gather, CopyIn, CopyOut, SlotIn}
use Rattle.mdc_types.specs.declared.events.Event.TheVariants.{SlotOut}
use Rattle.leg_failure.specs.Views.{working_leg}
use Rattle.mirror_io.specs.Flight.{write_in, read_in}
use Rattle.mirror_io.specs.declared.live.LiveWrite.{LiveWrite}
use Rattle.mirror_io.specs.declared.live.LiveRead.{LiveRead}
use Rattle.node_recovery.specs.Progress.{Recovering}
use Rattle.resync_worker.specs.declared.buffer.Buffer.{Buffer}
use Rattle.cluster_model.specs.State.{Core, Offer, sizes, place_of}
use Rattle.cluster_model.specs.Superblocks.{super_sector}
use Rattle.cluster_model.specs.Bits.{page_sector_of}
use Rattle.cluster_model.specs.Reads.{read_leg}
use Rattle.cluster_model.specs.Copying.{next_sector, buffer_of}
use Rattle.cluster_model.specs.Gathering.{due_page}

pub record Transfer : Type 0 where
  pub node : ℕ
  pub leg : ℕ
  -- the sector of the leg
  pub place : ℕ
  -- what is written there, or None where the sector is read
  pub value : Option Sector

abbrev pub writes_to : ℕ → ℕ → ℕ → Sector → Transfer
writes_to n l place v = record { node = n; leg = l; place = place; value = Some v }

abbrev pub reads_from : ℕ → ℕ → ℕ → Transfer
reads_from n l place = record { node = n; leg = l; place = place; value = None }

-- a read from the leg that was found
abbrev pub reads_at : ℕ → ℕ → Option ℕ → Option Transfer
reads_at n place leg = option_map (λ l. reads_from n l place) leg

-- `sb`
abbrev pub super_transfer : Core → ℕ → ℕ → Option Offer → Option Transfer
super_transfer core n l offer = option_map (λ o. writes_to n l 8 (super_sector core l o)) offer

-- `out`
abbrev pub out_transfer : Core → ℕ → ℕ → Option LiveWrite → Option Transfer
out_transfer core n l write =
    option_map (λ (w : LiveWrite). writes_to n l (place_of core w.sector) w.value) write

-- `in`
abbrev pub in_transfer : Core → ℕ → Option LiveRead → Option Transfer
in_transfer core n None = None
in_transfer core n (Some r) = reads_at n (place_of core r.sector) (read_leg core n r)

-- `gather`
abbrev pub gather_transfer : Core → ℕ → Option (ℕ × ℕ) → Option Transfer
gather_transfer core n None = None
gather_transfer core n (Some due) =
    reads_at n (page_sector (sizes core) due.0 due.1) (working_leg (core.view n))

-- `ci`
abbrev pub copy_in_transfer : Core → ℕ → Option ℕ → Option Transfer
copy_in_transfer core n None = None
copy_in_transfer core n (Some s) = reads_at n (place_of core s) (working_leg (core.view n))

-- `co`
abbrev pub copy_out_transfer : Core → ℕ → ℕ → Option Buffer → Option Transfer
copy_out_transfer core n l buffer =
    option_map (λ (b : Buffer). writes_to n l (place_of core b.sector) b.value) buffer

-- `slotin`
abbrev pub slot_in_transfer : Core → ℕ → ℕ → ℕ → Option Recovering → Option Transfer
slot_in_transfer core n p l recovery =
    option_map (λ (r : Recovering). reads_from n l (page_sector (sizes core) r.slot p)) recovery

-- `slotout`: the page without a bit
abbrev pub slot_out_transfer : Core → ℕ → ℕ → ℕ → Option Recovering → Option Transfer
slot_out_transfer core n p l recovery = option_map
    (λ (r : Recovering).
    writes_to n l (page_sector (sizes core) r.slot p) (page_sector_of core p (λ c. false)))
    recovery

abbrev pub transfer_of : Core → Event → Option Transfer
transfer_of core (Load n l) = Some (reads_from n l 8)
transfer_of core (WriteSuper n l) = super_transfer core n l (core.offer n)
transfer_of core (WritePage n p l) =
    Some (writes_to n l (page_sector (sizes core) n p) (page_sector_of core p (core.bitmap n).set))
transfer_of core (Out n k l) = out_transfer core n l (write_in k (core.writes n))
transfer_of core (In n k) = in_transfer core n (read_in k (core.reads n))
transfer_of core (Gather n) = gather_transfer core n (due_page core n)
transfer_of core (CopyIn n) = copy_in_transfer core n (next_sector core n)
transfer_of core (CopyOut n l) = copy_out_transfer core n l (buffer_of core n)
transfer_of core (SlotIn n p l) = slot_in_transfer core n p l (core.recovery n)
transfer_of core (SlotOut n p l) = slot_out_transfer core n p l (core.recovery n)
transfer_of core e = None

-- the node's path to the leg is open
abbrev pub is_open_path : Core → Transfer → Bool
is_open_path core t = not (core.cut t.node t.leg)
