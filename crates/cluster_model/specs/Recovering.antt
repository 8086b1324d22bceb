-- Recovery of a dead node's slot: `rec`, `slotin`, `slotout`, `recovered`.
use Rattle.std.specs.Prelude.{ℕ, not, List, [], ◌∷◌, Option, Some, None, Bool}
use Rattle.dlm_modes.specs.Guards.{unless}
use Rattle.dlm_modes.specs.Points.{with_at}
use Rattle.dlm_modes.specs.declared.mode.Mode.TheVariants.{PW}
use Rattle.mdc_types.specs.declared.numbers.Sector.{Sector}
use Rattle.mdc_types.specs.declared.refusals.Refusal.{Refusal}
use Rattle.mdc_types.specs.declared.refusals.Refusal.TheVariants.{NotPending, HeirPending}
use Rattle.mdc_types.specs.declared.refusals.Refusal.TheVariants.{NotWorking, NotRead, NotWritten}
use Rattle.mdc_types.specs.declared.refusals.Refusal.TheVariants.{BitMissing, Needed}
use Rattle.dlm_space.specs.Locks.{holding, let_go}
use Rattle.node_member.specs.Members.{Members, begun, ended}
use Rattle.leg_failure.specs.Views.{works, is_target}
use Rattle.node_bitmaps.specs.Bitmap.{found_page, unmarked_target_of}
use Rattle.node_recovery.specs.Progress.{Recovering, begun as new_recovery, with_read}
use Rattle.node_recovery.specs.Progress.{with_cleared, with_found, unread_leg, uncleared_leg}
use Rattle.node_recovery.specs.Progress.{first_found_needed}
use Rattle.slot_pages.specs.Slot.{page_has}
use Rattle.cluster_model.specs.State.{Core, sizes}
use Rattle.cluster_model.specs.Guards.{refused_by, of_live, no_node, no_leg, no_page, not_target}
use Rattle.cluster_model.specs.Guards.{unacked}
use Rattle.cluster_model.specs.Phases.{needs_up, copy_is, recovery_is, is_none, is_held, is_open}
use Rattle.cluster_model.specs.Bits.{page_written}

-- `rec n d`: the bitmap lock of the slot is taken

-- the slot's heir, where its own slot is pending
abbrev pub pending_heir : Members → Option ℕ → Option Refusal
pending_heir m None = None
pending_heir m (Some h) = unless (not (m.pending h)) (HeirPending h)

abbrev pub rec_guards : Core → ℕ → ℕ → List (Option Refusal)
rec_guards core n d = of_live core n (
    needs_up core n
    ∷ copy_is core n is_held
    ∷ recovery_is core n is_none
    ∷ no_node core d
    ∷ unless (core.members.pending d) (NotPending d)
    ∷ pending_heir core.members (core.members.heir d)
    ∷ [])

abbrev pub recover : Core → ℕ → ℕ → Core
recover core n d = record core {
  members = begun core.members n d;
  recovery = with_at core.recovery n (Some (new_recovery d));
  locks = with_at core.locks d (holding (core.locks d) n PW);
}

-- `slotin n p l`: a page of the slot is read from a working leg

abbrev pub slotin_guards : Core → ℕ → ℕ → ℕ → List (Option Refusal)
slotin_guards core n p l = of_live core n (
    no_leg core l
    ∷ needs_up core n
    ∷ recovery_is core n is_open
    ∷ no_page core p
    ∷ unless (works (core.view n) l) (NotWorking l)
    ∷ [])

-- its chunks join the node's set, what it needs, and what the recovery found
abbrev pub page_found : Core → ℕ → Option Recovering → ℕ → ℕ → Sector → Core
page_found core n None p l v = core
page_found core n (Some r) p l v = record core {
  bitmap =
      let has : ℕ → Bool = page_has (sizes core) p v.bytes in
      with_at core.bitmap n (found_page (sizes core) (core.bitmap n) p has);
  recovery =
      let has : ℕ → Bool = page_has (sizes core) p v.bytes in
      with_at core.recovery n (Some (with_found (with_read r p l) has));
}

abbrev pub slot_read : Core → ℕ → ℕ → ℕ → Sector → Core
slot_read core n p l v = page_found core n (core.recovery n) p l v

-- `slotout n p l`: a page of the slot is written clean

-- the least working leg with a page that wasn't read
abbrev pub leg_unread : Core → ℕ → Option Recovering → Option ℕ
leg_unread core n None = None
leg_unread core n (Some r) = unread_leg (sizes core) r (works (core.view n))

-- the least target where a chunk that was found and is in the set has no mark
abbrev pub leg_unmarked : Core → ℕ → Option Recovering → Option ℕ
leg_unmarked core n None = None
leg_unmarked core n (Some r) =
    unmarked_target_of (sizes core) (core.bitmap n) (is_target (core.view n)) r.found

abbrev pub slotout_guards : Core → ℕ → ℕ → ℕ → List (Option Refusal)
slotout_guards core n p l = of_live core n (
    no_leg core l
    ∷ needs_up core n
    ∷ recovery_is core n is_open
    ∷ no_page core p
    ∷ not_target core n l
    ∷ unacked core n
    ∷ refused_by NotRead (leg_unread core n (core.recovery n))
    ∷ refused_by BitMissing (leg_unmarked core n (core.recovery n))
    ∷ [])

abbrev pub page_cleared : Core → ℕ → Option Recovering → ℕ → ℕ → Core
page_cleared core n None p l = core
page_cleared core n (Some r) p l = record (page_written core r.slot p l) {
  recovery = with_at core.recovery n (Some (with_cleared r p l));
}

abbrev pub slot_cleared : Core → ℕ → ℕ → ℕ → Core
slot_cleared core n p l = page_cleared core n (core.recovery n) p l

-- `recovered n`: all that was found is copied

-- the least target with a page that wasn't written clean
abbrev pub leg_uncleared : Core → ℕ → Option Recovering → Option ℕ
leg_uncleared core n None = None
leg_uncleared core n (Some r) = uncleared_leg (sizes core) r (is_target (core.view n))

-- the first chunk that was found and is still to be copied
abbrev pub chunk_needed : Core → ℕ → Option Recovering → Option ℕ
chunk_needed core n None = None
chunk_needed core n (Some r) = first_found_needed (sizes core) r (core.bitmap n).need

abbrev pub recovered_guards : Core → ℕ → List (Option Refusal)
recovered_guards core n = of_live core n (
    needs_up core n
    ∷ recovery_is core n is_open
    ∷ unacked core n
    ∷ refused_by NotRead (leg_unread core n (core.recovery n))
    ∷ refused_by NotWritten (leg_uncleared core n (core.recovery n))
    ∷ refused_by Needed (chunk_needed core n (core.recovery n))
    ∷ [])

-- the slot is pending no more
abbrev pub slot_recovered : Core → ℕ → Option Recovering → Core
slot_recovered core n None = core
slot_recovered core n (Some r) = record core {
  members = ended core.members r.slot;
  recovery = with_at core.recovery n None;
  locks = with_at core.locks r.slot (let_go (core.locks r.slot) n);
}

abbrev pub recovered : Core → ℕ → Core
recovered core n = slot_recovered core n (core.recovery n)
