-- How a node goes: `leave`, `die`.
use Rattle.std.specs.Prelude.{ℕ, ◌==◌, ◌||◌, List, [], ◌∷◌, Option, None, true, if◌then◌else◌}
use Rattle.dlm_modes.specs.Points.{with_at}
use Rattle.mdc_types.specs.declared.refusals.Refusal.{Refusal}
use Rattle.mdc_types.specs.declared.refusals.Refusal.TheVariants.{Unclean, PageOld}
use Rattle.dlm_space.specs.Locks.{all_let_go, all_died}
use Rattle.msg_rounds.specs.Phases.{Receiving, is_idle, has_published, heard_death, new_receiving}
use Rattle.msg_rounds.specs.Refusals.{is_sender_idle}
use Rattle.node_member.specs.Members.{left, died}
use Rattle.leg_failure.specs.Views.{is_target}
use Rattle.node_bitmaps.specs.Bitmap.{first_set, old_target}
use Rattle.cluster_model.specs.State.{Core, sizes}
use Rattle.cluster_model.specs.Guards.{refused_by, of_live, draining, reading}
use Rattle.cluster_model.specs.Phases.{is_none, needs_up, sender_is, receiver_is, copy_is}
use Rattle.cluster_model.specs.Changes.{sender_idle, node_out}

-- `leave n`: with a clean slot

abbrev pub leave_guards : Core → ℕ → List (Option Refusal)
leave_guards core n = of_live core n (
    needs_up core n
    ∷ sender_is core n (is_sender_idle (core.sender n))
    ∷ receiver_is core n (is_idle (core.receiver n).phase)
    ∷ copy_is core n is_none
    ∷ draining core n
    ∷ reading core n
    ∷ refused_by Unclean (first_set (sizes core) (core.bitmap n))
    ∷ refused_by PageOld (old_target (sizes core) (core.bitmap n) (is_target (core.view n)))
    ∷ [])

-- all locks are released, so blocks stay valid
abbrev pub leave : Core → ℕ → Core
leave core n = record (node_out core n) {
  members = left core.members n true;
  locks = all_let_go core.locks n;
}

-- `die n`

abbrev pub die_guards : Core → ℕ → List (Option Refusal)
die_guards core n = of_live core n []

-- a receiver learns of the death of its message's sender where that had published it, and not
-- finished
abbrev pub told_of_death : Core → ℕ → Receiving → Receiving
told_of_death core n r = if has_published (core.sender n) then heard_death n r else r

-- one step: its locks and requests go, and what it has in flight ends (a started write stays open);
-- others drop its range; its slot is pending
abbrev pub die : Core → ℕ → Core
die core n = record (node_out (sender_idle core n) n) {
  members = died core.members n;
  locks = all_died core.locks n;
  receiver = λ m. if m == n then new_receiving else told_of_death core n (core.receiver m);
  writes = with_at core.writes n [];
  reads = with_at core.reads n [];
  suspended = λ m owner. if (m == n) || (owner == n) then None else core.suspended m owner;
}
