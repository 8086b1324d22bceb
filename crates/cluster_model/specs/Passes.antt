-- The lock `resync` and the passes under it: `resync`, `pass`, `done`.
use Rattle.std.specs.Prelude.{ℕ, ◌==◌, nat_lt, Bool, false, not, ◌&&◌, ◌||◌, List, [], ◌∷◌, Option}
use Rattle.std.specs.Prelude.{Some, None}
use Rattle.dlm_modes.specs.Points.{with_at}
use Rattle.dlm_modes.specs.declared.mode.Mode.TheVariants.{EX}
use Rattle.mdc_types.specs.Geometry.{chunks_of}
use Rattle.mdc_types.specs.Roles.{is_rebuilding}
use Rattle.mdc_types.specs.declared.numbers.Range.{Range}
use Rattle.mdc_types.specs.declared.refusals.Refusal.{Refusal}
use Rattle.mdc_types.specs.declared.refusals.Refusal.TheVariants.{NotRead, Window}
use Rattle.dlm_space.specs.Locks.{asked, let_go}
use Rattle.msg_rounds.specs.Phases.{has_published}
use Rattle.msg_rounds.specs.Refusals.{is_offered, is_sender_idle}
use Rattle.resync_worker.specs.Copying.{begun, copied}
use Rattle.cluster_model.specs.State.{Core, Asked, sizes}
use Rattle.cluster_model.specs.Guards.{refused_by, of_live, no_leg, unacked}
use Rattle.cluster_model.specs.Phases.{is_unclean, offers, needs_up, sender_is, copy_is}
use Rattle.cluster_model.specs.Phases.{recovery_is, addition_is, is_none as is_none_word, is_held}
use Rattle.cluster_model.specs.Phases.{has_lock}
use Rattle.cluster_model.specs.Changes.{resync_res, with_copy, no_copy}
use Rattle.cluster_model.specs.Gathering.{is_again_of, leg_to_gather}

-- `resync n`: EX on `resync` is asked

-- the node hasn't offered to leave
abbrev pub not_offering_to_leave : Core → ℕ → Option Refusal
not_offering_to_leave core n = sender_is core n
    (not ((is_offered (core.sender n) || has_published (core.sender n))
    && offers is_unclean (core.offer n)))

abbrev pub resync_guards : Core → ℕ → List (Option Refusal)
resync_guards core n = of_live core n
    (needs_up core n ∷ not_offering_to_leave core n ∷ copy_is core n is_none_word ∷ [])

abbrev pub ask_resync : Core → ℕ → Core
ask_resync core n = record (with_copy core n (record (core.copy n) { turn = Asked })) {
  locks = with_at core.locks resync_res (asked (core.locks resync_res) n EX);
}

-- `pass n own`, `pass n full`, `pass n again l`: what is to be copied, and the legs that it covers

abbrev pub pass_guards : Core → ℕ → List (Option Refusal)
pass_guards core n =
    of_live core n (needs_up core n ∷ copy_is core n is_held ∷ unacked core n ∷ [])

abbrev pub begin_pass : Core → ℕ → (ℕ → Bool) → (ℕ → Bool) → Core
begin_pass core n todo legs =
    with_copy core n (record (core.copy n) { pass = Some (begun todo legs) })

-- the chunks that it needs
abbrev pub pass_own : Core → ℕ → Core
pass_own core n = begin_pass core n (core.bitmap n).need (λ l. false)

-- all chunks, for the rebuilding legs
abbrev pub pass_full : Core → ℕ → Core
pass_full core n =
    begin_pass core n (λ c. nat_lt c (chunks_of (sizes core)))
    (λ l. is_rebuilding ((core.view n).role l))

abbrev pub pass_again_guards : Core → ℕ → ℕ → List (Option Refusal)
pass_again_guards core n l = of_live core n (
    no_leg core l
    ∷ needs_up core n
    ∷ copy_is core n is_held
    ∷ addition_is core n (is_again_of (core.adding n).addition l)
    ∷ unacked core n
    ∷ refused_by NotRead (leg_to_gather core n)
    ∷ [])

-- the gathered chunks, for that leg
abbrev pub pass_again : Core → ℕ → ℕ → Core
pass_again core n l = begin_pass core n (core.adding n).gathering.gathered (λ k. k == l)

-- `done n`: the pass ends, and `resync` is released

abbrev pub open_window : Option Range → Option Refusal
open_window None = None
open_window (Some r) = Some (Window r.lo)

abbrev pub done_guards : Core → ℕ → List (Option Refusal)
done_guards core n = of_live core n (
    needs_up core n
    ∷ sender_is core n (is_sender_idle (core.sender n))
    ∷ copy_is core n has_lock
    ∷ recovery_is core n is_none_word
    ∷ open_window (core.copy n).window
    ∷ [])

abbrev pub end_pass : Core → ℕ → Core
end_pass core n = record (with_copy core n no_copy) {
  locks = with_at core.locks resync_res (let_go (core.locks resync_res) n);
}
