-- Rows that touch none of the other locks: writes, reads, bitmaps, copying and failures.
use Rattle.std.proofs.Common.{◌≡◌, ℕ, Option, Some, None, refl, sym, ap, ◌∙◌}
use Rattle.mdc_types.specs.declared.events.Event.{Event}
use Rattle.mdc_types.specs.declared.events.Event.TheVariants as events
use Rattle.mdc_types.specs.declared.numbers.Sector.{Sector}
use Rattle.mdc_types.specs.declared.outcomes.Outcome.{Outcome}
use Rattle.mdc_types.specs.declared.outcomes.Outcome.TheVariants as outcomes
use Rattle.mirror_io.specs.Flight.{write_in, read_in}
use Rattle.msg_rounds.specs.declared.phases.SenderPhase.{SenderPhase}
use Rattle.msg_rounds.specs.declared.phases.SenderPhase.TheVariants as senders
use Rattle.node_recovery.specs.Progress.{Recovering}
use Rattle.leg_failure.specs.Views.{NodeView}
use Rattle.resync_worker.specs.declared.buffer.Buffer.{Buffer}
use Rattle.cluster_model.specs.State.{Core, Copy}
use Rattle.cluster_model.specs.Changes.{headed, with_view, with_copy, covering, voided}
use Rattle.cluster_model.specs.Writes.{out_done, write_sector}
use Rattle.cluster_model.specs.Reads.{in_done, end_read, read_sector}
use Rattle.cluster_model.specs.Gathering.{due_page, page_gathered}
use Rattle.cluster_model.specs.Copying.{next_sector, filled_with, buffer_of, buffer_sector, copied_out, settle_buffer}
use Rattle.cluster_model.specs.Recovering.{page_found, page_cleared}
use Rattle.cluster_model.specs.Failures.{tried, slot_failed, request_failed, leg_lost}
use Rattle.cluster_model.specs.Transfers.{Transfer}
use Rattle.cluster_model.specs.After.{with_super, done, after_loss, after_miss}
use Rattle.laws_locks.specs.Others.{recovers, OtherLocks}
use Rattle.laws_locks.proofs.Unmoved.{Still, still, unmoved, turn_same, recovers_same, sender_same, offer_same}

pub as_it_was : (core : Core) → Still core core
as_it_was core = record { locks = refl; turn = λ n. refl; recovers = λ n k. refl; members = refl; state = refl; sender = refl; offer = refl }

pub copy_still : (core : Core) (n : ℕ) (c : Copy) → c.turn ≡ (core.copy n).turn → Still (with_copy core n c) core
copy_still core n c e = record { locks = refl; turn = turn_same core.copy n c e; recovers = λ n k. refl; members = refl; state = refl; sender = refl; offer = refl }

pub view_still : (core : Core) (n : ℕ) (v : NodeView) → Still (with_view core n v) core
view_still core n v = record { locks = refl; turn = turn_same core.copy n (covering (core.copy n) v) refl; recovers = λ n k. refl; members = refl; state = refl; sender = refl; offer = refl }

pub super_still : (core : Core) (n l : ℕ) (o : Outcome) → Still (with_super core n l o) core
super_still core n l (outcomes.Super e v) = record { locks = refl; turn = λ n. refl; recovers = λ n k. refl; members = refl; state = refl; sender = refl; offer = refl }
super_still core n l o = record { locks = refl; turn = λ n. refl; recovers = λ n k. refl; members = refl; state = refl; sender = refl; offer = refl }

headed_still : (core : Core) (n l : ℕ) (s : Option ℕ) → Still (headed core n l s) core
headed_still core n l None = as_it_was core
headed_still core n l (Some s) = record { locks = refl; turn = λ n. refl; recovers = λ n k. refl; members = refl; state = refl; sender = refl; offer = refl }

pub out_still : (core : Core) (n k l : ℕ) → Still (out_done core n k l) core
out_still core n k l =
    let q = headed_still core n l (write_sector (write_in k (core.writes n))) in
    record { locks = q.locks; turn = q.turn; recovers = q.recovers; members = q.members; state = q.state; sender = q.sender; offer = q.offer }

in_still : (core : Core) (n k l : ℕ) → Still (in_done core n k l) core
in_still core n k l =
    let q = headed_still (end_read core n k) n l (read_sector (read_in k (core.reads n))) in
    record { locks = q.locks; turn = q.turn; recovers = q.recovers; members = q.members; state = q.state; sender = q.sender; offer = q.offer }

pub copied_still : (core : Core) (n l : ℕ) → Still (copied_out core n l) core
copied_still core n l =
    let q = headed_still core n l (buffer_sector (buffer_of core n)) in
    record { locks = q.locks; turn = λ m. turn_same (headed core n l (buffer_sector (buffer_of core n))).copy n _ refl m ∙ q.turn m; recovers = q.recovers; members = q.members; state = q.state; sender = q.sender; offer = q.offer }

gathered_still : (core : Core) (n : ℕ) (due : Option (ℕ × ℕ)) (v : Sector) → Still (page_gathered core n due v) core
gathered_still core n None v = as_it_was core
gathered_still core n (Some due) v = record { locks = refl; turn = λ n. refl; recovers = λ n k. refl; members = refl; state = refl; sender = refl; offer = refl }

filled_still : (core : Core) (n l : ℕ) (s : Option ℕ) (v : Sector) → Still (filled_with core n s l v) core
filled_still core n l None v = as_it_was core
filled_still core n l (Some s) v = record { locks = refl; turn = turn_same core.copy n _ refl; recovers = λ n k. refl; members = refl; state = refl; sender = refl; offer = refl }

pub settled_still : (core : Core) (n : ℕ) (b : Option Buffer) → Still (settle_buffer core n b) core
settled_still core n None = as_it_was core
settled_still core n (Some b) = record { locks = refl; turn = turn_same core.copy n _ refl; recovers = λ n k. refl; members = refl; state = refl; sender = refl; offer = refl }

found_still : (core : Core) (n : ℕ) (r : Option Recovering) (p l : ℕ) (v : Sector) → core.recovery n ≡ r → Still (page_found core n r p l v) core
found_still core n None p l v is = as_it_was core
found_still core n (Some r) p l v is = record { locks = refl; turn = λ n. refl; recovers = recovers_same core.recovery n _ (λ k. ap (λ x. recovers x k) (sym is)); members = refl; state = refl; sender = refl; offer = refl }

pub cleared_still : (core : Core) (n : ℕ) (r : Option Recovering) (p l : ℕ) → core.recovery n ≡ r → Still (page_cleared core n r p l) core
cleared_still core n None p l is = as_it_was core
cleared_still core n (Some r) p l is = record { locks = refl; turn = λ n. refl; recovers = recovers_same core.recovery n _ (λ k. ap (λ x. recovers x k) (sym is)); members = refl; state = refl; sender = refl; offer = refl }

-- The rows of those.

pub read_still : (core : Core) (n k : ℕ) (o : Outcome) → Still (done core (events.In n k) o) core
read_still core n k (outcomes.Value l v) = in_still core n k l
read_still core n k o = as_it_was core

pub gather_still : (core : Core) (n : ℕ) (o : Outcome) → Still (done core (events.Gather n) o) core
gather_still core n (outcomes.Page v) = gathered_still core n (due_page core n) v
gather_still core n o = as_it_was core

pub copy_in_still : (core : Core) (n : ℕ) (o : Outcome) → Still (done core (events.CopyIn n) o) core
copy_in_still core n (outcomes.Value l v) = filled_still core n l (next_sector core n) v
copy_in_still core n o = as_it_was core

pub slot_in_still : (core : Core) (n p l : ℕ) (o : Outcome) → Still (done core (events.SlotIn n p l) o) core
slot_in_still core n p l (outcomes.Page v) = found_still core n (core.recovery n) p l v refl
slot_in_still core n p l o = as_it_was core

-- Failures.

pub tried_still : (core : Core) (e : Event) → Still (tried core e) core
tried_still core (events.Out n k l) = record { locks = refl; turn = λ n. refl; recovers = λ n k. refl; members = refl; state = refl; sender = refl; offer = refl }
tried_still core (events.WritePage n p l) = record { locks = refl; turn = λ n. refl; recovers = λ n k. refl; members = refl; state = refl; sender = refl; offer = refl }
tried_still core (events.SlotOut n p l) = by_recovery (core.recovery n)
  where
    by_recovery : (r : Option Recovering) → Still (slot_failed core p l r) core
    by_recovery None = as_it_was core
    by_recovery (Some r) = record { locks = refl; turn = λ n. refl; recovers = λ n k. refl; members = refl; state = refl; sender = refl; offer = refl }
tried_still core e = as_it_was core

pub failed_still : (core : Core) (e : Event) → Still (request_failed core e) core
failed_still core (events.Out n k l) = record { locks = refl; turn = λ n. refl; recovers = λ n k. refl; members = refl; state = refl; sender = refl; offer = refl }
failed_still core (events.In n k) = record { locks = refl; turn = λ n. refl; recovers = λ n k. refl; members = refl; state = refl; sender = refl; offer = refl }
failed_still core e = as_it_was core

-- an offer that is void
pub void_keeps : (core : Core) (n : ℕ) (s : SenderPhase) → OtherLocks core → OtherLocks (voided core n s)
void_keeps core n senders.Offered o = unmoved (voided core n senders.Offered) core (record {
  locks = λ r e. refl;
  turn = λ m. refl;
  recovers = λ m k. refl;
  live = refl;
  pending = refl;
  state = refl;
  sender = λ m held may. sender_same core.sender n senders.MessageHeld m (λ e. refl) may;
  offer = offer_same core.offer n None core.copy o.resync.unclean (λ e. cc);
}) o
void_keeps core n s o = o

pub miss_keeps : (core : Core) (t : Option Transfer) → OtherLocks core → OtherLocks (after_miss core t)
miss_keeps core None o = o
miss_keeps core (Some t) o = void_keeps core t.node (core.sender t.node) o

pub loss_keeps : (core : Core) (t : Option Transfer) → OtherLocks core → OtherLocks (after_loss core t)
loss_keeps core None o = o
loss_keeps core (Some t) o = still (leg_lost core t.node t.leg) (voided core t.node (core.sender t.node)) (record { locks = refl; turn = λ n. refl; recovers = λ n k. refl; members = refl; state = refl; sender = refl; offer = refl }) (void_keeps core t.node (core.sender t.node) o)
