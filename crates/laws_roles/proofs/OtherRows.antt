-- The way of each accepted event that writes no superblock.
use Rattle.std.proofs.Common.{◌≡◌, ℕ, Bool, true, false, Option, Some, None, refl, sym, ap, subst, ◌∙◌}
use Rattle.dlm_modes.specs.Points.{with_at}
use Rattle.mdc_types.specs.declared.numbers.Sector.{Sector}
use Rattle.mdc_types.specs.declared.events.Event.{Event}
use Rattle.mdc_types.specs.declared.events.Event.TheVariants as events
use Rattle.mdc_types.specs.declared.outcomes.Outcome.{Outcome}
use Rattle.mdc_types.specs.declared.outcomes.Outcome.TheVariants as outcomes
use Rattle.md_superblock.specs.Arrays.{Says, says_in}
use Rattle.mirror_io.specs.Flight.{write_in, read_in, done_in, start_in}
use Rattle.msg_rounds.specs.Phases.{has_published}
use Rattle.msg_rounds.specs.declared.phases.SenderPhase.{SenderPhase}
use Rattle.msg_rounds.specs.declared.phases.SenderPhase.TheVariants as senders
use Rattle.leg_failure.specs.Views.{lost_one}
use Rattle.node_recovery.specs.Progress.{Recovering}
use Rattle.resync_worker.specs.Copying.{copied}
use Rattle.resync_worker.specs.declared.buffer.Buffer.{Buffer}
use Rattle.cluster_model.specs.State.{Core, Asked, sizes}
use Rattle.msg_rounds.specs.Refusals.{is_offered}
use Rattle.cluster_model.specs.Changes.{no_copy, headed, voided}
use Rattle.cluster_model.specs.Granting.{asker}
use Rattle.cluster_model.specs.After.{with_value, with_page, done, after, after_loss, after_miss}
use Rattle.cluster_model.specs.Failures.{tried, slot_failed, leg_lost, request_failed}
use Rattle.cluster_model.specs.Writes.{write_sector}
use Rattle.cluster_model.specs.Reads.{in_done, end_read, read_sector}
use Rattle.cluster_model.specs.Gathering.{gather, page_gathered, due_page}
use Rattle.cluster_model.specs.Copying.{copied_in, filled_with, next_sector, with_pass, buffer_sector, buffer_of, settle_buffer}
use Rattle.cluster_model.specs.Recovering.{slot_read, page_found, page_cleared, slot_recovered}
use Rattle.cluster_model.specs.Table.{refusal}
use Rattle.cluster_model.specs.Transfers.{Transfer, transfer_of}
use Rattle.laws_roles.proofs.Parts.{Ghost, part_of, ghost_after}
use Rattle.laws_roles.proofs.Ways.{copies, gathers, Ways, none, one, more, voids, loses}
use Rattle.laws_roles.proofs.Known.{Known}
use Rattle.laws_roles.proofs.Rows.{grant_way, token_way, message_asked_way, join_way, load_way, up_way, leave_way, die_way, quit_by}
use Rattle.laws_roles.proofs.OfferRows.{offer_way}
use Rattle.laws_roles.proofs.RoundRows.{publish_way, take_way, process_way, resume_way, drop_way}
use Rattle.laws_roles.proofs.FinishRows.{finish_way}
use Rattle.laws_roles.proofs.PassRows.{fill_covers, copy_covers, settle_covers, full_way, again_way, voided_not}

abbrev pub is_super : Event → Bool
is_super (events.WriteSuper n l) = true
is_super e = false

abbrev pub is_failed : Outcome → Bool
is_failed (outcomes.Lost l) = true
is_failed (outcomes.Io l) = true
is_failed (outcomes.Unreached l) = true
is_failed o = false

-- what a load reads is the superblock that stands on its leg
abbrev pub LoadsIt : Core → (ℕ → Option Says) → Event → Outcome → Type 0
LoadsIt core sup (events.Load n l) o = (number : ℕ) (v : Sector) → o ≡ outcomes.Super number v → sup l ≡ says_in core.array l v.bytes
LoadsIt core sup e o = Unit {0}

module _ (sup : ℕ → Option Says) (g : Ghost) where
  -- Of these the part knows nothing.

  out_still : (core : Core) (n k l : ℕ) (x : Option ℕ) → Ways (part_of core sup g) (part_of (record (headed core n l x) { writes = with_at core.writes n (done_in k l (start_in k (core.writes n))) }) sup g)
  out_still core n k l None = none
  out_still core n k l (Some s) = none

  read_still : (core : Core) (n k l : ℕ) (x : Option ℕ) → Ways (part_of core sup g) (part_of (headed (end_read core n k) n l x) sup g)
  read_still core n k l None = none
  read_still core n k l (Some s) = none

  in_still : (core : Core) (n k : ℕ) (o : Outcome) → Ways (part_of core sup g) (part_of (with_value core (λ l v. in_done core n k l) o) sup g)
  in_still core n k (outcomes.Value l v) = read_still core n k l (read_sector (read_in k (core.reads n)))
  in_still core n k o = none

  page_still : (core : Core) (n : ℕ) (x : Option (ℕ × ℕ)) (v : Sector) → Ways (part_of core sup g) (part_of (page_gathered core n x v) sup g)
  page_still core n None v = none
  page_still core n (Some due) v = one (gathers n _ refl)

  gather_still : (core : Core) (n : ℕ) (o : Outcome) → Ways (part_of core sup g) (part_of (with_page core (gather core n) o) sup g)
  gather_still core n (outcomes.Page v) = page_still core n (due_page core n) v
  gather_still core n o = none

  fill_still : (core : Core) (n : ℕ) (x : Option ℕ) (l : ℕ) (v : Sector) → Ways (part_of core sup g) (part_of (filled_with core n x l v) sup g)
  fill_still core n None l v = none
  fill_still core n (Some s) l v = one (copies n _ (λ j e. fill_covers (core.copy n).pass s v l j e))

  copy_in_still : (core : Core) (n : ℕ) (o : Outcome) → Ways (part_of core sup g) (part_of (with_value core (copied_in core n) o) sup g)
  copy_in_still core n (outcomes.Value l v) = fill_still core n (next_sector core n) l v
  copy_in_still core n o = none

  copy_still : (core : Core) (n l : ℕ) (x : Option ℕ) → Ways (part_of core sup g) (part_of (with_pass (headed core n l x) n (λ p. copied p l)) sup g)
  copy_still core n l None = one (copies n _ (λ j e. copy_covers (core.copy n).pass l j e))
  copy_still core n l (Some s) = one (copies n _ (λ j e. copy_covers (core.copy n).pass l j e))

  settle_still : (core : Core) (n : ℕ) (x : Option Buffer) → Ways (part_of core sup g) (part_of (settle_buffer core n x) sup g)
  settle_still core n None = none
  settle_still core n (Some b) = one (copies n _ (λ j e. settle_covers (sizes core) (core.copy n).pass b j e))

  found_still : (core : Core) (n : ℕ) (x : Option Recovering) (p l : ℕ) (v : Sector) → Ways (part_of core sup g) (part_of (page_found core n x p l v) sup g)
  found_still core n None p l v = none
  found_still core n (Some r) p l v = none

  slot_in_still : (core : Core) (n p l : ℕ) (o : Outcome) → Ways (part_of core sup g) (part_of (with_page core (slot_read core n p l) o) sup g)
  slot_in_still core n p l (outcomes.Page v) = found_still core n (core.recovery n) p l v
  slot_in_still core n p l o = none

  slot_out_still : (core : Core) (n : ℕ) (x : Option Recovering) (p l : ℕ) → Ways (part_of core sup g) (part_of (page_cleared core n x p l) sup g)
  slot_out_still core n None p l = none
  slot_out_still core n (Some r) p l = none

  recovered_still : (core : Core) (n : ℕ) (x : Option Recovering) → Ways (part_of core sup g) (part_of (slot_recovered core n x) sup g)
  recovered_still core n None = none
  recovered_still core n (Some r) = none

  -- Where no transfer failed.

  done_way : (core : Core) (e : Event) (o : Outcome) → Known core → is_super e ≡ false → LoadsIt core sup e o → refusal core e ≡ None → Ways (part_of core sup g) (part_of (done core e o) sup (ghost_after core e g))
  done_way core (events.Cut n l) o k s i ok = none
  done_way core (events.Mend n l) o k s i ok = none
  done_way core (events.Die n) o k s i ok = die_way core k sup g n
  done_way core (events.Grant res) o k s i ok = grant_way core k sup g res (asker core res) refl
  done_way core (events.Join n) o k s i ok = join_way core k sup g n ok
  done_way core (events.Load n l) o k s i ok = load_way core k sup g n l o ok i
  done_way core (events.Up n) o k s i ok = up_way core k sup g n ok
  done_way core (events.Leave n) o k s i ok = leave_way core k sup g n ok
  done_way core (events.AskToken n) o k s i ok = token_way core k sup g n ok
  done_way core (events.AskMessage n) o k s i ok = message_asked_way core k sup g n ok
  done_way core (events.Offer n wish) o k s i ok = offer_way core k sup g n wish ok
  done_way core (events.WriteSuper n l) o k s i ok = cc
  done_way core (events.Publish n) o k s i ok = publish_way core k sup g n ok
  done_way core (events.FinishRound n) o k s i ok = finish_way core k sup g n ok
  done_way core (events.Quit n) o k s i ok = quit_by core k sup g n ok
  done_way core (events.Take n) o k s i ok = take_way core k sup g n ok
  done_way core (events.Processed n) o k s i ok = process_way core k sup g n ok
  done_way core (events.Resume n) o k s i ok = resume_way core k sup g n ok
  done_way core (events.DropMessage n) o k s i ok = drop_way core k sup g n ok
  done_way core (events.AskWrite n x v) o k s i ok = none
  done_way core (events.WritePage n p l) o k s i ok = none
  done_way core (events.Out n j l) o k s i ok = out_still core n j l (write_sector (write_in j (core.writes n)))
  done_way core (events.EndWrite n j) o k s i ok = none
  done_way core (events.BreakWrite n j) o k s i ok = none
  done_way core (events.AskRead n x) o k s i ok = none
  done_way core (events.In n j) o k s i ok = in_still core n j o
  done_way core (events.Clear n c) o k s i ok = none
  done_way core (events.AskResync n) o k s i ok = one (copies n (record (core.copy n) { turn = Asked }) (λ l e. e))
  done_way core (events.Gather n) o k s i ok = gather_still core n o
  done_way core (events.PassOwn n) o k s i ok = one (copies n _ (λ l e. cc))
  done_way core (events.PassFull n) o k s i ok = full_way core k sup g n ok
  done_way core (events.PassAgain n l) o k s i ok = again_way core k sup g n l ok
  done_way core (events.CopyIn n) o k s i ok = copy_in_still core n o
  done_way core (events.CopyOut n l) o k s i ok = copy_still core n l (buffer_sector (buffer_of core n))
  done_way core (events.Settle n) o k s i ok = settle_still core n (buffer_of core n)
  done_way core (events.EndPass n) o k s i ok = one (copies n no_copy (λ l e. cc))
  done_way core (events.Recover n d) o k s i ok = none
  done_way core (events.SlotIn n p l) o k s i ok = slot_in_still core n p l o
  done_way core (events.SlotOut n p l) o k s i ok = slot_out_still core n (core.recovery n) p l
  done_way core (events.Recovered n) o k s i ok = recovered_still core n (core.recovery n)
  done_way core (events.LockDevice n) o k s i ok = none

  -- Where one failed.

  slot_same : (core : Core) (p l : ℕ) (x : Option Recovering) → part_of (slot_failed core p l x) sup g ≡ part_of core sup g
  slot_same core p l None = refl
  slot_same core p l (Some r) = refl

  tried_same : (core : Core) (e : Event) → part_of (tried core e) sup g ≡ part_of core sup g
  tried_same core (events.SlotOut n p l) = slot_same core p l (core.recovery n)
  tried_same core e = refl

  io_same : (core : Core) (e : Event) → part_of (request_failed core e) sup g ≡ part_of core sup g
  io_same core (events.Out n k l) = refl
  io_same core (events.In n k) = refl
  io_same core e = refl

  pub void_way : (core : Core) (n : ℕ) (s : SenderPhase) → core.sender n ≡ s → Ways (part_of core sup g) (part_of (voided core n s) sup g)
  void_way core n senders.Offered e = one (voids n (ap has_published e))
  void_way core n s e = none

  lose_by : (core : Core) (n l : ℕ) (s : SenderPhase) → core.sender n ≡ s → Ways (part_of core sup g) (part_of (record (voided core n s) { view = with_at core.view n (lost_one (core.view n) l) }) sup g)
  lose_by core n l senders.Offered e = more (one (voids n (ap has_published e))) (loses n l (voided_not core n))
  lose_by core n l s e = one (loses n l (ap is_offered e))

  pub lose_way : (core : Core) (n l : ℕ) → Ways (part_of core sup g) (part_of (leg_lost core n l) sup g)
  lose_way core n l = lose_by core n l (core.sender n) refl

  -- an event with a transfer neither offers nor finishes
  ghost_same : (core : Core) (e : Event) (t : Transfer) → transfer_of core e ≡ Some t → g ≡ ghost_after core e g
  ghost_same core (events.FinishRound n) t is = cc
  ghost_same core (events.Offer n wish) t is = cc
  ghost_same core (events.Up n) t is = cc
  ghost_same core e t is = refl

  fail_by : (core : Core) (e : Event) (t : Transfer) (o : Outcome) → transfer_of core e ≡ Some t → is_failed o ≡ true → Ways (part_of core sup g) (part_of (after core e o) sup g)
  fail_by core e t (outcomes.Lost l) is f =
      subst (λ x. Ways (part_of core sup g) (part_of (after_loss (tried core e) x) sup g)) (sym is)
      (subst (λ p. Ways p (part_of (leg_lost (tried core e) t.node t.leg) sup g)) (tried_same core e) (lose_way (tried core e) t.node t.leg))
  fail_by core e t (outcomes.Io l) is f = subst (λ p. Ways (part_of core sup g) p) (sym (io_same (tried core e) e ∙ tried_same core e)) none
  fail_by core e t (outcomes.Unreached l) is f = subst (λ x. Ways (part_of core sup g) (part_of (after_miss core x) sup g)) (sym is) (void_way core t.node (core.sender t.node) refl)
  fail_by core e t o is f = cc

  pub fail_way : (core : Core) (e : Event) (t : Transfer) (o : Outcome) → transfer_of core e ≡ Some t → is_failed o ≡ true → Ways (part_of core sup g) (part_of (after core e o) sup (ghost_after core e g))
  fail_way core e t o is f = subst (λ x. Ways (part_of core sup g) (part_of (after core e o) sup x)) (ghost_same core e t is) (fail_by core e t o is f)

  pub event_way : (core : Core) (e : Event) (o : Outcome) → Known core → is_super e ≡ false → LoadsIt core sup e o → refusal core e ≡ None
      → (is_failed o ≡ true → (t : Transfer) × (transfer_of core e ≡ Some t)) → Ways (part_of core sup g) (part_of (after core e o) sup (ghost_after core e g))
  event_way core e (outcomes.Lost l) k s i ok t = let f = t refl in fail_way core e f.0 (outcomes.Lost l) f.1 refl
  event_way core e (outcomes.Io l) k s i ok t = let f = t refl in fail_way core e f.0 (outcomes.Io l) f.1 refl
  event_way core e (outcomes.Unreached l) k s i ok t = let f = t refl in fail_way core e f.0 (outcomes.Unreached l) f.1 refl
  event_way core e o k s i ok t = done_way core e o k s i ok
