-- The calls of each row are accepted, and lead to its locks.
use Rattle.std.proofs.Common.{◌≡◌, ◌<◌, ℕ, Bool, true, not, List, [], ◌∷◌, Option, Some, None, refl, sym, ap, ◌∙◌, subst, arith, ◌&&◌, ◌||◌, ◌++◌}
use Rattle.std.specs.Prelude.{is_none}
use Rattle.dlm_modes.specs.Guards.{first_of}
use Rattle.dlm_modes.specs.declared.mode.Mode.TheVariants.{CR, PR, EX}
use Rattle.dlm_space.specs.declared.ask.Ask.{Ask}
use Rattle.dlm_space.specs.Queues.{head}
use Rattle.dlm_space.specs.Locks.{Lock, let_go}
use Rattle.mdc_types.specs.Resources.{number_of}
use Rattle.mdc_types.specs.declared.events.Event.{Event}
use Rattle.mdc_types.specs.declared.events.Event.TheVariants as events
use Rattle.mdc_types.specs.declared.events.Wish.{Wish}
use Rattle.mdc_types.specs.declared.events.Wish.TheVariants as wishes
use Rattle.mdc_types.specs.declared.outcomes.Outcome.{Outcome}
use Rattle.mdc_types.specs.declared.outcomes.Outcome.TheVariants as outcomes
use Rattle.mdc_types.specs.declared.resources.Res.{Res}
use Rattle.mdc_types.specs.declared.resources.Res.TheVariants as resources
use Rattle.node_recovery.specs.Progress.{Recovering}
use Rattle.msg_rounds.specs.Locks.{message_res, ack_res, message_processed}
use Rattle.msg_rounds.specs.Phases.{has_published}
use Rattle.msg_rounds.specs.Refusals.{is_sender_idle, is_offered, is_granted, is_taken}
use Rattle.msg_rounds.specs.declared.phases.SenderPhase.{SenderPhase}
use Rattle.msg_rounds.specs.declared.phases.SenderPhase.TheVariants as senders
use Rattle.laws_rounds.specs.Machine as rounds
use Rattle.cluster_model.specs.State.{Core, Offer}
use Rattle.cluster_model.specs.Guards.{no_node}
use Rattle.cluster_model.specs.Phases.{is_up, is_unclean, offers, copy_word, recovery_word, is_none as is_none_word, is_held, has_lock}
use Rattle.cluster_model.specs.Changes.{no_new_dev, resync_res}
use Rattle.cluster_model.specs.Granting.{asker, not_grantable, grant_guards, grant_to, grant}
use Rattle.cluster_model.specs.Rounds.{lockdev_guards, lock_device}
use Rattle.cluster_model.specs.Finishing.{finish_guards, finish}
use Rattle.cluster_model.specs.Processing.{processed_guards, processed, do_body, do_message}
use Rattle.cluster_msgs.specs.declared.msg.Body.{Body}
use Rattle.cluster_msgs.specs.declared.msg.Body.TheVariants as bodies
use Rattle.cluster_msgs.specs.declared.msg.Msg.{Msg}
use Rattle.cluster_model.specs.Passes.{resync_guards, ask_resync, done_guards, end_pass}
use Rattle.cluster_model.specs.Copying.{buffer_of}
use Rattle.cluster_model.specs.Recovering.{rec_guards, recover, recovered, slot_recovered}
use Rattle.cluster_model.specs.Transfers.{transfer_of}
use Rattle.cluster_model.specs.Failures.{tried}
use Rattle.cluster_model.specs.Table.{refusal}
use Rattle.cluster_model.specs.After.{done, after}
use Rattle.dlm_modes.specs.declared.mode.Mode.TheVariants.{PW}
use Rattle.dlm_space.specs.Calls.{Call, Asks, AsksNow, Releases, Leads}
use Rattle.dlm_space.specs.Locks.{new_locks, all_let_go, queued, ask_now_refusal, grant_answer, valid_block}
use Rattle.dlm_space.specs.Orderly.{IsOrderly}
use Rattle.dlm_space.proofs.Leading.{leads_on, ask_leads, ask_now_leads, release_leads}
use Rattle.laws_rounds.specs.Following.{three_of}
use Rattle.laws_rounds.proofs.Follows as follows
use Rattle.msg_rounds.specs.Holds.{ReceiverHolds}
use Rattle.msg_rounds.specs.Locks.{finished}
use Rattle.msg_rounds.specs.Made.{finishing, processing}
use Rattle.dlm_space.specs.Releasing.{releases_of}
use Rattle.msg_rounds.proofs.Making.{rounds_make_calls}
use Rattle.cluster_model.specs.Finishing.{round_over, finish_wish, finish_offer}
use Rattle.cluster_model.specs.Recovering.{recovered_guards}
use Rattle.cluster_model.specs.Transfers.{Transfer}
use Rattle.cluster_model.specs.Changes.{voided}
use Rattle.cluster_model.specs.After.{after_loss, after_miss}
use Rattle.laws_locks.specs.Following.{rounds_at}
use Rattle.laws_locks.specs.Rounded.{Rounded}
use Rattle.laws_locks.specs.Others.{turn_held, turn_request, OtherLocks}
use Rattle.laws_locks.specs.Unblocked.{Unblocked}
use Rattle.laws_locks.specs.Called.{locking, finish_calls, finish_offer_calls, body_calls, message_calls, recovered_calls, grant_calls, done_calls, calls_of}
use Rattle.laws_locks.proofs.Guarded.{first_none, tested, a_node, living}
use Rattle.laws_locks.proofs.Told.{may_finish}
use Rattle.laws_locks.proofs.Keeping.{Kept}
use Rattle.laws_locks.proofs.Facts.{rounded}
use Rattle.laws_locks.proofs.Granting.{grant_guard, grantable}
use Rattle.laws_locks.proofs.Words.{no_turn, lock_held}
use Rattle.laws_locks.proofs.Unblocking.{unblocked}
use Rattle.laws_locks.proofs.Receiving.{message_quiet}
use Rattle.laws_locks.proofs.Resting.{super_still, out_still, copied_still, settled_still, cleared_still, read_still, gather_still, copy_in_still, slot_in_still, tried_still, failed_still}
use Rattle.laws_locks.proofs.Calling.{Far, far_at, Makes, makes_none, makes_on, releases_make, keeping_makes, seeing_makes, locking_makes, grant_makes, orderly_at}
use Rattle.laws_locks.proofs.CalledRounds.{may_ask, may_release, has_it, recovers_held, made, far_two, far_finished, die_made, join_made, up_made, leave_made, token_made, message_made, take_made, resume_made, drop_made, quit_made, publish_made}

module _ (members : ℕ → Bool) (past : List rounds.Entry) (core : Core) (k : Kept members past core) (o : OtherLocks core) (f : Far core.locks) (cs : List Call) (ls : Leads new_locks cs core.locks) where
  y : (r : ℕ) → IsOrderly (core.locks r)
  y = orderly_at cs core.locks ls

  r : Rounded core
  r = rounded members past core k

  ub : Unblocked core
  ub = unblocked members past core k o

  finish_made : (n : ℕ) → first_of (finish_guards core n) ≡ None → Makes core.locks (finish_offer_calls core n (core.offer n)) (finish core n).locks
  finish_made n e = by_offer (core.offer n)
    where
      lt : n < 16
      lt = (living core n _ k.nodes e).node

      plain : Makes core.locks (finishing n) (finished core.locks n)
      plain = record { leads = ((made members past core k o f cs ls) n lt).finish (r.phased.holds n).sender (may_finish _ (tested (is_granted (core.sender n)) _ _ (living core n _ k.nodes e).rest).0); far = (far_finished members past core k o f cs ls) n }

      all_gone : Makes core.locks (releases_of (finished core.locks n) n ++ finishing n) (all_let_go (finished core.locks n) n)
      all_gone = makes_on core.locks (finished core.locks n) _ (finishing n) _ plain
          (releases_make (finished core.locks n) n lt (orderly_at (finishing n ++ cs) (finished core.locks n) (leads_on new_locks core.locks (finished core.locks n) cs (finishing n) ls plain.leads)) ((far_finished members past core k o f cs ls) n f))

      by_wish : (q : Offer) (w : Wish) → Makes core.locks (finish_calls core n w) (finish_wish (round_over core n) n q w).locks
      by_wish q wishes.Unclean = all_gone
      by_wish q w = plain

      by_offer : (x : Option Offer) → Makes core.locks (finish_offer_calls core n x) (finish_offer core n x).locks
      by_offer None = plain
      by_offer (Some q) = by_wish q q.wish

  did_makes : (n : ℕ) (x : Option Msg) → n < 16 → (is_none ((core.locks no_new_dev).held n) ≡ true → ask_now_refusal (core.locks no_new_dev) n CR ≡ None) → Makes core.locks (message_calls core n x) (do_message core n x).locks
  did_makes n None lt may = makes_none core.locks
  did_makes n (Some m) lt may = by_body m.body
    where
      by_body : (b : Body) → Makes core.locks (body_calls core n b) (do_body core n (core.receiver n).from b).locks
      by_body (bodies.Metadata ev roles size) = keeping_makes core.locks n lt may
      by_body (bodies.Capacity ev roles size) = keeping_makes core.locks n lt may
      by_body (bodies.NewDisk l uuid) = seeing_makes core.locks n (core.cut n l) lt (y no_new_dev) may
      by_body b = makes_none core.locks

  processed_made : (n : ℕ) → first_of (processed_guards core n) ≡ None → Makes core.locks (processing n ++ message_calls core n (core.heard n)) (processed core n).locks
  processed_made n e =
      let l = living core n _ k.nodes e in
      let a = tested (is_taken (core.receiver n).phase) _ _ l.rest in
      let b = tested (not (core.receiver n).gone) _ _ a.1 in
      let did = do_message core n (core.heard n) in
      let same : three_of did.locks ≡ three_of core.locks = ap (λ w. w.locks) (message_quiet core n (core.heard n)).rounds in
      let h = follows.receiver_holds did.locks n (core.receiver n).phase (subst (λ x. ReceiverHolds x n (core.receiver n).phase) (sym same) ((follows.reached_sound members past (rounds_at core) k.follows.reaches).holds n).receiver) in
      makes_on core.locks did.locks (message_processed did.locks n) (message_calls core n (core.heard n)) (processing n)
      (did_makes n (core.heard n) l.node (ub.processed n e))
      (record {
        leads = (rounds_make_calls did.locks n (core.sender n) (core.receiver n) l.node).processed h (rw a.0 (rw b.0 refl));
        far = (far_two members past core k o f cs ls) did.locks ack_res message_res (let_go (did.locks ack_res) n) (queued (did.locks message_res) n PR) (omega arith) (omega arith);
      })

  -- grants

  res_made : (res : Res) (x : Option Ask) → number_of res < 21 → head (core.locks (number_of res)).conversions (core.locks (number_of res)).requests ≡ x → not_grantable (core.locks (number_of res)) x ≡ None → Makes core.locks (grant_calls (number_of res) x (grant_answer (core.locks (number_of res)))) (grant_to core res x).locks
  res_made res None lt h g = makes_none core.locks
  res_made res (Some a) lt h g = grant_makes core.locks (number_of res) a lt h (grantable (core.locks (number_of res)) a g h)

  grant_made : (res : Res) → first_of (grant_guards core res) ≡ None → Makes core.locks (grant_calls (number_of res) (asker core res) (grant_answer (core.locks (number_of res)))) (grant core res).locks
  grant_made (resources.Bitmap n) e = makes_none core.locks
  grant_made resources.NoNewDev e = makes_none core.locks
  grant_made resources.Token e = res_made resources.Token (asker core resources.Token) (omega arith) refl (grant_guard core resources.Token e)
  grant_made resources.Message e = res_made resources.Message (asker core resources.Message) (omega arith) refl (grant_guard core resources.Message e)
  grant_made resources.Ack e = res_made resources.Ack (asker core resources.Ack) (omega arith) refl (grant_guard core resources.Ack e)
  grant_made resources.Resync e = res_made resources.Resync (asker core resources.Resync) (omega arith) refl (grant_guard core resources.Resync e)

  -- the other locks

  ask_made : (n : ℕ) → first_of (resync_guards core n) ≡ None → Makes core.locks (Asks n resync_res EX ∷ []) (ask_resync core n).locks
  ask_made n e =
      let l = living core n _ k.nodes e in
      let a = tested (is_up (core.state n)) _ _ l.rest in
      let b = tested (not ((is_offered (core.sender n) || has_published (core.sender n)) && offers is_unclean (core.offer n))) _ _ a.1 in
      let c = tested (is_none_word (copy_word (core.copy n))) _ _ b.1 in
      let none = no_turn _ _ _ c.0 in
      record {
        leads = ask_leads core.locks n resync_res EX l.node (may_ask (core.locks resync_res) n (o.resync.held n ∙ ap turn_held none) (o.resync.requests n ∙ ap turn_request none));
        far = far_at core.locks resync_res _ (omega arith);
      }

  end_made : (n : ℕ) → first_of (done_guards core n) ≡ None → Makes core.locks (Releases n resync_res None ∷ []) (end_pass core n).locks
  end_made n e =
      let l = living core n _ k.nodes e in
      let a = tested (is_up (core.state n)) _ _ l.rest in
      let b = tested (is_sender_idle (core.sender n)) _ _ a.1 in
      let c = tested (has_lock (copy_word (core.copy n))) _ _ b.1 in
      record {
        leads = release_leads core.locks n resync_res l.node (may_release (core.locks resync_res) n EX (o.resync.held n ∙ ap turn_held (lock_held _ _ _ c.0)));
        far = far_at core.locks resync_res _ (omega arith);
      }

  recover_made : (n d : ℕ) → first_of (rec_guards core n d) ≡ None → Makes core.locks (AsksNow n d PW (valid_block (core.locks d)) ∷ []) (recover core n d).locks
  recover_made n d e =
      let l = living core n _ k.nodes e in
      let a = tested (is_up (core.state n)) _ _ l.rest in
      let b = tested (is_held (copy_word (core.copy n))) _ _ a.1 in
      let c = tested (is_none_word (recovery_word (core.recovery n))) _ _ b.1 in
      let g = first_none (no_node core d) _ c.1 in
      let lt = a_node core d k.nodes g.0 in
      record { leads = ask_now_leads core.locks n d PW _ l.node (ub.recover n d e) refl; far = far_at core.locks d _ (omega arith) }

  recovered_made : (n : ℕ) → first_of (recovered_guards core n) ≡ None → Makes core.locks (recovered_calls n (core.recovery n)) (recovered core n).locks
  recovered_made n e = by_recovery (core.recovery n) refl
    where
      by_recovery : (x : Option Recovering) → core.recovery n ≡ x → Makes core.locks (recovered_calls n x) (slot_recovered core n x).locks
      by_recovery None is = makes_none core.locks
      by_recovery (Some q) is =
          let lt = k.slots n q is in
          record {
            leads = release_leads core.locks n q.slot (living core n _ k.nodes e).node (may_release (core.locks q.slot) n PW (recovers_held _ _ _ (o.slots.held n q.slot lt) (has_it _ q is)));
            far = far_at core.locks q.slot _ (omega arith);
          }

  lock_made : (n : ℕ) → first_of (lockdev_guards core n) ≡ None → Makes core.locks (locking core.locks n) (lock_device core n).locks
  lock_made n e = locking_makes core.locks n (living core n _ k.nodes e).node (ub.lock_asks n e) (ub.lock_converts n e)

  still_made : (now : ℕ → Lock) → now ≡ core.locks → Makes core.locks [] now
  still_made now e = subst (Makes core.locks []) (sym e) (makes_none core.locks)

  done_made : (x : Event) (out : Outcome) → refusal core x ≡ None → Makes core.locks (done_calls core x) (done core x out).locks
  done_made (events.Cut n l) out e = makes_none core.locks
  done_made (events.Mend n l) out e = makes_none core.locks
  done_made (events.Die n) out e = (die_made members past core k o f cs ls) n e
  done_made (events.Grant res) out e = grant_made res e
  done_made (events.Join n) out e = (join_made members past core k o f cs ls) n e
  done_made (events.Load n l) out e = still_made _ (super_still core n l out).locks
  done_made (events.Up n) out e = (up_made members past core k o f cs ls) n e
  done_made (events.Leave n) out e = (leave_made members past core k o f cs ls) n e
  done_made (events.AskToken n) out e = (token_made members past core k o f cs ls) n e
  done_made (events.AskMessage n) out e = (message_made members past core k o f cs ls) n e
  done_made (events.Offer n wish) out e = makes_none core.locks
  done_made (events.WriteSuper n l) out e = makes_none core.locks
  done_made (events.Publish n) out e = (publish_made members past core k o f cs ls) n e
  done_made (events.FinishRound n) out e = finish_made n e
  done_made (events.Quit n) out e = (quit_made members past core k o f cs ls) n e
  done_made (events.Take n) out e = (take_made members past core k o f cs ls) n e
  done_made (events.Processed n) out e = processed_made n e
  done_made (events.Resume n) out e = (resume_made members past core k o f cs ls) n e
  done_made (events.DropMessage n) out e = (drop_made members past core k o f cs ls) n e
  done_made (events.AskWrite n s v) out e = makes_none core.locks
  done_made (events.WritePage n p l) out e = makes_none core.locks
  done_made (events.Out n w l) out e = still_made _ (out_still core n w l).locks
  done_made (events.EndWrite n w) out e = makes_none core.locks
  done_made (events.BreakWrite n w) out e = makes_none core.locks
  done_made (events.AskRead n s) out e = makes_none core.locks
  done_made (events.In n w) out e = still_made _ (read_still core n w out).locks
  done_made (events.Clear n c) out e = makes_none core.locks
  done_made (events.AskResync n) out e = ask_made n e
  done_made (events.Gather n) out e = still_made _ (gather_still core n out).locks
  done_made (events.PassOwn n) out e = makes_none core.locks
  done_made (events.PassFull n) out e = makes_none core.locks
  done_made (events.PassAgain n l) out e = makes_none core.locks
  done_made (events.CopyIn n) out e = still_made _ (copy_in_still core n out).locks
  done_made (events.CopyOut n l) out e = still_made _ (copied_still core n l).locks
  done_made (events.Settle n) out e = still_made _ (settled_still core n (buffer_of core n)).locks
  done_made (events.EndPass n) out e = end_made n e
  done_made (events.Recover n d) out e = recover_made n d e
  done_made (events.SlotIn n p l) out e = still_made _ (slot_in_still core n p l out).locks
  done_made (events.SlotOut n p l) out e = still_made _ (cleared_still core n (core.recovery n) p l refl).locks
  done_made (events.Recovered n) out e = recovered_made n e
  done_made (events.LockDevice n) out e = lock_made n e

void_locks : (core : Core) (n : ℕ) (s : SenderPhase) → (voided core n s).locks ≡ core.locks
void_locks core n senders.Offered = refl
void_locks core n s = refl

loss_locks : (core : Core) (t : Option Transfer) → (after_loss core t).locks ≡ core.locks
loss_locks core None = refl
loss_locks core (Some t) = void_locks core t.node (core.sender t.node)

miss_locks : (core : Core) (t : Option Transfer) → (after_miss core t).locks ≡ core.locks
miss_locks core None = refl
miss_locks core (Some t) = void_locks core t.node (core.sender t.node)

pub step_made : (members : ℕ → Bool) (past : List rounds.Entry) (core : Core) → Kept members past core → OtherLocks core → Far core.locks → (cs : List Call) → Leads new_locks cs core.locks → (x : Event) (out : Outcome) → refusal core x ≡ None → Makes core.locks (calls_of core x out) (after core x out).locks
step_made members past core k o f cs ls x (outcomes.Lost l) e = subst (Makes core.locks []) (sym (loss_locks (tried core x) (transfer_of core x) ∙ (tried_still core x).locks)) (makes_none core.locks)
step_made members past core k o f cs ls x (outcomes.Io l) e = subst (Makes core.locks []) (sym ((failed_still (tried core x) x).locks ∙ (tried_still core x).locks)) (makes_none core.locks)
step_made members past core k o f cs ls x (outcomes.Unreached l) e = subst (Makes core.locks []) (sym (miss_locks core (transfer_of core x))) (makes_none core.locks)
step_made members past core k o f cs ls x out e = done_made members past core k o f cs ls x out e
