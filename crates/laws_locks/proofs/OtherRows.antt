-- What each row keeps of the other locks.
use Rattle.std.proofs.Common.{◌≡◌, ℕ, Bool, true, false, not, List, [], ◌∷◌, Option, Some, None, refl, sym, ap, ◌∙◌, subst, arith, ◌&&◌, ◌||◌, if◌then◌else◌}
use Rattle.dlm_modes.specs.Guards.{first_of}
use Rattle.dlm_modes.specs.Points.{with_at}
use Rattle.dlm_modes.specs.declared.mode.Mode.{Mode}
use Rattle.dlm_modes.specs.declared.mode.Mode.TheVariants.{PR, EX}
use Rattle.dlm_space.specs.declared.ask.Ask.{Ask}
use Rattle.dlm_space.specs.Queues.{asks_of, head}
use Rattle.dlm_space.specs.Locks.{let_go, blocker}
use Rattle.mdc_types.specs.declared.events.Event.{Event}
use Rattle.mdc_types.specs.declared.events.Event.TheVariants as events
use Rattle.mdc_types.specs.declared.outcomes.Outcome.{Outcome}
use Rattle.mdc_types.specs.declared.outcomes.Outcome.TheVariants as outcomes
use Rattle.mdc_types.specs.declared.resources.Res.{Res}
use Rattle.mdc_types.specs.declared.resources.Res.TheVariants as resources
use Rattle.mdc_types.specs.declared.roles.NodeState.{NodeState}
use Rattle.mdc_types.specs.declared.roles.NodeState.TheVariants as states
use Rattle.node_recovery.specs.Progress.{Recovering}
use Rattle.msg_rounds.specs.Locks.{token_res, message_res, ack_res, resumed}
use Rattle.msg_rounds.specs.Phases.{has_published}
use Rattle.msg_rounds.specs.Refusals.{is_sender_idle, is_token_held, is_message_held, is_offered, is_taken}
use Rattle.msg_rounds.specs.declared.phases.SenderPhase.{SenderPhase}
use Rattle.msg_rounds.specs.declared.phases.SenderPhase.TheVariants as senders
use Rattle.msg_rounds.specs.declared.phases.ReceiverPhase.{ReceiverPhase}
use Rattle.msg_rounds.specs.declared.phases.ReceiverPhase.TheVariants as receivers
use Rattle.mdc_types.specs.declared.refusals.Refusal.TheVariants.{Blocked}
use Rattle.leg_failure.specs.Views.{acknowledged, taken as view_taken}
use Rattle.mdc_types.specs.Roles.{role_of}
use Rattle.laws_rounds.specs.Machine as rounds
use Rattle.laws_rounds.proofs.Tells.{ack_head}
use Rattle.cluster_model.specs.State.{Core, Held}
use Rattle.cluster_model.specs.Guards.{refused_by, no_node}
use Rattle.cluster_model.specs.Phases.{is_up, is_unclean, offers, copy_word, recovery_word, is_none as is_none_word, is_held, has_lock}
use Rattle.cluster_model.specs.Changes.{no_new_dev, resync_res, with_copy}
use Rattle.cluster_model.specs.Granting.{asker, not_grantable, grant_guards, grant_to, grant}
use Rattle.cluster_model.specs.Joining.{up}
use Rattle.cluster_model.specs.Rounds.{lockdev_guards, lock_device, is_announced}
use Rattle.cluster_model.specs.Receiving.{take, receiver_idle, resume, told_state, drop_message}
use Rattle.cluster_model.specs.Processing.{processed_guards, processed, device_lock_kept, take_roles, do_body, do_message}
use Rattle.cluster_msgs.specs.declared.msg.Body.{Body}
use Rattle.cluster_msgs.specs.declared.msg.Body.TheVariants as bodies
use Rattle.cluster_msgs.specs.declared.msg.Msg.{Msg}
use Rattle.cluster_model.specs.Passes.{resync_guards, ask_resync, done_guards, end_pass}
use Rattle.cluster_model.specs.Copying.{buffer_of}
use Rattle.cluster_model.specs.Recovering.{rec_guards, recover, recovered, slot_recovered}
use Rattle.cluster_model.specs.Transfers.{transfer_of}
use Rattle.cluster_model.specs.Failures.{tried, request_failed}
use Rattle.cluster_model.specs.Table.{refusal}
use Rattle.cluster_model.specs.After.{done, after}
use Rattle.laws_locks.specs.Following.{rounds_at}
use Rattle.laws_locks.specs.Rounded.{Rounded}
use Rattle.laws_locks.specs.Others.{turn_request, may_lock_device, device_fits, OtherLocks}
use Rattle.laws_locks.proofs.Guarded.{first_none, tested, refused_none, a_node, living}
use Rattle.laws_locks.proofs.Told.{up_is}
use Rattle.laws_locks.proofs.Keeping.{Kept, inv_at}
use Rattle.laws_locks.proofs.Facts.{rounded}
use Rattle.laws_locks.proofs.Granting.{grant_guard}
use Rattle.laws_locks.proofs.Words.{no_turn, lock_held, turn_held_is, no_recovery}
use Rattle.laws_locks.proofs.Holders.{others_agree}
use Rattle.laws_locks.proofs.Unmoved.{else_at, unmoved, still}
use Rattle.laws_locks.proofs.Devices.{holds_device, lets_device_go, keeps_device}
use Rattle.laws_locks.proofs.Nodes.{die_keeps}
use Rattle.laws_locks.proofs.Turns.{ask_keeps, served_keeps, end_keeps, recover_keeps, recovered_keeps}
use Rattle.laws_locks.proofs.Publish.{else_two}
use Rattle.laws_locks.proofs.Resting.{view_still, copy_still, super_still, out_still, copied_still, settled_still, cleared_still, read_still, gather_still, copy_in_still, slot_in_still, tried_still, failed_still, miss_keeps, loss_keeps}
use Rattle.laws_locks.proofs.OtherRounds.{far_none, not_up_out, none_held, head_asks, rest_asks, turn_asker, served_is, leaves_not, clean_offer, all_cr, join_other, up_other, leave_other, quit_other, sender_other, token_other, message_other, offer_other, super_other, publish_other, finish_other}

module _ (members : ℕ → Bool) (past : List rounds.Entry) (core : Core) (k : Kept members past core) (o : OtherLocks core) where
  r : Rounded core
  r = rounded members past core k

  -- Receivers.

  take_other : (n : ℕ) → OtherLocks (take core n)
  take_other n = unmoved (take core n) core (record { locks = else_at core.locks message_res _ refl; turn = λ m. refl; recovers = λ m k. refl; live = refl; pending = refl; state = refl; sender = λ m held may. may; offer = o.resync.unclean }) o

  drop_other : (n : ℕ) → OtherLocks (drop_message core n)
  drop_other n = unmoved (drop_message core n) core (record { locks = else_at core.locks message_res _ refl; turn = λ m. refl; recovers = λ m k. refl; live = refl; pending = refl; state = refl; sender = λ m held may. may; offer = o.resync.unclean }) o

  resume_other : (n : ℕ) → OtherLocks (resume core n)
  resume_other n = by_test (not (core.receiver n).gone && told_state (core.heard n))
    where
      by_test : (b : Bool) → OtherLocks (record (receiver_idle (if b then record core { view = with_at core.view n (acknowledged (core.view n)) } else core) n) { locks = resumed core.locks n })
      by_test true = unmoved _ core (record { locks = else_two core.locks ack_res message_res _ _ refl refl; turn = λ m. refl; recovers = λ m k. refl; live = refl; pending = refl; state = refl; sender = λ m held may. may; offer = o.resync.unclean }) o
      by_test false = unmoved _ core (record { locks = else_two core.locks ack_res message_res _ _ refl refl; turn = λ m. refl; recovers = λ m k. refl; live = refl; pending = refl; state = refl; sender = λ m held may. may; offer = o.resync.unclean }) o

  -- the roles are taken, and CR where the node has nothing on `no-new-dev`
  kept_lock : (n : ℕ) → core.state n ≡ states.Up → (f : ℕ) → has_published (core.sender f) ≡ true → OtherLocks (record core { locks = device_lock_kept core.locks n })
  kept_lock n up f p = keeps_device core n o up (λ m ne. (all_cr members past core k o) f p m)

  seen_device : (n : ℕ) (b : Bool) → core.state n ≡ states.Up → (f : ℕ) → has_published (core.sender f) ≡ true → OtherLocks (record core { locks = if b then device_lock_kept core.locks n else with_at core.locks no_new_dev (let_go (core.locks no_new_dev) n) })
  seen_device n true up f p = kept_lock n up f p
  seen_device n false up f p = lets_device_go core n o up

  body_other : (n f : ℕ) (b : Body) → core.state n ≡ states.Up → has_published (core.sender f) ≡ true → OtherLocks (do_body core n f b)
  body_other n f (bodies.Metadata ev roles size) up p = let q = view_still core n (view_taken (core.view n) (role_of roles) size) in still (take_roles core n roles size) (record core { locks = device_lock_kept core.locks n }) (record { locks = refl; turn = q.turn; recovers = λ m k. refl; members = refl; state = refl; sender = refl; offer = refl }) (kept_lock n up f p)
  body_other n f (bodies.Capacity ev roles size) up p = let q = view_still core n (view_taken (core.view n) (role_of roles) size) in still (take_roles core n roles size) (record core { locks = device_lock_kept core.locks n }) (record { locks = refl; turn = q.turn; recovers = λ m k. refl; members = refl; state = refl; sender = refl; offer = refl }) (kept_lock n up f p)
  body_other n f (bodies.NewDisk l uuid) up p = seen_device n (core.cut n l) up f p
  body_other n f (bodies.Resyncing rg) up p = still _ core (record { locks = refl; turn = λ n. refl; recovers = λ n k. refl; members = refl; state = refl; sender = refl; offer = refl }) o
  body_other n f b up p = o

  did_other : (n : ℕ) (x : Option Msg) → core.state n ≡ states.Up → has_published (core.sender (core.receiver n).from) ≡ true → OtherLocks (do_message core n x)
  did_other n None up p = o
  did_other n (Some m) up p = body_other n (core.receiver n).from m.body up p

  processed_other : (n : ℕ) → first_of (processed_guards core n) ≡ None → OtherLocks (processed core n)
  processed_other n e =
      let l = living core n _ k.nodes e in
      let a = tested (is_taken (core.receiver n).phase) _ _ l.rest in
      let b = tested (not (core.receiver n).gone) _ _ a.1 in
      let t = taken_is _ a.0 in
      let up = busy_up n t (is_up (core.state n)) refl in
      let did = do_message core n (core.heard n) in
      let d = did_other n (core.heard n) up (r.phased.calls n t (leaves_not _ b.0)) in
      unmoved (processed core n) did (record { locks = else_two did.locks ack_res message_res _ _ refl refl; turn = λ m. refl; recovers = λ m k. refl; live = refl; pending = refl; state = refl; sender = λ m held may. may; offer = d.resync.unclean }) d
    where
      taken_is : (s : ReceiverPhase) → is_taken s ≡ true → s ≡ receivers.Taken
      taken_is s e = grind arith

      no_both : (s : ReceiverPhase) → s ≡ receivers.Taken → s ≡ receivers.Idle → ⊥
      no_both s e f = grind arith

      busy_up : (n : ℕ) → (core.receiver n).phase ≡ receivers.Taken → (b : Bool) → is_up (core.state n) ≡ b → core.state n ≡ states.Up
      busy_up n t true e = up_is _ e
      busy_up n t false e = absurd (no_both _ t (r.phased.still n e))

  -- `resync`, recoveries and `no-new-dev`

  ask_other : (n : ℕ) → first_of (resync_guards core n) ≡ None → OtherLocks (ask_resync core n)
  ask_other n e =
      let l = living core n _ k.nodes e in
      let a = tested (is_up (core.state n)) _ _ l.rest in
      let b = tested (not ((is_offered (core.sender n) || has_published (core.sender n)) && offers is_unclean (core.offer n))) _ _ a.1 in
      let c = tested (is_none_word (copy_word (core.copy n))) _ _ b.1 in
      ask_keeps core n o (up_is _ a.0) (no_turn _ _ _ c.0) (clean_offer _ _ _ (k.offers n) b.0)

  end_other : (n : ℕ) → first_of (done_guards core n) ≡ None → OtherLocks (end_pass core n)
  end_other n e =
      let l = living core n _ k.nodes e in
      let a = tested (is_up (core.state n)) _ _ l.rest in
      let b = tested (is_sender_idle (core.sender n)) _ _ a.1 in
      let c = tested (has_lock (copy_word (core.copy n))) _ _ b.1 in
      let d = tested (is_none_word (recovery_word (core.recovery n))) _ _ c.1 in
      end_keeps core n o (lock_held _ _ _ c.0) (no_recovery _ d.0)

  recover_other : (n d : ℕ) → first_of (rec_guards core n d) ≡ None → OtherLocks (recover core n d)
  recover_other n d e =
      let l = living core n _ k.nodes e in
      let a = tested (is_up (core.state n)) _ _ l.rest in
      let b = tested (is_held (copy_word (core.copy n))) _ _ a.1 in
      let c = tested (is_none_word (recovery_word (core.recovery n))) _ _ b.1 in
      let g = first_none (no_node core d) _ c.1 in
      let h = tested (core.members.pending d) _ _ g.1 in
      recover_keeps core n d o (no_recovery _ c.0) (a_node core d k.nodes g.0) (turn_held_is _ _ _ b.0) h.0 (up_is _ a.0)

  recovered_other : (n : ℕ) → OtherLocks (recovered core n)
  recovered_other n = by_recovery (core.recovery n) refl
    where
      by_recovery : (x : Option Recovering) → core.recovery n ≡ x → OtherLocks (slot_recovered core n x)
      by_recovery None is = o
      by_recovery (Some q) is = recovered_keeps core n q o is (k.slots n q is)

  lock_other : (n : ℕ) → first_of (lockdev_guards core n) ≡ None → OtherLocks (lock_device core n)
  lock_other n e =
      let l = living core n _ k.nodes e in
      let a = tested (is_up (core.state n)) _ _ l.rest in
      let b = tested (is_token_held (core.sender n) || is_message_held (core.sender n)) _ _ a.1 in
      let c = tested (is_announced (core.adding n).addition) _ _ b.1 in
      let d = first_none (refused_by Blocked (blocker (core.locks no_new_dev) n EX)) [] c.1 in
      holds_device core n EX o (fits_ex _ _ a.0 b.0)
      (others_agree (core.locks no_new_dev) n EX (λ m far. far_none _ _ _ (o.device.fits m) (r.numbered.beyond m far)) (refused_none _ _ d.0))
    where
      fits_ex : (s : NodeState) (sender : SenderPhase) → is_up s ≡ true → (is_token_held sender || is_message_held sender) ≡ true → device_fits s sender (Some EX) ≡ true
      fits_ex s sender e f = grind arith

  -- Grants.

  resync_other : (conversions requests : List Ask) → (core.locks resync_res).conversions ≡ conversions → (core.locks resync_res).requests ≡ requests → not_grantable (core.locks resync_res) (head conversions requests) ≡ None → OtherLocks (grant_to core resources.Resync (head conversions requests))
  resync_other (b ∷ rest) requests c q e = let none = o.resync.conversions in cc
  resync_other [] [] c q e = o
  resync_other [] (a ∷ rest) c q e =
      let asks : (m : ℕ) → asks_of m (a ∷ rest) ≡ turn_request (core.copy m).turn = λ m. ap (asks_of m) (sym q) ∙ o.resync.requests m in
      let found = turn_asker _ a.mode (asks_of a.node rest) (head_asks a rest (λ m. turn_request (core.copy m).turn) asks) in
      let free = others_agree (core.locks resync_res) a.node EX (λ m far. none_held _ _ (o.resync.held m) (o.resync.still m (not_up_out _ (r.numbered.beyond m far)))) (ap (blocker (core.locks resync_res) a.node) (sym found.1) ∙ refused_none _ _ e) in
      subst (λ lock. OtherLocks (record (with_copy core a.node (record (core.copy a.node) { turn = Held })) { locks = with_at core.locks resync_res lock }))
      (sym (served_is (core.locks resync_res) a rest c q found.1))
      (served_keeps core a.node rest o found.0 (rest_asks a rest (λ m. turn_request (core.copy m).turn) asks) found.2 free)

  token_granted_other : (x : Option Ask) → OtherLocks (grant_to core resources.Token x)
  token_granted_other None = o
  token_granted_other (Some a) = (sender_other members past core k o) a.node senders.TokenHeld _ (else_at core.locks token_res _ refl) (λ held was. refl)

  message_granted_other : (n : ℕ) (mode : Mode) → OtherLocks (grant_to core resources.Message (Some (record { node = n; mode = mode })))
  message_granted_other n PR = unmoved _ core (record { locks = else_at core.locks message_res _ refl; turn = λ m. refl; recovers = λ m k. refl; live = refl; pending = refl; state = refl; sender = λ m held may. may; offer = o.resync.unclean }) o
  message_granted_other n mode = (sender_other members past core k o) n senders.MessageHeld _ (else_at core.locks message_res _ refl) (λ held was. refl)

  ack_granted_other : (x : Option Ask) → head (core.locks ack_res).conversions (core.locks ack_res).requests ≡ x → OtherLocks (grant_to core resources.Ack x)
  ack_granted_other None h = o
  ack_granted_other (Some a) h =
      let t = ack_head (rounds_at core) a (inv_at members past (rounds_at core) k.follows.reaches).queues h in
      (sender_other members past core k o) a.node senders.Granted _ (else_at core.locks ack_res _ refl) (λ held was. published_not _ t.phase was)
    where
      published_not : (s : SenderPhase) → s ≡ senders.Published → may_lock_device s ≡ true → false ≡ true
      published_not s e f = grind arith

  grant_other : (res : Res) → first_of (grant_guards core res) ≡ None → OtherLocks (grant core res)
  grant_other (resources.Bitmap n) e = o
  grant_other resources.NoNewDev e = o
  grant_other resources.Token e = token_granted_other (asker core resources.Token)
  grant_other resources.Message e = by_asker (asker core resources.Message)
    where
      by_asker : (x : Option Ask) → OtherLocks (grant_to core resources.Message x)
      by_asker None = o
      by_asker (Some a) = message_granted_other a.node a.mode
  grant_other resources.Ack e = ack_granted_other (asker core resources.Ack) refl
  grant_other resources.Resync e = resync_other (core.locks resync_res).conversions (core.locks resync_res).requests refl refl (grant_guard core resources.Resync e)

  done_other : (x : Event) (out : Outcome) → refusal core x ≡ None → OtherLocks (done core x out)
  done_other (events.Cut n l) out e = still _ core (record { locks = refl; turn = λ n. refl; recovers = λ n k. refl; members = refl; state = refl; sender = refl; offer = refl }) o
  done_other (events.Mend n l) out e = still _ core (record { locks = refl; turn = λ n. refl; recovers = λ n k. refl; members = refl; state = refl; sender = refl; offer = refl }) o
  done_other (events.Die n) out e = die_keeps core n o
  done_other (events.Grant res) out e = grant_other res e
  done_other (events.Join n) out e = (join_other members past core k o) n e
  done_other (events.Load n l) out e = still _ core (super_still core n l out) o
  done_other (events.Up n) out e = (up_other members past core k o) n e
  done_other (events.Leave n) out e = (leave_other members past core k o) n e
  done_other (events.AskToken n) out e = (token_other members past core k o) n e
  done_other (events.AskMessage n) out e = (message_other members past core k o) n e
  done_other (events.Offer n wish) out e = (offer_other members past core k o) n wish e
  done_other (events.WriteSuper n l) out e = (super_other members past core k o) n l
  done_other (events.Publish n) out e = (publish_other members past core k o) n e
  done_other (events.FinishRound n) out e = (finish_other members past core k o) n e
  done_other (events.Quit n) out e = (quit_other members past core k o) n e
  done_other (events.Take n) out e = take_other n
  done_other (events.Processed n) out e = processed_other n e
  done_other (events.Resume n) out e = resume_other n
  done_other (events.DropMessage n) out e = drop_other n
  done_other (events.AskWrite n s v) out e = still _ core (record { locks = refl; turn = λ n. refl; recovers = λ n k. refl; members = refl; state = refl; sender = refl; offer = refl }) o
  done_other (events.WritePage n p l) out e = still _ core (record { locks = refl; turn = λ n. refl; recovers = λ n k. refl; members = refl; state = refl; sender = refl; offer = refl }) o
  done_other (events.Out n w l) out e = still _ core (out_still core n w l) o
  done_other (events.EndWrite n w) out e = still _ core (record { locks = refl; turn = λ n. refl; recovers = λ n k. refl; members = refl; state = refl; sender = refl; offer = refl }) o
  done_other (events.BreakWrite n w) out e = still _ core (record { locks = refl; turn = λ n. refl; recovers = λ n k. refl; members = refl; state = refl; sender = refl; offer = refl }) o
  done_other (events.AskRead n s) out e = still _ core (record { locks = refl; turn = λ n. refl; recovers = λ n k. refl; members = refl; state = refl; sender = refl; offer = refl }) o
  done_other (events.In n w) out e = still _ core (read_still core n w out) o
  done_other (events.Clear n c) out e = still _ core (record { locks = refl; turn = λ n. refl; recovers = λ n k. refl; members = refl; state = refl; sender = refl; offer = refl }) o
  done_other (events.AskResync n) out e = ask_other n e
  done_other (events.Gather n) out e = still _ core (gather_still core n out) o
  done_other (events.PassOwn n) out e = still _ core (copy_still core n _ refl) o
  done_other (events.PassFull n) out e = still _ core (copy_still core n _ refl) o
  done_other (events.PassAgain n l) out e = still _ core (copy_still core n _ refl) o
  done_other (events.CopyIn n) out e = still _ core (copy_in_still core n out) o
  done_other (events.CopyOut n l) out e = still _ core (copied_still core n l) o
  done_other (events.Settle n) out e = still _ core (settled_still core n (buffer_of core n)) o
  done_other (events.EndPass n) out e = end_other n e
  done_other (events.Recover n d) out e = recover_other n d e
  done_other (events.SlotIn n p l) out e = still _ core (slot_in_still core n p l out) o
  done_other (events.SlotOut n p l) out e = still _ core (cleared_still core n (core.recovery n) p l refl) o
  done_other (events.Recovered n) out e = recovered_other n
  done_other (events.LockDevice n) out e = lock_other n e

pub step_other : (members : ℕ → Bool) (past : List rounds.Entry) (core : Core) → Kept members past core → OtherLocks core → (x : Event) (out : Outcome) → refusal core x ≡ None → OtherLocks (after core x out)
step_other members past core k o x (outcomes.Lost l) e = loss_keeps (tried core x) (transfer_of core x) (still (tried core x) core (tried_still core x) o)
step_other members past core k o x (outcomes.Io l) e = still (request_failed (tried core x) x) (tried core x) (failed_still (tried core x) x) (still (tried core x) core (tried_still core x) o)
step_other members past core k o x (outcomes.Unreached l) e = miss_keeps core (transfer_of core x) o
step_other members past core k o x out e = done_other members past core k o x out e
