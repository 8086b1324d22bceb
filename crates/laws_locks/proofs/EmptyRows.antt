-- What each row keeps of the emptiness of nodes that aren't up.
use Rattle.std.proofs.Common.{◌≡◌, inl, inr, ℕ, Bool, true, false, not, List, [], ◌∷◌, Option, Some, None, refl, sym, ap, ◌∙◌, subst, ◌&&◌, if◌then◌else◌}
use Rattle.dlm_modes.specs.Guards.{first_of}
use Rattle.dlm_modes.specs.Points.{with_at}
use Rattle.dlm_modes.specs.declared.mode.Mode.{Mode}
use Rattle.dlm_modes.specs.declared.mode.Mode.TheVariants.{PR}
use Rattle.dlm_space.specs.declared.ask.Ask.{Ask}
use Rattle.dlm_space.specs.Queues.{asks_of, head}
use Rattle.dlm_space.specs.Locks.{Lock}
use Rattle.mdc_types.specs.declared.events.Event.{Event}
use Rattle.mdc_types.specs.declared.events.Event.TheVariants as events
use Rattle.mdc_types.specs.declared.events.Wish.{Wish}
use Rattle.mdc_types.specs.declared.events.Wish.TheVariants as wishes
use Rattle.mdc_types.specs.declared.outcomes.Outcome.{Outcome}
use Rattle.mdc_types.specs.declared.outcomes.Outcome.TheVariants as outcomes
use Rattle.mdc_types.specs.declared.resources.Res.{Res}
use Rattle.mdc_types.specs.declared.resources.Res.TheVariants as resources
use Rattle.mdc_types.specs.declared.roles.NodeState.TheVariants as states
use Rattle.node_recovery.specs.Progress.{Recovering}
use Rattle.msg_rounds.specs.Locks.{ack_res, resumed}
use Rattle.msg_rounds.specs.Phases.{has_published}
use Rattle.msg_rounds.specs.Refusals.{is_offered, is_granted}
use Rattle.msg_rounds.specs.declared.phases.SenderPhase.{SenderPhase}
use Rattle.msg_rounds.specs.declared.phases.SenderPhase.TheVariants as senders
use Rattle.leg_failure.specs.Views.{acknowledged, taken as view_taken}
use Rattle.mdc_types.specs.Roles.{role_of}
use Rattle.laws_rounds.specs.Machine as rounds
use Rattle.laws_rounds.proofs.Tells.{ack_head}
use Rattle.cluster_model.specs.State.{Core, Offer, Held}
use Rattle.cluster_model.specs.Guards.{draining, reading}
use Rattle.cluster_model.specs.Phases.{is_up, is_unclean, offers}
use Rattle.cluster_model.specs.Changes.{resync_res, with_copy, device_unlocked}
use Rattle.cluster_model.specs.Granting.{asker, grant_guards, grant_to, grant}
use Rattle.cluster_model.specs.Rounds.{lock_device}
use Rattle.cluster_model.specs.Wishes.{offer_of, offered}
use Rattle.cluster_model.specs.Superblocks.{super_written}
use Rattle.cluster_model.specs.Publishing.{publish_guards, block_of}
use Rattle.msg_rounds.specs.Locks.{published}
use Rattle.cluster_model.specs.Writes.{start_write, w_guards, out_guards, ok_guards, break_guards}
use Rattle.cluster_model.specs.Reads.{r_guards, in_guards}
use Rattle.cluster_model.specs.Bits.{bit_guards, clear_guards}
use Rattle.mdc_types.specs.declared.roles.Roles.{Roles}
use Rattle.cluster_model.specs.Finishing.{finish_guards, finish}
use Rattle.cluster_model.specs.Receiving.{take, receiver_idle, resume, told_state, drop_message}
use Rattle.cluster_model.specs.Processing.{processed, take_roles, do_body, do_message}
use Rattle.cluster_msgs.specs.declared.msg.Body.{Body}
use Rattle.cluster_msgs.specs.declared.msg.Body.TheVariants as bodies
use Rattle.cluster_msgs.specs.declared.msg.Msg.{Msg}
use Rattle.cluster_model.specs.Passes.{resync_guards, pass_guards, pass_again_guards, done_guards}
use Rattle.cluster_model.specs.Copying.{buffer_of, ci_guards, co_guards, settle_guards}
use Rattle.cluster_model.specs.Recovering.{rec_guards, slotin_guards, slotout_guards, recovered_guards}
use Rattle.cluster_model.specs.Transfers.{transfer_of}
use Rattle.cluster_model.specs.Failures.{tried, request_failed}
use Rattle.cluster_model.specs.Table.{refusal}
use Rattle.cluster_model.specs.After.{done, after}
use Rattle.leg_failure.specs.Views.{finished as finished_view}
use Rattle.cluster_model.specs.Changes.{sender_now, voided}
use Rattle.cluster_model.specs.Publishing.{publish_wish, publish_offer, offer_is_due, wish_is_due}
use Rattle.cluster_model.specs.Finishing.{round_over, superblock_changed, addition_changed, finish_wish, finish_offer}
use Rattle.cluster_model.specs.Failures.{slot_failed}
use Rattle.cluster_model.specs.Transfers.{Transfer}
use Rattle.cluster_model.specs.After.{after_loss, after_miss}
use Rattle.laws_locks.specs.Following.{rounds_at}
use Rattle.laws_locks.specs.Rounded.{offering, wish_fits}
use Rattle.laws_locks.specs.Others.{OtherLocks, turn_request}
use Rattle.laws_locks.specs.Empties.{Drained, UpOnly}
use Rattle.laws_locks.proofs.Guarded.{first_none, tested, refused_none, living}
use Rattle.laws_locks.proofs.Told.{some_offer, up_offers}
use Rattle.laws_locks.proofs.Keeping.{Kept, inv_at, was_published, still_published}
use Rattle.laws_locks.proofs.Emptied.{other_at, same_or_not, own_keeps, tame_keeps}
use Rattle.laws_locks.proofs.OwnRows.{write_own, read_own, start_own, ended_own, out_own, end_read_own, in_own, clear_own, copy_own, ask_own, end_own, copy_in_own, copy_out_own, settle_own, recover_own, recovered_own, slot_in_own, marks_set, marks_need, cleared_own, page_own}
use Rattle.laws_locks.proofs.EmptyNodes.{unclean_still, no_write, no_read, covers_none, closes_none, up_at, granted_published, granted_stands, asked_up, head_turn, turn_asked, by_guards, row_up, leg_up, second_guard, gone_at, out_empty, out_others, die_empty, leave_empty, quit_empty, join_empty, up_empty, load_empty, gather_empty, drain_offered, written_unclean}

module _ (members : ℕ → Bool) (past : List rounds.Entry) (core : Core) (k : Kept members past core) (o : OtherLocks core) (u : UpOnly core) where
  -- a publish, and what was due

  publish_due : (n : ℕ) → first_of (publish_guards core n) ≡ None → first_of (offer_is_due core n (core.offer n)) ≡ None
  publish_due n e = (tested (is_offered (core.sender n)) _ (offer_is_due core n (core.offer n)) (living core n _ k.nodes e).rest).1

  due_drained : (n : ℕ) (q : Offer) (w : Wish) → first_of (wish_is_due core n q w) ≡ None → is_unclean w ≡ true → Drained core n
  due_drained n q wishes.Unclean e f =
      let a = first_none (draining core n) (reading core n ∷ []) e in
      let b = first_none (reading core n) [] a.1 in
      record { writes = no_write _ (refused_none _ _ a.0); reads = no_read _ (refused_none _ _ b.0) }
  due_drained n q w e f = cc

  published_drains : (n : ℕ) → (offers is_unclean (core.offer n) ≡ true → Drained core n) → (m : ℕ) → has_published (with_at core.sender n senders.Published m) ≡ true → offers is_unclean (core.offer m) ≡ true → Drained core m
  published_drains n d m p f = elim (same_or_not m n) [
    | inl s ↦ subst (λ j. offers is_unclean (core.offer j) ≡ true → Drained core j) (sym s) d f
    | inr ne ↦ u.drained m (ap has_published (sym (other_at core.sender n senders.Published m ne)) ∙ p) f
  ]

  publish_empty : (n : ℕ) (x : Option Offer) → core.offer n ≡ x → first_of (offer_is_due core n x) ≡ None → UpOnly (publish_offer core n x)
  publish_empty n None is e = u
  publish_empty n (Some q) is e = by_wish q.wish (due_drained n q q.wish e)
    where
      plain : (w : Wish) → (is_unclean q.wish ≡ true → Drained core n) → UpOnly (record (sender_now core n senders.Published) { locks = device_unlocked (published core.locks n (block_of core n q)) n })
      plain w d = tame_keeps _ core (record { down = λ m d. d; writes = λ m e. e; reads = λ m e. e; copy = λ m e d. e; recovery = λ m e. e; set = λ m c. refl; need = λ m c. refl; drains = published_drains n (λ f. d (ap (offers is_unclean) (sym is) ∙ f)) }) u

      by_wish : (w : Wish) → (is_unclean q.wish ≡ true → Drained core n) → UpOnly (publish_wish (record (sender_now core n senders.Published) { locks = device_unlocked (published core.locks n (block_of core n q)) n }) n w)
      by_wish (wishes.Range r) d = let p = plain wishes.Meta d in tame_keeps _ (record (sender_now core n senders.Published) { locks = device_unlocked (published core.locks n (block_of core n q)) n }) (record { down = λ m d. d; writes = λ m e. e; reads = λ m e. e; copy = λ m e d. closes_none core.copy n m e; recovery = λ m e. e; set = λ m c. refl; need = λ m c. refl; drains = p.drained }) p
      by_wish w d = plain w d

  -- a finish

  over_empty : (n : ℕ) → UpOnly (round_over core n)
  over_empty n = tame_keeps (round_over core n) core (record { down = λ m d. d; writes = λ m e. e; reads = λ m e. e; copy = λ m e d. e; recovery = λ m e. e; set = λ m c. refl; need = λ m c. refl; drains = λ m p f. u.drained m (still_published core.sender n senders.Idle refl m p) (unclean_still core.offer n m f) }) u

  super_empty : (n : ℕ) (q : Offer) → UpOnly (superblock_changed (round_over core n) n q)
  super_empty n q = let p = over_empty n in tame_keeps (superblock_changed (round_over core n) n q) (round_over core n) (record { down = λ m d. up_at core.state n m d; writes = λ m e. e; reads = λ m e. e; copy = λ m e d. covers_none core.copy n (finished_view (core.view n) q.role q.size) m e; recovery = λ m e. e; set = λ m j. marks_set core.bitmap n _ refl m j; need = λ m j. marks_need core.bitmap n _ refl m j; drains = p.drained }) p

  unclean_empty : (n : ℕ) (q : Offer) → Drained core n → UpOnly (finish_wish (round_over core n) n q wishes.Unclean)
  unclean_empty n q d =
      let new = finish_wish (round_over core n) n q wishes.Unclean in
      (gone_at members past core k o u) n new
      ((out_empty members past core k o u) (round_over core n) n new.locks new.members d.writes d.reads)
      (λ m ne. other_at core.state n states.Out m ne)
      (λ m ne x. (out_others members past core k o u) (round_over core n) n new.locks new.members m ne (record { writes = x.writes; reads = x.reads; copy = x.copy; recovery = x.recovery; set = x.set; need = x.need }))
      (λ m ne d. record { writes = d.writes; reads = d.reads })
      (λ m ne p f. u.drained m (still_published core.sender n senders.Idle refl m p) (unclean_still core.offer n m (unclean_still (with_at core.offer n None) n m f)))

  plain_empty : (n : ℕ) (w : Wish) → UpOnly (addition_changed (round_over core n) n w)
  plain_empty n w = let p = over_empty n in tame_keeps (addition_changed (round_over core n) n w) (round_over core n) (record { down = λ m d. d; writes = λ m e. e; reads = λ m e. e; copy = λ m e d. e; recovery = λ m e. e; set = λ m c. refl; need = λ m c. refl; drains = p.drained }) p

  wish_empty : (n : ℕ) (q : Offer) (w : Wish) → wish_fits (core.state n) w ≡ true → (is_unclean w ≡ true → Drained core n) → UpOnly (finish_wish (round_over core n) n q w)
  wish_empty n q (wishes.Range r) fit d = own_keeps _ (round_over core n) n (copy_own (round_over core n) n _) (ap is_up (up_offers _ (wishes.Range r) fit refl)) (over_empty n)
  wish_empty n q wishes.Unclean fit d = unclean_empty n q (d refl)
  wish_empty n q (wishes.NewDisk l) fit d = plain_empty n (wishes.NewDisk l)
  wish_empty n q (wishes.Remove l) fit d = plain_empty n (wishes.Remove l)
  wish_empty n q (wishes.ReAdd l) fit d = plain_empty n (wishes.ReAdd l)
  wish_empty n q w fit d = super_empty n q

  finish_empty : (n : ℕ) → first_of (finish_guards core n) ≡ None → UpOnly (finish core n)
  finish_empty n e = by_offer (core.offer n) refl
    where
      granted : is_granted (core.sender n) ≡ true
      granted = (tested (is_granted (core.sender n)) _ _ (living core n _ k.nodes e).rest).0

      by_offer : (x : Option Offer) → core.offer n ≡ x → UpOnly (finish_offer core n x)
      by_offer None is = over_empty n
      by_offer (Some q) is = wish_empty n q q.wish
          (some_offer _ _ q (ap (offering (core.state n) (core.sender n)) (sym is) ∙ k.offers n) (granted_stands _ granted))
          (λ f. u.drained n (granted_published _ granted) (ap (offers is_unclean) is ∙ f))

  -- receivers

  resume_empty : (n : ℕ) → UpOnly (resume core n)
  resume_empty n = by_test (not (core.receiver n).gone && told_state (core.heard n))
    where
      by_test : (b : Bool) → UpOnly (record (receiver_idle (if b then record core { view = with_at core.view n (acknowledged (core.view n)) } else core) n) { locks = resumed core.locks n })
      by_test true = tame_keeps _ core (record { down = λ m d. d; writes = λ m e. e; reads = λ m e. e; copy = λ m e d. e; recovery = λ m e. e; set = λ m c. refl; need = λ m c. refl; drains = u.drained }) u
      by_test false = tame_keeps _ core (record { down = λ m d. d; writes = λ m e. e; reads = λ m e. e; copy = λ m e d. e; recovery = λ m e. e; set = λ m c. refl; need = λ m c. refl; drains = u.drained }) u

  roles_empty : (n : ℕ) (roles : Roles) (size : ℕ) → UpOnly (take_roles core n roles size)
  roles_empty n roles size = tame_keeps (take_roles core n roles size) core (record { down = λ m d. d; writes = λ m e. e; reads = λ m e. e; copy = λ m e d. covers_none core.copy n (view_taken (core.view n) (role_of roles) size) m e; recovery = λ m e. e; set = λ m j. marks_set core.bitmap n _ refl m j; need = λ m j. marks_need core.bitmap n _ refl m j; drains = u.drained }) u

  did_empty : (n : ℕ) (x : Option Msg) → UpOnly (do_message core n x)
  did_empty n None = u
  did_empty n (Some m) = by_body m.body
    where
      by_body : (b : Body) → UpOnly (do_body core n (core.receiver n).from b)
      by_body (bodies.Metadata ev roles size) = roles_empty n roles size
      by_body (bodies.Capacity ev roles size) = roles_empty n roles size
      by_body (bodies.NewDisk l uuid) = tame_keeps _ core (record { down = λ m d. d; writes = λ m e. e; reads = λ m e. e; copy = λ m e d. e; recovery = λ m e. e; set = λ m c. refl; need = λ m c. refl; drains = u.drained }) u
      by_body (bodies.Resyncing rg) = tame_keeps _ core (record { down = λ m d. d; writes = λ m e. e; reads = λ m e. e; copy = λ m e d. e; recovery = λ m e. e; set = λ m c. refl; need = λ m c. refl; drains = u.drained }) u
      by_body b = u

  processed_empty : (n : ℕ) → UpOnly (processed core n)
  processed_empty n = let did = do_message core n (core.heard n) in let p = did_empty n (core.heard n) in tame_keeps (processed core n) did (record { down = λ m d. d; writes = λ m e. e; reads = λ m e. e; copy = λ m e d. e; recovery = λ m e. e; set = λ m c. refl; need = λ m c. refl; drains = p.drained }) p

  -- grants

  sender_empty : (n : ℕ) (s : SenderPhase) (locks : ℕ → Lock) → (has_published s ≡ true → has_published (core.sender n) ≡ true) → UpOnly (record core { sender = with_at core.sender n s; locks = locks })
  sender_empty n s locks p0 = tame_keeps (record core { sender = with_at core.sender n s; locks = locks }) core (record { down = λ m d. d; writes = λ m e. e; reads = λ m e. e; copy = λ m e d. e; recovery = λ m e. e; set = λ m c. refl; need = λ m c. refl; drains = λ m p f. u.drained m (was_published core.sender n s p0 m p) f }) u

  token_granted : (x : Option Ask) → UpOnly (grant_to core resources.Token x)
  token_granted None = u
  token_granted (Some a) = sender_empty a.node senders.TokenHeld _ (λ p. cc)

  message_granted : (n : ℕ) (mode : Mode) → UpOnly (grant_to core resources.Message (Some (record { node = n; mode = mode })))
  message_granted n PR = tame_keeps _ core (record { down = λ m d. d; writes = λ m e. e; reads = λ m e. e; copy = λ m e d. e; recovery = λ m e. e; set = λ m c. refl; need = λ m c. refl; drains = u.drained }) u
  message_granted n mode = sender_empty n senders.MessageHeld _ (λ p. cc)

  ack_granted : (x : Option Ask) → head (core.locks ack_res).conversions (core.locks ack_res).requests ≡ x → UpOnly (grant_to core resources.Ack x)
  ack_granted None h = u
  ack_granted (Some a) h =
      let t = ack_head (rounds_at core) a (inv_at members past (rounds_at core) k.follows.reaches).queues h in
      sender_empty a.node senders.Granted _ (λ p. ap has_published t.phase)

  resync_granted : (conversions requests : List Ask) → (core.locks resync_res).conversions ≡ conversions → (core.locks resync_res).requests ≡ requests → UpOnly (grant_to core resources.Resync (head conversions requests))
  resync_granted (b ∷ rest) requests c q = let none = o.resync.conversions in cc
  resync_granted [] [] c q = u
  resync_granted [] (a ∷ rest) c q =
      let asks : (m : ℕ) → asks_of m (a ∷ rest) ≡ turn_request (core.copy m).turn = λ m. ap (asks_of m) (sym q) ∙ o.resync.requests m in
      let asked = turn_asked _ a.mode (asks_of a.node rest) (head_turn a rest (λ m. turn_request (core.copy m).turn) asks) in
      let made = own_keeps (with_copy core a.node (record (core.copy a.node) { turn = Held })) core a.node (copy_own core a.node _) (asked_up _ _ (o.resync.still a.node) asked) u in
      tame_keeps _ (with_copy core a.node (record (core.copy a.node) { turn = Held })) (record { down = λ m d. d; writes = λ m e. e; reads = λ m e. e; copy = λ m e d. e; recovery = λ m e. e; set = λ m c. refl; need = λ m c. refl; drains = made.drained }) made

  grant_empty : (res : Res) → first_of (grant_guards core res) ≡ None → UpOnly (grant core res)
  grant_empty (resources.Bitmap n) e = u
  grant_empty resources.NoNewDev e = u
  grant_empty resources.Token e = token_granted (asker core resources.Token)
  grant_empty resources.Message e = by_asker (asker core resources.Message)
    where
      by_asker : (x : Option Ask) → UpOnly (grant_to core resources.Message x)
      by_asker None = u
      by_asker (Some a) = message_granted a.node a.mode
  grant_empty resources.Ack e = ack_granted (asker core resources.Ack) refl
  grant_empty resources.Resync e = resync_granted (core.locks resync_res).conversions (core.locks resync_res).requests refl refl

  done_empty : (x : Event) (out : Outcome) → refusal core x ≡ None → UpOnly (done core x out)
  done_empty (events.Cut n l) out e = tame_keeps _ core (record { down = λ m d. d; writes = λ m e. e; reads = λ m e. e; copy = λ m e d. e; recovery = λ m e. e; set = λ m c. refl; need = λ m c. refl; drains = u.drained }) u
  done_empty (events.Mend n l) out e = tame_keeps _ core (record { down = λ m d. d; writes = λ m e. e; reads = λ m e. e; copy = λ m e d. e; recovery = λ m e. e; set = λ m c. refl; need = λ m c. refl; drains = u.drained }) u
  done_empty (events.Die n) out e = (die_empty members past core k o u) n
  done_empty (events.Grant res) out e = grant_empty res e
  done_empty (events.Join n) out e = (join_empty members past core k o u) n e
  done_empty (events.Load n l) out e = (load_empty members past core k o u) n l out
  done_empty (events.Up n) out e = (up_empty members past core k o u) n e
  done_empty (events.Leave n) out e = (leave_empty members past core k o u) n e
  done_empty (events.AskToken n) out e = tame_keeps _ core (record { down = λ m d. d; writes = λ m e. e; reads = λ m e. e; copy = λ m e d. e; recovery = λ m e. e; set = λ m c. refl; need = λ m c. refl; drains = λ m p f. u.drained m (still_published core.sender n senders.TokenAsked refl m p) f }) u
  done_empty (events.AskMessage n) out e = tame_keeps _ core (record { down = λ m d. d; writes = λ m e. e; reads = λ m e. e; copy = λ m e d. e; recovery = λ m e. e; set = λ m c. refl; need = λ m c. refl; drains = λ m p f. u.drained m (still_published core.sender n senders.MessageAsked refl m p) f }) u
  done_empty (events.Offer n wish) out e = tame_keeps (offered core n wish) core (record { down = λ m d. d; writes = λ m e. e; reads = λ m e. e; copy = λ m e d. e; recovery = λ m e. e; set = λ m c. refl; need = λ m c. refl; drains = (drain_offered members past core k o u) n (Some (offer_of core n wish)) }) u
  done_empty (events.WriteSuper n l) out e = tame_keeps (super_written core n l) core (record { down = λ m d. d; writes = λ m e. e; reads = λ m e. e; copy = λ m e d. e; recovery = λ m e. e; set = λ m c. refl; need = λ m c. refl; drains = λ m p f. u.drained m p ((written_unclean members past core k o u) n l m f) }) u
  done_empty (events.Publish n) out e = publish_empty n (core.offer n) refl (publish_due n e)
  done_empty (events.FinishRound n) out e = finish_empty n e
  done_empty (events.Quit n) out e = (quit_empty members past core k o u) n e
  done_empty (events.Take n) out e = tame_keeps (take core n) core (record { down = λ m d. d; writes = λ m e. e; reads = λ m e. e; copy = λ m e d. e; recovery = λ m e. e; set = λ m c. refl; need = λ m c. refl; drains = u.drained }) u
  done_empty (events.Processed n) out e = processed_empty n
  done_empty (events.Resume n) out e = resume_empty n
  done_empty (events.DropMessage n) out e = tame_keeps (drop_message core n) core (record { down = λ m d. d; writes = λ m e. e; reads = λ m e. e; copy = λ m e d. e; recovery = λ m e. e; set = λ m c. refl; need = λ m c. refl; drains = u.drained }) u
  done_empty (events.AskWrite n s v) out e = own_keeps _ core n (write_own core n s v ((second_guard members past core k o u) n _ (by_guards (w_guards core n s) e))) ((row_up members past core k o u) n _ (by_guards (w_guards core n s) e)) u
  done_empty (events.WritePage n p l) out e = own_keeps _ core n (page_own core n p l) ((leg_up members past core k o u) n l _ (by_guards (bit_guards core n p l) e)) u
  done_empty (events.Out n w l) out e = own_keeps _ core n (out_own core n w l) ((leg_up members past core k o u) n l _ (by_guards (out_guards core n w l) e)) u
  done_empty (events.EndWrite n w) out e = own_keeps _ core n (ended_own core n w false) ((row_up members past core k o u) n _ (by_guards (ok_guards core n w) e)) u
  done_empty (events.BreakWrite n w) out e = own_keeps _ core n (ended_own core n w true) ((row_up members past core k o u) n _ (by_guards (break_guards core n w) e)) u
  done_empty (events.AskRead n s) out e = own_keeps _ core n (read_own core n s ((second_guard members past core k o u) n _ (by_guards (r_guards core n s) e))) ((row_up members past core k o u) n _ (by_guards (r_guards core n s) e)) u
  done_empty (events.In n w) out e = own_keeps _ core n (in_own core n w out) ((row_up members past core k o u) n _ (by_guards (in_guards core n w) e)) u
  done_empty (events.Clear n c) out e = own_keeps _ core n (clear_own core n c) ((row_up members past core k o u) n _ (by_guards (clear_guards core n c) e)) u
  done_empty (events.AskResync n) out e = own_keeps _ core n (ask_own core n) ((row_up members past core k o u) n _ (by_guards (resync_guards core n) e)) u
  done_empty (events.Gather n) out e = (gather_empty members past core k o u) n out
  done_empty (events.PassOwn n) out e = own_keeps _ core n (copy_own core n _) ((row_up members past core k o u) n _ (by_guards (pass_guards core n) e)) u
  done_empty (events.PassFull n) out e = own_keeps _ core n (copy_own core n _) ((row_up members past core k o u) n _ (by_guards (pass_guards core n) e)) u
  done_empty (events.PassAgain n l) out e = own_keeps _ core n (copy_own core n _) ((leg_up members past core k o u) n l _ (by_guards (pass_again_guards core n l) e)) u
  done_empty (events.CopyIn n) out e = own_keeps _ core n (copy_in_own core n out) ((row_up members past core k o u) n _ (by_guards (ci_guards core n) e)) u
  done_empty (events.CopyOut n l) out e = own_keeps _ core n (copy_out_own core n l) ((leg_up members past core k o u) n l _ (by_guards (co_guards core n l) e)) u
  done_empty (events.Settle n) out e = own_keeps _ core n (settle_own core n (buffer_of core n)) ((row_up members past core k o u) n _ (by_guards (settle_guards core n) e)) u
  done_empty (events.EndPass n) out e = own_keeps _ core n (end_own core n) ((row_up members past core k o u) n _ (by_guards (done_guards core n) e)) u
  done_empty (events.Recover n d) out e = own_keeps _ core n (recover_own core n d) ((row_up members past core k o u) n _ (by_guards (rec_guards core n d) e)) u
  done_empty (events.SlotIn n p l) out e = own_keeps _ core n (slot_in_own core n p l out) ((leg_up members past core k o u) n l _ (by_guards (slotin_guards core n p l) e)) u
  done_empty (events.SlotOut n p l) out e = own_keeps _ core n (cleared_own core n (core.recovery n) p l) ((leg_up members past core k o u) n l _ (by_guards (slotout_guards core n p l) e)) u
  done_empty (events.Recovered n) out e = own_keeps _ core n (recovered_own core n (core.recovery n)) ((row_up members past core k o u) n _ (by_guards (recovered_guards core n) e)) u
  done_empty (events.LockDevice n) out e = tame_keeps (lock_device core n) core (record { down = λ m d. d; writes = λ m e. e; reads = λ m e. e; copy = λ m e d. e; recovery = λ m e. e; set = λ m c. refl; need = λ m c. refl; drains = u.drained }) u

  tried_empty : (x : Event) → refusal core x ≡ None → UpOnly (tried core x)
  tried_empty (events.Out n w l) e = own_keeps _ core n (start_own core n w) ((leg_up members past core k o u) n l _ (by_guards (out_guards core n w l) e)) u
  tried_empty (events.WritePage n p l) e = tame_keeps _ core (record { down = λ m d. d; writes = λ m e. e; reads = λ m e. e; copy = λ m e d. e; recovery = λ m e. e; set = λ m j. marks_set core.bitmap n _ refl m j; need = λ m j. marks_need core.bitmap n _ refl m j; drains = u.drained }) u
  tried_empty (events.SlotOut n p l) e = by_recovery (core.recovery n)
    where
      by_recovery : (r : Option Recovering) → UpOnly (slot_failed core p l r)
      by_recovery None = u
      by_recovery (Some r) = tame_keeps _ core (record { down = λ m d. d; writes = λ m e. e; reads = λ m e. e; copy = λ m e d. e; recovery = λ m e. e; set = λ m j. marks_set core.bitmap r.slot _ refl m j; need = λ m j. marks_need core.bitmap r.slot _ refl m j; drains = u.drained }) u
  tried_empty x e = u

  failed_empty : (x : Event) → refusal core x ≡ None → UpOnly (request_failed (tried core x) x)
  failed_empty (events.Out n w l) e = own_keeps _ (start_write core n w) n (ended_own (start_write core n w) n w true) ((leg_up members past core k o u) n l _ (by_guards (out_guards core n w l) e)) (tried_empty (events.Out n w l) e)
  failed_empty (events.In n w) e = own_keeps _ core n (end_read_own core n w) ((row_up members past core k o u) n _ (by_guards (in_guards core n w) e)) u
  failed_empty x e = tried_empty x e

void_empty : (core : Core) (n : ℕ) (s : SenderPhase) → UpOnly core → UpOnly (voided core n s)
void_empty core n senders.Offered u = tame_keeps _ core (record { down = λ m d. d; writes = λ m e. e; reads = λ m e. e; copy = λ m e d. e; recovery = λ m e. e; set = λ m c. refl; need = λ m c. refl; drains = λ m p f. u.drained m (still_published core.sender n senders.MessageHeld refl m p) (unclean_still core.offer n m f) }) u
void_empty core n s u = u

miss_empty : (core : Core) (t : Option Transfer) → UpOnly core → UpOnly (after_miss core t)
miss_empty core None u = u
miss_empty core (Some t) u = void_empty core t.node (core.sender t.node) u

loss_empty : (core : Core) (t : Option Transfer) → UpOnly core → UpOnly (after_loss core t)
loss_empty core None u = u
loss_empty core (Some t) u = let p = void_empty core t.node (core.sender t.node) u in tame_keeps _ (voided core t.node (core.sender t.node)) (record { down = λ m d. d; writes = λ m e. e; reads = λ m e. e; copy = λ m e d. e; recovery = λ m e. e; set = λ m c. refl; need = λ m c. refl; drains = p.drained }) p

pub step_empty : (members : ℕ → Bool) (past : List rounds.Entry) (core : Core) → Kept members past core → OtherLocks core → UpOnly core → (x : Event) (out : Outcome) → refusal core x ≡ None → UpOnly (after core x out)
step_empty members past core k o u x (outcomes.Lost l) e = loss_empty (tried core x) (transfer_of core x) (tried_empty members past core k o u x e)
step_empty members past core k o u x (outcomes.Io l) e = failed_empty members past core k o u x e
step_empty members past core k o u x (outcomes.Unreached l) e = miss_empty core (transfer_of core x) u
step_empty members past core k o u x out e = done_empty members past core k o u x out e
