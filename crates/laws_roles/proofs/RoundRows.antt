-- The ways of a round: it is published, taken, processed, resumed and dropped.
use Rattle.std.proofs.Common.{◌≡◌, inl, inr, ℕ, ◌≤◌, ◌&&◌, Bool, true, false, not, if◌then◌else◌, List, ◌∷◌, Option, Some, None, refl, sym, ap, subst, ◌∙◌, arith}
use Rattle.std.specs.Prelude.{option_map}
use Rattle.std.proofs.lemmas.Bool.{cases_lt}
use Rattle.dlm_modes.proofs.FirstLaws.{first_such_none}
use Rattle.dlm_modes.specs.Guards.{first_of, unless}
use Rattle.dlm_modes.specs.Points.{with_at}
use Rattle.mdc_types.specs.Roles.{role_of, is_written}
use Rattle.mdc_types.specs.declared.events.Wish.{Wish}
use Rattle.mdc_types.specs.declared.events.Wish.TheVariants as wishes
use Rattle.mdc_types.specs.declared.refusals.Refusal.{Refusal}
use Rattle.mdc_types.specs.declared.refusals.Refusal.TheVariants.{NotUp, NotWritten, SenderGone, NotGranted}
use Rattle.mdc_types.specs.declared.resources.Res.TheVariants as resources
use Rattle.mdc_types.specs.declared.roles.Role.{Role}
use Rattle.mdc_types.specs.declared.roles.Role.TheVariants.{Spare}
use Rattle.mdc_types.specs.declared.roles.Roles.{Roles}
use Rattle.mdc_types.specs.declared.roles.NodeState.{NodeState}
use Rattle.mdc_types.specs.declared.roles.NodeState.TheVariants as states
use Rattle.cluster_msgs.specs.declared.msg.Body.{Body}
use Rattle.cluster_msgs.specs.declared.msg.Body.TheVariants as bodies
use Rattle.cluster_msgs.specs.declared.msg.Msg.{Msg}
use Rattle.md_superblock.specs.Arrays.{Says}
use Rattle.msg_rounds.specs.Locks.{message_res, message_processed, finished}
use Rattle.msg_rounds.specs.Phases.{Receiving, is_idle, has_published, has_processed}
use Rattle.msg_rounds.specs.Refusals.{is_offered, is_taken, is_pr, may_resume}
use Rattle.msg_rounds.specs.declared.phases.SenderPhase.{SenderPhase}
use Rattle.msg_rounds.specs.declared.phases.SenderPhase.TheVariants as senders
use Rattle.msg_rounds.specs.declared.phases.ReceiverPhase.{ReceiverPhase}
use Rattle.msg_rounds.specs.declared.phases.ReceiverPhase.TheVariants as receivers
use Rattle.leg_failure.specs.Views.{acknowledged}
use Rattle.cluster_model.specs.State.{Core, Offer, sizes}
use Rattle.cluster_model.specs.Guards.{is_out, no_node, not_fenced, of_live}
use Rattle.cluster_model.specs.Phases.{is_up, is_metadata, sender_is, receiver_is}
use Rattle.cluster_model.specs.Publishing.{publish_guards, offer_is_due, wish_is_due, unwritten_leg, publish, publish_offer, publish_wish, block_of, message_of}
use Rattle.cluster_model.specs.Changes.{sender_now, device_unlocked, window_closed}
use Rattle.resync_worker.specs.Copying.{Passing, restarted}
use Rattle.cluster_model.specs.Receiving.{take_guards, take, called_by, published_message, resume_guards, resume, receiver_idle, receiver_now, told_state, is_state_body, drop_guards, drop_message}
use Rattle.cluster_model.specs.Processing.{processed_guards, processed, do_message, do_body, draining_by}
use Rattle.laws_locks.specs.Rounded.{stands}
use Rattle.laws_sound.proofs.Guarded.{all_none, first_none, unless_none, refused_none}
use Rattle.laws_sound.proofs.RoundFacts.{Standing, standing, no_offer, offered_stands, published_stands, is_taken_now, busy_receives, receives_silent}
use Rattle.msg_rounds.specs.Locks as round_locks
use Rattle.laws_roles.proofs.Parts.{Part, Ghost, part_of, waits, changes_super, offered_role, offered_size, is_written_to, heard_role, heard_size, body_role, body_size, covered_by}
use Rattle.laws_roles.proofs.Ways.{Way, Ways, one, more, publishes, takes, hears, passes, resumes, rests, copies, Hearing, AreEight}
use Rattle.laws_roles.proofs.Known.{Known, state_body, state_role, state_size, are_eight}

after_live : (core : Core) (n : ℕ) (gs : List (Option Refusal)) → first_of (of_live core n gs) ≡ None → first_of gs ≡ None
after_live core n gs e =
    (first_none (unless (not (is_out (core.state n))) (NotUp n)) gs
    (first_none (not_fenced core n) (unless (not (is_out (core.state n))) (NotUp n) ∷ gs)
    (first_none (no_node core n) (not_fenced core n ∷ unless (not (is_out (core.state n))) (NotUp n) ∷ gs) e).1).1).1

due_leg : (core : Core) (n : ℕ) (o : Offer) (w : Wish) → is_metadata w ≡ true → first_of (wish_is_due core n o w) ≡ None → unwritten_leg o ≡ None
due_leg core n o wishes.Meta m e = refused_none NotWritten (unwritten_leg o) (all_none (wish_is_due core n o wishes.Meta) e).0
due_leg core n o (wishes.Spare l) m e = refused_none NotWritten (unwritten_leg o) (all_none (wish_is_due core n o (wishes.Spare l)) e).0
due_leg core n o (wishes.Rebuild l) m e = refused_none NotWritten (unwritten_leg o) (all_none (wish_is_due core n o (wishes.Rebuild l)) e).0
due_leg core n o (wishes.Work l) m e = refused_none NotWritten (unwritten_leg o) (all_none (wish_is_due core n o (wishes.Work l)) e).0
due_leg core n o (wishes.Grow z) m e = refused_none NotWritten (unwritten_leg o) (all_none (wish_is_due core n o (wishes.Grow z)) e).0
due_leg core n o w m e = cc

written_there : (a b : Bool) → (a && not b) ≡ false → a ≡ true → b ≡ true
written_there a b e h = grind arith

spare_unwritten : (r : Role) → r ≡ Spare → is_written r ≡ true → ⊥
spare_unwritten r e w = cc

leg_written : (o : Offer) (legs l : ℕ) → ((j : ℕ) → legs ≤ j → o.role j ≡ Spare) → legs ≤ 8 → unwritten_leg o ≡ None → is_written (o.role l) ≡ true → o.written l ≡ true
leg_written o legs l spare le all e = elim (cases_lt l 8) [
  | inl lt ↦ written_there (is_written (o.role l)) (o.written l) (first_such_none (λ j. is_written (o.role j) && not (o.written j)) 0 8 all l (omega arith) (omega (arith, lt))) e
  | inr past ↦ absurd (spare_unwritten (o.role l) (spare l (omega (arith, past, le))) e)
]

processed_now : (r : ReceiverPhase) → may_resume r ≡ true → has_processed r ≡ true
processed_now receivers.Waiting e = refl
processed_now receivers.Ready e = refl
processed_now r e = cc

late_now : (r : Receiving) (heard : Option Msg) (s : SenderPhase) → has_processed r.phase ≡ true → (not r.gone && told_state heard) ≡ true → has_published s ≡ false → waits r heard s ≡ true
late_now r heard s did told silent = grind arith

not_late : (r : Receiving) (heard : Option Msg) (s : SenderPhase) → (not r.gone && told_state heard) ≡ false → waits r heard s ≡ false
not_late r heard s other = grind arith

taken_not_late : (r : Receiving) (heard : Option Msg) (s : SenderPhase) → r.phase ≡ receivers.Taken → waits r heard s ≡ false
taken_not_late r heard s e = grind arith

-- who receives is up
up_when : (s : NodeState) (r : ReceiverPhase) → r ≡ receivers.Taken → (is_up s ≡ false → r ≡ receivers.Idle) → is_up s ≡ true
up_when states.Up r e f = refl
up_when s r e f = let both : receivers.Taken ≡ receivers.Idle = sym e ∙ f refl in cc

closed_covers : (p : Option Passing) (l : ℕ) → covered_by (option_map restarted p) l ≡ true → covered_by p l ≡ true
closed_covers None l e = e
closed_covers (Some p) l e = e

not_gone : (b : Bool) → not b ≡ true → b ≡ false
not_gone b e = grind arith

module _ (core : Core) (k : Known core) (sup : ℕ → Option Says) (g : Ghost) where
  abbrev pub Here : Part
  Here = part_of core sup g

  pub its_offer : (n : ℕ) → stands (core.sender n) ≡ true → Standing (core.state n) (core.offer n)
  its_offer n up = standing (core.state n) (core.sender n) (core.offer n) (k.rounded.offering.offers n) up

  pub eight_of : (n : ℕ) (o : Offer) → core.offer n ≡ Some o → AreEight o.role
  eight_of n o is = are_eight (sizes core) o.role k.range.legs.sizes_fit (k.range.legs.offers n o is).roles

  -- Publishing.

  due : (n : ℕ) (o : Offer) → core.offer n ≡ Some o → first_of (wish_is_due core n o o.wish) ≡ None
      → changes_super (core.offer n) ≡ true → (l : ℕ) → is_written (offered_role (core.offer n) l) ≡ true → is_written_to (core.offer n) l ≡ true
  due n o is ok meta l e =
      let f = k.range.legs.offers n o is in
      let all = due_leg core n o o.wish (sym (ap changes_super is) ∙ meta) ok in
      subst (λ x. is_written_to x l ≡ true) (sym is)
      (leg_written o (sizes core).legs l f.roles k.range.legs.sizes_fit.legs.1 all (subst (λ x. is_written (offered_role x l) ≡ true) is e))

  publish_by : (n : ℕ) (o : Offer) (w : Wish) → Way Here (record Here { sender = with_at core.sender n senders.Published })
      → Ways Here (part_of (publish_wish (record (sender_now core n senders.Published) { locks = device_unlocked (round_locks.published core.locks n (block_of core n o)) n }) n w) sup g)
  publish_by n o (wishes.Range r) x = more (one x) (copies n (window_closed (core.copy n)) (λ l e. closed_covers (core.copy n).pass l e))
  publish_by n o w x = one x

  pub publish_way : (n : ℕ) → first_of (publish_guards core n) ≡ None → Ways Here (part_of (publish core n) sup g)
  publish_way n ok =
      let first = sender_is core n (is_offered (core.sender n)) in
      let one = first_none first (offer_is_due core n (core.offer n)) (after_live core n (first ∷ offer_is_due core n (core.offer n)) ok) in
      let up = offered_stands (core.sender n) (unless_none (is_offered (core.sender n)) _ one.0) in
      let s = its_offer n up.0 in
      let calm : (m : ℕ) → is_idle (core.receiver m).phase ≡ true = λ m. ap is_idle (k.rounded.phased.calm n m up.1) in
      subst (λ x. Ways Here (part_of (publish_offer core n x) sup g)) (sym s.is)
      (publish_by n s.offer s.offer.wish (publishes n calm (due n s.offer s.is (subst (λ x. first_of (offer_is_due core n x) ≡ None) s.is one.1))))

  -- Receiving.

  pub take_way : (n : ℕ) → first_of (take_guards core n) ≡ None → Ways Here (part_of (take core n) sup g)
  take_way n ok = one (takes n (called_by core n) (published_message core) (unless_none (is_idle (core.receiver n).phase) _ (all_none (take_guards core n) ok).1.1.1.1.0))

  -- the message is that of the sender's standing offer
  hearing : (n events size : ℕ) (roles : Roles) (m : Msg) → is_taken (core.receiver n).phase ≡ true → (core.receiver n).gone ≡ false → core.heard n ≡ Some m
      → is_state_body m.body ≡ true → ((l : ℕ) → role_of roles l ≡ body_role m.body l) → size ≡ body_size m.body → Hearing Here n (role_of roles) size
  hearing n events size roles m t gone e state role_is size_is =
      let from = (core.receiver n).from in
      let said = k.rounded.phased.calls n (is_taken_now (core.receiver n).phase t) gone in
      let s = its_offer from (published_stands (core.sender from) said) in
      let phase = is_taken_now (core.receiver n).phase t in
      let receives = busy_receives (core.sender n) (core.receiver n).phase (ap is_idle phase) (k.rounded.phased.sending n) in
      let both : Some m ≡ Some (message_of core from s.offer) = sym e ∙ k.read.taken n s.offer t gone s.is in
      let same : m ≡ message_of core from s.offer = cc in
      let meta : is_metadata s.offer.wish ≡ true = sym (state_body core s.offer s.offer.wish) ∙ sym (ap (λ (x : Msg). is_state_body x.body) same) ∙ state in
      record {
        says_role = λ l. role_is l ∙ sym (ap (λ x. heard_role x l) e);
        says_size = size_is ∙ sym (ap heard_size e);
        offer = ap changes_super s.is ∙ meta;
        offered = λ l. role_is l ∙ ap (λ (x : Msg). body_role x.body l) same ∙ state_role core s.offer s.offer.wish l meta ∙ eight_of from s.offer s.is l ∙ sym (ap (λ x. offered_role x l) s.is);
        offered_size = size_is ∙ ap (λ (x : Msg). body_size x.body) same ∙ state_size core s.offer s.offer.wish meta ∙ sym (ap offered_size s.is);
        published = said;
        up = up_when (core.state n) (core.receiver n).phase phase (k.rounded.phased.still n);
        silent = no_offer (core.state n) (core.sender n) (core.offer n) (k.rounded.offering.offers n) (receives_silent (core.sender n) receives);
      }

  body_by : (n : ℕ) (m : Msg) (b : Body) → m.body ≡ b → is_taken (core.receiver n).phase ≡ true → (core.receiver n).gone ≡ false → core.heard n ≡ Some m
      → Ways Here (part_of (record (receiver_now (do_body core n (core.receiver n).from b) n receivers.Waiting) { locks = message_processed (do_body core n (core.receiver n).from b).locks n }) sup g)
  body_by n m (bodies.Metadata events roles size) b t gone e = one (hears n roles size (hearing n events size roles m t gone e (ap is_state_body b) (λ l. sym (ap (λ x. body_role x l) b)) (sym (ap body_size b))))
  body_by n m (bodies.Capacity events roles size) b t gone e = one (hears n roles size (hearing n events size roles m t gone e (ap is_state_body b) (λ l. sym (ap (λ x. body_role x l) b)) (sym (ap body_size b))))
  body_by n m x b t gone e = one (passes n (ap told_state e ∙ ap is_state_body b))

  message_by : (n : ℕ) (x : Option Msg) → core.heard n ≡ x → is_taken (core.receiver n).phase ≡ true → (core.receiver n).gone ≡ false
      → Ways Here (part_of (record (receiver_now (do_message core n x) n receivers.Waiting) { locks = message_processed (do_message core n x).locks n }) sup g)
  message_by n None e t gone = one (passes n (ap told_state e))
  message_by n (Some m) e t gone = body_by n m m.body refl t gone e

  pub process_way : (n : ℕ) → first_of (processed_guards core n) ≡ None → Ways Here (part_of (processed core n) sup g)
  process_way n ok =
      let first = receiver_is core n (is_taken (core.receiver n).phase) in
      let second = unless (not (core.receiver n).gone) (SenderGone (core.receiver n).from) in
      let one = first_none first (second ∷ draining_by core n (core.heard n)) (after_live core n (first ∷ second ∷ draining_by core n (core.heard n)) ok) in
      let two = first_none second (draining_by core n (core.heard n)) one.1 in
      message_by n (core.heard n) refl (unless_none _ _ one.0) (not_gone (core.receiver n).gone (unless_none _ _ two.0))

  resume_by : (n : ℕ) (b : Bool) → (not (core.receiver n).gone && told_state (core.heard n)) ≡ b → has_processed (core.receiver n).phase ≡ true → has_published (core.sender (core.receiver n).from) ≡ false
      → Ways Here (part_of (record (receiver_idle (if b then record core { view = with_at core.view n (acknowledged (core.view n)) } else core) n) { locks = round_locks.resumed core.locks n }) sup g)
  resume_by n true e did silent = one (resumes n (late_now (core.receiver n) (core.heard n) (core.sender (core.receiver n).from) did e silent))
  resume_by n false e did silent = one (rests n (not_late (core.receiver n) (core.heard n) (core.sender (core.receiver n).from) e))

  pub resume_way : (n : ℕ) → first_of (resume_guards core n) ≡ None → Ways Here (part_of (resume core n) sup g)
  resume_way n ok =
      let a = (all_none (resume_guards core n) ok).1.1.1 in
      let did = processed_now (core.receiver n).phase (unless_none (may_resume (core.receiver n).phase) _ a.0) in
      let pr = unless_none (is_pr ((core.locks message_res).held n)) (NotGranted resources.Message) a.1.0 in
      resume_by n (not (core.receiver n).gone && told_state (core.heard n)) refl did (k.heard.read n pr (core.receiver n).from)

  pub drop_way : (n : ℕ) → first_of (drop_guards core n) ≡ None → Ways Here (part_of (drop_message core n) sup g)
  drop_way n ok =
      let a = (all_none (drop_guards core n) ok).1.1.1 in
      one (rests n (taken_not_late (core.receiver n) (core.heard n) (core.sender (core.receiver n).from) (is_taken_now (core.receiver n).phase (unless_none (is_taken (core.receiver n).phase) _ a.0))))
