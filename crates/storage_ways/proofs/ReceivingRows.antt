-- The ways of a receiver: a message is processed, its round resumed or dropped.
use Rattle.std.proofs.Common.{◌≡◌, ℕ, ◌&&◌, Bool, true, false, not, if◌then◌else◌, ◌∷◌, Option, Some, None, refl, sym, ap, subst, ◌∙◌, arith}
use Rattle.dlm_modes.specs.Guards.{first_of, unless}
use Rattle.dlm_modes.specs.Points.{with_at}
use Rattle.mdc_types.specs.Roles.{role_of}
use Rattle.mdc_types.specs.declared.numbers.Range.{Range}
use Rattle.mdc_types.specs.declared.refusals.Refusal.TheVariants.{Draining, SenderGone, SenderLive, NotGranted}
use Rattle.mdc_types.specs.declared.resources.Res.TheVariants as resources
use Rattle.mdc_types.specs.declared.roles.Roles.{Roles}
use Rattle.mdc_types.specs.declared.roles.NodeState.{NodeState}
use Rattle.dlm_space.specs.Locks.{Lock, let_go}
use Rattle.cluster_msgs.specs.declared.msg.Body.{Body}
use Rattle.cluster_msgs.specs.declared.msg.Body.TheVariants as bodies
use Rattle.cluster_msgs.specs.declared.msg.Msg.{Msg}
use Rattle.msg_rounds.specs.Locks as round_locks
use Rattle.msg_rounds.specs.Locks.{message_res, message_processed}
use Rattle.msg_rounds.specs.Phases.{is_idle, has_published, may_receive}
use Rattle.msg_rounds.specs.Refusals.{is_taken, is_pr, may_resume}
use Rattle.msg_rounds.specs.declared.phases.SenderPhase.{SenderPhase}
use Rattle.msg_rounds.specs.declared.phases.ReceiverPhase.{ReceiverPhase}
use Rattle.msg_rounds.specs.declared.phases.ReceiverPhase.TheVariants as receivers
use Rattle.mirror_io.specs.Flight.{write_within}
use Rattle.leg_failure.specs.Views.{acknowledged}
use Rattle.cluster_model.specs.State.{Core, Offer}
use Rattle.cluster_model.specs.Changes.{no_new_dev}
use Rattle.cluster_model.specs.Phases.{is_up, is_metadata, receiver_is}
use Rattle.cluster_model.specs.Processing.{processed_guards, processed, do_message, do_body, draining_by, device_lock_kept, see_device}
use Rattle.cluster_model.specs.Publishing.{body_of, message_of}
use Rattle.cluster_model.specs.Receiving.{resume_guards, resume, receiver_idle, receiver_now, told_state, is_state_body, drop_guards, drop_message}
use Rattle.laws_locks.specs.Rounded.{has_token}
use Rattle.laws_sound.proofs.Guarded.{all_none, first_none, unless_none, refused_none, living}
use Rattle.laws_sound.proofs.RoundFacts.{no_offer, published_stands, is_taken_now, busy_receives, receives_silent}
use Rattle.laws_roles.proofs.Known.{state_body, state_role}
use Rattle.laws_roles.proofs.Parts.{body_role}
use Rattle.laws_roles.proofs.RoundRows.{eight_of}
use Rattle.storage_ways.proofs.Parts.{told_by}
use Rattle.storage_ways.proofs.Place.{Around, here, Place}
use Rattle.storage_ways.proofs.Blocks.{retold, told_high, told_device, told_processed, told_resumed}
use Rattle.storage_ways.proofs.RoundRows.{its_offer, none_within, only_one, is_ranging, ranging_body, range_wish}
use Rattle.storage_ways.proofs.Ways.{Way, Silent, Hearing, Resting, hears_roles, hears_range, hears, resumes, rests}

resumes_busy : (r : ReceiverPhase) → may_resume r ≡ true → is_idle r ≡ false
resumes_busy r e = grind arith

published_has : (s : SenderPhase) → has_published s ≡ true → has_token s ≡ true
published_has s e = grind arith

not_other : (b : Bool) → not b ≡ true → b ≡ false
not_other b e = grind arith

both_receive : (s : SenderPhase) → may_receive s ≡ true → has_published s ≡ true → ⊥
both_receive s e f = grind arith

-- who receives is up
up_when : (s : NodeState) (r : ReceiverPhase) → is_idle r ≡ false → (is_up s ≡ false → r ≡ receivers.Idle) → is_up s ≡ true
up_when s r busy f = by (is_up s) refl
  where
    by : (b : Bool) → is_up s ≡ b → b ≡ true
    by true e = refl
    by false e = let idle : is_idle r ≡ true = ap is_idle (f e) in cc

module _ (core : Core) (a : Around) (p : Place core a) where
  -- the message of a published offer, at a node that has taken it
  record Taking (n : ℕ) (m : Msg) : Type 0 where
    offer : Offer
    hearing : Hearing (here core a) n offer
    is : core.offer (core.receiver n).from ≡ Some offer
    says : m.body ≡ body_of core offer offer.wish

  taking : (n : ℕ) (m : Msg) → is_taken (core.receiver n).phase ≡ true → (core.receiver n).gone ≡ false → core.heard n ≡ Some m → Taking n m
  taking n m t gone e =
      let from = (core.receiver n).from in
      let phase = is_taken_now (core.receiver n).phase t in
      let busy : is_idle (core.receiver n).phase ≡ false = ap is_idle phase in
      let said = p.known.rounded.phased.calls n phase gone in
      let s = its_offer core a p from (published_stands (core.sender from) said) in
      let receives = busy_receives (core.sender n) (core.receiver n).phase busy (p.known.rounded.phased.sending n) in
      let both : Some m ≡ Some (message_of core from s.offer) = sym e ∙ p.known.read.taken n s.offer t gone s.is in
      let same : m ≡ message_of core from s.offer = cc in
      record {
        offer = s.offer;
        is = s.is;
        says = ap (λ (x : Msg). x.body) same;
        hearing = record {
          up = up_when (core.state n) (core.receiver n).phase busy (p.known.rounded.phased.still n);
          taken = t;
          other = λ self. both_receive (core.sender n) receives (subst (λ j. has_published (core.sender j) ≡ true) self said);
          published = said;
          offer = s.is;
          silent = no_offer (core.state n) (core.sender n) (core.offer n) (p.known.rounded.offering.offers n) (receives_silent (core.sender n) receives);
          only = only_one core a p from (published_has (core.sender from) said);
        };
      }

  -- Processing.

  record Processes (n : ℕ) : Type 0 where
    taken : is_taken (core.receiver n).phase ≡ true
    gone : (core.receiver n).gone ≡ false
    drained : first_of (draining_by core n (core.heard n)) ≡ None

  processes : (n : ℕ) → first_of (processed_guards core n) ≡ None → Processes n
  processes n ok =
      let first = receiver_is core n (is_taken (core.receiver n).phase) in
      let second = unless (not (core.receiver n).gone) (SenderGone (core.receiver n).from) in
      let l = living core n (first ∷ second ∷ draining_by core n (core.heard n)) p.known.rounded.numbered.nodes ok in
      let one = first_none first (second ∷ draining_by core n (core.heard n)) l.rest in
      let two = first_none second (draining_by core n (core.heard n)) one.1 in
      record { taken = unless_none _ _ one.0; gone = not_other (core.receiver n).gone (unless_none _ _ two.0); drained = two.1 }

  hear_roles : (n events size : ℕ) (roles : Roles) (m : Msg) (t : Taking n m) → is_state_body m.body ≡ true → ((l : ℕ) → role_of roles l ≡ body_role m.body l)
      → Way (here core a) (here (record (receiver_now (do_body core n (core.receiver n).from (bodies.Metadata events roles size)) n receivers.Waiting) { locks = message_processed (device_lock_kept core.locks n) n }) a)
  hear_roles n events size roles m t state role_is =
      let from = (core.receiver n).from in
      let meta : is_metadata t.offer.wish ≡ true = sym (state_body core t.offer t.offer.wish) ∙ sym (ap is_state_body t.says) ∙ state in
      retold (here core a) (record (receiver_now (do_body core n (core.receiver n).from (bodies.Metadata events roles size)) n receivers.Waiting) { locks = message_processed (device_lock_kept core.locks n) n }) a _
      (told_processed (device_lock_kept core.locks n) n ∙ told_device core.locks n)
      (hears_roles n roles size t.offer t.hearing meta (λ l. role_is l ∙ ap (λ b. body_role b l) t.says ∙ state_role core t.offer t.offer.wish l meta ∙ eight_of core p.known a.super a.ghost from t.offer t.is l))

  hear_range : (n : ℕ) (m : Msg) (t : Taking n m) (r : Range) → m.body ≡ bodies.Resyncing r → write_within r.lo r.hi (core.writes n) ≡ None
      → Way (here core a) (here (record (receiver_now (do_body core n (core.receiver n).from (bodies.Resyncing r)) n receivers.Waiting) { locks = message_processed core.locks n }) a)
  hear_range n m t r e none =
      retold (here core a) (record (receiver_now (do_body core n (core.receiver n).from (bodies.Resyncing r)) n receivers.Waiting) { locks = message_processed core.locks n }) a _
      (told_processed core.locks n)
      (hears_range n r t.offer t.hearing (range_wish core t.offer t.offer.wish r (sym t.says ∙ e)) (none_within core a p n r.lo r.hi none))

  hear_other : (n : ℕ) (m : Msg) (t : Taking n m) (locks : ℕ → Lock) → is_ranging m.body ≡ false → is_state_body m.body ≡ false → told_by locks ≡ told_by core.locks
      → Way (here core a) (here (record (receiver_now core n receivers.Waiting) { locks = locks }) a)
  hear_other n m t locks ranging state same =
      retold (here core a) (record (receiver_now core n receivers.Waiting) { locks = locks }) a _ same
      (hears n t.offer t.hearing (sym (ranging_body core t.offer t.offer.wish) ∙ sym (ap is_ranging t.says) ∙ ranging) (sym (state_body core t.offer t.offer.wish) ∙ sym (ap is_state_body t.says) ∙ state))

  seen_told : (n : ℕ) (b : Bool) → told_by (if b then device_lock_kept core.locks n else with_at core.locks no_new_dev (let_go (core.locks no_new_dev) n)) ≡ told_by core.locks
  seen_told n true = told_device core.locks n
  seen_told n false = told_high core.locks no_new_dev _ (omega arith)

  body_by : (n : ℕ) (m : Msg) (b : Body) → m.body ≡ b → Taking n m → first_of (draining_by core n (Some m)) ≡ None
      → Way (here core a) (here (record (receiver_now (do_body core n (core.receiver n).from b) n receivers.Waiting) { locks = message_processed (do_body core n (core.receiver n).from b).locks n }) a)
  body_by n m (bodies.Metadata events roles size) b t drained = hear_roles n events size roles m t (ap is_state_body b) (λ l. sym (ap (λ x. body_role x l) b))
  body_by n m (bodies.Capacity events roles size) b t drained = hear_roles n events size roles m t (ap is_state_body b) (λ l. sym (ap (λ x. body_role x l) b))
  body_by n m (bodies.Resyncing r) b t drained = hear_range n m t r b (within m.body b drained)
    where
      within : (x : Body) → x ≡ bodies.Resyncing r → first_of (draining_by core n (Some (record m { body = x }))) ≡ None → write_within r.lo r.hi (core.writes n) ≡ None
      within x e none =
          let here : first_of (draining_by core n (Some (record m { body = bodies.Resyncing r }))) ≡ None = subst (λ y. first_of (draining_by core n (Some (record m { body = y }))) ≡ None) e none in
          refused_none Draining (write_within r.lo r.hi (core.writes n)) (all_none (draining_by core n (Some (record m { body = bodies.Resyncing r }))) here).0
  body_by n m (bodies.NewDisk l uuid) b t drained = hear_other n m t (message_processed (see_device core n l).locks n) (ap is_ranging b) (ap is_state_body b) (told_processed (see_device core n l).locks n ∙ seen_told n (core.cut n l))
  body_by n m x b t drained = hear_other n m t (message_processed core.locks n) (ap is_ranging b) (ap is_state_body b) (told_processed core.locks n)

  message_by : (n : ℕ) (x : Option Msg) → core.heard n ≡ x → is_taken (core.receiver n).phase ≡ true → (core.receiver n).gone ≡ false → first_of (draining_by core n x) ≡ None
      → Way (here core a) (here (record (receiver_now (do_message core n x) n receivers.Waiting) { locks = message_processed (do_message core n x).locks n }) a)
  message_by n None e t gone drained =
      let from = (core.receiver n).from in
      let said = p.known.rounded.phased.calls n (is_taken_now (core.receiver n).phase t) gone in
      let s = its_offer core a p from (published_stands (core.sender from) said) in
      let both : None ≡ Some (message_of core from s.offer) = sym e ∙ p.known.read.taken n s.offer t gone s.is in absurd (cc)
  message_by n (Some m) e t gone drained = body_by n m m.body refl (taking n m t gone e) drained

  pub process_way : (n : ℕ) → first_of (processed_guards core n) ≡ None → Way (here core a) (here (processed core n) a)
  process_way n ok = let g = processes n ok in message_by n (core.heard n) refl g.taken g.gone g.drained

  -- Resuming.

  resume_by : (n : ℕ) (b : Bool) → Resting (here core a) n → Way (here core a) (here (record (receiver_idle (if b then record core { view = with_at core.view n (acknowledged (core.view n)) } else core) n) { locks = round_locks.resumed core.locks n }) a)
  resume_by n true rest = retold (here core a) (record (receiver_idle (record core { view = with_at core.view n (acknowledged (core.view n)) }) n) { locks = round_locks.resumed core.locks n }) a _ (told_resumed core.locks n) (resumes n rest)
  resume_by n false rest = retold (here core a) (record (receiver_idle core n) { locks = round_locks.resumed core.locks n }) a _ (told_resumed core.locks n) (rests n rest)

  pub resume_way : (n : ℕ) → first_of (resume_guards core n) ≡ None → Way (here core a) (here (resume core n) a)
  resume_way n ok =
      let g = (all_none (resume_guards core n) ok).1.1.1 in
      let busy = resumes_busy (core.receiver n).phase (unless_none (may_resume (core.receiver n).phase) _ g.0) in
      let pr = unless_none (is_pr ((core.locks message_res).held n)) (NotGranted resources.Message) g.1.0 in
      resume_by n (not (core.receiver n).gone && told_state (core.heard n)) (record { silent = p.known.heard.read n pr; up = up_when (core.state n) (core.receiver n).phase busy (p.known.rounded.phased.still n) })

  -- nobody has published while one has the message of a dead sender
  silent_dead : (n : ℕ) → is_idle (core.receiver n).phase ≡ false → (core.receiver n).gone ≡ true → Silent (here core a)
  silent_dead n busy gone m = by (has_published (core.sender m)) refl
    where
      by : (b : Bool) → has_published (core.sender m) ≡ b → b ≡ false
      by false e = refl
      by true e = let alive = p.known.heard.gone m n e busy in cc

  pub drop_way : (n : ℕ) → first_of (drop_guards core n) ≡ None → Way (here core a) (here (drop_message core n) a)
  drop_way n ok =
      let g = (all_none (drop_guards core n) ok).1.1.1 in
      let phase = is_taken_now (core.receiver n).phase (unless_none (is_taken (core.receiver n).phase) _ g.0) in
      let busy : is_idle (core.receiver n).phase ≡ false = ap is_idle phase in
      retold (here core a) (drop_message core n) a _ (told_high core.locks message_res _ (omega arith))
      (rests n (record { silent = silent_dead n busy (unless_none (core.receiver n).gone (SenderLive (core.receiver n).from) g.1.0); up = up_when (core.state n) (core.receiver n).phase busy (p.known.rounded.phased.still n) }))
