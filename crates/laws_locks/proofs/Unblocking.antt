-- That no call which a row makes at once is refused.
use Rattle.std.proofs.Common.{◌≡◌, ◌≢◌, ◌<◌, ◌⊎◌, inl, inr, subst, ℕ, Bool, true, false, not, List, [], Option, Some, None, refl, sym, ap, ◌∙◌, arith, ◌==◌, ◌&&◌, ◌||◌}
use Rattle.std.specs.Prelude.{is_none, is_some}
use Rattle.std.proofs.lemmas.Bool.Decides.{nat_tests}
use Rattle.dlm_modes.specs.declared.mode.Mode.{Mode}
use Rattle.dlm_modes.specs.declared.mode.Mode.TheVariants.{CR, PW, EX}
use Rattle.dlm_space.specs.Queues.{asks_of, head, ask_for}
use Rattle.dlm_space.specs.declared.ask.Ask.{Ask}
use Rattle.dlm_space.specs.Locks.{Lock, blocker, caller, ask_now_refusal, convert_refusal, convert_now_refusal, grant_refusal}
use Rattle.mdc_types.specs.declared.resources.Res.{Res}
use Rattle.mdc_types.specs.declared.resources.Res.TheVariants as resources
use Rattle.dlm_space.specs.Orderly.{agree}
use Rattle.mdc_types.specs.declared.events.Event.TheVariants as events
use Rattle.mdc_types.specs.declared.refusals.Refusal.TheVariants.{Blocked}
use Rattle.mdc_types.specs.declared.roles.NodeState.{NodeState}
use Rattle.mdc_types.specs.declared.roles.NodeState.TheVariants as states
use Rattle.msg_rounds.specs.Holds.{receives_by_ack, sends_by_ack, sends_by_message, ack_conversion}
use Rattle.msg_rounds.specs.Holds.{MayTake, MayResume}
use Rattle.msg_rounds.specs.Locks.{token_res, message_res, ack_res}
use Rattle.msg_rounds.specs.Phases.{is_idle, may_receive}
use Rattle.msg_rounds.specs.Refusals.{is_ex, is_token_held, is_message_held, is_offered, is_taken, is_pr, may_resume}
use Rattle.msg_rounds.specs.declared.phases.SenderPhase.{SenderPhase}
use Rattle.msg_rounds.specs.declared.phases.ReceiverPhase.{ReceiverPhase}
use Rattle.msg_rounds.specs.declared.phases.ReceiverPhase.TheVariants as receivers
use Rattle.laws_rounds.specs.Machine as rounds
use Rattle.laws_rounds.specs.News.{news_at, heads}
use Rattle.laws_rounds.specs.Sound.{SoundAt}
use Rattle.laws_rounds.proofs.Tells.{message_head, PrHead, MessageHead}
use Rattle.laws_rounds.proofs.Follows.{reached_sound, reached_tells, may_take, may_resume as resume_holds}
use Rattle.cluster_model.specs.State.{Core, Held}
use Rattle.cluster_model.specs.Guards.{refused_by, no_node, not_fenced, is_out}
use Rattle.cluster_model.specs.Phases.{is_up, is_joining, is_held, copy_word, recovery_word, is_none as is_none_word}
use Rattle.cluster_model.specs.Changes.{no_new_dev}
use Rattle.cluster_model.specs.Granting.{asker, not_grantable}
use Rattle.cluster_model.specs.Rounds.{is_announced}
use Rattle.cluster_model.specs.Table.{refusal}
use Rattle.laws_locks.specs.Following.{rounds_at}
use Rattle.laws_locks.specs.Rounded.{has_token, Rounded}
use Rattle.laws_locks.specs.Others.{recovers, writes_slot, device_fits, OtherLocks}
use Rattle.laws_locks.specs.Unblocked.{Unblocked, served, news_refusal, message_news}
use Rattle.laws_locks.proofs.Guarded.{first_none, tested, refused_none, a_node, living}
use Rattle.laws_locks.proofs.Told.{joining_is, token_is}
use Rattle.laws_locks.proofs.Keeping.{Kept, inv_at}
use Rattle.laws_locks.proofs.Granting.{grantable, grant_guard}
use Rattle.laws_locks.proofs.Facts.{rounded}
use Rattle.laws_locks.proofs.Words.{turn_held_is, no_recovery}
use Rattle.laws_locks.proofs.Holders.{others_agree, nobody_blocks}
use Rattle.laws_locks.proofs.OtherRounds.{others_cr, all_cr}
use Rattle.laws_locks.proofs.Turns.{one_turn}

pub may_ask_now : (lock : Lock) (n : ℕ) (mode : Mode) → lock.held n ≡ None → asks_of n lock.requests ≡ [] → ((m : ℕ) → m ≢ n → agree (Some mode) (lock.held m) ≡ true) → ask_now_refusal lock n mode ≡ None
may_ask_now lock n mode h q free = rw h (rw q (rw (nobody_blocks lock n mode free) refl))

pub may_convert : (lock : Lock) (n : ℕ) → is_some (lock.held n) ≡ true → asks_of n lock.conversions ≡ [] → convert_refusal lock n ≡ None
may_convert lock n h q = rw h (rw q refl)

may_convert_now : (lock : Lock) (n : ℕ) (mode : Mode) → is_some (lock.held n) ≡ true → asks_of n lock.conversions ≡ [] → ((m : ℕ) → m ≢ n → agree (Some mode) (lock.held m) ≡ true) → convert_now_refusal lock n mode ≡ None
may_convert_now lock n mode h q free = rw h (rw q (rw (nobody_blocks lock n mode free) refl))

-- nobody has the slot
no_slot : (held : ℕ → Option Mode) (live : ℕ → Bool) (has : ℕ → Bool) (k m : ℕ) → held m ≡ writes_slot (((m == k) && live m) || has m) → live k ≡ false → has m ≡ false → held m ≡ None
no_slot held live has k m h l e = grind (arith, nat_tests)

agree_none : (mode : Mode) (held : Option Mode) → held ≡ None → agree (Some mode) held ≡ true
agree_none mode held e = grind arith

agree_cr : (held : Option Mode) → held ≢ Some EX → agree (Some CR) held ≡ true
agree_cr held ne = grind arith

none_is : (held : Option Mode) → is_none held ≡ true → held ≡ None
none_is held e = grind arith

ex_some : (held : Option Mode) → is_ex held ≡ true → is_some held ≡ true
ex_some held e = grind arith

not_false : (b : Bool) → not b ≡ true → b ≡ false
not_false b e = grind arith

no_both : (b : Bool) → b ≡ true → b ≡ false → ⊥
no_both b e f = grind arith

offered_sends : (s : SenderPhase) → is_offered s ≡ true → may_receive s ≡ false
offered_sends s e = grind arith

offered_message : (s : SenderPhase) (held : Option Mode) → is_offered s ≡ true → sends_by_message s held ≡ true → is_some held ≡ true
offered_message s held e f = grind arith

offered_ack : (s : SenderPhase) (held : Option Mode) → is_offered s ≡ true → sends_by_ack s held ≡ true → is_some held ≡ true
offered_ack s held e f = grind arith

offered_asks : (s : SenderPhase) (held : Option Mode) → is_offered s ≡ true → ack_conversion s held ≡ []
offered_asks s held e = grind arith

out_is : (live : Bool) (s : NodeState) → live ≡ not (is_out s) → s ≡ states.Out → live ≡ false
out_is live s e f = grind arith

loaded_none : (s : NodeState) (sender : SenderPhase) (held : Option Mode) → device_fits s sender held ≡ true → s ≡ states.Joining → held ≡ None
loaded_none s sender held f e = grind arith

far_none : (s : NodeState) (sender : SenderPhase) (held : Option Mode) → device_fits s sender held ≡ true → s ≡ states.Out → held ≡ None
far_none s sender held f e = grind arith

waits_ack : (r : ReceiverPhase) (held : Option Mode) → is_idle r ≡ false → receives_by_ack r held ≡ true → (r ≡ receivers.Taken → ⊥) → held ≡ None
waits_ack receivers.Idle held i e n = cc
waits_ack receivers.Taken held i e n = absurd (n refl)
waits_ack receivers.Waiting held i e n = none_is held e
waits_ack receivers.Ready held i e n = none_is held e

resume_phase : (r : ReceiverPhase) → may_resume r ≡ true → (is_idle r ≡ false) × (r ≡ receivers.Taken → ⊥)
resume_phase r e = (not_idle r e, λ t. taken_not r e t)
  where
    not_idle : (r : ReceiverPhase) → may_resume r ≡ true → is_idle r ≡ false
    not_idle r e = grind arith

    taken_not : (r : ReceiverPhase) → may_resume r ≡ true → r ≡ receivers.Taken → ⊥
    taken_not r e t = grind arith

module _ (members : ℕ → Bool) (past : List rounds.Entry) (core : Core) (k : Kept members past core) (o : OtherLocks core) where
  r : Rounded core
  r = rounded members past core k

  sound : SoundAt (rounds_at core) members past
  sound = reached_sound members past (rounds_at core) k.follows.reaches

  -- nobody recovers a slot that isn't pending
  not_recovered : (d m : ℕ) → core.members.pending d ≡ false → recovers (core.recovery m) d ≡ false
  not_recovered d m p = by_test (recovers (core.recovery m) d) refl
    where
      by_test : (b : Bool) → recovers (core.recovery m) d ≡ b → b ≡ false
      by_test false e = refl
      by_test true e = absurd (no_both _ (o.recoveries.pending m d e) p)

  -- nobody recovers, but who has the turn
  only_one : (n d m : ℕ) → (core.copy n).turn ≡ Held → core.recovery n ≡ None → recovers (core.recovery m) d ≡ false
  only_one n d m t none = by_test (recovers (core.recovery m) d) refl
    where
      by_test : (b : Bool) → recovers (core.recovery m) d ≡ b → b ≡ false
      by_test false e = refl
      by_test true e =
          let same = one_turn core m n o.resync (o.recoveries.turn m d e) t in
          sym e ∙ ap (λ j. recovers (core.recovery j) d) same ∙ ap (λ x. recovers x d) none

  free_slot : (n d : ℕ) → d < 16 → core.members.live d ≡ false → ((m : ℕ) → recovers (core.recovery m) d ≡ false) → ask_now_refusal (core.locks d) n PW ≡ None
  free_slot n d lt l none =
      let nobody : (m : ℕ) → (core.locks d).held m ≡ None = λ m. no_slot (core.locks d).held core.members.live (λ j. recovers (core.recovery j) d) d m (o.slots.held m d lt) l (none m) in
      may_ask_now (core.locks d) n PW (nobody n) (ap (asks_of n) (o.slots.requests d lt)) (λ m ne. agree_none PW _ (nobody m))

  join_free : (n : ℕ) → refusal core (events.Join n) ≡ None → ask_now_refusal (core.locks n) n PW ≡ None
  join_free n e =
      let a = first_none (no_node core n) _ e in
      let b = first_none (not_fenced core n) _ a.1 in
      let c = tested (not (core.members.live n)) _ _ b.1 in
      let d = tested (not (core.members.pending n)) _ _ c.1 in
      free_slot n n (a_node core n k.nodes a.0) (not_false _ c.0) (λ m. not_recovered n m (not_false _ d.0))

  recover_free : (n d : ℕ) → refusal core (events.Recover n d) ≡ None → ask_now_refusal (core.locks d) n PW ≡ None
  recover_free n d e =
      let l = living core n _ k.nodes e in
      let a = tested (is_up (core.state n)) _ _ l.rest in
      let b = tested (is_held (copy_word (core.copy n))) _ _ a.1 in
      let c = tested (is_none_word (recovery_word (core.recovery n))) _ _ b.1 in
      let g = first_none (no_node core d) _ c.1 in
      let h = tested (core.members.pending d) _ _ g.1 in
      free_slot n d (a_node core d k.nodes g.0) (out_is _ _ (k.live d) (o.recoveries.out d h.0)) (λ m. only_one n d m (turn_held_is _ _ _ b.0) (no_recovery _ c.0))

  up_free : (n : ℕ) → refusal core (events.Up n) ≡ None → (ask_now_refusal (core.locks ack_res) n CR ≡ None) × (ask_now_refusal (core.locks no_new_dev) n CR ≡ None)
  up_free n e =
      let l = living core n _ k.nodes e in
      let a = tested (is_joining (core.state n)) _ _ l.rest in
      let b = tested (is_token_held (core.sender n)) _ _ a.1 in
      let m = sound.may_come_in n (joining_is _ a.0, token_is _ b.0) in (
        may_ask_now (core.locks ack_res) n CR m.free.0 m.free.1 (λ j ne. agree_cr _ (m.takeable j ne)),
        may_ask_now (core.locks no_new_dev) n CR (loaded_none _ _ _ (o.device.fits n) (joining_is _ a.0)) (ap (asks_of n) o.device.requests) (others_cr members past core k o n (held_token _ b.0)),
      )
    where
      held_token : (s : SenderPhase) → is_token_held s ≡ true → has_token s ≡ true
      held_token s e = grind arith

  takes : (n : ℕ) → refusal core (events.Take n) ≡ None → MayTake core.locks n
  takes n e =
      let l = living core n _ k.nodes e in
      let a = tested (is_up (core.state n)) _ _ l.rest in
      let b = tested (is_idle (core.receiver n).phase) _ _ a.1 in
      let c = tested (is_some (caller (core.locks ack_res) n)) _ _ b.1 in
      may_take core.locks n (sound.may_take n (rw b.0 (rw c.0 refl)))

  take_free : (n : ℕ) → refusal core (events.Take n) ≡ None → ask_now_refusal (core.locks message_res) n CR ≡ None
  take_free n e =
      let m = takes n e in
      may_ask_now (core.locks message_res) n CR m.free.0 m.free.1 (λ j ne. agree_cr _ (m.readable j ne))

  resumes : (n : ℕ) → refusal core (events.Resume n) ≡ None → MayResume core.locks n
  resumes n e =
      let l = living core n _ k.nodes e in
      let a = tested (may_resume (core.receiver n).phase) _ _ l.rest in
      let b = tested (is_pr ((core.locks message_res).held n)) _ _ a.1 in
      resume_holds core.locks n (sound.may_resume n (rw a.0 (rw b.0 refl)))

  resume_free : (n : ℕ) → refusal core (events.Resume n) ≡ None → ask_now_refusal (core.locks ack_res) n CR ≡ None
  resume_free n e =
      let l = living core n _ k.nodes e in
      let a = tested (may_resume (core.receiver n).phase) _ _ l.rest in
      let m = resumes n e in
      let p = resume_phase _ a.0 in
      let h = (sound.holds n).receiver in
      may_ask_now (core.locks ack_res) n CR (waits_ack _ _ p.0 (h.ack p.0) p.1) (h.ack_requests p.0) (λ j ne. agree_cr _ (m.takeable j ne))

  processed_free : (n : ℕ) → refusal core (events.Processed n) ≡ None → is_none ((core.locks no_new_dev).held n) ≡ true → ask_now_refusal (core.locks no_new_dev) n CR ≡ None
  processed_free n e none =
      let l = living core n _ k.nodes e in
      let a = tested (is_taken (core.receiver n).phase) _ _ l.rest in
      let b = tested (not (core.receiver n).gone) _ _ a.1 in
      may_ask_now (core.locks no_new_dev) n CR (none_is _ none) (ap (asks_of n) o.device.requests) (λ m ne. all_cr members past core k o (core.receiver n).from (r.phased.calls n (taken_phase _ a.0) (not_false _ b.0)) m)
    where
      taken_phase : (x : ReceiverPhase) → is_taken x ≡ true → x ≡ receivers.Taken
      taken_phase x e = grind arith

  lock_others : (n : ℕ) → refusal core (events.LockDevice n) ≡ None → (m : ℕ) → m ≢ n → agree (Some EX) ((core.locks no_new_dev).held m) ≡ true
  lock_others n e =
      let l = living core n _ k.nodes e in
      let a = tested (is_up (core.state n)) _ _ l.rest in
      let b = tested (is_token_held (core.sender n) || is_message_held (core.sender n)) _ _ a.1 in
      let c = tested (is_announced (core.adding n).addition) _ _ b.1 in
      let d = first_none (refused_by Blocked (blocker (core.locks no_new_dev) n EX)) [] c.1 in
      others_agree (core.locks no_new_dev) n EX (λ m far. far_none _ _ _ (o.device.fits m) (r.numbered.beyond m far)) (refused_none _ _ d.0)

  publish_free : (n : ℕ) → refusal core (events.Publish n) ≡ None → (convert_refusal (core.locks message_res) n ≡ None) × (convert_refusal (core.locks ack_res) n ≡ None) × (convert_refusal (core.locks n) n ≡ None)
  publish_free n e =
      let l = living core n _ k.nodes e in
      let a = tested (is_offered (core.sender n)) _ _ l.rest in
      let h = (sound.holds n).sender in
      let s = offered_sends _ a.0 in (
        may_convert (core.locks message_res) n (offered_message _ _ a.0 (h.message s)) (h.message_conversions s),
        may_convert (core.locks ack_res) n (offered_ack _ _ a.0 (h.ack s)) (h.ack_conversions s ∙ offered_asks _ _ a.0),
        may_convert (core.locks n) n (own_slot _ _ n _ (o.slots.held n n l.node) (k.live n ∙ ap not l.live)) (ap (asks_of n) (o.slots.conversions n l.node)),
      )
    where
      own_slot : (held : Option Mode) (live : Bool) (n : ℕ) (b : Bool) → held ≡ writes_slot (((n == n) && live) || b) → live ≡ true → is_some held ≡ true
      own_slot held live n b e f = grind (arith, nat_tests)

  -- the rounds' own guards of the news of a grant
  news : (r : ℕ) (a : Ask) → ((r ≡ token_res) ⊎ (r ≡ message_res) ⊎ (r ≡ ack_res)) → head (core.locks r).conversions (core.locks r).requests ≡ Some a → heads (rounds_at core) r ≡ Some a
      → not_grantable (core.locks r) (Some a) ≡ None → grant_refusal ((rounds_at core).locks r) ≡ grant_refusal (core.locks r)
      → rounds.May (rounds.after (rounds_at core) (rounds.Grant r)) (news_at r a)
  news r a is h w e same = (reached_tells members past (rounds_at core) k.follows.reaches).may r a (is, same ∙ grantable (core.locks r) a e h) w

  message_may : (n : ℕ) (mode : Mode) → rounds.May (rounds.after (rounds_at core) (rounds.Grant message_res)) (news_at message_res (ask_for n mode)) → PrHead (rounds_at core) (ask_for n mode) ⊎ MessageHead (rounds_at core) (ask_for n mode) → message_news (served core.locks resources.Message) core n mode ≡ None
  message_may n mode m (inl p) = subst (λ v. rounds.May (rounds.after (rounds_at core) (rounds.Grant message_res)) (news_at message_res (ask_for n v)) → message_news (served core.locks resources.Message) core n v ≡ None) (sym p.mode) (λ x. x) m
  message_may n mode m (inr p) = subst (λ v. rounds.May (rounds.after (rounds_at core) (rounds.Grant message_res)) (news_at message_res (ask_for n v)) → message_news (served core.locks resources.Message) core n v ≡ None) (sym p.mode) (λ x. x) m

  told : (res : Res) (a : Ask) → refusal core (events.Grant res) ≡ None → asker core res ≡ Some a → news_refusal (served core.locks res) core res a ≡ None
  told (resources.Bitmap n) a e h = refl
  told resources.NoNewDev a e h = refl
  told resources.Resync a e h = refl
  told resources.Token a e h = news token_res a (inl refl) h h (rw h at (grant_guard core resources.Token e)) refl
  told resources.Ack a e h = news ack_res a (inr (inr refl)) h h (rw h at (grant_guard core resources.Ack e)) refl
  told resources.Message a e h =
      message_may a.node a.mode (news message_res a (inr (inl refl)) h h (rw h at (grant_guard core resources.Message e)) refl)
      (message_head (rounds_at core) a (inv_at members past (rounds_at core) k.follows.reaches).queues h)

  pub unblocked : Unblocked core
  unblocked = record {
    join = join_free;
    recover = recover_free;
    up = λ n e. (up_free n e).0;
    up_device = λ n e. (up_free n e).1;
    take = take_free;
    resume = resume_free;
    may_take = takes;
    may_resume = resumes;
    processed = processed_free;
    lock_asks = λ n e none. may_ask_now (core.locks no_new_dev) n EX (none_is _ none) (ap (asks_of n) o.device.requests) (lock_others n e);
    lock_converts = λ n e some. may_convert_now (core.locks no_new_dev) n EX some (ap (asks_of n) o.device.conversions) (lock_others n e);
    unlock = λ n ex. may_convert (core.locks no_new_dev) n (ex_some _ ex) (ap (asks_of n) o.device.conversions);
    message = λ n e. (publish_free n e).0;
    ack = λ n e. (publish_free n e).1;
    range = λ n e. (publish_free n e).2;
    told = told;
  }
