-- The calls of rows of senders and receivers, and of nodes that come and go.
use Rattle.std.proofs.Common.{◌≡◌, ◌<◌, ℕ, Bool, true, false, not, List, [], ◌∷◌, Option, Some, None, refl, sym, ap, ◌∙◌, arith, ◌==◌, ◌&&◌, ◌||◌, ◌++◌, if◌then◌else◌}
use Rattle.std.specs.Prelude.{is_some}
use Rattle.std.proofs.lemmas.Bool.Decides.{nat_tests}
use Rattle.dlm_modes.specs.Guards.{first_of}
use Rattle.dlm_modes.specs.Points.{with_at}
use Rattle.dlm_modes.specs.declared.mode.Mode.{Mode}
use Rattle.dlm_modes.specs.declared.mode.Mode.TheVariants.{CR, EX}
use Rattle.dlm_space.specs.Queues.{asks_of}
use Rattle.dlm_space.specs.Locks.{Lock, let_go}
use Rattle.mdc_types.specs.declared.events.Wish.{Wish}
use Rattle.mdc_types.specs.declared.events.Wish.TheVariants as wishes
use Rattle.mdc_types.specs.declared.roles.NodeState.{NodeState}
use Rattle.mdc_types.specs.declared.roles.NodeState.TheVariants as states
use Rattle.node_recovery.specs.Progress.{Recovering}
use Rattle.msg_rounds.specs.Locks.{token_res, message_res, ack_res}
use Rattle.msg_rounds.specs.Phases.{is_idle, may_quit}
use Rattle.msg_rounds.specs.Refusals.{is_sender_idle, is_token_held, is_offered, is_granted, is_taken}
use Rattle.msg_rounds.specs.declared.phases.SenderPhase.{SenderPhase}
use Rattle.msg_rounds.specs.declared.phases.SenderPhase.TheVariants as senders
use Rattle.laws_rounds.specs.Machine as rounds
use Rattle.cluster_model.specs.State.{Core, Offer}
use Rattle.cluster_model.specs.Guards.{no_node, not_fenced, is_out}
use Rattle.cluster_model.specs.Phases.{is_up, is_in}
use Rattle.cluster_model.specs.Changes.{no_new_dev}
use Rattle.cluster_model.specs.Joining.{join_guards, join, up_guards, up}
use Rattle.cluster_model.specs.Leaving.{leave_guards, leave}
use Rattle.cluster_model.specs.Rounds.{token_guards, ask_token, message_guards, ask_message, quit_guards, quit_from, quit}
use Rattle.cluster_model.specs.Publishing.{publish_guards, publish}
use Rattle.cluster_model.specs.Receiving.{take, resume, drop_message}
use Rattle.dlm_modes.specs.declared.mode.Mode.TheVariants.{PW}
use Rattle.dlm_space.specs.Calls.{Call, Asks, AsksNow, Dies, Leads}
use Rattle.dlm_space.specs.Locks.{new_locks, all_died, holding, ask_refusal, release_refusal, convert_refusal, valid_block}
use Rattle.dlm_space.specs.Orderly.{IsOrderly}
use Rattle.dlm_space.proofs.Leading.{ask_leads, ask_now_leads, die_leads}
use Rattle.laws_rounds.proofs.Follows as follows
use Rattle.msg_rounds.specs.Holds.{holds_token, token_request}
use Rattle.msg_rounds.specs.Locks.{published, finished, quitted}
use Rattle.msg_rounds.specs.Made.{AreMade, token_ask, message_ask, publishing, quitting, taking, resuming, dropping}
use Rattle.msg_rounds.specs.Refusals.{is_ex, may_resume, is_pr, resume_refusal}
use Rattle.msg_rounds.specs.Phases.{has_message}
use Rattle.dlm_space.specs.Locks.{caller}
use Rattle.dlm_space.specs.Releasing.{releases_of}
use Rattle.msg_rounds.proofs.Making.{rounds_make_calls}
use Rattle.cluster_model.specs.Changes.{device_unlocked, sender_now}
use Rattle.cluster_model.specs.Leaving.{die_guards}
use Rattle.cluster_model.specs.Publishing.{block_of, publish_wish, publish_offer}
use Rattle.cluster_model.specs.Receiving.{take_guards, resume_guards, drop_guards}
use Rattle.laws_locks.specs.Following.{rounds_at}
use Rattle.laws_locks.specs.Rounded.{Rounded}
use Rattle.laws_locks.specs.Others.{recovers, writes_slot, OtherLocks}
use Rattle.laws_locks.specs.Unblocked.{Unblocked}
use Rattle.laws_locks.specs.Called.{unlocking, ranging, publish_calls, quit_calls}
use Rattle.laws_locks.proofs.Guarded.{first_none, tested, a_node, living}
use Rattle.laws_locks.proofs.Told.{may_ask_token, may_ask_message, may_publish, may_give_up}
use Rattle.laws_locks.proofs.Keeping.{Kept, not_of_rounds}
use Rattle.laws_locks.proofs.Facts.{rounded}
use Rattle.laws_locks.proofs.Devices.{unlocked_else}
use Rattle.laws_locks.proofs.Publish.{else_two, else_quitted}
use Rattle.laws_locks.proofs.Unblocking.{unblocked}
use Rattle.laws_locks.proofs.Calling.{Far, far_at, Makes, makes_none, makes_on, releases_make, unlocking_makes, range_makes, orderly_at}

pub live_slot : (held : Option Mode) (live : Bool) (n : ℕ) (b : Bool) → held ≡ writes_slot (((n == n) && live) || b) → live ≡ true → held ≡ Some PW
live_slot held live n b e f = grind (arith, nat_tests)

pub may_ask : (lock : Lock) (n : ℕ) → lock.held n ≡ None → asks_of n lock.requests ≡ [] → ask_refusal lock n ≡ None
may_ask lock n h q = rw h (rw q refl)

pub may_release : (lock : Lock) (n : ℕ) (mode : Mode) → lock.held n ≡ Some mode → release_refusal lock n ≡ None
may_release lock n mode h = rw h refl

pub none_token : (s : SenderPhase) (held : Option Mode) → holds_token s held ≡ true → s ≡ senders.Idle → held ≡ None
none_token s held e f = grind arith

pub idle_asks : (s : SenderPhase) (held : Option Mode) → s ≡ senders.Idle → token_request s held ≡ []
idle_asks s held e = grind arith

pub died_held : (held : Option Mode) (b : Bool) → held ≡ None → (if b then None else held) ≡ None
died_held held true e = refl
died_held held false e = e

pub not_device : (n : ℕ) → n < 16 → (n == no_new_dev) ≡ false
not_device n lt = grind (arith, nat_tests)

-- a bitmap is none of the others
pub device_apart : (locks : ℕ → Lock) (n : ℕ) → n < 16 → device_unlocked locks n n ≡ locks n
device_apart locks n lt = by_test (is_ex ((locks no_new_dev).held n))
  where
    by_test : (b : Bool) → (if b then with_at locks no_new_dev (holding (locks no_new_dev) n CR) else locks) n ≡ locks n
    by_test true = rw (not_device n lt) refl
    by_test false = refl

pub token_apart : (n : ℕ) → n < 16 → (token_res == n) ≡ false
token_apart n lt = grind (arith, nat_tests)

pub out_live : (live : Bool) (s : NodeState) → live ≡ not (is_out s) → is_out s ≡ false → live ≡ true
out_live live s e f = grind arith

pub out_is : (live : Bool) (s : NodeState) → live ≡ not (is_out s) → not live ≡ true → s ≡ states.Out
out_is live s e f = grind arith

pub granted_published : (s : SenderPhase) → is_granted s ≡ true → s ≡ senders.Granted
granted_published s e = grind arith

pub has_it : (recovery : Option Recovering) (r : Recovering) → recovery ≡ Some r → recovers recovery r.slot ≡ true
has_it recovery r is = grind (arith, nat_tests)

pub recovers_held : (held : Option Mode) (b c : Bool) → held ≡ writes_slot (b || c) → c ≡ true → held ≡ Some PW
recovers_held held b c e f = grind arith

module _ (members : ℕ → Bool) (past : List rounds.Entry) (core : Core) (k : Kept members past core) (o : OtherLocks core) (f : Far core.locks) (cs : List Call) (ls : Leads new_locks cs core.locks) where
  y : (r : ℕ) → IsOrderly (core.locks r)
  y = orderly_at cs core.locks ls

  r : Rounded core
  r = rounded members past core k

  ub : Unblocked core
  ub = unblocked members past core k o

  pub made : (n : ℕ) → n < 16 → AreMade core.locks n (core.sender n) (core.receiver n)
  made n lt = rounds_make_calls core.locks n (core.sender n) (core.receiver n) lt

  -- a list of calls that changes these alone
  pub far_two : (locks : ℕ → Lock) (i j : ℕ) (a b : Lock) → i < 21 → j < 21 → Far locks → Far (with_at (with_at locks i a) j b)
  far_two locks i j a b li lj f = far_at (with_at locks i a) j b lj (far_at locks i a li f)

  pub far_quitted : (n : ℕ) (s : SenderPhase) → Far core.locks → Far (quitted core.locks n s)
  far_quitted n s f = by_test (has_message s)
    where
      by_test : (b : Bool) → Far (with_at (if b then with_at core.locks message_res (let_go (core.locks message_res) n) else core.locks) token_res (let_go (core.locks token_res) n))
      by_test true = far_two core.locks message_res token_res _ _ (omega arith) (omega arith) f
      by_test false = far_at core.locks token_res _ (omega arith) f

  pub far_finished : (n : ℕ) → Far core.locks → Far (finished core.locks n)
  far_finished n f = far_at (with_at (with_at core.locks ack_res (holding (core.locks ack_res) n CR)) message_res (let_go (core.locks message_res) n)) token_res (let_go (core.locks token_res) n) (omega arith) (far_two core.locks ack_res message_res (holding (core.locks ack_res) n CR) (let_go (core.locks message_res) n) (omega arith) (omega arith) f)

  pub die_made : (n : ℕ) → first_of (die_guards core n) ≡ None → Makes core.locks (Dies n ∷ []) (all_died core.locks n)
  die_made n e =
      let l = living core n [] k.nodes e in
      record { leads = die_leads core.locks n l.node; far = λ f j m le. died_held _ (m == n) (f j m le) }

  pub join_made : (n : ℕ) → first_of (join_guards core n) ≡ None → Makes core.locks (Asks n token_res EX ∷ AsksNow n n PW (valid_block (core.locks n)) ∷ []) (join core n).locks
  join_made n e =
      let a = first_none (no_node core n) _ e in
      let b = first_none (not_fenced core n) _ a.1 in
      let c = tested (not (core.members.live n)) _ _ b.1 in
      let lt = a_node core n k.nodes a.0 in
      let idle = r.phased.out n (out_is _ _ (k.live n) c.0) in
      let h = (r.phased.holds n).sender in
      let mid = with_at core.locks n (holding (core.locks n) n PW) in
      let same : mid token_res ≡ core.locks token_res = rw (token_apart n lt) refl in
      makes_on core.locks mid (join core n).locks (AsksNow n n PW (valid_block (core.locks n)) ∷ []) (Asks n token_res EX ∷ [])
      (record { leads = ask_now_leads core.locks n n PW _ lt (ub.join n e) refl; far = far_at core.locks n _ (omega arith) })
      (record {
        leads = ask_leads mid n token_res EX lt (ap (λ l. ask_refusal l n) same ∙ may_ask (core.locks token_res) n (none_token _ _ h.token idle) (h.token_requests ∙ idle_asks _ _ idle));
        far = far_at mid token_res _ (omega arith);
      })

  pub up_made : (n : ℕ) → first_of (up_guards core n) ≡ None → Makes core.locks (AsksNow n no_new_dev CR (valid_block (core.locks no_new_dev)) ∷ AsksNow n ack_res CR (valid_block (core.locks ack_res)) ∷ []) (up core n).locks
  up_made n e =
      let l = living core n _ k.nodes e in
      let mid = with_at core.locks ack_res (holding (core.locks ack_res) n CR) in
      makes_on core.locks mid (up core n).locks (AsksNow n ack_res CR (valid_block (core.locks ack_res)) ∷ []) (AsksNow n no_new_dev CR (valid_block (core.locks no_new_dev)) ∷ [])
      (record { leads = ask_now_leads core.locks n ack_res CR _ l.node (ub.up n e) refl; far = far_at core.locks ack_res _ (omega arith) })
      (record { leads = ask_now_leads mid n no_new_dev CR _ l.node (ub.up_device n e) refl; far = far_at mid no_new_dev _ (omega arith) })

  pub leave_made : (n : ℕ) → first_of (leave_guards core n) ≡ None → Makes core.locks (releases_of core.locks n) (leave core n).locks
  leave_made n e = releases_make core.locks n (living core n _ k.nodes e).node y f

  pub token_made : (n : ℕ) → first_of (token_guards core n) ≡ None → Makes core.locks (token_ask n) (ask_token core n).locks
  token_made n e =
      let l = living core n _ k.nodes e in
      let a = tested (is_up (core.state n)) _ _ l.rest in
      let b = tested (is_sender_idle (core.sender n)) _ _ a.1 in
      let c = tested (is_idle (core.receiver n).phase) _ _ b.1 in
      record { leads = (made n l.node).ask_token (r.phased.holds n).sender (may_ask_token _ _ b.0 c.0); far = far_at core.locks token_res _ (omega arith) }

  pub message_made : (n : ℕ) → first_of (message_guards core n) ≡ None → Makes core.locks (message_ask n) (ask_message core n).locks
  message_made n e =
      let l = living core n _ k.nodes e in
      let a = tested (is_in (core.state n)) _ _ l.rest in
      let b = tested (is_token_held (core.sender n)) _ _ a.1 in
      let c = tested (is_idle (core.receiver n).phase) _ _ b.1 in
      record { leads = (made n l.node).ask_message (r.phased.holds n) (may_ask_message _ _ b.0 c.0); far = far_at core.locks message_res _ (omega arith) }

  pub take_made : (n : ℕ) → first_of (take_guards core n) ≡ None → Makes core.locks (taking core.locks n) (take core n).locks
  take_made n e =
      let l = living core n _ k.nodes e in
      let a = tested (is_up (core.state n)) _ _ l.rest in
      let b = tested (is_idle (core.receiver n).phase) _ _ a.1 in
      let c = tested (is_some (caller (core.locks ack_res) n)) _ _ b.1 in
      let m = (follows.reached_sound members past (rounds_at core) k.follows.reaches).may_take n (rw b.0 (rw c.0 refl)) in
      record { leads = (made n l.node).take (follows.may_take core.locks n m); far = far_at core.locks message_res _ (omega arith) }

  pub resume_made : (n : ℕ) → first_of (resume_guards core n) ≡ None → Makes core.locks (resuming core.locks n) (resume core n).locks
  resume_made n e =
      let l = living core n _ k.nodes e in
      let a = tested (may_resume (core.receiver n).phase) _ _ l.rest in
      let b = tested (is_pr ((core.locks message_res).held n)) _ _ a.1 in
      let may : resume_refusal core.locks n (core.receiver n) ≡ None = rw a.0 (rw b.0 refl) in
      let m = (follows.reached_sound members past (rounds_at core) k.follows.reaches).may_resume n (rw a.0 (rw b.0 refl)) in
      record { leads = (made n l.node).resume (r.phased.holds n).receiver (follows.may_resume core.locks n m) may; far = far_two core.locks ack_res message_res _ _ (omega arith) (omega arith) }

  pub drop_made : (n : ℕ) → first_of (drop_guards core n) ≡ None → Makes core.locks (dropping n) (drop_message core n).locks
  drop_made n e =
      let l = living core n _ k.nodes e in
      let a = tested (is_taken (core.receiver n).phase) _ _ l.rest in
      let b = tested (core.receiver n).gone _ _ a.1 in
      record { leads = (made n l.node).drop_message (r.phased.holds n).receiver (rw a.0 (rw b.0 refl)); far = far_at core.locks message_res _ (omega arith) }

  pub quit_made : (n : ℕ) → first_of (quit_guards core n) ≡ None → Makes core.locks (quit_calls core n (core.state n)) (quit core n).locks
  quit_made n e = by_state (core.state n)
    where
      lt : n < 16
      lt = (living core n _ k.nodes e).node

      may : may_quit (core.sender n) ≡ true
      may = (tested (may_quit (core.sender n)) _ _ (living core n _ k.nodes e).rest).0

      device : quitted core.locks n (core.sender n) no_new_dev ≡ core.locks no_new_dev
      device = else_quitted core.locks n (core.sender n) no_new_dev refl

      by_state : (s : NodeState) → Makes core.locks (quit_calls core n s) (quit_from core n s).locks
      by_state states.Up = makes_on core.locks (quitted core.locks n (core.sender n)) _ (quitting n (core.sender n)) _
          (record { leads = (made n lt).quit (r.phased.holds n).sender (may_give_up _ may); far = far_quitted n (core.sender n) })
          (unlocking_makes (quitted core.locks n (core.sender n)) n lt (λ ex. ap (λ l. convert_refusal l n) device ∙ ub.unlock n (ap (λ (l : Lock). is_ex (l.held n)) (sym device) ∙ ex)))
      by_state states.Out = releases_make core.locks n lt y f
      by_state states.Joining = releases_make core.locks n lt y f
      by_state states.Loaded = releases_make core.locks n lt y f

  pub publish_made : (n : ℕ) → first_of (publish_guards core n) ≡ None → Makes core.locks (publish_calls core n (core.offer n)) (publish core n).locks
  publish_made n e = by_offer (core.offer n)
    where
      lt : n < 16
      lt = (living core n _ k.nodes e).node

      offered_now : is_offered (core.sender n) ≡ true
      offered_now = (tested (is_offered (core.sender n)) _ _ (living core n _ k.nodes e).rest).0

      own : (core.locks n).held n ≡ Some PW
      own = live_slot _ _ n _ (o.slots.held n n lt) (out_live _ _ (k.live n) (living core n _ k.nodes e).live)

      same : (q : Offer) → device_unlocked (published core.locks n (block_of core n q)) n n ≡ core.locks n
      same q = unlocked_else (published core.locks n (block_of core n q)) core.locks n (else_two core.locks message_res ack_res _ _ refl refl) n (not_of_rounds n lt) ∙ device_apart core.locks n lt

      plain : (q : Offer) → Makes core.locks (unlocking (published core.locks n (block_of core n q)) n ++ publishing n (block_of core n q)) (device_unlocked (published core.locks n (block_of core n q)) n)
      plain q = makes_on core.locks (published core.locks n (block_of core n q)) _ (publishing n (block_of core n q)) _
          (record { leads = (made n lt).publish (block_of core n q) (r.phased.holds n).sender (may_publish _ offered_now); far = far_two core.locks message_res ack_res _ _ (omega arith) (omega arith) })
          (unlocking_makes (published core.locks n (block_of core n q)) n lt (ub.unlock n))

      by_wish : (q : Offer) (w : Wish) → Makes (device_unlocked (published core.locks n (block_of core n q)) n) (ranging n w) (publish_wish (record (sender_now core n senders.Published) { locks = device_unlocked (published core.locks n (block_of core n q)) n }) n w).locks
      by_wish q (wishes.Range rg) = range_makes _ n rg lt (ap (λ l. convert_refusal l n) (same q) ∙ ub.range n e) (ap (λ (l : Lock). l.held n) (same q) ∙ own)
      by_wish q w = makes_none _

      by_offer : (x : Option Offer) → Makes core.locks (publish_calls core n x) (publish_offer core n x).locks
      by_offer None = makes_none core.locks
      by_offer (Some q) = makes_on core.locks (device_unlocked (published core.locks n (block_of core n q)) n) _ _ _ (plain q) (by_wish q q.wish)
