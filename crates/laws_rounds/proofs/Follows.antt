-- A larger machine follows the rounds: for each of its steps, the rounds of the state after it are those after an event.
use Rattle.std.proofs.Common.{◌≡◌, ℕ, List, [], ◌∷◌, Bool, true, false, ◌==◌, ◌&&◌, ◌||◌, not, Option, Some, None, refl, sym, ap, ◌∙◌, subst, arith, if◌then◌else◌}
use Rattle.std.specs.Prelude.{unwrap_or}
use Rattle.std.proofs.lemmas.Bool.Decides.{nat_tests}
use Rattle.std.proofs.Math.Path.{fun_ext}
use Rattle.dlm_modes.specs.Points.{with_at}
use Rattle.dlm_modes.specs.declared.block.Block.{Block}
use Rattle.dlm_modes.specs.declared.mode.Mode.{Mode}
use Rattle.dlm_modes.specs.declared.mode.Mode.TheVariants.{CR, PR, EX}
use Rattle.dlm_space.specs.Queues.{asks_of, asks, without}
use Rattle.dlm_space.specs.Locks.{Lock, holding, granted, let_go, all_let_go, all_died, caller}
use Rattle.dlm_space.specs.declared.ask.Ask.{Ask}
use Rattle.dlm_space.proofs.QueueLaws.{without-none}
use Rattle.mdc_types.specs.declared.roles.NodeState.{NodeState}
use Rattle.mdc_types.specs.declared.roles.NodeState.TheVariants as states
use Rattle.msg_rounds.specs.Holds.{HasJust, SenderHolds, ReceiverHolds, NodeHolds, MayTake, MayResume}
use Rattle.msg_rounds.specs.Locks.{token_res, message_res, ack_res, token_asked, message_asked, published, finished, quitted, message_taken, message_processed, resumed, message_dropped}
use Rattle.msg_rounds.specs.Phases.{Receiving, new_receiving, taken, now_in, heard_death, is_idle, has_message, has_published}
use Rattle.msg_rounds.specs.declared.phases.SenderPhase.{SenderPhase}
use Rattle.msg_rounds.specs.declared.phases.SenderPhase.TheVariants as senders
use Rattle.msg_rounds.specs.declared.phases.ReceiverPhase.{ReceiverPhase}
use Rattle.msg_rounds.specs.declared.phases.ReceiverPhase.TheVariants as receivers
use Rattle.laws_rounds.specs.Machine.{Rounds, Event, Join, ComeIn, Leave, AskToken, TokenGranted, AskMessage, MessageGranted, Offer, Void, Publish, AckGranted, Finish, Quit, Take, Processed, PrGranted, Resume, Drop, Grant, Die, Entry, May, is_up, quit_state, quit_locks, rounds_after, after, answer_to, opening}
use Rattle.laws_rounds.specs.Sound.{MayComeIn, SoundAt}
use Rattle.laws_rounds.specs.Following.{is_of_rounds, three_of, SameThree, rounds_of, heard_by_all, entry_of, Reaches}
use Rattle.laws_rounds.specs.News.{news_at, heads, after_grant, AllTold, ToldAfter, GoesOnTold, TellsGrants}
use Rattle.laws_rounds.proofs.Runs.{inv_after}
use Rattle.laws_rounds.proofs.RunsSound.{rounds_are_sound}
use Rattle.laws_rounds.proofs.Tells.{tells_grants}
use Rattle.laws_rounds.proofs.ToldGoing.{told_goes_on}
use Rattle.laws_rounds.proofs.Three.{three_at, three_token_asked, three_message_asked, three_published, three_finished, three_quitted, three_message_taken, three_message_processed, three_resumed, three_message_dropped, three_come_in, three_granted, three_all_died}

-- What is let go.

let_go_held : (held : ℕ → Option Mode) (n m : ℕ) → held n ≡ None → (if m == n then None else held m) ≡ held m
let_go_held held n m e = grind (arith, nat_tests)

let_go_asks : (lock : Lock) (n : ℕ) → asks_of n lock.conversions ≡ [] → asks n lock.conversions ≡ false
let_go_asks lock n e = rw e refl

pub nothing_to_let_go : (lock : Lock) (n : ℕ) → HasJust lock n None [] [] → let_go lock n ≡ lock
nothing_to_let_go lock n h = λ i. record lock {
  held = λ m. let_go_held lock.held n m h.0 i;
  conversions = without-none n lock.conversions (let_go_asks lock n h.2) i;
}

gone_held : (held : ℕ → Option Mode) (n m : ℕ) → (if m == n then None else (if m == n then None else held m)) ≡ (if m == n then None else held m)
gone_held held n m = grind arith

without_twice : (n : ℕ) (queue : List Ask) → without n (without n queue) ≡ without n queue
without_twice n [] = refl
without_twice n (a ∷ queue) = grind (arith, without_twice n queue)

pub let_go_twice : (lock : Lock) (n : ℕ) → let_go (let_go lock n) n ≡ let_go lock n
let_go_twice lock n = λ i. record lock {
  held = λ m. gone_held lock.held n m i;
  conversions = without_twice n lock.conversions i;
}

ext_at : (f g : ℕ → Lock) (r : ℕ) (none : Lock) → f token_res ≡ g token_res → f message_res ≡ g message_res → f ack_res ≡ g ack_res → (if is_of_rounds r then f r else none) ≡ (if is_of_rounds r then g r else none)
ext_at f g r none t m a = grind (arith, nat_tests)

-- the three are the same where each of them is
pub same_three : (now locks : ℕ → Lock) → now token_res ≡ locks token_res → now message_res ≡ locks message_res → now ack_res ≡ locks ack_res → SameThree now locks
same_three now locks t m a = fun_ext (λ r. ext_at now locks r _ t m a)

-- who leaves has nothing on the other two
pub leaving_lets_go : (locks : ℕ → Lock) (n : ℕ) → HasJust (locks token_res) n None [] [] → HasJust (locks message_res) n None [] [] → SameThree (all_let_go locks n) (with_at locks ack_res (let_go (locks ack_res) n))
leaving_lets_go locks n t m = same_three (all_let_go locks n) (with_at locks ack_res (let_go (locks ack_res) n)) (nothing_to_let_go (locks token_res) n t) (nothing_to_let_go (locks message_res) n m) refl

-- who gives its first round up
pub quitting_lets_go : (state : NodeState) (locks : ℕ → Lock) (n : ℕ) (s : SenderPhase) → is_up state ≡ false → (has_message s ≡ false → HasJust (locks message_res) n None [] []) → SameThree (all_let_go locks n) (quit_locks state locks n s)
quitting_lets_go state locks n s down none = by_state state down
  where
    by_test : (b : Bool) → (b ≡ false → HasJust (locks message_res) n None [] []) → let_go (locks message_res) n ≡ (if b then with_at locks message_res (let_go (locks message_res) n) else locks) message_res
    by_test true h = refl
    by_test false h = nothing_to_let_go (locks message_res) n (h refl)

    by_state : (state : NodeState) → is_up state ≡ false → SameThree (all_let_go locks n) (quit_locks state locks n s)
    by_state states.Up e = cc
    by_state states.Out e = same_three (all_let_go locks n) (quit_locks states.Out locks n s) refl (by_test (has_message s) none) refl
    by_state states.Joining e = same_three (all_let_go locks n) (quit_locks states.Joining locks n s) refl (by_test (has_message s) none) refl
    by_state states.Loaded e = same_three (all_let_go locks n) (quit_locks states.Loaded locks n s) refl (by_test (has_message s) none) refl

-- the same where the call has let go of two of them
pub quitted_lets_go : (locks : ℕ → Lock) (n : ℕ) (s : SenderPhase) → SameThree (all_let_go (quitted locks n s) n) (all_let_go locks n)
quitted_lets_go locks n s = by_test (has_message s)
  where
    by_test : (b : Bool) → SameThree (all_let_go (with_at (if b then with_at locks message_res (let_go (locks message_res) n) else locks) token_res (let_go (locks token_res) n)) n) (all_let_go locks n)
    by_test true = same_three _ (all_let_go locks n) (let_go_twice (locks token_res) n) (let_go_twice (locks message_res) n) refl
    by_test false = same_three _ (all_let_go locks n) (let_go_twice (locks token_res) n) refl refl

-- who finishes and then lets go of all
pub finishing_lets_go : (locks : ℕ → Lock) (n : ℕ) → SameThree (all_let_go (finished locks n) n) (with_at (finished locks n) ack_res (let_go (finished locks n ack_res) n))
finishing_lets_go locks n = same_three (all_let_go (finished locks n) n) (with_at (finished locks n) ack_res (let_go (finished locks n ack_res) n)) (let_go_twice (locks token_res) n) (let_go_twice (locks message_res) n) refl

-- What is said of the three locks is said of the state's own.

pub sender_holds : (locks : ℕ → Lock) (n : ℕ) (s : SenderPhase) → SenderHolds (three_of locks) n s → SenderHolds locks n s
sender_holds locks n s h = record {
  token = h.token;
  token_requests = h.token_requests;
  token_conversions = h.token_conversions;
  message = h.message;
  message_requests = h.message_requests;
  message_conversions = h.message_conversions;
  ack = h.ack;
  ack_requests = h.ack_requests;
  ack_conversions = h.ack_conversions;
}

pub receiver_holds : (locks : ℕ → Lock) (n : ℕ) (r : ReceiverPhase) → ReceiverHolds (three_of locks) n r → ReceiverHolds locks n r
receiver_holds locks n r h = record {
  message = h.message;
  message_requests = h.message_requests;
  message_conversions = h.message_conversions;
  ack = h.ack;
  ack_requests = h.ack_requests;
  ack_conversions = h.ack_conversions;
}

pub node_holds : (locks : ℕ → Lock) (n : ℕ) (s : SenderPhase) (r : ReceiverPhase) → NodeHolds (three_of locks) n s r → NodeHolds locks n s r
node_holds locks n s r h = record { sender = sender_holds locks n s h.sender; receiver = receiver_holds locks n r h.receiver; calm = h.calm }

pub may_take : (locks : ℕ → Lock) (n : ℕ) → MayTake (three_of locks) n → MayTake locks n
may_take locks n h = record { free = h.free; readable = h.readable; valid = h.valid }

pub may_resume : (locks : ℕ → Lock) (n : ℕ) → MayResume (three_of locks) n → MayResume locks n
may_resume locks n h = record { takeable = h.takeable }

pub may_come_in : (locks : ℕ → Lock) (n : ℕ) → MayComeIn (three_of locks) n → MayComeIn locks n
may_come_in locks n h = record { free = h.free; takeable = h.takeable }

-- Lists of events.

pub reaches_opening : (members : ℕ → Bool) → Reaches members [] (opening members)
reaches_opening members = record { accepted = tt; leads = refl }

-- one more event
pub reaches_on : (members : ℕ → Bool) (past : List Entry) (w v : Rounds) (e : Event) → Reaches members past w → May w e → after w e ≡ v → Reaches members (entry_of w e ∷ past) v
reaches_on members past w v e r may eq = record {
  accepted = (r.accepted, record { may = subst (λ x. May x e) (sym r.leads) may; answers = sym (ap (λ x. answer_to x e) r.leads) });
  leads = ap (λ x. after x e) r.leads ∙ eq;
}

-- what holds of the rounds that are reached
pub reached_sound : (members : ℕ → Bool) (past : List Entry) (w : Rounds) → Reaches members past w → SoundAt w members past
reached_sound members past w r = subst (λ x. SoundAt x members past) r.leads (rounds_are_sound members past r.accepted).place

-- The rounds of the state after each step. `now` are the locks then, of which the three are those of the call's effect.

pub with_same : {A : Type 0} (f : ℕ → A) (n : ℕ) (v : A) → f n ≡ v → with_at f n v ≡ f
with_same f n v e = fun_ext (λ m. at f n m v e)
  where
    at : {A : Type 0} (f : ℕ → A) (n m : ℕ) (v : A) → f n ≡ v → (if m == n then v else f m) ≡ f m
    at f n m v e = grind (arith, nat_tests)

module _ (state : ℕ → NodeState) (sender : ℕ → SenderPhase) (receiver : ℕ → Receiving) (locks now : ℕ → Lock) where
  on_locks : (state : ℕ → NodeState) (sender : ℕ → SenderPhase) (three : ℕ → Lock) → three_of now ≡ three → record { state = state; sender = sender; receiver = λ n. (receiver n).phase; from = λ n. (receiver n).from; gone = λ n. (receiver n).gone; locks = three } ≡ rounds_of state sender receiver now
  on_locks state sender three e = ap (λ l. record { state = state; sender = sender; receiver = λ n. (receiver n).phase; from = λ n. (receiver n).from; gone = λ n. (receiver n).gone; locks = l }) (sym e)

  pub join_follows : (n : ℕ) → SameThree now (token_asked locks n) → after (rounds_of state sender receiver locks) (Join n) ≡ rounds_of (with_at state n states.Joining) (with_at sender n senders.TokenAsked) receiver now
  join_follows n s = on_locks (with_at state n states.Joining) (with_at sender n senders.TokenAsked) (token_asked (three_of locks) n) (s ∙ three_token_asked locks n)

  pub come_in_follows : (n : ℕ) → SameThree now (with_at locks ack_res (holding (locks ack_res) n CR)) → after (rounds_of state sender receiver locks) (ComeIn n) ≡ rounds_of (with_at state n states.Loaded) sender receiver now
  come_in_follows n s = on_locks (with_at state n states.Loaded) sender (with_at (three_of locks) ack_res (holding (locks ack_res) n CR)) (s ∙ three_come_in locks n)

  pub leave_follows : (n : ℕ) → SameThree now (with_at locks ack_res (let_go (locks ack_res) n)) → after (rounds_of state sender receiver locks) (Leave n) ≡ rounds_of (with_at state n states.Out) sender receiver now
  leave_follows n s = on_locks (with_at state n states.Out) sender (with_at (three_of locks) ack_res (let_go (locks ack_res) n)) (s ∙ three_at locks ack_res (let_go (locks ack_res) n) refl)

  pub ask_token_follows : (n : ℕ) → SameThree now (token_asked locks n) → after (rounds_of state sender receiver locks) (AskToken n) ≡ rounds_of state (with_at sender n senders.TokenAsked) receiver now
  ask_token_follows n s = on_locks state (with_at sender n senders.TokenAsked) (token_asked (three_of locks) n) (s ∙ three_token_asked locks n)

  pub ask_message_follows : (n : ℕ) → SameThree now (message_asked locks n) → after (rounds_of state sender receiver locks) (AskMessage n) ≡ rounds_of state (with_at sender n senders.MessageAsked) receiver now
  ask_message_follows n s = on_locks state (with_at sender n senders.MessageAsked) (message_asked (three_of locks) n) (s ∙ three_message_asked locks n)

  pub offer_follows : (n : ℕ) → SameThree now locks → after (rounds_of state sender receiver locks) (Offer n) ≡ rounds_of state (with_at sender n senders.Offered) receiver now
  offer_follows n s = on_locks state (with_at sender n senders.Offered) (three_of locks) s

  pub void_follows : (n : ℕ) → SameThree now locks → after (rounds_of state sender receiver locks) (Void n) ≡ rounds_of state (with_at sender n senders.MessageHeld) receiver now
  void_follows n s = on_locks state (with_at sender n senders.MessageHeld) (three_of locks) s

  pub publish_follows : (n : ℕ) (block : Block) → SameThree now (published locks n block) → after (rounds_of state sender receiver locks) (Publish n block) ≡ rounds_of state (with_at sender n senders.Published) receiver now
  publish_follows n block s = on_locks state (with_at sender n senders.Published) (published (three_of locks) n block) (s ∙ three_published locks n block)

  pub finish_follows : (n : ℕ) → SameThree now (finished locks n) → after (rounds_of state sender receiver locks) (Finish n) ≡ rounds_of (with_at state n states.Up) (with_at sender n senders.Idle) receiver now
  finish_follows n s = on_locks (with_at state n states.Up) (with_at sender n senders.Idle) (finished (three_of locks) n) (s ∙ three_finished locks n)

  -- who is up stays so
  pub quit_follows : (n : ℕ) → state n ≡ states.Up → SameThree now (quitted locks n (sender n)) → after (rounds_of state sender receiver locks) (Quit n) ≡ rounds_of state (with_at sender n senders.Idle) receiver now
  quit_follows n up s =
      ap (λ x. record { state = with_at state n (quit_state x); sender = with_at sender n senders.Idle; receiver = λ n. (receiver n).phase; from = λ n. (receiver n).from; gone = λ n. (receiver n).gone; locks = quit_locks x (three_of locks) n (sender n) }) up
      ∙ ap (λ x. record { state = x; sender = with_at sender n senders.Idle; receiver = λ n. (receiver n).phase; from = λ n. (receiver n).from; gone = λ n. (receiver n).gone; locks = quitted (three_of locks) n (sender n) }) (with_same state n states.Up up)
      ∙ on_locks state (with_at sender n senders.Idle) (quitted (three_of locks) n (sender n)) (s ∙ three_quitted locks n (sender n))

  -- who isn't is out again
  pub quit_first_follows : (n : ℕ) → is_up (state n) ≡ false → SameThree now (quit_locks (state n) locks n (sender n)) → after (rounds_of state sender receiver locks) (Quit n) ≡ rounds_of (with_at state n states.Out) (with_at sender n senders.Idle) receiver now
  quit_first_follows n down s = by_state (state n) down s
    where
      at_ack : three_of (with_at (quitted locks n (sender n)) ack_res (let_go (locks ack_res) n)) ≡ with_at (quitted (three_of locks) n (sender n)) ack_res (let_go (locks ack_res) n)
      at_ack = three_at (quitted locks n (sender n)) ack_res (let_go (locks ack_res) n) refl ∙ ap (λ l. with_at l ack_res (let_go (locks ack_res) n)) (three_quitted locks n (sender n))

      by_state : (x : NodeState) → is_up x ≡ false → SameThree now (quit_locks x locks n (sender n)) → record { state = with_at state n (quit_state x); sender = with_at sender n senders.Idle; receiver = λ n. (receiver n).phase; from = λ n. (receiver n).from; gone = λ n. (receiver n).gone; locks = quit_locks x (three_of locks) n (sender n) } ≡ rounds_of (with_at state n states.Out) (with_at sender n senders.Idle) receiver now
      by_state states.Up e s = cc
      by_state states.Out e s = on_locks (with_at state n states.Out) (with_at sender n senders.Idle) _ (s ∙ at_ack)
      by_state states.Joining e s = on_locks (with_at state n states.Out) (with_at sender n senders.Idle) _ (s ∙ at_ack)
      by_state states.Loaded e s = on_locks (with_at state n states.Out) (with_at sender n senders.Idle) _ (s ∙ at_ack)

  -- The news of a grant.

  pub token_granted_follows : (n : ℕ) → SameThree now locks → after (rounds_of state sender receiver locks) (TokenGranted n) ≡ rounds_of state (with_at sender n senders.TokenHeld) receiver now
  token_granted_follows n s = on_locks state (with_at sender n senders.TokenHeld) (three_of locks) s

  pub message_granted_follows : (n : ℕ) → SameThree now locks → after (rounds_of state sender receiver locks) (MessageGranted n) ≡ rounds_of state (with_at sender n senders.MessageHeld) receiver now
  message_granted_follows n s = on_locks state (with_at sender n senders.MessageHeld) (three_of locks) s

  pub ack_granted_follows : (n : ℕ) → SameThree now locks → after (rounds_of state sender receiver locks) (AckGranted n) ≡ rounds_of state (with_at sender n senders.Granted) receiver now
  ack_granted_follows n s = on_locks state (with_at sender n senders.Granted) (three_of locks) s

  pub grant_follows : (r : ℕ) → is_of_rounds r ≡ true → SameThree now (with_at locks r (granted (locks r))) → after (rounds_of state sender receiver locks) (Grant r) ≡ rounds_of state sender receiver now
  grant_follows r is s = on_locks state sender (with_at (three_of locks) r (granted (three_of locks r))) (s ∙ three_granted locks r is)

  -- The calls of a receiver.

  phase_at : (b : Bool) (x y : Receiving) → (if b then x.phase else y.phase) ≡ (if b then x else y).phase
  phase_at true x y = refl
  phase_at false x y = refl

  from_at : (b : Bool) (x y : Receiving) → (if b then x.from else y.from) ≡ (if b then x else y).from
  from_at true x y = refl
  from_at false x y = refl

  gone_at : (b : Bool) (x y : Receiving) → (if b then x.gone else y.gone) ≡ (if b then x else y).gone
  gone_at true x y = refl
  gone_at false x y = refl

  receiver_at : (n : ℕ) (x : Receiving) (three : ℕ → Lock) → three_of now ≡ three → record { state = state; sender = sender; receiver = with_at (λ m. (receiver m).phase) n x.phase; from = with_at (λ m. (receiver m).from) n x.from; gone = with_at (λ m. (receiver m).gone) n x.gone; locks = three } ≡ rounds_of state sender (with_at receiver n x) now
  receiver_at n x three e = λ i. record {
    state = state;
    sender = sender;
    receiver = λ m. phase_at (m == n) x (receiver m) i;
    from = λ m. from_at (m == n) x (receiver m) i;
    gone = λ m. gone_at (m == n) x (receiver m) i;
    locks = sym e i;
  }

  -- the phase alone changes
  now_in_at : (n : ℕ) (phase : ReceiverPhase) (three : ℕ → Lock) → three_of now ≡ three → record { state = state; sender = sender; receiver = with_at (λ m. (receiver m).phase) n phase; from = λ m. (receiver m).from; gone = λ m. (receiver m).gone; locks = three } ≡ rounds_of state sender (with_at receiver n (now_in phase (receiver n))) now
  now_in_at n phase three e =
      (λ i. record {
        state = state;
        sender = sender;
        receiver = with_at (λ m. (receiver m).phase) n phase;
        from = sym (with_same (λ m. (receiver m).from) n (receiver n).from refl) i;
        gone = sym (with_same (λ m. (receiver m).gone) n (receiver n).gone refl) i;
        locks = three;
      })
      ∙ receiver_at n (now_in phase (receiver n)) three e

  pub take_follows : (n p : ℕ) → caller (locks ack_res) n ≡ Some p → SameThree now (message_taken locks n) → after (rounds_of state sender receiver locks) (Take n) ≡ rounds_of state sender (with_at receiver n (taken p)) now
  take_follows n p c s =
      ap (λ q. record { state = state; sender = sender; receiver = with_at (λ m. (receiver m).phase) n receivers.Taken; from = with_at (λ m. (receiver m).from) n (unwrap_or q 0); gone = with_at (λ m. (receiver m).gone) n false; locks = message_taken (three_of locks) n }) c
      ∙ receiver_at n (taken p) (message_taken (three_of locks) n) (s ∙ three_message_taken locks n)

  pub processed_follows : (n : ℕ) → SameThree now (message_processed locks n) → after (rounds_of state sender receiver locks) (Processed n) ≡ rounds_of state sender (with_at receiver n (now_in receivers.Waiting (receiver n))) now
  processed_follows n s = now_in_at n receivers.Waiting (message_processed (three_of locks) n) (s ∙ three_message_processed locks n)

  pub pr_granted_follows : (n : ℕ) → SameThree now locks → after (rounds_of state sender receiver locks) (PrGranted n) ≡ rounds_of state sender (with_at receiver n (now_in receivers.Ready (receiver n))) now
  pr_granted_follows n s = now_in_at n receivers.Ready (three_of locks) s

  pub resume_follows : (n : ℕ) → SameThree now (resumed locks n) → after (rounds_of state sender receiver locks) (Resume n) ≡ rounds_of state sender (with_at receiver n (now_in receivers.Idle (receiver n))) now
  resume_follows n s = now_in_at n receivers.Idle (resumed (three_of locks) n) (s ∙ three_resumed locks n)

  pub drop_follows : (n : ℕ) → SameThree now (message_dropped locks n) → after (rounds_of state sender receiver locks) (Drop n) ≡ rounds_of state sender (with_at receiver n (now_in receivers.Idle (receiver n))) now
  drop_follows n s = now_in_at n receivers.Idle (message_dropped (three_of locks) n) (s ∙ three_message_dropped locks n)

  -- A death.

  heard_phase : (n : ℕ) (b p : Bool) (r : Receiving) → (if b then receivers.Idle else r.phase) ≡ (if b then new_receiving else (if p then heard_death n r else r)).phase
  heard_phase n true p r = refl
  heard_phase n false true r = refl
  heard_phase n false false r = refl

  heard_from : (n : ℕ) (b p : Bool) (r : Receiving) → (if b then 0 else r.from) ≡ (if b then new_receiving else (if p then heard_death n r else r)).from
  heard_from n true p r = refl
  heard_from n false true r = refl
  heard_from n false false r = refl

  heard_gone : (n : ℕ) (b p : Bool) (r : Receiving) → (if b then false else (r.gone || (p && not (is_idle r.phase) && (r.from == n)))) ≡ (if b then new_receiving else (if p then heard_death n r else r)).gone
  heard_gone n true p r = refl
  heard_gone n false true r = refl
  heard_gone n false false r = grind arith

  pub die_follows : (n : ℕ) → SameThree now (all_died locks n) → after (rounds_of state sender receiver locks) (Die n) ≡ rounds_of (with_at state n states.Out) (with_at sender n senders.Idle) (heard_by_all sender receiver n) now
  die_follows n s = λ i. record {
    state = with_at state n states.Out;
    sender = with_at sender n senders.Idle;
    receiver = λ m. heard_phase n (m == n) (has_published (sender n)) (receiver m) i;
    from = λ m. heard_from n (m == n) (has_published (sender n)) (receiver m) i;
    gone = λ m. heard_gone n (m == n) (has_published (sender n)) (receiver m) i;
    locks = sym (s ∙ three_all_died locks n) i;
  }

-- A grant and the news of it, in one step.

module _ (state : ℕ → NodeState) (sender : ℕ → SenderPhase) (receiver : ℕ → Receiving) (locks now : ℕ → Lock) (a : Ask) where
  pub grant_token_follows : SameThree now (with_at locks token_res (granted (locks token_res))) → after_grant (rounds_of state sender receiver locks) token_res a ≡ rounds_of state (with_at sender a.node senders.TokenHeld) receiver now
  grant_token_follows s = ap (λ w. after w (TokenGranted a.node)) (grant_follows state sender receiver locks now token_res refl s) ∙ token_granted_follows state sender receiver now now a.node refl

  pub grant_ack_follows : SameThree now (with_at locks ack_res (granted (locks ack_res))) → after_grant (rounds_of state sender receiver locks) ack_res a ≡ rounds_of state (with_at sender a.node senders.Granted) receiver now
  grant_ack_follows s = ap (λ w. after w (AckGranted a.node)) (grant_follows state sender receiver locks now ack_res refl s) ∙ ack_granted_follows state sender receiver now now a.node refl

  pub grant_message_follows : a.mode ≡ EX → SameThree now (with_at locks message_res (granted (locks message_res))) → after_grant (rounds_of state sender receiver locks) message_res a ≡ rounds_of state (with_at sender a.node senders.MessageHeld) receiver now
  grant_message_follows ex s = rw ex (ap (λ w. after w (MessageGranted a.node)) (grant_follows state sender receiver locks now message_res refl s) ∙ message_granted_follows state sender receiver now now a.node refl)

  pub grant_pr_follows : a.mode ≡ PR → SameThree now (with_at locks message_res (granted (locks message_res))) → after_grant (rounds_of state sender receiver locks) message_res a ≡ rounds_of state sender (with_at receiver a.node (now_in receivers.Ready (receiver a.node))) now
  grant_pr_follows pr s = rw pr (ap (λ w. after w (PrGranted a.node)) (grant_follows state sender receiver locks now message_res refl s) ∙ pr_granted_follows state sender receiver now now a.node refl)

-- A finish after which the node lets go of all: it leaves.

with_twice : {A : Type 0} (f : ℕ → A) (n : ℕ) (u v : A) → with_at (with_at f n u) n v ≡ with_at f n v
with_twice f n u v = fun_ext (λ m. at (m == n) u v (f m))
  where
    at : {A : Type 0} (b : Bool) (u v old : A) → (if b then v else (if b then u else old)) ≡ (if b then v else old)
    at true u v old = refl
    at false u v old = refl

pub finish_and_leave_follows : (state : ℕ → NodeState) (sender : ℕ → SenderPhase) (receiver : ℕ → Receiving) (locks now : ℕ → Lock) (n : ℕ) → SameThree now (all_let_go (finished locks n) n) → after (after (rounds_of state sender receiver locks) (Finish n)) (Leave n) ≡ rounds_of (with_at state n states.Out) (with_at sender n senders.Idle) receiver now
finish_and_leave_follows state sender receiver locks now n s =
    ap (λ w. after w (Leave n)) (finish_follows state sender receiver locks (finished locks n) n refl)
    ∙ leave_follows (with_at state n states.Up) (with_at sender n senders.Idle) receiver (finished locks n) now n (s ∙ finishing_lets_go locks n)
    ∙ ap (λ x. rounds_of x (with_at sender n senders.Idle) receiver now) (with_twice state n states.Up states.Out)

pub may_leave_finished : (w : Rounds) (n : ℕ) → w.receiver n ≡ receivers.Idle → May (after w (Finish n)) (Leave n)
may_leave_finished w n r = (at states.Up (w.state n), at senders.Idle (w.sender n), r)
  where
    at : {A : Type 0} (v old : A) → (if n == n then v else old) ≡ v
    at v old = grind (arith, nat_tests)

-- What is reached tells grants and goes on.

pub reached_tells : (members : ℕ → Bool) (past : List Entry) (w : Rounds) → Reaches members past w → TellsGrants w
reached_tells members past w r = subst TellsGrants r.leads (tells_grants (rounds_after members past) members past (inv_after members past r.accepted))

-- a grant and its news
pub reaches_grant : (members : ℕ → Bool) (past : List Entry) (w v : Rounds) (r : ℕ) (a : Ask) → Reaches members past w → May w (Grant r) → heads w r ≡ Some a → after_grant w r a ≡ v → Reaches members (entry_of (after w (Grant r)) (news_at r a) ∷ entry_of w (Grant r) ∷ past) v
reaches_grant members past w v r a reached may h eq =
    reaches_on members (entry_of w (Grant r) ∷ past) (after w (Grant r)) v (news_at r a) (reaches_on members past w (after w (Grant r)) (Grant r) reached may refl) ((reached_tells members past w reached).may r a may h) eq

-- that no grant waits for its news is kept by each step
pub reached_told : (members : ℕ → Bool) (past : List Entry) (w v : Rounds) (e : Event) → Reaches members past w → AllTold w → May w e → ToldAfter w e v → AllTold v
reached_told members past w v e reached told may is = (reached_tells members past w reached).told told e v may is

pub reached_goes_on : (members : ℕ → Bool) (past : List Entry) (w : Rounds) → Reaches members past w → AllTold w → GoesOnTold w
reached_goes_on members past w r told =
    subst (λ x. AllTold x → GoesOnTold x) r.leads (told_goes_on (rounds_after members past) members past (inv_after members past r.accepted)) told
