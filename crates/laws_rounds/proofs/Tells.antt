-- The news of a grant may come at once, and where it always does no grant waits for its news.
use Rattle.std.proofs.Common.{◌≡◌, ◌≢◌, ◌⊎◌, ℕ, inl, inr, Bool, true, false, ◌==◌, List, [], ◌∷◌, Option, Some, None, refl, sym, ap, ◌∙◌, subst, arith, if◌then◌else◌}
use Rattle.std.proofs.lemmas.Bool.Decides.{nat_tests}
use Rattle.dlm_modes.specs.Points.{with_at}
use Rattle.dlm_modes.specs.declared.block.Block.{Block}
use Rattle.dlm_modes.specs.declared.mode.Mode.{Mode}
use Rattle.dlm_modes.specs.declared.mode.Mode.TheVariants.{CR, PR, EX}
use Rattle.dlm_space.specs.declared.ask.Ask.{Ask}
use Rattle.dlm_space.specs.Queues.{asks_of, head}
use Rattle.dlm_space.specs.Locks.{Lock, granted, granted_from}
use Rattle.mdc_types.specs.declared.roles.NodeState.{NodeState}
use Rattle.mdc_types.specs.declared.roles.NodeState.TheVariants as states
use Rattle.msg_rounds.specs.Holds.{token_request, message_conversion, message_request, ack_conversion}
use Rattle.msg_rounds.specs.Locks.{token_res, message_res, ack_res}
use Rattle.msg_rounds.specs.Phases.{may_receive, has_processed, has_message}
use Rattle.msg_rounds.specs.declared.phases.SenderPhase.{SenderPhase}
use Rattle.msg_rounds.specs.declared.phases.SenderPhase.TheVariants as senders
use Rattle.msg_rounds.specs.declared.phases.ReceiverPhase.{ReceiverPhase}
use Rattle.msg_rounds.specs.declared.phases.ReceiverPhase.TheVariants as receivers
use Rattle.laws_rounds.specs.Machine.{Rounds, Event, Join, ComeIn, Leave, AskToken, TokenGranted, AskMessage, MessageGranted, Offer, Void, Publish, AckGranted, Finish, Quit, Take, Processed, PrGranted, Resume, Drop, Grant, Die, Entry, May, receiving, after, opening}
use Rattle.laws_rounds.specs.News.{news_at, heads, after_grant, AllTold, ToldAfter, TellsGrants}
use Rattle.laws_rounds.specs.Invariants.{Held, Queues, Members, Inv}
use Rattle.laws_rounds.proofs.Changes.{quit_with}
use Rattle.laws_rounds.proofs.Guards.{ask_token_guard, ask_message_guard, publish_guard, finish_guard, take_guard, processed_guard, resume_guard}
use Rattle.laws_rounds.proofs.Others.{alone, head_asks, token_asker, message_asker, message_converter, ack_converter}
use Rattle.laws_rounds.proofs.Steps.{caller_is, lacks_own, quit_is}

-- What the head of a queue is, and what it then holds.

granted_held : (lock : Lock) (conversions requests : List Ask) (a : Ask) (m : ℕ) → head conversions requests ≡ Some a → (granted_from lock conversions requests).held m ≡ (if m == a.node then Some a.mode else lock.held m)
granted_held lock (b ∷ rest) requests a m e = let same : b ≡ a = cc in rw same refl
granted_held lock [] (b ∷ rest) a m e = let same : b ≡ a = cc in rw same refl
granted_held lock [] [] a m e = cc

serves : (lock : Lock) (a : Ask) → head lock.conversions lock.requests ≡ Some a → (m : ℕ) → (granted lock).held m ≡ (if m == a.node then Some a.mode else lock.held m)
serves lock a e m = granted_held lock lock.conversions lock.requests a m e

pub holds_granted : (lock : Lock) (a : Ask) → head lock.conversions lock.requests ≡ Some a → (granted lock).held a.node ≡ Some a.mode
holds_granted lock a e = serves lock a e a.node ∙ rw (here a.node) refl
  where
    here : (n : ℕ) → (n == n) ≡ true
    here n = grind (arith, nat_tests)

pub record TokenHead (w : Rounds) (a : Ask) : Type 0 where
  pub phase : w.sender a.node ≡ senders.TokenAsked
  pub mode : a.mode ≡ EX

pub record MessageHead (w : Rounds) (a : Ask) : Type 0 where
  pub phase : w.sender a.node ≡ senders.MessageAsked
  pub mode : a.mode ≡ EX

pub record PrHead (w : Rounds) (a : Ask) : Type 0 where
  pub phase : w.receiver a.node ≡ receivers.Waiting
  pub mode : a.mode ≡ PR

pub record AckHead (w : Rounds) (a : Ask) : Type 0 where
  pub phase : w.sender a.node ≡ senders.Published
  pub mode : a.mode ≡ EX

token_at : (w : Rounds) (conversions requests : List Ask) (a : Ask) → Queues w → (w.locks token_res).conversions ≡ conversions → (w.locks token_res).requests ≡ requests → head conversions requests ≡ Some a → TokenHead w a
token_at w (b ∷ rest) requests a qu c q e = let none = qu.token_conversions in cc
token_at w [] [] a qu c q e = cc
token_at w [] (b ∷ rest) a qu c q e =
    let held : ℕ → Option Mode = (w.locks token_res).held in
    let asks : (m : ℕ) → asks_of m (b ∷ rest) ≡ token_request (w.sender m) (held m) = λ m. rw q at (qu.token_requests m) in
    let found = token_asker (w.sender b.node) (held b.node) b.mode (asks_of b.node rest) (head_asks b rest (λ m. token_request (w.sender m) (held m)) asks) in
    let same : b ≡ a = cc in
    subst (λ x. TokenHead w x) same (record { phase = found.0; mode = found.2 })

pub token_head : (w : Rounds) (a : Ask) → Queues w → heads w token_res ≡ Some a → TokenHead w a
token_head w a qu e = token_at w (w.locks token_res).conversions (w.locks token_res).requests a qu refl refl e

ack_at : (w : Rounds) (conversions requests : List Ask) (a : Ask) → Queues w → (w.locks ack_res).conversions ≡ conversions → (w.locks ack_res).requests ≡ requests → head conversions requests ≡ Some a → AckHead w a
ack_at w [] (b ∷ rest) a qu c q e = let none = qu.ack_requests in cc
ack_at w [] [] a qu c q e = cc
ack_at w (b ∷ rest) requests a qu c q e =
    let held : ℕ → Option Mode = (w.locks ack_res).held in
    let asks : (m : ℕ) → asks_of m (b ∷ rest) ≡ ack_conversion (w.sender m) (held m) = λ m. rw c at (qu.ack_conversions m) in
    let found = ack_converter (w.sender b.node) (held b.node) b.mode (asks_of b.node rest) (head_asks b rest (λ m. ack_conversion (w.sender m) (held m)) asks) in
    let same : b ≡ a = cc in
    subst (λ x. AckHead w x) same (record { phase = found.0; mode = found.2 })

pub ack_head : (w : Rounds) (a : Ask) → Queues w → heads w ack_res ≡ Some a → AckHead w a
ack_head w a qu e = ack_at w (w.locks ack_res).conversions (w.locks ack_res).requests a qu refl refl e

message_at : (w : Rounds) (conversions requests : List Ask) (a : Ask) → Queues w → (w.locks message_res).conversions ≡ conversions → (w.locks message_res).requests ≡ requests → head conversions requests ≡ Some a → PrHead w a ⊎ MessageHead w a
message_at w [] [] a qu c q e = cc
message_at w [] (b ∷ rest) a qu c q e =
    let held : ℕ → Option Mode = (w.locks message_res).held in
    let asks : (m : ℕ) → asks_of m (b ∷ rest) ≡ message_request (w.sender m) (held m) = λ m. rw q at (qu.message_requests m) in
    let found = message_asker (w.sender b.node) (held b.node) b.mode (asks_of b.node rest) (head_asks b rest (λ m. message_request (w.sender m) (held m)) asks) in
    let same : b ≡ a = cc in
    inr (subst (λ x. MessageHead w x) same (record { phase = found.0; mode = found.2 }))
message_at w (b ∷ rest) requests a qu c q e =
    let held : ℕ → Option Mode = (w.locks message_res).held in
    let asks : (m : ℕ) → asks_of m (b ∷ rest) ≡ message_conversion (w.receiver m) (held m) = λ m. rw c at (qu.message_conversions m) in
    let found = message_converter (w.receiver b.node) (held b.node) b.mode (asks_of b.node rest) (head_asks b rest (λ m. message_conversion (w.receiver m) (held m)) asks) in
    let same : b ≡ a = cc in
    inl (subst (λ x. PrHead w x) same (record { phase = found.0; mode = found.2 }))

pub message_head : (w : Rounds) (a : Ask) → Queues w → heads w message_res ≡ Some a → PrHead w a ⊎ MessageHead w a
message_head w a qu e = message_at w (w.locks message_res).conversions (w.locks message_res).requests a qu refl refl e

pub pr_head : (w : Rounds) (a : Ask) (rest : List Ask) → Queues w → (w.locks message_res).conversions ≡ a ∷ rest → PrHead w a
pr_head w a rest qu c =
    let held : ℕ → Option Mode = (w.locks message_res).held in
    let asks : (m : ℕ) → asks_of m (a ∷ rest) ≡ message_conversion (w.receiver m) (held m) = λ m. rw c at (qu.message_conversions m) in
    let found = message_converter (w.receiver a.node) (held a.node) a.mode (asks_of a.node rest) (head_asks a rest (λ m. message_conversion (w.receiver m) (held m)) asks) in
    record { phase = found.0; mode = found.2 }

-- The news may come at once.

token_told_may : (locks : ℕ → Lock) (w : Rounds) (n : ℕ) → w.sender n ≡ senders.TokenAsked → (locks token_res).held n ≡ Some EX → May (record w { locks = locks }) (TokenGranted n)
token_told_may locks w n is held = rw is (rw held refl)

message_told_may : (locks : ℕ → Lock) (w : Rounds) (n : ℕ) → w.sender n ≡ senders.MessageAsked → (locks message_res).held n ≡ Some EX → May (record w { locks = locks }) (MessageGranted n)
message_told_may locks w n is held = rw is (rw held refl)

ack_told_may : (locks : ℕ → Lock) (w : Rounds) (n : ℕ) → w.sender n ≡ senders.Published → (locks ack_res).held n ≡ Some EX → May (record w { locks = locks }) (AckGranted n)
ack_told_may locks w n is held = rw is (rw held refl)

pr_told_may : (locks : ℕ → Lock) (w : Rounds) (n : ℕ) → w.receiver n ≡ receivers.Waiting → (locks message_res).held n ≡ Some PR → May (record w { locks = locks }) (PrGranted n)
pr_told_may locks w n is held = rw is (rw held refl)

message_news_may : (w : Rounds) (a : Ask) → heads w message_res ≡ Some a → PrHead w a ⊎ MessageHead w a → May (after w (Grant message_res)) (news_at message_res a)
message_news_may w a h (inl p) = rw p.mode (pr_told_may (after w (Grant message_res)).locks w a.node p.phase (holds_granted (w.locks message_res) a h ∙ ap Some p.mode))
message_news_may w a h (inr p) = rw p.mode (message_told_may (after w (Grant message_res)).locks w a.node p.phase (holds_granted (w.locks message_res) a h ∙ ap Some p.mode))

pub news_may : (w : Rounds) (r : ℕ) (a : Ask) → Queues w → May w (Grant r) → heads w r ≡ Some a → May (after w (Grant r)) (news_at r a)
news_may w r a qu (inl is, ok) h = subst (λ k. heads w k ≡ Some a → May (after w (Grant k)) (news_at k a)) (sym is) (λ h. let p = token_head w a qu h in token_told_may (after w (Grant token_res)).locks w a.node p.phase (holds_granted (w.locks token_res) a h ∙ ap Some p.mode)) h
news_may w r a qu (inr (inl is), ok) h = subst (λ k. heads w k ≡ Some a → May (after w (Grant k)) (news_at k a)) (sym is) (λ h. message_news_may w a h (message_head w a qu h)) h
news_may w r a qu (inr (inr is), ok) h = subst (λ k. heads w k ≡ Some a → May (after w (Grant k)) (news_at k a)) (sym is) (λ h. let p = ack_head w a qu h in ack_told_may (after w (Grant ack_res)).locks w a.node p.phase (holds_granted (w.locks ack_res) a h ∙ ap Some p.mode)) h

-- What each event keeps.

told_join : (w : Rounds) (n : ℕ) → AllTold w → (w.locks token_res).held n ≡ None → AllTold (after w (Join n))
told_join w n t e = grind (arith, nat_tests)

told_come_in : (w : Rounds) (n : ℕ) → AllTold w → AllTold (after w (ComeIn n))
told_come_in w n t = grind (arith, nat_tests)

told_leave : (w : Rounds) (n : ℕ) → AllTold w → w.sender n ≡ senders.Idle → AllTold (after w (Leave n))
told_leave w n t s = grind (arith, nat_tests)

told_ask_token : (w : Rounds) (n : ℕ) → AllTold w → (w.locks token_res).held n ≡ None → AllTold (after w (AskToken n))
told_ask_token w n t e = grind (arith, nat_tests)

told_sender : (w : Rounds) (n : ℕ) (s : SenderPhase) → AllTold w → s ≢ senders.TokenAsked → s ≢ senders.MessageAsked → s ≢ senders.Published → AllTold (record w { sender = with_at w.sender n s })
told_sender w n s t a b c = grind (arith, nat_tests)

told_ask_message : (w : Rounds) (n : ℕ) → AllTold w → (w.locks message_res).held n ≡ None → AllTold (after w (AskMessage n))
told_ask_message w n t e = grind (arith, nat_tests)

told_publish : (w : Rounds) (n : ℕ) (block : Block) → AllTold w → (w.locks ack_res).held n ≡ Some CR → w.receiver n ≡ receivers.Idle → AllTold (after w (Publish n block))
told_publish w n block t e r = grind (arith, nat_tests)

told_finish : (w : Rounds) (n : ℕ) → AllTold w → w.receiver n ≡ receivers.Idle → AllTold (after w (Finish n))
told_finish w n t r = grind (arith, nat_tests)

told_quit_with : (w : Rounds) (n : ℕ) (state : NodeState) (has : Bool) → AllTold w → (has ≡ true → w.receiver n ≡ receivers.Idle) → AllTold (quit_with w n state has)
told_quit_with w n states.Up true t r = grind (arith, nat_tests)
told_quit_with w n states.Up false t r = grind (arith, nat_tests)
told_quit_with w n states.Out true t r = grind (arith, nat_tests)
told_quit_with w n states.Out false t r = grind (arith, nat_tests)
told_quit_with w n states.Joining true t r = grind (arith, nat_tests)
told_quit_with w n states.Joining false t r = grind (arith, nat_tests)
told_quit_with w n states.Loaded true t r = grind (arith, nat_tests)
told_quit_with w n states.Loaded false t r = grind (arith, nat_tests)

told_take : (w : Rounds) (n : ℕ) → AllTold w → may_receive (w.sender n) ≡ true → AllTold (after w (Take n))
told_take w n t s = grind (arith, nat_tests)

told_processed : (w : Rounds) (n : ℕ) → AllTold w → may_receive (w.sender n) ≡ true → (w.locks message_res).held n ≡ Some CR → AllTold (after w (Processed n))
told_processed w n t s e = grind (arith, nat_tests)

told_pr : (w : Rounds) (n : ℕ) → AllTold w → AllTold (after w (PrGranted n))
told_pr w n t = grind (arith, nat_tests)

told_resume : (w : Rounds) (n : ℕ) → AllTold w → may_receive (w.sender n) ≡ true → AllTold (after w (Resume n))
told_resume w n t s = grind (arith, nat_tests)

told_drop : (w : Rounds) (n : ℕ) → AllTold w → AllTold (after w (Drop n))
told_drop w n t = grind (arith, nat_tests)

told_die : (w : Rounds) (n : ℕ) → AllTold w → AllTold (after w (Die n))
told_die w n t = grind (arith, nat_tests)

-- a grant and its news

told_token_grant : (w : Rounds) (p : ℕ) (lock : Lock) → AllTold w → ((m : ℕ) → lock.held m ≡ (if m == p then Some EX else (w.locks token_res).held m)) → AllTold (record w { sender = with_at w.sender p senders.TokenHeld; locks = with_at w.locks token_res lock })
told_token_grant w p lock t h = grind (arith, nat_tests)

told_message_grant : (w : Rounds) (p : ℕ) (lock : Lock) → AllTold w → w.receiver p ≡ receivers.Idle → ((m : ℕ) → lock.held m ≡ (if m == p then Some EX else (w.locks message_res).held m)) → AllTold (record w { sender = with_at w.sender p senders.MessageHeld; locks = with_at w.locks message_res lock })
told_message_grant w p lock t r h = grind (arith, nat_tests)

told_pr_grant : (w : Rounds) (p : ℕ) (lock : Lock) → AllTold w → may_receive (w.sender p) ≡ true → ((m : ℕ) → lock.held m ≡ (if m == p then Some PR else (w.locks message_res).held m)) → AllTold (record w { receiver = with_at w.receiver p receivers.Ready; locks = with_at w.locks message_res lock })
told_pr_grant w p lock t s h = grind (arith, nat_tests)

told_ack_grant : (w : Rounds) (p : ℕ) (lock : Lock) → AllTold w → ((m : ℕ) → lock.held m ≡ (if m == p then Some EX else (w.locks ack_res).held m)) → AllTold (record w { sender = with_at w.sender p senders.Granted; locks = with_at w.locks ack_res lock })
told_ack_grant w p lock t h = grind (arith, nat_tests)

-- Any event.

token_free : (w : Rounds) (n : ℕ) → Held w → w.sender n ≡ senders.Idle → (w.locks token_res).held n ≡ None
token_free w n he s = grind (arith, he.token n)

message_free : (w : Rounds) (n : ℕ) → Held w → w.sender n ≡ senders.TokenHeld → w.receiver n ≡ receivers.Idle → (w.locks message_res).held n ≡ None
message_free w n he s r = grind (arith, he.message n)

idle_out : (w : Rounds) (n : ℕ) → Members w → w.state n ≡ states.Out → w.sender n ≡ senders.Idle
idle_out w n me s = grind (arith, me.fitting n)

offered_ack : (w : Rounds) (n : ℕ) → Held w → Members w → w.sender n ≡ senders.Offered → (w.locks ack_res).held n ≡ Some CR
offered_ack w n he me s = grind (arith, he.ack n, me.fitting n, me.sending n)

taken_message : (w : Rounds) (n : ℕ) → Held w → may_receive (w.sender n) ≡ true → w.receiver n ≡ receivers.Taken → (w.locks message_res).held n ≡ Some CR
taken_message w n he s r = grind (arith, he.message n)

has_idle : (w : Rounds) (n : ℕ) → Members w → has_message (w.sender n) ≡ true → w.receiver n ≡ receivers.Idle
has_idle w n me s = grind (arith, me.sending n)

receiving_may : (w : Rounds) (n : ℕ) (r : ReceiverPhase) → Members w → w.receiver n ≡ r → r ≢ receivers.Idle → may_receive (w.sender n) ≡ true
receiving_may w n r me is ne = grind (arith, me.sending n)

told_message_news : (w : Rounds) (members : ℕ → Bool) (past : List Entry) (a : Ask) → Inv w members past → AllTold w → heads w message_res ≡ Some a → PrHead w a ⊎ MessageHead w a → AllTold (after_grant w message_res a)
told_message_news w members past a i t h (inl p) =
    rw p.mode (told_pr_grant w a.node (granted (w.locks message_res)) t (receiving_may w a.node receivers.Waiting i.members_are p.phase (λ e. cc)) (λ m. rw p.mode at (serves (w.locks message_res) a h m)))
told_message_news w members past a i t h (inr p) =
    rw p.mode (told_message_grant w a.node (granted (w.locks message_res)) t (i.members_are.sending a.node (rw p.phase refl)) (λ m. rw p.mode at (serves (w.locks message_res) a h m)))

pub told_grant : (w : Rounds) (members : ℕ → Bool) (past : List Entry) (r : ℕ) (a : Ask) → Inv w members past → AllTold w → May w (Grant r) → heads w r ≡ Some a → AllTold (after_grant w r a)
told_grant w members past r a i t (inl is, ok) h = subst (λ k. heads w k ≡ Some a → AllTold (after_grant w k a)) (sym is) (λ h. let p = token_head w a i.queues h in told_token_grant w a.node (granted (w.locks token_res)) t (λ m. rw p.mode at (serves (w.locks token_res) a h m))) h
told_grant w members past r a i t (inr (inl is), ok) h = subst (λ k. heads w k ≡ Some a → AllTold (after_grant w k a)) (sym is) (λ h. told_message_news w members past a i t h (message_head w a i.queues h)) h
told_grant w members past r a i t (inr (inr is), ok) h = subst (λ k. heads w k ≡ Some a → AllTold (after_grant w k a)) (sym is) (λ h. let p = ack_head w a i.queues h in told_ack_grant w a.node (granted (w.locks ack_res)) t (λ m. rw p.mode at (serves (w.locks ack_res) a h m))) h

pub told_opening : (members : ℕ → Bool) → AllTold (opening members)
told_opening members = record { token = λ n e. refl; message = λ n e. refl; ack = λ n e. cc; pr = λ n e. cc }

pub told_on : (w : Rounds) (members : ℕ → Bool) (past : List Entry) (e : Event) (v : Rounds) → Inv w members past → AllTold w → May w e → ToldAfter w e v → AllTold v
told_on w members past (Join n) v i t m e = subst AllTold (sym e) (told_join w n t (token_free w n i.held (idle_out w n i.members_are m.1)))
told_on w members past (ComeIn n) v i t m e = subst AllTold (sym e) (told_come_in w n t)
told_on w members past (Leave n) v i t m e = subst AllTold (sym e) (told_leave w n t m.1)
told_on w members past (AskToken n) v i t m e = let g = ask_token_guard _ _ m.1 in subst AllTold (sym e) (told_ask_token w n t (token_free w n i.held g.0))
told_on w members past (TokenGranted n) v i t m e = subst AllTold (sym e) (told_sender w n senders.TokenHeld t (λ s. cc) (λ s. cc) (λ s. cc))
told_on w members past (AskMessage n) v i t m e = let g = ask_message_guard _ _ m.1 in subst AllTold (sym e) (told_ask_message w n t (message_free w n i.held g.0 g.1))
told_on w members past (MessageGranted n) v i t m e = subst AllTold (sym e) (told_sender w n senders.MessageHeld t (λ s. cc) (λ s. cc) (λ s. cc))
told_on w members past (Offer n) v i t m e = subst AllTold (sym e) (told_sender w n senders.Offered t (λ s. cc) (λ s. cc) (λ s. cc))
told_on w members past (Void n) v i t m e = subst AllTold (sym e) (told_sender w n senders.MessageHeld t (λ s. cc) (λ s. cc) (λ s. cc))
told_on w members past (Publish n block) v i t m e = let g = publish_guard _ m in subst AllTold (sym e) (told_publish w n block t (offered_ack w n i.held i.members_are g) (i.members_are.sending n (rw g refl)))
told_on w members past (AckGranted n) v i t m e = subst AllTold (sym e) (told_sender w n senders.Granted t (λ s. cc) (λ s. cc) (λ s. cc))
told_on w members past (Finish n) v i t m e = let g = finish_guard _ m in subst AllTold (sym e) (told_finish w n t (i.members_are.sending n (rw g refl)))
told_on w members past (Quit n) v i t m e = subst AllTold (sym (quit_is w n (w.state n) refl) ∙ sym e) (told_quit_with w n (w.state n) (has_message (w.sender n)) t (has_idle w n i.members_are))
told_on w members past (Take n) v i t m e =
    let g = take_guard w.locks n (receiving w n) m.1 in
    let p = caller_is w n i.held i.queues g.1 in
    let own = lacks_own (w.sender n) (alone w _ i.apart i.held (rw p.0 refl) n (λ s. p.1 (sym s))) in
    subst AllTold (sym e) (told_take w n t own)
told_on w members past (Processed n) v i t m e =
    let g = processed_guard (receiving w n) m in
    let own = receiving_may w n receivers.Taken i.members_are g.0 (λ s. cc) in
    subst AllTold (sym e) (told_processed w n t own (taken_message w n i.held own g.0))
told_on w members past (PrGranted n) v i t m e = subst AllTold (sym e) (told_pr w n t)
told_on w members past (Resume n) v i t m e =
    let g = resume_guard w.locks n (receiving w n) m in
    subst AllTold (sym e) (told_resume w n t (receiving_may w n (w.receiver n) i.members_are refl (λ s. busy (w.receiver n) g.0 s)))
  where
    busy : (r : ReceiverPhase) → has_processed r ≡ true → r ≡ receivers.Idle → ⊥
    busy r p s = grind arith
told_on w members past (Drop n) v i t m e = subst AllTold (sym e) (told_drop w n t)
told_on w members past (Grant r) v i t m e = subst AllTold (sym e.1.1) (told_grant w members past r e.0 i t m e.1.0)
told_on w members past (Die n) v i t m e = subst AllTold (sym e) (told_die w n t)

pub tells_grants : (w : Rounds) (members : ℕ → Bool) (past : List Entry) → Inv w members past → TellsGrants w
tells_grants w members past i = record {
  may = λ r a m h. news_may w r a i.queues m h;
  told = λ t e v m is. told_on w members past e v i t m is;
}
