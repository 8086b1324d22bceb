-- The rank after each event that brings a round nearer to its end.
use Rattle.std.proofs.Common.{◌≡◌, ◌≢◌, ◌⊎◌, inl, inr, ℕ, ◌<◌, ◌≤◌, Bool, true, false, Option, Some, None, List, [], ◌∷◌, refl, sym, ap, ◌∙◌, subst, arith}
use Rattle.std.proofs.lemmas.Bool.{eqb-false}
use Rattle.std.proofs.lemmas.Bool.Decides.{nat_tests}
use Rattle.std.specs.Prelude.{is_some, if◌then◌else◌}
use Rattle.dlm_modes.specs.Points.{with_at}
use Rattle.dlm_modes.specs.declared.mode.Mode.{Mode}
use Rattle.dlm_modes.specs.declared.mode.Mode.TheVariants.{CR, PR, EX}
use Rattle.dlm_space.specs.Locks.{Lock, granted, grant_refusal, caller, is_against, disagrees}
use Rattle.dlm_space.specs.Queues.{asks_of, head}
use Rattle.dlm_space.specs.Orderly.{agree}
use Rattle.dlm_space.specs.declared.ask.Ask.{Ask}
use Rattle.mdc_types.specs.declared.roles.NodeState.{NodeState}
use Rattle.mdc_types.specs.declared.roles.NodeState.TheVariants as states
use Rattle.msg_rounds.specs.Locks.{message_res, ack_res}
use Rattle.msg_rounds.specs.Phases.{Receiving, is_idle, has_published, may_receive}
use Rattle.msg_rounds.specs.Refusals.{is_published, is_sender_idle, finish_refusal, ack_granted_refusal, take_refusal, processed_refusal, resume_refusal, drop_refusal}
use Rattle.msg_rounds.specs.declared.phases.SenderPhase.{SenderPhase}
use Rattle.msg_rounds.specs.declared.phases.SenderPhase.TheVariants as senders
use Rattle.msg_rounds.specs.declared.phases.ReceiverPhase.{ReceiverPhase}
use Rattle.msg_rounds.specs.declared.phases.ReceiverPhase.TheVariants as receivers
use Rattle.laws_rounds.specs.Machine.{Rounds, Event, Join, ComeIn, Leave, AskToken, TokenGranted, AskMessage, MessageGranted, Offer, Void, Publish, AckGranted, Finish, Quit, Take, Processed, PrGranted, Resume, Drop, Grant, Die, Entry, May, after, receiving}
use Rattle.laws_rounds.specs.Going.{Ends, another_published, rank_of, rank}
use Rattle.laws_rounds.specs.Traces.{Fate, Open, fate_in}
use Rattle.laws_rounds.specs.Invariants.{Inv, is_dead_fate, fits}
use Rattle.laws_rounds.proofs.GoingFacts.{head_asks, ack_asker, message_asker, published_once, in_the_way}
use Rattle.laws_rounds.proofs.Ranks.{falls_at, another_le, none_published, one_published, others_take, others_processed, others_resume, others_drop}

-- what each call tells

finish_tells : (s : SenderPhase) → finish_refusal s ≡ None → s ≡ senders.Granted
finish_tells s e = grind arith

told_tells : (locks : ℕ → Lock) (n : ℕ) (s : SenderPhase) → ack_granted_refusal locks n s ≡ None → (s ≡ senders.Published) × ((locks ack_res).held n ≡ Some EX)
told_tells locks n s e = grind arith

take_tells : (locks : ℕ → Lock) (n : ℕ) (r : Receiving) → take_refusal locks n r ≡ None → (r.phase ≡ receivers.Idle) × (is_some (caller (locks ack_res) n) ≡ true)
take_tells locks n r e = grind arith

processed_tells : (r : Receiving) → processed_refusal r ≡ None → r.phase ≡ receivers.Taken
processed_tells r e = grind arith

drop_tells : (r : Receiving) → drop_refusal r ≡ None → (r.phase ≡ receivers.Taken) × (r.gone ≡ true)
drop_tells r e = grind arith

resume_tells : (locks : ℕ → Lock) (n : ℕ) (r : Receiving) → resume_refusal locks n r ≡ None → ((r.phase ≡ receivers.Waiting) ⊎ (r.phase ≡ receivers.Ready)) × ((locks message_res).held n ≡ Some PR)
resume_tells locks n r e = grind arith

-- only nodes below 16 do anything

below_or : (n : ℕ) → (n < 16) ⊎ (16 ≤ n)
below_or n = grind (arith, nat_tests)

live_below : (w : Rounds) (members : ℕ → Bool) (past : List Entry) (n : ℕ) → Inv w members past → w.state n ≢ states.Out → n < 16
live_below w members past n i live = by_place (below_or n)
  where
    by_place : (n < 16) ⊎ (16 ≤ n) → n < 16
    by_place (inl lt) = lt
    by_place (inr le) = absurd (live (i.members_are.below n le))

sender_live : (state : NodeState) (s : SenderPhase) → fits state s ≡ true → is_sender_idle s ≡ false → state ≢ states.Out
sender_live state s f busy is = grind arith

sender_below : (w : Rounds) (members : ℕ → Bool) (past : List Entry) (n : ℕ) → Inv w members past → is_sender_idle (w.sender n) ≡ false → n < 16
sender_below w members past n i busy = live_below w members past n i (sender_live (w.state n) (w.sender n) (i.members_are.fitting n) busy)

receiver_live : (w : Rounds) (members : ℕ → Bool) (past : List Entry) (n : ℕ) → Inv w members past → is_idle (w.receiver n) ≡ false → w.state n ≢ states.Out
receiver_live w members past n i busy is = grind (arith, i.members_are.idle n)

receiver_below : (w : Rounds) (members : ℕ → Bool) (past : List Entry) (n : ℕ) → Inv w members past → is_idle (w.receiver n) ≡ false → n < 16
receiver_below w members past n i busy = live_below w members past n i (receiver_live w members past n i busy)

receiving_may : (w : Rounds) (members : ℕ → Bool) (past : List Entry) (n : ℕ) → Inv w members past → is_idle (w.receiver n) ≡ false → may_receive (w.sender n) ≡ true
receiving_may w members past n i busy = grind (arith, i.members_are.sending n)

published_is : (s : SenderPhase) → is_published s ≡ true → has_published s ≡ true
published_is s e = grind arith

-- beside a sender that has published no other has
no_other : (w : Rounds) (members : ℕ → Bool) (past : List Entry) (n m : ℕ) → Inv w members past → has_published (w.sender n) ≡ true → m ≢ n → is_published (w.sender m) ≡ false
no_other w members past n m i p ne = grind (arith, published_once past members w m n i, published_is (w.sender m))

-- where the round isn't open nobody has
nobody : (w : Rounds) (members : ℕ → Bool) (past : List Entry) (m : ℕ) → Inv w members past → ((n : ℕ) → fate_in past ≢ Open n) → is_published (w.sender m) ≡ false
nobody w members past m i shut = grind (arith, i.told.fate_open m, published_is (w.sender m), shut m)

same_le : {a b : ℕ} → a ≡ b → a ≤ b
same_le e = omega arith

-- the events

finish_at : (w : Rounds) (n : ℕ) → w.sender n ≡ senders.Granted → w.receiver n ≡ receivers.Idle → another_published (after w (Finish n)) n ≡ false → rank_of (after w (Finish n)) n < rank_of w n
finish_at w n s r a = grind arith

finish_else : (w : Rounds) (n m : ℕ) → w.sender n ≡ senders.Granted → m ≢ n → (another_published (after w (Finish n)) m ≡ true → another_published w m ≡ true) → rank_of (after w (Finish n)) m ≤ rank_of w m
finish_else w n m s ne le = grind arith

fewer_by : (f : ℕ → SenderPhase) (n : ℕ) (s : SenderPhase) → is_published s ≡ false → (m : ℕ) → is_published (with_at f n s m) ≡ true → is_published (f m) ≡ true
fewer_by f n s isnt m is = grind arith

same_else : (f : ℕ → SenderPhase) (n : ℕ) (s : SenderPhase) → ((m : ℕ) → m ≢ n → is_published (f m) ≡ false) → (m : ℕ) → m ≢ n → is_published (with_at f n s m) ≡ false
same_else f n s none m ne = grind (arith, none m)

finish_falls : (w : Rounds) (members : ℕ → Bool) (past : List Entry) (n : ℕ) → Inv w members past → w.sender n ≡ senders.Granted → rank (after w (Finish n)) < rank w
finish_falls w members past n i s =
    falls_at (after w (Finish n)) w n (sender_below w members past n i (rw s refl))
    (finish_at w n s (i.members_are.sending n (rw s refl)) (none_published (with_at w.sender n senders.Idle) n (same_else w.sender n senders.Idle (λ m ne. no_other w members past n m i (rw s refl) ne))))
    (λ m ne. finish_else w n m s ne (another_le (with_at w.sender n senders.Idle) w.sender m (fewer_by w.sender n senders.Idle refl)))

told_at : (w : Rounds) (n : ℕ) → w.sender n ≡ senders.Published → (w.locks ack_res).held n ≡ Some EX → rank_of (after w (AckGranted n)) n < rank_of w n
told_at w n s ex = grind arith

told_else : (w : Rounds) (n m : ℕ) → m ≢ n → (another_published (after w (AckGranted n)) m ≡ true → another_published w m ≡ true) → rank_of (after w (AckGranted n)) m ≤ rank_of w m
told_else w n m ne le = grind arith

told_falls : (w : Rounds) (members : ℕ → Bool) (past : List Entry) (n : ℕ) → Inv w members past → w.sender n ≡ senders.Published → (w.locks ack_res).held n ≡ Some EX → rank (after w (AckGranted n)) < rank w
told_falls w members past n i s ex =
    falls_at (after w (AckGranted n)) w n (sender_below w members past n i (rw s refl))
    (told_at w n s ex)
    (λ m ne. told_else w n m ne (another_le (with_at w.sender n senders.Granted) w.sender m (fewer_by w.sender n senders.Granted refl)))

processed_at : (w : Rounds) (n : ℕ) → w.receiver n ≡ receivers.Taken → may_receive (w.sender n) ≡ true → rank_of (after w (Processed n)) n < rank_of w n
processed_at w n r m = grind arith

processed_falls : (w : Rounds) (members : ℕ → Bool) (past : List Entry) (n : ℕ) → Inv w members past → w.receiver n ≡ receivers.Taken → rank (after w (Processed n)) < rank w
processed_falls w members past n i r =
    falls_at (after w (Processed n)) w n (receiver_below w members past n i (rw r refl))
    (processed_at w n r (receiving_may w members past n i (rw r refl)))
    (λ m ne. same_le (others_processed w n m ne))

drop_at : (w : Rounds) (n : ℕ) → w.receiver n ≡ receivers.Taken → another_published w n ≡ false → rank_of (after w (Drop n)) n < rank_of w n
drop_at w n r a = grind arith

dead_shut : (fate : Fate) → is_dead_fate fate ≡ true → (n : ℕ) → fate ≢ Open n
dead_shut fate e n is = grind arith

drop_falls : (w : Rounds) (members : ℕ → Bool) (past : List Entry) (n : ℕ) → Inv w members past → w.receiver n ≡ receivers.Taken → w.gone n ≡ true → rank (after w (Drop n)) < rank w
drop_falls w members past n i r g =
    let dead : is_dead_fate (fate_in past) ≡ true = sym (i.told.gone n (rw r refl)) ∙ g in
    falls_at (after w (Drop n)) w n (receiver_below w members past n i (rw r refl))
    (drop_at w n r (none_published w.sender n (λ m ne. nobody w members past m i (dead_shut (fate_in past) dead))))
    (λ m ne. same_le (others_drop w n m ne))

resume_at : (w : Rounds) (n : ℕ) → (w.receiver n ≡ receivers.Waiting) ⊎ (w.receiver n ≡ receivers.Ready) → (w.locks message_res).held n ≡ Some PR → may_receive (w.sender n) ≡ true → another_published w n ≡ false → rank_of (after w (Resume n)) n < rank_of w n
resume_at w n r pr m a = grind arith

resuming : (r : ReceiverPhase) → (r ≡ receivers.Waiting) ⊎ (r ≡ receivers.Ready) → is_idle r ≡ false
resuming r e = grind arith

-- PR on `message` stands beside no published message
pr_shut : (s : SenderPhase) (r : ReceiverPhase) (held : Option Mode) → Rattle.laws_rounds.specs.Invariants.message_fits s r held ≡ true → agree (Some PR) held ≡ true → is_published s ≡ false
pr_shut s r held f a = grind arith

resume_falls : (w : Rounds) (members : ℕ → Bool) (past : List Entry) (n : ℕ) → Inv w members past → (w.receiver n ≡ receivers.Waiting) ⊎ (w.receiver n ≡ receivers.Ready) → (w.locks message_res).held n ≡ Some PR → rank (after w (Resume n)) < rank w
resume_falls w members past n i r pr =
    let busy = resuming (w.receiver n) r in
    falls_at (after w (Resume n)) w n (receiver_below w members past n i busy)
    (resume_at w n r pr (receiving_may w members past n i busy) (none_published w.sender n (λ m ne. pr_shut (w.sender m) (w.receiver m) ((w.locks message_res).held m) (i.held.message m) (subst (λ x. agree x ((w.locks message_res).held m) ≡ true) pr (i.apart.message n m (λ e. ne (sym e)))))))
    (λ m ne. same_le (others_resume w n m ne))

take_at : (w : Rounds) (n : ℕ) → w.receiver n ≡ receivers.Idle → (w.locks ack_res).held n ≡ Some CR → another_published w n ≡ true → rank_of (after w (Take n)) n < rank_of w n
take_at w n r cr a = grind arith

-- who calls stands at the head, and isn't the node
caller_tells : (lock : Lock) (n : ℕ) → lock.requests ≡ [] → is_some (caller lock n) ≡ true → (a : Ask) × (rest : List Ask) × (lock.conversions ≡ a ∷ rest) × (is_against lock a.node a.mode n ≡ true)
caller_tells lock n none is = at_queue lock.conversions refl
  where
    by_test : (a : Ask) (b : Bool) → is_against lock a.node a.mode n ≡ b → is_some (if b then Some a.node else None) ≡ true → is_against lock a.node a.mode n ≡ true
    by_test a true e f = e
    by_test a false e f = cc

    at_queue : (queue : List Ask) → lock.conversions ≡ queue → (a : Ask) × (rest : List Ask) × (lock.conversions ≡ a ∷ rest) × (is_against lock a.node a.mode n ≡ true)
    at_queue [] q = absurd (clash (subst (λ x. is_some (Rattle.dlm_space.specs.Locks.calling lock n (head x lock.requests)) ≡ true) q is))
      where
        clash : is_some (Rattle.dlm_space.specs.Locks.calling lock n (head [] lock.requests)) ≡ true → ⊥
        clash e = nothing lock.requests none e
          where
            nothing : (queue : List Ask) → queue ≡ [] → is_some (Rattle.dlm_space.specs.Locks.calling lock n (head [] queue)) ≡ true → ⊥
            nothing [] e f = cc
            nothing (a ∷ rest) e f = cc
    at_queue (a ∷ rest) q = (a, rest, q, by_test a (is_against lock a.node a.mode n) refl (subst (λ x. is_some (Rattle.dlm_space.specs.Locks.calling lock n (head x lock.requests)) ≡ true) q is))

against_tells : (lock : Lock) (n m : ℕ) (mode : Mode) → is_against lock n mode m ≡ true → (m ≢ n) × (disagrees mode (lock.held m) ≡ true)
against_tells lock n m mode e = grind (arith, eqb-false m n)

-- the head of the conversions of `ack` is the sender's own
ack_head : (w : Rounds) (members : ℕ → Bool) (past : List Entry) (a : Ask) (rest : List Ask) → Inv w members past → (w.locks ack_res).conversions ≡ a ∷ rest → (w.sender a.node ≡ senders.Published) × ((w.locks ack_res).held a.node ≡ Some CR) × (a.mode ≡ EX)
ack_head w members past a rest i q = ack_asker (w.sender a.node) ((w.locks ack_res).held a.node) a.mode (asks_of a.node rest) (sym (head_asks a rest) ∙ ap (asks_of a.node) (sym q) ∙ i.queues.ack_conversions a.node)

message_head : (w : Rounds) (members : ℕ → Bool) (past : List Entry) (a : Ask) (rest : List Ask) → Inv w members past → (w.locks message_res).conversions ≡ a ∷ rest → (w.receiver a.node ≡ receivers.Waiting) × ((w.locks message_res).held a.node ≡ Some CR) × (a.mode ≡ PR)
message_head w members past a rest i q = message_asker (w.receiver a.node) ((w.locks message_res).held a.node) a.mode (asks_of a.node rest) (sym (head_asks a rest) ∙ ap (asks_of a.node) (sym q) ∙ i.queues.message_conversions a.node)

take_falls : (w : Rounds) (members : ℕ → Bool) (past : List Entry) (n : ℕ) → Inv w members past → w.state n ≡ states.Up → w.receiver n ≡ receivers.Idle → is_some (caller (w.locks ack_res) n) ≡ true → rank (after w (Take n)) < rank w
take_falls w members past n i up r called =
    let h = caller_tells (w.locks ack_res) n i.queues.ack_requests called in
    let whose = ack_head w members past h.0 h.1 i h.2 in
    let other = against_tells (w.locks ack_res) h.0.node n h.0.mode h.3 in
    let published : has_published (w.sender h.0.node) ≡ true = rw whose.0 refl in
    let way = in_the_way (w.state n) (w.sender n) (w.receiver n) ((w.locks ack_res).held n) (i.held.ack n) (quiet n h.0.node published other.0) (subst (λ m. disagrees m ((w.locks ack_res).held n) ≡ true) whose.2 other.1) in
    falls_at (after w (Take n)) w n (live_below w members past n i (λ is. up_not_out (sym up ∙ is)))
    (take_at w n r way.2 (one_published w.sender n h.0.node (sender_below w members past h.0.node i (rw whose.0 refl)) (λ e. other.0 (sym e)) (rw whose.0 refl)))
    (λ m ne. same_le (others_take w n m ne))
  where
    up_not_out : states.Up ≡ states.Out → ⊥
    up_not_out e = cc

    quiet : (n m : ℕ) → has_published (w.sender m) ≡ true → n ≢ m → has_published (w.sender n) ≡ false
    quiet n m p ne = grind (arith, published_once past members w m n i p)

-- a grant of a conversion

granted_conversion : (lock : Lock) (a : Ask) (rest : List Ask) → lock.conversions ≡ a ∷ rest → granted lock ≡ record lock { held = with_at lock.held a.node (Some a.mode); conversions = rest }
granted_conversion lock a rest q = rw q refl

-- the rounds where the lock is another
abbrev with_lock : Rounds → ℕ → Lock → Rounds
with_lock w r lock = record w { locks = with_at w.locks r lock }

ack_at : (w : Rounds) (n : ℕ) (rest : List Ask) → w.sender n ≡ senders.Published → (w.locks ack_res).held n ≡ Some CR → rank_of (with_lock w ack_res (record (w.locks ack_res) { held = with_at (w.locks ack_res).held n (Some EX); conversions = rest })) n < rank_of w n
ack_at w n rest s cr = grind arith

ack_else : (w : Rounds) (n m : ℕ) (rest : List Ask) → m ≢ n → rank_of (with_lock w ack_res (record (w.locks ack_res) { held = with_at (w.locks ack_res).held n (Some EX); conversions = rest })) m ≡ rank_of w m
ack_else w n m rest ne = grind arith

message_at : (w : Rounds) (n : ℕ) (rest : List Ask) → w.receiver n ≡ receivers.Waiting → (w.locks message_res).held n ≡ Some CR → rank_of (with_lock w message_res (record (w.locks message_res) { held = with_at (w.locks message_res).held n (Some PR); conversions = rest })) n < rank_of w n
message_at w n rest r cr = grind arith

message_else : (w : Rounds) (n m : ℕ) (rest : List Ask) → m ≢ n → rank_of (with_lock w message_res (record (w.locks message_res) { held = with_at (w.locks message_res).held n (Some PR); conversions = rest })) m ≡ rank_of w m
message_else w n m rest ne = grind arith

ack_granted_falls : (w : Rounds) (members : ℕ → Bool) (past : List Entry) (a : Ask) (rest : List Ask) → Inv w members past → (w.locks ack_res).conversions ≡ a ∷ rest → rank (with_lock w ack_res (granted (w.locks ack_res))) < rank w
ack_granted_falls w members past a rest i q =
    let whose = ack_head w members past a rest i q in
    let is : granted (w.locks ack_res) ≡ record (w.locks ack_res) { held = with_at (w.locks ack_res).held a.node (Some EX); conversions = rest } = subst (λ m. granted (w.locks ack_res) ≡ record (w.locks ack_res) { held = with_at (w.locks ack_res).held a.node (Some m); conversions = rest }) whose.2 (granted_conversion (w.locks ack_res) a rest q) in
    subst (λ lock. rank (with_lock w ack_res lock) < rank w) (sym is) (falls_at _ w a.node (sender_below w members past a.node i (rw whose.0 refl)) (ack_at w a.node rest whose.0 whose.1) (λ m ne. same_le (ack_else w a.node m rest ne)))

message_granted_falls : (w : Rounds) (members : ℕ → Bool) (past : List Entry) (a : Ask) (rest : List Ask) → Inv w members past → (w.locks message_res).conversions ≡ a ∷ rest → rank (with_lock w message_res (granted (w.locks message_res))) < rank w
message_granted_falls w members past a rest i q =
    let whose = message_head w members past a rest i q in
    let is : granted (w.locks message_res) ≡ record (w.locks message_res) { held = with_at (w.locks message_res).held a.node (Some PR); conversions = rest } = subst (λ m. granted (w.locks message_res) ≡ record (w.locks message_res) { held = with_at (w.locks message_res).held a.node (Some m); conversions = rest }) whose.2 (granted_conversion (w.locks message_res) a rest q) in
    subst (λ lock. rank (with_lock w message_res lock) < rank w) (sym is) (falls_at _ w a.node (receiver_below w members past a.node i (rw whose.0 refl)) (message_at w a.node rest whose.0 whose.1) (λ m ne. same_le (message_else w a.node m rest ne)))

-- a grant of `ack` serves a conversion, since nobody requests it
conversion_there : (lock : Lock) → lock.requests ≡ [] → grant_refusal lock ≡ None → lock.conversions ≢ []
conversion_there lock none may empty = grind arith

first_of_some : (queue : List Ask) → queue ≢ [] → (a : Ask) × (rest : List Ask) × (queue ≡ a ∷ rest)
first_of_some [] ne = absurd (ne refl)
first_of_some (a ∷ rest) ne = (a, rest, refl)

-- each event

pub rank_falls : (w : Rounds) (members : ℕ → Bool) (past : List Entry) → Inv w members past → (e : Event) → Ends w e → May w e → rank (after w e) < rank w
rank_falls w members past i (Grant r) (inl is) may = subst (λ r. grant_refusal (w.locks r) ≡ None → rank (after w (Grant r)) < rank w) (sym is) (λ ok. let q = first_of_some (w.locks ack_res).conversions (conversion_there (w.locks ack_res) i.queues.ack_requests ok) in ack_granted_falls w members past q.0 q.1 i q.2) may.1
rank_falls w members past i (Grant r) (inr (is, some)) may = subst (λ r. grant_refusal (w.locks r) ≡ None → rank (after w (Grant r)) < rank w) (sym is) (λ ok. let q = first_of_some (w.locks message_res).conversions some in message_granted_falls w members past q.0 q.1 i q.2) may.1
rank_falls w members past i (AckGranted n) ends may = let t = told_tells w.locks n (w.sender n) may in told_falls w members past n i t.0 t.1
rank_falls w members past i (Finish n) ends may = finish_falls w members past n i (finish_tells (w.sender n) may)
rank_falls w members past i (Take n) ends may = let t = take_tells w.locks n (receiving w n) may.1 in take_falls w members past n i may.0 t.0 t.1
rank_falls w members past i (Processed n) ends may = processed_falls w members past n i (processed_tells (receiving w n) may)
rank_falls w members past i (Resume n) ends may = let t = resume_tells w.locks n (receiving w n) may in resume_falls w members past n i t.0 t.1
rank_falls w members past i (Drop n) ends may = let t = drop_tells (receiving w n) may in drop_falls w members past n i t.0 t.1
rank_falls w members past i (Join n) ends may = absurd ends
rank_falls w members past i (ComeIn n) ends may = absurd ends
rank_falls w members past i (Leave n) ends may = absurd ends
rank_falls w members past i (AskToken n) ends may = absurd ends
rank_falls w members past i (TokenGranted n) ends may = absurd ends
rank_falls w members past i (AskMessage n) ends may = absurd ends
rank_falls w members past i (MessageGranted n) ends may = absurd ends
rank_falls w members past i (Offer n) ends may = absurd ends
rank_falls w members past i (Void n) ends may = absurd ends
rank_falls w members past i (Publish n block) ends may = absurd ends
rank_falls w members past i (Quit n) ends may = absurd ends
rank_falls w members past i (PrGranted n) ends may = absurd ends
rank_falls w members past i (Die n) ends may = absurd ends
