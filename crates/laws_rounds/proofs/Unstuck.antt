-- While a round is open, something can be done that brings its end nearer.
use Rattle.std.proofs.Common.{◌≡◌, ◌≢◌, ◌⊎◌, inl, inr, ℕ, Bool, true, false, Option, Some, None, List, [], ◌∷◌, refl, sym, ap, ◌∙◌, subst, arith}
use Rattle.std.proofs.lemmas.Bool.{eqb-false}
use Rattle.dlm_modes.proofs.FirstLaws.{first_such_some}
use Rattle.dlm_modes.specs.declared.mode.Mode.{Mode}
use Rattle.dlm_modes.specs.declared.mode.Mode.TheVariants.{CR, PR, EX}
use Rattle.dlm_space.specs.Queues.{asks_of}
use Rattle.dlm_space.specs.Orderly.{agree}
use Rattle.dlm_space.specs.Locks.{Lock, disagrees, is_against, blocker, grant_refusal, caller}
use Rattle.dlm_space.specs.declared.ask.Ask.{Ask}
use Rattle.mdc_types.specs.declared.roles.NodeState.TheVariants as states
use Rattle.msg_rounds.specs.Locks.{token_res, message_res, ack_res}
use Rattle.msg_rounds.specs.Phases.{is_idle, may_receive, has_published}
use Rattle.msg_rounds.specs.declared.phases.SenderPhase.{SenderPhase}
use Rattle.msg_rounds.specs.declared.phases.SenderPhase.TheVariants as senders
use Rattle.msg_rounds.specs.declared.phases.ReceiverPhase.{ReceiverPhase}
use Rattle.msg_rounds.specs.declared.phases.ReceiverPhase.TheVariants as receivers
use Rattle.laws_rounds.specs.Machine.{Rounds, Event, AckGranted, Finish, Take, Processed, Resume, Drop, Grant, Entry, May, receiving}
use Rattle.laws_rounds.specs.Going.{Ends, IsOpen}
use Rattle.laws_rounds.specs.Traces.{Fate, NotYet, Open, Finished, SenderDied, fate_in}
use Rattle.laws_rounds.specs.Invariants.{Inv}
use Rattle.laws_rounds.proofs.GoingFacts.{asked_in, head_asks, ack_asker, message_asker, published_holds, published_once, in_the_way, comes_alone, published_token, idle_or_taken, waiting_holds, ready_holds, cw_of_published}

abbrev CanGoOn : Rounds → Type 0
CanGoOn w = (e : Event) × (Ends w e × May w e)

-- what each call then needs

finish_may : (w : Rounds) (n : ℕ) → w.sender n ≡ senders.Granted → May w (Finish n)
finish_may w n is = rw is refl

told_may : (w : Rounds) (n : ℕ) → w.sender n ≡ senders.Published → (w.locks ack_res).held n ≡ Some EX → May w (AckGranted n)
told_may w n is held = rw is (rw held refl)

processed_may : (w : Rounds) (n : ℕ) → w.receiver n ≡ receivers.Taken → w.gone n ≡ false → May w (Processed n)
processed_may w n is gone = rw is (rw gone refl)

drop_may : (w : Rounds) (n : ℕ) → w.receiver n ≡ receivers.Taken → w.gone n ≡ true → May w (Drop n)
drop_may w n is gone = rw is (rw gone refl)

waiting_may : (w : Rounds) (n : ℕ) → w.receiver n ≡ receivers.Waiting → (w.locks message_res).held n ≡ Some PR → May w (Resume n)
waiting_may w n is held = rw is (rw held refl)

ready_may : (w : Rounds) (n : ℕ) → w.receiver n ≡ receivers.Ready → (w.locks message_res).held n ≡ Some PR → May w (Resume n)
ready_may w n is held = rw is (rw held refl)

called : (lock : Lock) (n : ℕ) (a : Ask) (rest : List Ask) → lock.conversions ≡ a ∷ rest → is_against lock a.node a.mode n ≡ true → caller lock n ≡ Some a.node
called lock n a rest q against = rw q (rw against refl)

take_may : (w : Rounds) (n : ℕ) (a : Ask) (rest : List Ask) → w.state n ≡ states.Up → w.receiver n ≡ receivers.Idle → (w.locks ack_res).conversions ≡ a ∷ rest → is_against (w.locks ack_res) a.node a.mode n ≡ true → May w (Take n)
take_may w n a rest up is q against = (up, rw is (rw (called (w.locks ack_res) n a rest q against) refl))

grant_may : (lock : Lock) (a : Ask) (rest : List Ask) → lock.conversions ≡ a ∷ rest → blocker lock a.node a.mode ≡ None → grant_refusal lock ≡ None
grant_may lock a rest q free = rw q (rw free refl)

-- a published message

-- the node in the way takes the message, or processes it
way_goes : (w : Rounds) (members : ℕ → Bool) (past : List Entry) (n h : ℕ) (a : Ask) (rest : List Ask) → Inv w members past → w.sender n ≡ senders.Published → (w.locks ack_res).conversions ≡ a ∷ rest → is_against (w.locks ack_res) a.node a.mode h ≡ true → w.state h ≡ states.Up → (w.receiver h ≡ receivers.Idle) ⊎ (w.receiver h ≡ receivers.Taken) → CanGoOn w
way_goes w members past n h a rest i p q against up (inl is) = (Take h, (tt, take_may w h a rest up is q against))
way_goes w members past n h a rest i p q against up (inr is) =
    let open_is : fate_in past ≡ Open n = i.told.fate_open n (rw p refl) in
    let gone_is : w.gone h ≡ false = i.told.gone h (rw is refl) ∙ rw open_is refl in
    (Processed h, (tt, processed_may w h is gone_is))

against_is : (lock : Lock) (n : ℕ) (mode : Mode) (h : ℕ) → is_against lock n mode h ≡ true → (h ≢ n) × (disagrees mode (lock.held h) ≡ true)
against_is lock n mode h e = grind (arith, eqb-false h n)

blocked_goes : (w : Rounds) (members : ℕ → Bool) (past : List Entry) (n h : ℕ) (a : Ask) (rest : List Ask) → Inv w members past → w.sender n ≡ senders.Published → a.node ≡ n → a.mode ≡ EX → (w.locks ack_res).conversions ≡ a ∷ rest → is_against (w.locks ack_res) a.node a.mode h ≡ true → CanGoOn w
blocked_goes w members past n h a rest i p here ex q against =
    let other = against_is (w.locks ack_res) a.node a.mode h against in
    let ne : h ≢ n = λ e. other.0 (e ∙ sym here) in
    let disagree : disagrees EX ((w.locks ack_res).held h) ≡ true = subst (λ m. disagrees m ((w.locks ack_res).held h) ≡ true) ex other.1 in
    let published : has_published (w.sender n) ≡ true = rw p refl in
    let quiet : has_published (w.sender h) ≡ false = unpublished w members past n h i published ne in
    let way = in_the_way (w.state h) (w.sender h) (w.receiver h) ((w.locks ack_res).held h) (i.held.ack h) quiet disagree in
    let token = published_token (w.sender n) ((w.locks token_res).held n) published (i.held.token n) in
    let up = comes_alone (w.state h) (w.sender h) ((w.locks token_res).held h) ((w.locks token_res).held n) (i.members_are.fitting h) way.0 (i.held.token h) token (i.apart.token n h (λ e. ne (sym e))) in
    way_goes w members past n h a rest i p q against up (idle_or_taken (w.receiver h) way.1)
  where
    unpublished : (w : Rounds) (members : ℕ → Bool) (past : List Entry) (n h : ℕ) → Inv w members past → has_published (w.sender n) ≡ true → h ≢ n → has_published (w.sender h) ≡ false
    unpublished w members past n h i p ne = grind (arith, published_once past members w n h i p)

head_goes : (w : Rounds) (members : ℕ → Bool) (past : List Entry) (n : ℕ) (a : Ask) (rest : List Ask) (found : Option ℕ) → Inv w members past → w.sender n ≡ senders.Published → a.node ≡ n → a.mode ≡ EX → (w.locks ack_res).conversions ≡ a ∷ rest → blocker (w.locks ack_res) a.node a.mode ≡ found → CanGoOn w
head_goes w members past n a rest None i p here ex q found = (Grant ack_res, (inl refl, (inr (inr refl), grant_may (w.locks ack_res) a rest q found)))
head_goes w members past n a rest (Some h) i p here ex q found = blocked_goes w members past n h a rest i p here ex q (first_such_some (is_against (w.locks ack_res) a.node a.mode) 0 16 h found).passes

-- the head of `ack` is the sender's own conversion
queued_goes : (w : Rounds) (members : ℕ → Bool) (past : List Entry) (n : ℕ) → Inv w members past → w.sender n ≡ senders.Published → (w.locks ack_res).held n ≡ Some CR → CanGoOn w
queued_goes w members past n i p held =
    let asks : asks_of n (w.locks ack_res).conversions ≡ EX ∷ [] = i.queues.ack_conversions n ∙ rw p (rw held refl) in
    let q = asked_in n EX (w.locks ack_res).conversions asks in
    let a = q.0 in
    let whose = ack_asker (w.sender a.node) ((w.locks ack_res).held a.node) a.mode (asks_of a.node q.1) (sym (head_asks a q.1) ∙ ap (asks_of a.node) (sym q.2) ∙ i.queues.ack_conversions a.node) in
    let here : a.node ≡ n = published_once past members w a.node n i (rw whose.0 refl) (rw p refl) in
    head_goes w members past n a q.1 (blocker (w.locks ack_res) a.node a.mode) i p here whose.2 q.2 refl

published_goes : (w : Rounds) (members : ℕ → Bool) (past : List Entry) (n : ℕ) → Inv w members past → w.sender n ≡ senders.Published → CanGoOn w
published_goes w members past n i p = by_held (published_holds (w.state n) (w.sender n) ((w.locks ack_res).held n) (i.members_are.fitting n) p (subst (λ r. ack_fits_at r) (i.members_are.sending n (rw p refl)) (i.held.ack n)))
  where
    ack_fits_at : ReceiverPhase → Type 0
    ack_fits_at r = Rattle.laws_rounds.specs.Invariants.ack_fits (Rattle.laws_rounds.specs.Machine.is_in (w.state n)) (w.sender n) r ((w.locks ack_res).held n) ≡ true

    by_held : ((w.locks ack_res).held n ≡ Some CR) ⊎ ((w.locks ack_res).held n ≡ Some EX) → CanGoOn w
    by_held (inl cr) = queued_goes w members past n i p cr
    by_held (inr ex) = (AckGranted n, (tt, told_may w n p ex))

-- which of the two it is
published_or_granted : (s : SenderPhase) → has_published s ≡ true → (s ≡ senders.Published) ⊎ (s ≡ senders.Granted)
published_or_granted s e = grind arith

sender_goes : (w : Rounds) (members : ℕ → Bool) (past : List Entry) (n : ℕ) → Inv w members past → has_published (w.sender n) ≡ true → CanGoOn w
sender_goes w members past n i p = by_phase (published_or_granted (w.sender n) p)
  where
    by_phase : (w.sender n ≡ senders.Published) ⊎ (w.sender n ≡ senders.Granted) → CanGoOn w
    by_phase (inl is) = published_goes w members past n i is
    by_phase (inr is) = (Finish n, (tt, finish_may w n is))

-- a busy receiver, while no message is published

-- a blocker of a conversion to PR has published
blocker_published : (w : Rounds) (members : ℕ → Bool) (past : List Entry) (n h k : ℕ) → Inv w members past → (w.locks message_res).held n ≡ Some CR → disagrees PR ((w.locks message_res).held h) ≡ true → has_published (w.sender h) ≡ true
blocker_published w members past n h k i cr d =
    let ne : n ≢ h = λ e. differs d cr e in
    cw_of_published (w.sender h) (w.receiver h) ((w.locks message_res).held h) (i.held.message h) d (subst (λ x. agree x ((w.locks message_res).held h) ≡ true) cr (i.apart.message n h ne))
  where
    differs : disagrees PR ((w.locks message_res).held h) ≡ true → (w.locks message_res).held n ≡ Some CR → n ≡ h → ⊥
    differs d cr e = grind (arith, ap (w.locks message_res).held e)

pr_goes : (w : Rounds) (members : ℕ → Bool) (past : List Entry) (n : ℕ) (a : Ask) (rest : List Ask) (found : Option ℕ) → Inv w members past → (w.locks message_res).held n ≡ Some CR → a.mode ≡ PR → (w.locks message_res).conversions ≡ a ∷ rest → blocker (w.locks message_res) a.node a.mode ≡ found → CanGoOn w
pr_goes w members past n a rest None i cr pr q found = (Grant message_res, (inr (refl, asked q), (inr (inl refl), grant_may (w.locks message_res) a rest q found)))
  where
    asked : {queue : List Ask} → queue ≡ a ∷ rest → queue ≢ []
    asked q e = cc
pr_goes w members past n a rest (Some h) i cr pr q found =
    let against = (first_such_some (is_against (w.locks message_res) a.node a.mode) 0 16 h found).passes in
    let other = against_is (w.locks message_res) a.node a.mode h against in
    sender_goes w members past h i (blocker_published w members past n h a.node i cr (subst (λ m. disagrees m ((w.locks message_res).held h) ≡ true) pr other.1))

waiting_goes : (w : Rounds) (members : ℕ → Bool) (past : List Entry) (n : ℕ) → Inv w members past → w.receiver n ≡ receivers.Waiting → ((w.locks message_res).held n ≡ Some CR) ⊎ ((w.locks message_res).held n ≡ Some PR) → CanGoOn w
waiting_goes w members past n i is (inr pr) = (Resume n, (tt, waiting_may w n is pr))
waiting_goes w members past n i is (inl cr) =
    let asks : asks_of n (w.locks message_res).conversions ≡ PR ∷ [] = i.queues.message_conversions n ∙ rw is (rw cr refl) in
    let q = asked_in n PR (w.locks message_res).conversions asks in
    let a = q.0 in
    let whose = message_asker (w.receiver a.node) ((w.locks message_res).held a.node) a.mode (asks_of a.node q.1) (sym (head_asks a q.1) ∙ ap (asks_of a.node) (sym q.2) ∙ i.queues.message_conversions a.node) in
    pr_goes w members past n a q.1 (blocker (w.locks message_res) a.node a.mode) i cr whose.2 q.2 refl

-- who receives may
receiving_may : (w : Rounds) (members : ℕ → Bool) (past : List Entry) (n : ℕ) → Inv w members past → is_idle (w.receiver n) ≡ false → may_receive (w.sender n) ≡ true
receiving_may w members past n i busy = grind (arith, i.members_are.sending n)

-- a taken message is still open, or its sender has died
taken_goes : (w : Rounds) (members : ℕ → Bool) (past : List Entry) (n : ℕ) (fate : Fate) → Inv w members past → w.receiver n ≡ receivers.Taken → fate_in past ≡ fate → CanGoOn w
taken_goes w members past n NotYet i is fate = absurd (none (i.told.some_round n (rw is refl)) fate)
  where
    none : Rattle.laws_rounds.specs.Invariants.is_published_fate (fate_in past) ≡ true → fate_in past ≡ NotYet → ⊥
    none e f = grind arith
taken_goes w members past n (Open m) i is fate = sender_goes w members past m i (i.told.open_fate m fate)
taken_goes w members past n Finished i is fate = absurd (none (i.told.taken n is) fate)
  where
    none : Rattle.laws_rounds.specs.Invariants.is_finished_fate (fate_in past) ≡ false → fate_in past ≡ Finished → ⊥
    none e f = grind arith
taken_goes w members past n SenderDied i is fate = (Drop n, (tt, drop_may w n is (i.told.gone n (rw is refl) ∙ rw fate refl)))

receiver_goes : (w : Rounds) (members : ℕ → Bool) (past : List Entry) (n : ℕ) (r : ReceiverPhase) → Inv w members past → is_idle r ≡ false → w.receiver n ≡ r → CanGoOn w
receiver_goes w members past n receivers.Idle i busy is = cc
receiver_goes w members past n receivers.Taken i busy is = taken_goes w members past n (fate_in past) i is refl
receiver_goes w members past n receivers.Waiting i busy is = waiting_goes w members past n i is (waiting_holds (w.sender n) (w.receiver n) ((w.locks message_res).held n) (i.held.message n) (receiving_may w members past n i (rw is refl)) is)
receiver_goes w members past n receivers.Ready i busy is = (Resume n, (tt, ready_may w n is (ready_holds (w.sender n) (w.receiver n) ((w.locks message_res).held n) (i.held.message n) (receiving_may w members past n i (rw is refl)) is)))

pub can_go_on : (w : Rounds) (members : ℕ → Bool) (past : List Entry) → Inv w members past → IsOpen w → CanGoOn w
can_go_on w members past i (n, inl published) = sender_goes w members past n i published
can_go_on w members past i (n, inr busy) = receiver_goes w members past n (w.receiver n) i busy refl
