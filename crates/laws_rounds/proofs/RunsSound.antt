-- What follows from the invariant, after each list of accepted events.
use Rattle.std.proofs.Common.{◌≡◌, ◌≢◌, ◌⊎◌, ◌<◌, ℕ, suc, Bool, true, false, List, [], ◌∷◌, Option, Some, None, refl, sym, ◌∙◌, subst, arith, if◌then◌else◌}
use Rattle.std.specs.Prelude.{◌==◌}
use Rattle.std.specs.Option.{option_map}
use Rattle.mdc_types.specs.declared.roles.NodeState.TheVariants as states
use Rattle.std.proofs.lemmas.Bool.Decides.{nat_tests}
use Rattle.dlm_modes.specs.declared.mode.Mode.{Mode}
use Rattle.dlm_modes.specs.declared.mode.Mode.TheVariants.{CR, EX}
use Rattle.dlm_space.specs.Orderly.{agree}
use Rattle.msg_rounds.specs.Holds.{HasJust, SenderHolds, ReceiverHolds, NodeHolds, MayTake, MayResume}
use Rattle.msg_rounds.specs.Locks.{token_res, message_res}
use Rattle.msg_rounds.specs.Phases.{is_idle, has_processed, may_receive, has_published}
use Rattle.msg_rounds.specs.Refusals.{take_refusal, resume_refusal}
use Rattle.msg_rounds.specs.declared.phases.ReceiverPhase.{ReceiverPhase}
use Rattle.msg_rounds.specs.declared.phases.ReceiverPhase.TheVariants as receivers
use Rattle.msg_rounds.specs.declared.phases.Verdict.TheVariants.{Whole, Broken}
use Rattle.laws_rounds.specs.Machine.{Rounds, Event, Join, ComeIn, Leave, AskToken, TokenGranted, AskMessage, MessageGranted, Offer, Void, Publish, AckGranted, Finish, Quit, Take, Processed, PrGranted, Resume, Drop, Grant, Die, Answer, Entry, May, is_in, called_by, receiving, answer_to, rounds_after, AreAccepted}
use Rattle.laws_rounds.specs.Traces.{Said, Fate, Open, Deed, Taking, Processing, fate_at, fate_in, said_in, published_in, taken_at, taken_in, deeds_at, deeds_in, addressed_at, addressed_in, count_at, up_in}
use Rattle.laws_rounds.specs.Sound.{Falls, verdict_of, IsTaken, IsEnded, IsFinished, IsRightAt, AreRight, MayComeIn, StateHolds, SenderSound, ReceiverSound, SoundAt, RoundsAreSound}
use Rattle.laws_rounds.specs.Invariants.{Held, Queues, Members, Inv, deeds_of, is_dead_fate, sender_said}
use Rattle.laws_rounds.proofs.Guards.{take_guard, resume_guard, finish_guard}
use Rattle.laws_rounds.proofs.Others.{alone, alone_quiet, calling_none, ack_held, all_done, published_cw, readable, quiet}
use Rattle.laws_rounds.proofs.Steps.{caller_is, lacks_own}
use Rattle.laws_rounds.proofs.Runs.{inv_after}

-- What the locks say of a node.

sender_holds : (w : Rounds) (n : ℕ) → Held w → Queues w → Members w → SenderHolds w.locks n (w.sender n)
sender_holds w n he qu me = record {
  token = he.token n;
  token_requests = qu.token_requests n;
  token_conversions = grind (arith, qu.token_conversions);
  message = λ s. grind (arith, he.message n);
  message_requests = λ s. qu.message_requests n;
  message_conversions = λ s. grind (arith, qu.message_conversions n, me.sending n);
  ack = λ s. grind (arith, he.ack n, me.sending n, me.fitting n);
  ack_requests = λ s. grind (arith, qu.ack_requests);
  ack_conversions = λ s. qu.ack_conversions n;
}

receiver_holds : (w : Rounds) (n : ℕ) → Held w → Queues w → Members w → ReceiverHolds w.locks n (w.receiver n)
receiver_holds w n he qu me = record {
  message = λ r. grind (arith, he.message n, me.sending n);
  message_requests = λ r. grind (arith, qu.message_requests n, me.sending n);
  message_conversions = λ r. qu.message_conversions n;
  ack = λ r. grind (arith, he.ack n, me.sending n, me.idle n);
  ack_requests = λ r. grind (arith, qu.ack_requests);
  ack_conversions = λ r. grind (arith, qu.ack_conversions n, me.sending n);
}

nothing_on_message : (w : Rounds) (n : ℕ) → Held w → Queues w → may_receive (w.sender n) ≡ true → is_idle (w.receiver n) ≡ true → HasJust (w.locks message_res) n None [] []
nothing_on_message w n he qu s r = (grind (arith, he.message n), grind (arith, qu.message_requests n), grind (arith, qu.message_conversions n))

node_holds : (w : Rounds) (n : ℕ) → Held w → Queues w → Members w → NodeHolds w.locks n (w.sender n) (w.receiver n)
node_holds w n he qu me = record {
  sender = sender_holds w n he qu me;
  receiver = receiver_holds w n he qu me;
  calm = nothing_on_message w n he qu;
}

not_ex : (b : Option Mode) → agree (Some CR) b ≡ true → b ≢ Some EX
not_ex b a e = grind arith

may_take : (w : Rounds) (members : ℕ → Bool) (past : List Entry) (n : ℕ) → Inv w members past → take_refusal w.locks n (receiving w n) ≡ None → MayTake w.locks n
may_take w members past n i e =
    let g = take_guard w.locks n (receiving w n) e in
    let p = caller_is w n i.held i.queues g.1 in
    let others = alone w (called_by w n) i.apart i.held (rw p.0 refl) in
    record {
      free = nothing_on_message w n i.held i.queues (lacks_own (w.sender n) (others n (λ s. p.1 (sym s)))) (rw g.0 refl);
      readable = λ m ne. not_ex _ (readable w (called_by w n) i.apart (published_cw w (called_by w n) i.held (rw p.0 refl)) m);
      valid = i.told.valid (called_by w n) (rw p.0 refl);
    }

may_resume : (w : Rounds) (members : ℕ → Bool) (past : List Entry) (n : ℕ) → Inv w members past → resume_refusal w.locks n (receiving w n) ≡ None → MayResume w.locks n
may_resume w members past n i e =
    let g = resume_guard w.locks n (receiving w n) e in
    record { takeable = λ m ne. not_ex _ (calling_none w n i.held (quiet w n i.apart i.held g.1) m) }

may_come_in : (w : Rounds) (members : ℕ → Bool) (past : List Entry) (n : ℕ) → Inv w members past → May w (ComeIn n) → MayComeIn w.locks n
may_come_in w members past n i m =
    let others = alone w n i.apart i.held (rw m.1 refl) in
    record {
      free = (grind (arith, i.held.ack n, m), grind (arith, i.queues.ack_requests), grind (arith, i.queues.ack_conversions n, m));
      takeable = λ k ne. not_ex _ (calling_none w n i.held (alone_quiet w n (rw m.1 refl) others) k);
    }

joining_holds : (w : Rounds) (n : ℕ) → Held w → Queues w → Members w → w.state n ≡ states.Joining → HasJust (w.locks token_res) n (Some EX) [] [] ⊎ HasJust (w.locks token_res) n None (EX ∷ []) []
joining_holds w n he qu me s = grind (arith, me.fitting n, he.token n, qu.token_requests n, qu.token_conversions)

state_holds : (w : Rounds) (n : ℕ) → Held w → Queues w → Members w → StateHolds w n
state_holds w n he qu me = record {
  out = λ s. grind (arith, me.fitting n);
  still = me.idle n;
  absent = λ s. (grind (arith, he.ack n), grind (arith, qu.ack_requests), grind (arith, qu.ack_conversions n, he.ack n));
  joining = joining_holds w n he qu me;
  loaded = λ s. (grind (arith, me.fitting n, he.token n), grind (arith, me.fitting n, qu.token_requests n), grind (arith, qu.token_conversions));
  beyond = me.below n;
  calm = λ s may idle. (grind (arith, he.ack n), grind (arith, qu.ack_requests), grind (arith, qu.ack_conversions n));
}

-- What the entries tell of a node's phases.

verdict_right : (fate : Fate) (gone : Bool) → gone ≡ is_dead_fate fate → (if gone then Broken else Whole) ≡ verdict_of fate
verdict_right fate gone e = grind arith

sender_sound : (w : Rounds) (members : ℕ → Bool) (past : List Entry) (n : ℕ) → Inv w members past → SenderSound w past n
sender_sound w members past n i = record {
  sending = i.members_are.sending n;
  published = i.told.fate_open n;
  is_open = i.told.open_fate n;
  said = i.told.block n;
  valid = i.told.valid n;
}

sender_is : (said : Option Said) (n : ℕ) → sender_said said n ≡ true → option_map (λ (s : Said). s.sender) said ≡ Some n
sender_is None n e = cc
sender_is (Some said) n e = grind (arith, nat_tests)

receiver_sound : (w : Rounds) (members : ℕ → Bool) (past : List Entry) (n : ℕ) → Inv w members past → ReceiverSound w past n
receiver_sound w members past n i = record {
  last = i.told.last n;
  from = λ busy. sender_is (said_in past) (w.from n) (i.told.from n busy);
  told = λ busy. verdict_right (fate_in past) (w.gone n) (i.told.gone n busy);
}

-- What a trace tells by itself.

-- the sender of a message isn't addressed by it
unaddressed : (members : ℕ → Bool) (past : List Entry) (n : ℕ) → fate_in past ≡ Open n → addressed_in members past n ≡ false
unaddressed members [] n e = refl
unaddressed members (entry ∷ past) n e = unaddressed_at members past n entry.event (unaddressed members past n) e
  where
    unaddressed_at : (members : ℕ → Bool) (past : List Entry) (n : ℕ) (e : Event) → (fate_in past ≡ Open n → addressed_in members past n ≡ false) → fate_at e (fate_in past) ≡ Open n → addressed_at n e (up_in members past n) (addressed_in members past n) ≡ false
    unaddressed_at members past n e h f = grind (arith, nat_tests)

-- the number that was taken last is below
abbrev Under : List ℕ → ℕ → Type 0
Under [] k = Unit {0}
Under (j ∷ rest) k = j < k

under_more : (numbers : List ℕ) (k : ℕ) → Under numbers k → Under numbers (suc k)
under_more [] k u = u
under_more (j ∷ rest) k u = omega arith

falls_on : (numbers : List ℕ) (k : ℕ) → Falls numbers → Under numbers k → Falls (k ∷ numbers)
falls_on [] k f u = f
falls_on (j ∷ rest) k f u = (u, f)

record Numbers (numbers : List ℕ) (count : ℕ) (deeds : List Deed) : Type 0 where
  most : Under numbers (suc count)
  -- where the node did nothing since the last publish
  fresh : deeds ≡ [] → Under numbers count

numbers_take : (b : Bool) (numbers : List ℕ) (count : ℕ) (deeds : List Deed) → Numbers numbers count deeds → Numbers (if b then count ∷ numbers else numbers) count (if b then Taking ∷ deeds else deeds)
numbers_take true numbers count deeds h = record { most = omega arith; fresh = λ e. cc }
numbers_take false numbers count deeds h = h

numbers_processed : (b : Bool) (numbers : List ℕ) (count : ℕ) (deeds : List Deed) → Numbers numbers count deeds → Numbers numbers count (if b then Processing ∷ deeds else deeds)
numbers_processed true numbers count deeds h = record { most = h.most; fresh = λ e. cc }
numbers_processed false numbers count deeds h = h

numbers_at : (e : Event) (n : ℕ) (numbers : List ℕ) (count : ℕ) (deeds : List Deed) → Numbers numbers count deeds → Numbers (taken_at n e count numbers) (count_at e count) (deeds_at n e deeds)
numbers_at (Join m) n numbers count deeds h = h
numbers_at (ComeIn m) n numbers count deeds h = h
numbers_at (Leave m) n numbers count deeds h = h
numbers_at (AskToken m) n numbers count deeds h = h
numbers_at (TokenGranted m) n numbers count deeds h = h
numbers_at (AskMessage m) n numbers count deeds h = h
numbers_at (MessageGranted m) n numbers count deeds h = h
numbers_at (Offer m) n numbers count deeds h = h
numbers_at (Void m) n numbers count deeds h = h
numbers_at (Publish m block) n numbers count deeds h = record { most = under_more numbers (suc count) h.most; fresh = λ e. h.most }
numbers_at (AckGranted m) n numbers count deeds h = h
numbers_at (Finish m) n numbers count deeds h = h
numbers_at (Quit m) n numbers count deeds h = h
numbers_at (Take m) n numbers count deeds h = numbers_take (m == n) numbers count deeds h
numbers_at (Processed m) n numbers count deeds h = numbers_processed (m == n) numbers count deeds h
numbers_at (PrGranted m) n numbers count deeds h = h
numbers_at (Resume m) n numbers count deeds h = h
numbers_at (Drop m) n numbers count deeds h = h
numbers_at (Grant r) n numbers count deeds h = h
numbers_at (Die m) n numbers count deeds h = h

numbers_in : (past : List Entry) (n : ℕ) → Numbers (taken_in past n) (published_in past) (deeds_in past n)
numbers_in [] n = record { most = tt; fresh = λ e. tt }
numbers_in (entry ∷ past) n = numbers_at entry.event n (taken_in past n) (published_in past) (deeds_in past n) (numbers_in past n)

-- Each answer is right.

said_right : (w : Rounds) (members : ℕ → Bool) (past : List Entry) (n : ℕ) (answer : Answer) → Inv w members past → May w (Take n) → answer ≡ answer_to w (Take n) → IsTaken answer past
said_right w members past n answer i m e =
    let p = caller_is w n i.held i.queues (take_guard w.locks n (receiving w n) m.1).1 in
    rw e (i.told.block (called_by w n) (rw p.0 refl))

done_right : (w : Rounds) (n m : ℕ) (members : ℕ → Bool) (past : List Entry) → Inv w members past → has_published (w.sender n) ≡ true → (m ≢ n → is_in (w.state m) ≡ true → has_processed (w.receiver m) ≡ true) → (addressed_in members past n ≡ false) → addressed_in members past m ≡ true → up_in members past m ≡ true → deeds_in past m ≡ Processing ∷ Taking ∷ []
done_right w n m members past i s done not_own to_it up = grind (arith, nat_tests, i.told.deeds n m, i.told.up m)

finish_right : (w : Rounds) (n : ℕ) (members : ℕ → Bool) (past : List Entry) → Inv w members past → May w (Finish n) → IsFinished members past n
finish_right w n members past i m =
    let g = finish_guard _ m in
    let open_round : fate_in past ≡ Open n = i.told.fate_open n (rw g refl) in
    (open_round, λ k. done_right w n k members past i (rw g refl) (all_done w n i.apart i.held (ack_held w n i.held i.members_are g) k) (unaddressed members past n open_round))

busy_phase : (r : ReceiverPhase) → has_processed r ≡ true → is_idle r ≡ false
busy_phase r e = grind arith

end_right : (w : Rounds) (members : ℕ → Bool) (past : List Entry) (n : ℕ) (answer : Answer) → Inv w members past → May w (Resume n) → answer ≡ answer_to w (Resume n) → IsEnded answer past n
end_right w members past n answer i m e =
    let busy = busy_phase (w.receiver n) (resume_guard w.locks n (receiving w n) m).0 in
    rw e (verdict_right (fate_in past) (w.gone n) (i.told.gone n busy), i.told.last n busy)

right_at : (w : Rounds) (members : ℕ → Bool) (past : List Entry) (e : Event) (answer : Answer) → Inv w members past → May w e → answer ≡ answer_to w e → IsRightAt members past e answer
right_at w members past (Join m) answer i may is = tt
right_at w members past (ComeIn m) answer i may is = tt
right_at w members past (Leave m) answer i may is = tt
right_at w members past (AskToken m) answer i may is = tt
right_at w members past (TokenGranted m) answer i may is = tt
right_at w members past (AskMessage m) answer i may is = tt
right_at w members past (MessageGranted m) answer i may is = tt
right_at w members past (Offer m) answer i may is = tt
right_at w members past (Void m) answer i may is = tt
right_at w members past (Publish m block) answer i may is = tt
right_at w members past (AckGranted m) answer i may is = tt
right_at w members past (Finish m) answer i may is = finish_right w m members past i may
right_at w members past (Quit m) answer i may is = tt
right_at w members past (Take m) answer i may is = said_right w members past m answer i may is
right_at w members past (Processed m) answer i may is = tt
right_at w members past (PrGranted m) answer i may is = tt
right_at w members past (Resume m) answer i may is = end_right w members past m answer i may is
right_at w members past (Drop m) answer i may is = tt
right_at w members past (Grant r) answer i may is = tt
right_at w members past (Die m) answer i may is = tt

are_right : (members : ℕ → Bool) (past : List Entry) → AreAccepted members past → AreRight members past
are_right members [] a = tt
are_right members (entry ∷ past) a = (are_right members past a.0, right_at (rounds_after members past) members past entry.event entry.answer (inv_after members past a.0) a.1.may a.1.answers)

-- No message is taken twice, and all in their order.

idle_deeds : (r : ReceiverPhase) → r ≡ receivers.Idle → deeds_of r ≡ []
idle_deeds r e = rw e refl

-- who takes has taken nothing since the last publish
take_under : (w : Rounds) (members : ℕ → Bool) (past : List Entry) (n : ℕ) → Inv w members past → May w (Take n) → Under (taken_in past n) (published_in past)
take_under w members past n i m =
    let g = take_guard w.locks n (receiving w n) m.1 in
    let p = caller_is w n i.held i.queues g.1 in
    (numbers_in past n).fresh (i.told.deeds (called_by w n) n (rw p.0 refl) (λ s. p.1 (sym s)) m.0 ∙ idle_deeds (w.receiver n) g.0)

falls_take : (b : Bool) (numbers : List ℕ) (count : ℕ) → Falls numbers → (b ≡ true → Under numbers count) → Falls (if b then count ∷ numbers else numbers)
falls_take true numbers count f u = falls_on numbers count f (u refl)
falls_take false numbers count f u = f

same_node : (w : Rounds) (m n : ℕ) → (m == n) ≡ true → May w (Take m) → May w (Take n)
same_node w m n e may = let same : m ≡ n = grind (arith, nat_tests) in subst (λ k. May w (Take k)) same may

falls_at : (w : Rounds) (members : ℕ → Bool) (past : List Entry) (n : ℕ) (e : Event) → Inv w members past → May w e → Falls (taken_in past n) → Falls (taken_at n e (published_in past) (taken_in past n))
falls_at w members past n (Join m) i may f = f
falls_at w members past n (ComeIn m) i may f = f
falls_at w members past n (Leave m) i may f = f
falls_at w members past n (AskToken m) i may f = f
falls_at w members past n (TokenGranted m) i may f = f
falls_at w members past n (AskMessage m) i may f = f
falls_at w members past n (MessageGranted m) i may f = f
falls_at w members past n (Offer m) i may f = f
falls_at w members past n (Void m) i may f = f
falls_at w members past n (Publish m block) i may f = f
falls_at w members past n (AckGranted m) i may f = f
falls_at w members past n (Finish m) i may f = f
falls_at w members past n (Quit m) i may f = f
falls_at w members past n (Take m) i may f = falls_take (m == n) (taken_in past n) (published_in past) f (λ s. take_under w members past n i (same_node w m n s may))
falls_at w members past n (Processed m) i may f = f
falls_at w members past n (PrGranted m) i may f = f
falls_at w members past n (Resume m) i may f = f
falls_at w members past n (Drop m) i may f = f
falls_at w members past n (Grant r) i may f = f
falls_at w members past n (Die m) i may f = f

falls_in : (members : ℕ → Bool) (past : List Entry) → AreAccepted members past → (n : ℕ) → Falls (taken_in past n)
falls_in members [] a n = tt
falls_in members (entry ∷ past) a n = falls_at (rounds_after members past) members past n entry.event (inv_after members past a.0) a.1.may (falls_in members past a.0 n)

sound_at : (w : Rounds) (members : ℕ → Bool) (past : List Entry) → Inv w members past → SoundAt w members past
sound_at w members past i = record {
  holds = λ n. node_holds w n i.held i.queues i.members_are;
  may_take = λ n. may_take w members past n i;
  may_resume = λ n. may_resume w members past n i;
  may_come_in = λ n. may_come_in w members past n i;
  states_hold = λ n. state_holds w n i.held i.queues i.members_are;
  up = i.told.up;
  senders = λ n. sender_sound w members past n i;
  receivers = λ n. receiver_sound w members past n i;
}

pub rounds_are_sound : RoundsAreSound
rounds_are_sound members past a = record {
  right = are_right members past a;
  order = falls_in members past a;
  place = sound_at (rounds_after members past) members past (inv_after members past a);
}
