-- Where the news of each grant comes with it, a round can go on, and the rank by phases falls.
use Rattle.std.proofs.Common.{◌≡◌, ◌≢◌, inl, inr, ℕ, zero, suc, ◌+◌, ◌<◌, ◌≤◌, ◌==◌, nat_lt, Bool, true, false, Some, List, [], ◌∷◌, refl, sym, ap, ◌∙◌, subst, arith}
use Rattle.std.specs.Prelude.{if◌then◌else◌}
use Rattle.std.proofs.lemmas.Bool.Decides.{nat_tests}
use Rattle.dlm_modes.specs.Points.{with_at}
use Rattle.dlm_modes.specs.declared.mode.Mode.TheVariants.{CR, PR, EX}
use Rattle.dlm_space.specs.declared.ask.Ask.{Ask}
use Rattle.dlm_space.specs.Queues.{head}
use Rattle.msg_rounds.specs.Locks.{message_res, ack_res}
use Rattle.msg_rounds.specs.Refusals.{is_published}
use Rattle.msg_rounds.specs.declared.phases.SenderPhase.{SenderPhase}
use Rattle.msg_rounds.specs.declared.phases.SenderPhase.TheVariants as senders
use Rattle.msg_rounds.specs.declared.phases.ReceiverPhase.TheVariants as receivers
use Rattle.laws_rounds.specs.Machine.{Rounds, Event, Join, ComeIn, Leave, AskToken, TokenGranted, AskMessage, MessageGranted, Offer, Void, Publish, AckGranted, Finish, Quit, Take, Processed, PrGranted, Resume, Drop, Grant, Die, Done, Entry, May, after}
use Rattle.laws_rounds.specs.Going.{Ends, GoesOn, rank_of, rank_below, rank}
use Rattle.laws_rounds.specs.Invariants.{Inv}
use Rattle.laws_rounds.specs.News.{heads, after_grant, AllTold, told_rank_of, told_rank_below, told_rank, EndsTold, ToldAfter, GoesOnTold}
use Rattle.laws_rounds.proofs.Guards.{finish_guard, ack_told_guard}
use Rattle.laws_rounds.proofs.Ranks.{below_le}
use Rattle.laws_rounds.proofs.Steps.{step_keeps}
use Rattle.laws_rounds.proofs.Falling.{rank_falls}
use Rattle.laws_rounds.proofs.GoingOn.{goes_on}
use Rattle.laws_rounds.proofs.Tells.{PrHead, pr_head, holds_granted, news_may, told_on}

-- a published sender counts one more in the rank of untold rounds
abbrev publishing_of : (ℕ → SenderPhase) → ℕ → ℕ
publishing_of sender n = if is_published (sender n) then 1 else 0

unfoldable publishing_below : (ℕ → SenderPhase) → ℕ → ℕ
publishing_below sender zero = 0
publishing_below sender (suc k) = publishing_below sender k + publishing_of sender k

rank_told : (w : Rounds) (n : ℕ) → AllTold w → rank_of w n ≡ told_rank_of w n + publishing_of w.sender n
rank_told w n t = grind (arith, t.ack n, t.pr n)

below_told : (w : Rounds) (k : ℕ) → AllTold w → rank_below w k ≡ told_rank_below w k + publishing_below w.sender k
unfolding rank_below told_rank_below publishing_below
below_told w zero t = refl
below_told w (suc k) t = omega (arith, below_told w k t, rank_told w k t)

below_same : (f g : ℕ → SenderPhase) (k : ℕ) → ((n : ℕ) → publishing_of f n ≡ publishing_of g n) → publishing_below f k ≡ publishing_below g k
unfolding publishing_below
below_same f g zero same = refl
below_same f g (suc k) same = omega (arith, below_same f g k same, same k)

-- all but one publish as before
one_more : (f g : ℕ → SenderPhase) (p k : ℕ) → ((n : ℕ) → n ≢ p → publishing_of f n ≡ publishing_of g n) → publishing_of f k ≤ publishing_of g k + (if k == p then 1 else 0)
one_more f g p k same = grind (arith, nat_tests, same k)

count_on : (p k : ℕ) → (if nat_lt p k then 1 else 0) + (if k == p then 1 else 0) ≤ (if nat_lt p (suc k) then 1 else 0)
count_on p k = grind (arith, nat_tests)

below_more : (f g : ℕ → SenderPhase) (p k : ℕ) → ((n : ℕ) → n ≢ p → publishing_of f n ≡ publishing_of g n) → publishing_below f k ≤ publishing_below g k + (if nat_lt p k then 1 else 0)
unfolding publishing_below
below_more f g p zero same = omega arith
below_more f g p (suc k) same = omega (arith, below_more f g p k same, one_more f g p k same, count_on p k)

one_at_most : (b : Bool) → (if b then 1 else 0) ≤ 1
one_at_most true = omega arith
one_at_most false = omega arith

-- the rank falls where the other does, and nobody published or was told meanwhile
falls_same : (w v : Rounds) → AllTold w → AllTold v → ((n : ℕ) → publishing_of v.sender n ≡ publishing_of w.sender n) → rank v < rank w → told_rank v < told_rank w
falls_same w v t u same less = omega (arith, below_told w 16 t, below_told v 16 u, below_same v.sender w.sender 16 same)

falls_twice : (w v : Rounds) (p : ℕ) → AllTold w → AllTold v → ((n : ℕ) → n ≢ p → publishing_of w.sender n ≡ publishing_of v.sender n) → rank v + 2 ≤ rank w → told_rank v < told_rank w
falls_twice w v p t u same less = omega (arith, below_told w 16 t, below_told v 16 u, below_more w.sender v.sender p 16 same, one_at_most (nat_lt p 16))

same_finish : (w : Rounds) (n m : ℕ) → w.sender n ≡ senders.Granted → publishing_of (with_at w.sender n senders.Idle) m ≡ publishing_of w.sender m
same_finish w n m s = grind (arith, nat_tests)

others_granted : (w : Rounds) (n m : ℕ) → m ≢ n → publishing_of w.sender m ≡ publishing_of (with_at w.sender n senders.Granted) m
others_granted w n m ne = grind (arith, nat_tests)

less_twice : (a b c : ℕ) → a < b → b < c → a + 2 ≤ c
less_twice a b c p q = omega arith

le_less : (a b c : ℕ) → a ≤ b → b < c → a < c
le_less a b c p q = omega arith

-- the news of PR on `message` changes no rank
ready_same : (u : Rounds) (p m : ℕ) → u.receiver p ≡ receivers.Waiting → (u.locks message_res).held p ≡ Some PR → rank_of (after u (PrGranted p)) m ≤ rank_of u m
ready_same u p m r e = grind (arith, nat_tests)

ack_falls : (w : Rounds) (members : ℕ → Bool) (past : List Entry) (a : Ask) → Inv w members past → AllTold w → May w (Grant ack_res) → heads w ack_res ≡ Some a → AllTold (after_grant w ack_res a) → told_rank (after_grant w ack_res a) < told_rank w
ack_falls w members past a i t may h u =
    let now : Rounds = after w (Grant ack_res) in
    let first : rank now < rank w = rank_falls w members past i (Grant ack_res) (inl refl) may in
    let kept = step_keeps w (Grant ack_res) members past Done i may in
    let second : rank (after_grant w ack_res a) < rank now = rank_falls now members _ kept (AckGranted a.node) tt (news_may w ack_res a i.queues may h) in
    falls_twice w (after_grant w ack_res a) a.node t u (others_granted w a.node) (less_twice (rank (after_grant w ack_res a)) (rank now) (rank w) second first)

-- what heads the conversions
first_is : (conversions requests : List Ask) (a : Ask) → conversions ≢ [] → head conversions requests ≡ Some a → (rest : List Ask) × (conversions ≡ a ∷ rest)
first_is [] requests a ne h = absurd (ne refl)
first_is (b ∷ rest) requests a ne h = (rest, let same : b ≡ a = cc in rw same refl)

pr_falls : (w : Rounds) (members : ℕ → Bool) (past : List Entry) (a : Ask) → Inv w members past → AllTold w → (w.locks message_res).conversions ≢ [] → May w (Grant message_res) → heads w message_res ≡ Some a → AllTold (after_grant w message_res a) → PrHead w a → told_rank (after_grant w message_res a) < told_rank w
pr_falls w members past a i t ne may h u p =
    let now : Rounds = after w (Grant message_res) in
    let v : Rounds = after now (PrGranted a.node) in
    let is : after_grant w message_res a ≡ v = rw p.mode refl in
    let first : rank now < rank w = rank_falls w members past i (Grant message_res) (inr (refl, ne)) may in
    let second : rank v ≤ rank now = below_le v now 16 (λ m. ready_same now a.node m p.phase (holds_granted (w.locks message_res) a h ∙ ap Some p.mode)) in
    subst (λ x. told_rank x < told_rank w) (sym is) (falls_same w v t (subst AllTold is u) (λ n. refl) (le_less (rank v) (rank now) (rank w) second first))

message_falls : (w : Rounds) (members : ℕ → Bool) (past : List Entry) (a : Ask) → Inv w members past → AllTold w → (w.locks message_res).conversions ≢ [] → May w (Grant message_res) → heads w message_res ≡ Some a → AllTold (after_grant w message_res a) → told_rank (after_grant w message_res a) < told_rank w
message_falls w members past a i t ne may h u =
    let q = first_is (w.locks message_res).conversions (w.locks message_res).requests a ne h in
    pr_falls w members past a i t ne may h u (pr_head w a q.0 i.queues q.1)

-- where no sender's phase changes
falls_on : (w v : Rounds) (e : Event) (members : ℕ → Bool) (past : List Entry) → Inv w members past → AllTold w → AllTold v → Ends w e → May w e → v ≡ after w e → ((n : ℕ) → publishing_of (after w e).sender n ≡ publishing_of w.sender n) → told_rank v < told_rank w
falls_on w v e members past i t u ends may is same = subst (λ x. told_rank x < told_rank w) (sym is) (falls_same w (after w e) t (subst AllTold is u) same (rank_falls w members past i e ends may))

told_falls : (w : Rounds) (members : ℕ → Bool) (past : List Entry) → Inv w members past → AllTold w → (e : Event) (v : Rounds) → AllTold v → EndsTold w e → May w e → ToldAfter w e v → told_rank v < told_rank w
told_falls w members past i t (Grant r) v u (inl is) may e =
    subst (λ x. told_rank x < told_rank w) (sym e.1.1) (subst (λ k. May w (Grant k) → heads w k ≡ Some e.0 → AllTold (after_grant w k e.0) → told_rank (after_grant w k e.0) < told_rank w) (sym is) (λ may h u. ack_falls w members past e.0 i t may h u) may e.1.0 (subst AllTold e.1.1 u))
told_falls w members past i t (Grant r) v u (inr (is, ne)) may e =
    subst (λ x. told_rank x < told_rank w) (sym e.1.1) (subst (λ k. May w (Grant k) → heads w k ≡ Some e.0 → AllTold (after_grant w k e.0) → told_rank (after_grant w k e.0) < told_rank w) (sym is) (λ may h u. message_falls w members past e.0 i t ne may h u) may e.1.0 (subst AllTold e.1.1 u))
told_falls w members past i t (Finish n) v u ends may e = falls_on w v (Finish n) members past i t u tt may e (λ m. same_finish w n m (finish_guard _ may))
told_falls w members past i t (Take n) v u ends may e = falls_on w v (Take n) members past i t u tt may e (λ m. refl)
told_falls w members past i t (Processed n) v u ends may e = falls_on w v (Processed n) members past i t u tt may e (λ m. refl)
told_falls w members past i t (Resume n) v u ends may e = falls_on w v (Resume n) members past i t u tt may e (λ m. refl)
told_falls w members past i t (Drop n) v u ends may e = falls_on w v (Drop n) members past i t u tt may e (λ m. refl)
told_falls w members past i t (AckGranted n) v u ends may e = absurd ends
told_falls w members past i t (Join n) v u ends may e = absurd ends
told_falls w members past i t (ComeIn n) v u ends may e = absurd ends
told_falls w members past i t (Leave n) v u ends may e = absurd ends
told_falls w members past i t (AskToken n) v u ends may e = absurd ends
told_falls w members past i t (TokenGranted n) v u ends may e = absurd ends
told_falls w members past i t (AskMessage n) v u ends may e = absurd ends
told_falls w members past i t (MessageGranted n) v u ends may e = absurd ends
told_falls w members past i t (Offer n) v u ends may e = absurd ends
told_falls w members past i t (Void n) v u ends may e = absurd ends
told_falls w members past i t (Publish n block) v u ends may e = absurd ends
told_falls w members past i t (Quit n) v u ends may e = absurd ends
told_falls w members past i t (PrGranted n) v u ends may e = absurd ends
told_falls w members past i t (Die n) v u ends may e = absurd ends

-- The news of `ack` isn't waited for.

no_news : (w : Rounds) (n : ℕ) → AllTold w → May w (AckGranted n) → ⊥
no_news w n t may = let g = ack_told_guard w.locks n _ may in told (t.ack n g.0) g.1
  where
    told : (w.locks ack_res).held n ≡ Some CR → (w.locks ack_res).held n ≡ Some EX → ⊥
    told cr ex = grind arith

still_ends : (w : Rounds) → AllTold w → (e : Event) → Ends w e → May w e → EndsTold w e
still_ends w t (AckGranted n) ends may = absurd (no_news w n t may)
still_ends w t (Join n) ends may = ends
still_ends w t (ComeIn n) ends may = ends
still_ends w t (Leave n) ends may = ends
still_ends w t (AskToken n) ends may = ends
still_ends w t (TokenGranted n) ends may = ends
still_ends w t (AskMessage n) ends may = ends
still_ends w t (MessageGranted n) ends may = ends
still_ends w t (Offer n) ends may = ends
still_ends w t (Void n) ends may = ends
still_ends w t (Publish n block) ends may = ends
still_ends w t (Quit n) ends may = ends
still_ends w t (PrGranted n) ends may = ends
still_ends w t (Die n) ends may = ends
still_ends w t (Grant r) ends may = ends
still_ends w t (Finish n) ends may = ends
still_ends w t (Take n) ends may = ends
still_ends w t (Processed n) ends may = ends
still_ends w t (Resume n) ends may = ends
still_ends w t (Drop n) ends may = ends

-- at most what the other rank is

told_le : (w : Rounds) (k : ℕ) → AllTold w → told_rank_below w k ≤ rank_below w k
told_le w k t = omega (arith, below_told w k t)

pub told_goes_on : (w : Rounds) (members : ℕ → Bool) (past : List Entry) → Inv w members past → AllTold w → GoesOnTold w
told_goes_on w members past i t =
    let g : GoesOn w = goes_on w members past i in
    record {
      unstuck = λ opened. let f = g.unstuck opened in (f.0, (still_ends w t f.0 f.1.0 f.1.1, f.1.1));
      falls = λ e v ends may is. told_falls w members past i t e v (told_on w members past e v i t may is) ends may is;
      bounded = omega (arith, told_le w 16 t, g.bounded);
    }
