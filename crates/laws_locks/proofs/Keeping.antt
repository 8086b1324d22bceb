-- What is kept along a run: the rounds that are reached, and what the mirror's own records say of them.
use Rattle.std.proofs.Common.{◌≡◌, ◌<◌, ◌≤◌, ℕ, Bool, true, false, not, List, ◌∷◌, Option, Some, None, refl, sym, ap, ◌∙◌, subst, arith, ◌==◌, if◌then◌else◌}
use Rattle.std.proofs.lemmas.Bool.Decides.{nat_tests}
use Rattle.dlm_modes.specs.Points.{with_at}
use Rattle.dlm_space.specs.declared.ask.Ask.{Ask}
use Rattle.dlm_space.specs.Locks.{Lock}
use Rattle.mdc_types.specs.Geometry.{nodes_of}
use Rattle.mdc_types.specs.declared.roles.NodeState.{NodeState}
use Rattle.msg_rounds.specs.Locks.{message_res}
use Rattle.msg_rounds.specs.Phases.{has_published}
use Rattle.msg_rounds.specs.declared.phases.SenderPhase.{SenderPhase}
use Rattle.node_recovery.specs.Progress.{Recovering}
use Rattle.laws_rounds.specs.Machine as rounds
use Rattle.laws_rounds.specs.Following.{is_of_rounds, three_of, entry_of, Reaches}
use Rattle.laws_rounds.specs.News.{news_at, heads, after_grant, AllTold, ToldAfter}
use Rattle.laws_rounds.specs.Invariants.{Inv}
use Rattle.laws_rounds.proofs.Runs.{inv_after}
use Rattle.laws_rounds.proofs.Tells.{told_on, told_grant}
use Rattle.laws_rounds.proofs.Follows.{reaches_on, reaches_grant}
use Rattle.cluster_model.specs.State.{Core, Offer, sizes}
use Rattle.cluster_model.specs.Guards.{is_out}
use Rattle.cluster_model.specs.Publishing.{block_of}
use Rattle.laws_locks.specs.Following.{rounds_at}
use Rattle.laws_locks.specs.Rounded.{stands, offering}

abbrev pub SlotsFit : (ℕ → Option Recovering) → Type 0
SlotsFit recovery = (n : ℕ) (r : Recovering) → recovery n ≡ Some r → r.slot < 16

-- the rounds are reached, and no grant waits for its news
pub record Followed (members : ℕ → Bool) (past : List rounds.Entry) (w : rounds.Rounds) : Type 0 where
  pub reaches : Reaches members past w
  pub told : AllTold w

pub record Kept (members : ℕ → Bool) (past : List rounds.Entry) (core : Core) : Type 0 where
  pub follows : Followed members past (rounds_at core)
  pub offers : (n : ℕ) → offering (core.state n) (core.sender n) (core.offer n) ≡ true
  pub block : (n : ℕ) (o : Offer) → has_published (core.sender n) ≡ true → core.offer n ≡ Some o → (core.locks message_res).block ≡ block_of core n o
  pub live : (n : ℕ) → core.members.live n ≡ not (is_out (core.state n))
  pub slots : SlotsFit core.recovery
  pub nodes : nodes_of (sizes core) ≤ 16
  pub low : (n : ℕ) → is_out (core.state n) ≡ false → n < nodes_of (sizes core)

pub inv_at : (members : ℕ → Bool) (past : List rounds.Entry) (w : rounds.Rounds) → Reaches members past w → Inv w members past
inv_at members past w r = subst (λ x. Inv x members past) r.leads (inv_after members past r.accepted)

-- One more event, and a grant with its news.

abbrev pub is_call : rounds.Event → Bool
is_call (rounds.Grant r) = false
is_call e = true

pub call_told : (w v : rounds.Rounds) (e : rounds.Event) → is_call e ≡ true → rounds.after w e ≡ v → ToldAfter w e v
call_told w v (rounds.Grant r) c e = cc
call_told w v x c e = sym e

pub follow_on : (members : ℕ → Bool) (past : List rounds.Entry) (w v : rounds.Rounds) (e : rounds.Event) → is_call e ≡ true → Followed members past w → rounds.May w e → rounds.after w e ≡ v → Followed members (entry_of w e ∷ past) v
follow_on members past w v e call f may is = record {
  reaches = reaches_on members past w v e f.reaches may is;
  told = told_on w members past e v (inv_at members past w f.reaches) f.told may (call_told w v e call is);
}

pub follow_grant : (members : ℕ → Bool) (past : List rounds.Entry) (w v : rounds.Rounds) (r : ℕ) (a : Ask) → Followed members past w → rounds.May w (rounds.Grant r) → heads w r ≡ Some a → after_grant w r a ≡ v → Followed members (entry_of (rounds.after w (rounds.Grant r)) (news_at r a) ∷ entry_of w (rounds.Grant r) ∷ past) v
follow_grant members past w v r a f may h is = record {
  reaches = reaches_grant members past w v r a f.reaches may h is;
  told = subst AllTold is (told_grant w members past r a (inv_at members past w f.reaches) f.told may h);
}

-- A change that the rounds don't see.

pub record Quiet (new core : Core) : Type 0 where
  pub rounds : rounds_at new ≡ rounds_at core
  pub offer : new.offer ≡ core.offer
  pub live : new.members.live ≡ core.members.live
  pub array : new.array ≡ core.array
  pub slots : SlotsFit core.recovery → SlotsFit new.recovery

pub quiet_kept : (members : ℕ → Bool) (past : List rounds.Entry) (new core : Core) → Kept members past core → Quiet new core → Kept members past new
quiet_kept members past new core k q = record {
  follows = subst (Followed members past) (sym q.rounds) k.follows;
  offers = λ n. subst (λ w. offering (w.state n) (w.sender n) (new.offer n) ≡ true) (sym q.rounds) (ap (λ f. offering (core.state n) (core.sender n) (f n)) q.offer ∙ k.offers n);
  block = λ n o p f. ap (λ w. (w.locks message_res).block) q.rounds
      ∙ k.block n o (subst (λ w. has_published (w.sender n) ≡ true) q.rounds p) (sym (ap (λ f. f n) q.offer) ∙ f)
      ∙ sym (ap (λ a. block_of (record core { array = a }) n o) q.array);
  live = λ n. ap (λ f. f n) q.live ∙ k.live n ∙ sym (ap (λ w. not (is_out (w.state n))) q.rounds);
  slots = q.slots k.slots;
  nodes = subst (λ a. nodes_of a.sizes ≤ 16) (sym q.array) k.nodes;
  low = λ n e. subst (λ a. n < nodes_of a.sizes) (sym q.array) (k.low n (subst (λ w. is_out (w.state n) ≡ false) q.rounds e));
}

-- the locks alone change, and not the three
pub rounds_on : (core : Core) (locks : ℕ → Lock) → three_of locks ≡ three_of core.locks → rounds_at (record core { locks = locks }) ≡ rounds_at core
rounds_on core locks e = ap (λ l. record (rounds_at core) { locks = l }) e

pub not_of_rounds : (n : ℕ) → n < 16 → is_of_rounds n ≡ false
not_of_rounds n lt = grind (arith, nat_tests)

-- What a change at one node keeps.

pub here : (n : ℕ) → (n == n) ≡ true
here n = grind (arith, nat_tests)

pub offers_sender : (state : ℕ → NodeState) (sender : ℕ → SenderPhase) (offer : ℕ → Option Offer) (n : ℕ) (s : SenderPhase) → ((m : ℕ) → offering (state m) (sender m) (offer m) ≡ true) → stands s ≡ stands (sender n) → (m : ℕ) → offering (state m) (with_at sender n s m) (offer m) ≡ true
offers_sender state sender offer n s i e m = grind (arith, nat_tests, i m, i n)

pub offers_at : (state : ℕ → NodeState) (sender : ℕ → SenderPhase) (offer : ℕ → Option Offer) (n : ℕ) (s : SenderPhase) (o : Option Offer) → ((m : ℕ) → offering (state m) (sender m) (offer m) ≡ true) → offering (state n) s o ≡ true → (m : ℕ) → offering (state m) (with_at sender n s m) (with_at offer n o m) ≡ true
offers_at state sender offer n s o i e m = grind (arith, nat_tests, i m)

pub offers_all : (state : ℕ → NodeState) (sender : ℕ → SenderPhase) (offer : ℕ → Option Offer) (n : ℕ) (x : NodeState) (s : SenderPhase) (o : Option Offer) → ((m : ℕ) → offering (state m) (sender m) (offer m) ≡ true) → offering x s o ≡ true → (m : ℕ) → offering (with_at state n x m) (with_at sender n s m) (with_at offer n o m) ≡ true
offers_all state sender offer n x s o i e m = grind (arith, nat_tests, i m)

-- an offer that doesn't stand
pub offers_state : (state : ℕ → NodeState) (sender : ℕ → SenderPhase) (offer : ℕ → Option Offer) (n : ℕ) (x : NodeState) → ((m : ℕ) → offering (state m) (sender m) (offer m) ≡ true) → stands (sender n) ≡ false → (m : ℕ) → offering (with_at state n x m) (sender m) (offer m) ≡ true
offers_state state sender offer n x i e m = grind (arith, nat_tests, i m)

pub offers_come : (state : ℕ → NodeState) (sender : ℕ → SenderPhase) (offer : ℕ → Option Offer) (n : ℕ) (x : NodeState) (s : SenderPhase) → ((m : ℕ) → offering (state m) (sender m) (offer m) ≡ true) → stands (sender n) ≡ false → stands s ≡ false → (m : ℕ) → offering (with_at state n x m) (with_at sender n s m) (offer m) ≡ true
offers_come state sender offer n x s i e f m = grind (arith, nat_tests, i m)

pub was_published : (sender : ℕ → SenderPhase) (n : ℕ) (s : SenderPhase) → (has_published s ≡ true → has_published (sender n) ≡ true) → (m : ℕ) → has_published (with_at sender n s m) ≡ true → has_published (sender m) ≡ true
was_published sender n s e m p = grind (arith, nat_tests)

-- who sends nothing more
pub still_published : (sender : ℕ → SenderPhase) (n : ℕ) (s : SenderPhase) → has_published s ≡ false → (m : ℕ) → has_published (with_at sender n s m) ≡ true → has_published (sender m) ≡ true
still_published sender n s e m p = grind (arith, nat_tests)

pub still_offered : (offer : ℕ → Option Offer) (n m : ℕ) (o : Offer) → with_at offer n None m ≡ Some o → offer m ≡ Some o
still_offered offer n m o e = by_test (m == n) e
  where
    by_test : (b : Bool) → (if b then None else offer m) ≡ Some o → offer m ≡ Some o
    by_test true e = cc
    by_test false e = e

pub live_same : (live : ℕ → Bool) (state : ℕ → NodeState) (n : ℕ) (x : NodeState) → ((m : ℕ) → live m ≡ not (is_out (state m))) → is_out x ≡ is_out (state n) → (m : ℕ) → live m ≡ not (is_out (with_at state n x m))
live_same live state n x i e m = grind (arith, nat_tests, i m)

pub live_at : (live : ℕ → Bool) (state : ℕ → NodeState) (n : ℕ) (x : NodeState) (b : Bool) → ((m : ℕ) → live m ≡ not (is_out (state m))) → b ≡ not (is_out x) → (m : ℕ) → with_at live n b m ≡ not (is_out (with_at state n x m))
live_at live state n x b i e m = grind (arith, nat_tests, i m)

pub low_at : (state : ℕ → NodeState) (n : ℕ) (x : NodeState) (k : ℕ) → ((m : ℕ) → is_out (state m) ≡ false → m < k) → (is_out x ≡ false → n < k) → (m : ℕ) → is_out (with_at state n x m) ≡ false → m < k
low_at state n x k i h m e = by_test (m == n) (λ t. grind (arith, nat_tests)) e
  where
    by_test : (b : Bool) → (b ≡ true → m ≡ n) → is_out (if b then x else state m) ≡ false → m < k
    by_test true t e = subst (λ j. j < k) (sym (t refl)) (h e)
    by_test false t e = i m e

pub slots_none : (recovery : ℕ → Option Recovering) (n : ℕ) → SlotsFit recovery → SlotsFit (with_at recovery n None)
slots_none recovery n s m r e = by_test (m == n) e
  where
    by_test : (b : Bool) → (if b then None else recovery m) ≡ Some r → r.slot < 16
    by_test true e = cc
    by_test false e = s m r e

pub slots_some : (recovery : ℕ → Option Recovering) (n : ℕ) (x : Recovering) → x.slot < 16 → SlotsFit recovery → SlotsFit (with_at recovery n (Some x))
slots_some recovery n x lt s m r e = by_test (m == n) e
  where
    by_test : (b : Bool) → (if b then Some x else recovery m) ≡ Some r → r.slot < 16
    by_test true e = let same : x ≡ r = cc in subst (λ y. y.slot < 16) same lt
    by_test false e = s m r e
