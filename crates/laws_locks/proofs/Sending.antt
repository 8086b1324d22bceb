-- What the calls of a sender keep.
use Rattle.std.proofs.Common.{◌≡◌, ◌≢◌, ◌<◌, ℕ, Bool, true, false, List, ◌∷◌, Option, Some, None, refl, sym, ap, ◌∙◌, arith, ◌==◌, if◌then◌else◌}
use Rattle.std.proofs.lemmas.Bool.Decides.{nat_tests}
use Rattle.dlm_modes.specs.Guards.{first_of}
use Rattle.dlm_modes.specs.Points.{with_at}
use Rattle.dlm_modes.specs.declared.mode.Mode.{Mode}
use Rattle.dlm_modes.specs.declared.mode.Mode.TheVariants.{CR, EX}
use Rattle.dlm_space.specs.Locks.{Lock, holding}
use Rattle.dlm_space.specs.Orderly.{agree}
use Rattle.msg_rounds.specs.Holds.{holds_token}
use Rattle.mdc_types.specs.declared.events.Wish.{Wish}
use Rattle.mdc_types.specs.declared.events.Wish.TheVariants as wishes
use Rattle.mdc_types.specs.declared.numbers.Range.{Range}
use Rattle.msg_rounds.specs.Locks.{published}
use Rattle.msg_rounds.specs.Phases.{is_idle, has_published}
use Rattle.msg_rounds.specs.Refusals.{is_ex, is_sender_idle, is_token_held, is_message_held, is_offered}
use Rattle.msg_rounds.specs.declared.phases.SenderPhase.{SenderPhase}
use Rattle.msg_rounds.specs.declared.phases.SenderPhase.TheVariants as senders
use Rattle.node_member.specs.Members.{Members, drawn_one}
use Rattle.laws_rounds.specs.Machine as rounds
use Rattle.laws_rounds.specs.Invariants.{Inv}
use Rattle.laws_rounds.specs.Following.{three_of, entry_of}
use Rattle.laws_rounds.proofs.Three.{three_else}
use Rattle.laws_rounds.proofs.Follows.{ask_token_follows, ask_message_follows, offer_follows, publish_follows}
use Rattle.cluster_model.specs.State.{Core, Offer}
use Rattle.cluster_model.specs.Phases.{is_up, is_in}
use Rattle.cluster_model.specs.Changes.{no_new_dev, device_unlocked, sender_now}
use Rattle.cluster_model.specs.Rounds.{token_guards, ask_token, message_guards, ask_message}
use Rattle.cluster_model.specs.Wishes.{offer_guards, offer_of, offered, loaded_offers}
use Rattle.cluster_model.specs.Publishing.{publish_guards, block_of, range_told, publish_wish, publish_offer}
use Rattle.laws_locks.specs.Following.{rounds_at, with_events, publish_events}
use Rattle.laws_locks.specs.Rounded.{has_token, stands, offering}
use Rattle.laws_locks.proofs.Guarded.{first_none, tested, living}
use Rattle.laws_locks.proofs.Told.{up_is, in_is, may_ask_token, may_ask_message, may_offer, may_publish, idle_offers, token_offers, wish_offered, no_offer}
use Rattle.laws_locks.proofs.Keeping.{Kept, Quiet, inv_at, follow_on, quiet_kept, rounds_on, not_of_rounds, offers_sender, offers_at, still_published}

token_ex : (s : SenderPhase) (held : Option Mode) → holds_token s held ≡ true → has_token s ≡ true → held ≡ Some EX
token_ex s held e f = grind arith

two_tokens : (n m : ℕ) (a b : Option Mode) → (n ≢ m → agree a b ≡ true) → a ≡ Some EX → b ≡ Some EX → n ≡ m
two_tokens n m a b e f g = grind (arith, nat_tests)

-- one node has the token
pub alone : (w : rounds.Rounds) (members : ℕ → Bool) (past : List rounds.Entry) (n m : ℕ) → Inv w members past → has_token (w.sender n) ≡ true → has_token (w.sender m) ≡ true → n ≡ m
alone w members past n m i e f =
    two_tokens n m _ _ (i.apart.token n m) (token_ex _ _ (i.held.token n) e) (token_ex _ _ (i.held.token m) f)

-- EX on `no-new-dev` is none of the three
pub three_device : (locks : ℕ → Lock) (n : ℕ) → three_of (device_unlocked locks n) ≡ three_of locks
three_device locks n = by_test (is_ex ((locks no_new_dev).held n))
  where
    by_test : (b : Bool) → three_of (if b then with_at locks no_new_dev (holding (locks no_new_dev) n CR) else locks) ≡ three_of locks
    by_test true = three_else locks no_new_dev _ refl
    by_test false = refl

drawn_live : (b : Bool) (m : Members) → (if b then drawn_one m else m).live ≡ m.live
drawn_live true m = refl
drawn_live false m = refl

published_token : (s : SenderPhase) → has_published s ≡ true → has_token s ≡ true
published_token s e = grind arith

module _ (members : ℕ → Bool) (past : List rounds.Entry) (core : Core) (k : Kept members past core) where
  pub token_kept : (n : ℕ) → first_of (token_guards core n) ≡ None → Kept members (entry_of (rounds_at core) (rounds.AskToken n) ∷ past) (ask_token core n)
  token_kept n e =
      let l = living core n _ k.nodes e in
      let a = tested (is_up (core.state n)) _ _ l.rest in
      let b = tested (is_sender_idle (core.sender n)) _ _ a.1 in
      let c = tested (is_idle (core.receiver n).phase) _ _ b.1 in
      record {
        follows = follow_on members past (rounds_at core) (rounds_at (ask_token core n)) (rounds.AskToken n) refl k.follows
            (up_is _ a.0, may_ask_token _ _ b.0 c.0)
            (ask_token_follows core.state core.sender core.receiver core.locks (ask_token core n).locks n refl);
        offers = offers_sender core.state core.sender core.offer n senders.TokenAsked k.offers (sym (idle_offers _ b.0));
        block = λ m o p. k.block m o (still_published core.sender n senders.TokenAsked refl m p);
        live = k.live;
        slots = k.slots;
        nodes = k.nodes;
        low = k.low;
      }

  pub message_kept : (n : ℕ) → first_of (message_guards core n) ≡ None → Kept members (entry_of (rounds_at core) (rounds.AskMessage n) ∷ past) (ask_message core n)
  message_kept n e =
      let l = living core n _ k.nodes e in
      let a = tested (is_in (core.state n)) _ _ l.rest in
      let b = tested (is_token_held (core.sender n)) _ _ a.1 in
      let c = tested (is_idle (core.receiver n).phase) _ _ b.1 in
      record {
        follows = follow_on members past (rounds_at core) (rounds_at (ask_message core n)) (rounds.AskMessage n) refl k.follows
            (in_is _ a.0, may_ask_message _ _ b.0 c.0)
            (ask_message_follows core.state core.sender core.receiver core.locks (ask_message core n).locks n refl);
        offers = offers_sender core.state core.sender core.offer n senders.MessageAsked k.offers (sym (token_offers _ b.0));
        block = λ m o p. k.block m o (still_published core.sender n senders.MessageAsked refl m p);
        live = k.live;
        slots = k.slots;
        nodes = k.nodes;
        low = k.low;
      }

  other_offer : (n m : ℕ) (o : Option Offer) (p : Offer) → has_published (with_at core.sender n senders.Offered m) ≡ true → with_at core.offer n o m ≡ Some p → core.offer m ≡ Some p
  other_offer n m o p e f = by_test (m == n) e f
    where
      by_test : (b : Bool) → has_published (if b then senders.Offered else core.sender m) ≡ true → (if b then o else core.offer m) ≡ Some p → core.offer m ≡ Some p
      by_test true e f = cc
      by_test false e f = f

  pub offer_kept : (n : ℕ) (wish : Wish) → first_of (offer_guards core n wish) ≡ None → Kept members (entry_of (rounds_at core) (rounds.Offer n) ∷ past) (offered core n wish)
  offer_kept n wish e =
      let i = inv_at members past (rounds_at core) k.follows.reaches in
      let l = living core n _ k.nodes e in
      let a = first_none (loaded_offers (core.state n) wish) _ l.rest in
      let b = tested (is_message_held (core.sender n)) _ _ a.1 in
      record {
        follows = follow_on members past (rounds_at core) (rounds_at (offered core n wish)) (rounds.Offer n) refl k.follows
            (may_offer _ b.0)
            (offer_follows core.state core.sender core.receiver core.locks core.locks n refl);
        offers = offers_at core.state core.sender core.offer n senders.Offered (Some (offer_of core n wish)) k.offers
            (wish_offered (core.state n) (core.sender n) wish (i.members_are.fitting n) b.0 a.0);
        block = λ m o p f. k.block m o (still_published core.sender n senders.Offered refl m p) (other_offer n m (Some (offer_of core n wish)) o p f);
        live = λ m. ap (λ f. f m) (drawn_live _ core.members) ∙ k.live m;
        slots = k.slots;
        nodes = k.nodes;
        low = k.low;
      }

  -- What is published, and then what the wish does besides.

  token_of_offered : (s : SenderPhase) → is_offered s ≡ true → has_token s ≡ true
  token_of_offered s e = grind arith

  offered_stands : (s : SenderPhase) → is_offered s ≡ true → stands s ≡ true
  offered_stands s e = grind arith

  published_offers : (n : ℕ) → is_offered (core.sender n) ≡ true → (m : ℕ) → offering (core.state m) (with_at core.sender n senders.Published m) (core.offer m) ≡ true
  published_offers n b = offers_sender core.state core.sender core.offer n senders.Published k.offers (sym (offered_stands _ b))

  published_alone : (n m : ℕ) → is_offered (core.sender n) ≡ true → has_published (with_at core.sender n senders.Published m) ≡ true → m ≡ n
  published_alone n m b p = by_test (m == n) refl p
    where
      other : has_published (core.sender m) ≡ true → m ≡ n
      other e = alone (rounds_at core) members past m n (inv_at members past (rounds_at core) k.follows.reaches) (published_token _ e) (token_of_offered _ b)

      by_test : (t : Bool) → (m == n) ≡ t → has_published (if t then senders.Published else core.sender m) ≡ true → m ≡ n
      by_test true t e = grind (arith, nat_tests)
      by_test false t e = other e

  published_block : (n : ℕ) (o : Offer) → core.offer n ≡ Some o → is_offered (core.sender n) ≡ true → (m : ℕ) (q : Offer) → has_published (with_at core.sender n senders.Published m) ≡ true → core.offer m ≡ Some q → block_of core n o ≡ block_of core m q
  published_block n o is b m q p f =
      let same : n ≡ m = sym (published_alone n m b p) in
      let offers : o ≡ q = some_is (sym is ∙ ap core.offer same ∙ f) in
      ap (λ j. block_of core j o) same ∙ ap (block_of core m) offers
    where
      some_is : {a b : Offer} → Some a ≡ Some b → a ≡ b
      some_is e = cc

  plainly_published : (n : ℕ) (o : Offer) → core.offer n ≡ Some o → is_offered (core.sender n) ≡ true → Kept members (entry_of (rounds_at core) (rounds.Publish n (block_of core n o)) ∷ past) (record (sender_now core n senders.Published) { locks = published core.locks n (block_of core n o) })
  plainly_published n o is b = record {
    follows = follow_on members past (rounds_at core) _ (rounds.Publish n (block_of core n o)) refl k.follows
        (may_publish _ b)
        (publish_follows core.state core.sender core.receiver core.locks (published core.locks n (block_of core n o)) n (block_of core n o) refl);
    offers = published_offers n b;
    block = published_block n o is b;
    live = k.live;
    slots = k.slots;
    nodes = k.nodes;
    low = k.low;
  }

  range_quiet : (new : Core) (n : ℕ) (r : Range) → n < 16 → Quiet (publish_wish new n (wishes.Range r)) new
  range_quiet new n r lt = record {
    rounds = rounds_on new (range_told new.locks n r) (three_else new.locks n _ (not_of_rounds n lt));
    offer = refl;
    live = refl;
    array = refl;
    slots = λ s. s;
  }

  wish_quiet : (new : Core) (n : ℕ) (w : Wish) → n < 16 → Quiet (publish_wish new n w) new
  wish_quiet new n (wishes.Range r) lt = range_quiet new n r lt
  wish_quiet new n w lt = record { rounds = refl; offer = refl; live = refl; array = refl; slots = λ s. s }

  unlocked_quiet : (new : Core) (n : ℕ) → Quiet (record new { locks = device_unlocked new.locks n }) new
  unlocked_quiet new n = record { rounds = rounds_on new (device_unlocked new.locks n) (three_device new.locks n); offer = refl; live = refl; array = refl; slots = λ s. s }

  pub publish_kept : (n : ℕ) → first_of (publish_guards core n) ≡ None → Kept members (with_events (rounds_at core) (publish_events core n (core.offer n)) past) (publish_offer core n (core.offer n))
  publish_kept n e = by_offer (core.offer n) refl
    where
      by_offer : (x : Option Offer) → core.offer n ≡ x → Kept members (with_events (rounds_at core) (publish_events core n x) past) (publish_offer core n x)
      by_offer None is = let l = living core n _ k.nodes e in let b = tested (is_offered (core.sender n)) _ _ l.rest in absurd (no_offer _ _ _ (k.offers n) (offered_stands _ b.0) is)
      by_offer (Some o) is =
          let l = living core n _ k.nodes e in
          let b = tested (is_offered (core.sender n)) _ _ l.rest in
          let said = plainly_published n o is b.0 in
          let unlocked = quiet_kept members _ _ _ said (unlocked_quiet _ n) in
          quiet_kept members _ _ _ unlocked (wish_quiet _ n o.wish l.node)
