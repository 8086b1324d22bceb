-- What the end of a sender's round keeps: it is finished, or given up.
use Rattle.std.proofs.Common.{◌≡◌, ℕ, Bool, true, false, List, ◌∷◌, Option, Some, None, refl, sym, ap, ◌∙◌, subst, arith, ◌==◌, if◌then◌else◌}
use Rattle.std.proofs.Math.Path.{fun_ext}
use Rattle.dlm_modes.specs.Guards.{first_of}
use Rattle.dlm_modes.specs.Points.{with_at}
use Rattle.dlm_space.specs.Locks.{Lock, let_go, all_let_go}
use Rattle.mdc_types.specs.declared.events.Wish.{Wish}
use Rattle.mdc_types.specs.declared.events.Wish.TheVariants as wishes
use Rattle.mdc_types.specs.declared.roles.NodeState.{NodeState}
use Rattle.mdc_types.specs.declared.roles.NodeState.TheVariants as states
use Rattle.msg_rounds.specs.Locks.{message_res, finished, quitted}
use Rattle.msg_rounds.specs.Phases.{may_quit, may_receive, has_message}
use Rattle.msg_rounds.specs.Refusals.{is_granted}
use Rattle.msg_rounds.specs.declared.phases.SenderPhase.{SenderPhase}
use Rattle.msg_rounds.specs.declared.phases.SenderPhase.TheVariants as senders
use Rattle.laws_rounds.specs.Machine as rounds
use Rattle.laws_rounds.specs.Sound.{SoundAt}
use Rattle.laws_rounds.specs.Following.{rounds_of, entry_of}
use Rattle.laws_rounds.proofs.Follows.{reached_sound, finish_follows, leave_follows, quit_follows, quit_first_follows, quitting_lets_go, finishing_lets_go, with_same}
use Rattle.cluster_model.specs.State.{Core, Offer}
use Rattle.cluster_model.specs.Guards.{is_out}
use Rattle.cluster_model.specs.Changes.{device_unlocked, sender_idle, node_out}
use Rattle.cluster_model.specs.Finishing.{finish_guards, round_over, superblock_changed, finish_wish, finish_offer}
use Rattle.cluster_model.specs.Rounds.{quit_guards, quit_from}
use Rattle.node_member.specs.Members.{left}
use Rattle.laws_locks.specs.Following.{rounds_at, with_events, finish_events, finish_offer_events}
use Rattle.laws_locks.specs.Rounded.{stands, offering, wish_fits}
use Rattle.laws_locks.proofs.Guarded.{tested, living}
use Rattle.laws_locks.proofs.Told.{may_finish, may_give_up, no_offer, some_offer, up_offers, quits_with}
use Rattle.laws_locks.proofs.Keeping.{Followed, Kept, Quiet, follow_on, quiet_kept, rounds_on, here, offers_at, offers_all, still_published, still_offered, live_same, live_at, low_at, slots_none}
use Rattle.laws_locks.proofs.Sending.{three_device}

pub granted_stands : (s : SenderPhase) → is_granted s ≡ true → stands s ≡ true
granted_stands s e = grind arith

up_live : (s : NodeState) (w : Wish) → wish_fits s w ≡ true → is_out states.Up ≡ is_out s
up_live s w e = grind arith

with_twice : {A : Type 0} (f : ℕ → A) (n : ℕ) (u v : A) → with_at (with_at f n u) n v ≡ with_at f n v
with_twice {A = A} f n u v = fun_ext (λ m. by_test (m == n) (f m))
  where
    by_test : (b : Bool) (x : A) → (if b then v else (if b then u else x)) ≡ (if b then v else x)
    by_test true x = refl
    by_test false x = refl

pub offers_out : (state : ℕ → NodeState) (sender : ℕ → SenderPhase) (offer : ℕ → Option Offer) (n : ℕ) → ((m : ℕ) → offering (state m) (sender m) (offer m) ≡ true) → (m : ℕ) → offering (with_at state n states.Out m) (with_at sender n senders.Idle m) (with_at (with_at offer n None) n None m) ≡ true
offers_out state sender offer n i m =
    ap (λ f. offering (with_at state n states.Out m) (with_at sender n senders.Idle m) (f m)) (with_twice offer n None None)
    ∙ offers_all state sender offer n states.Out senders.Idle None i refl m

at_itself : {A : Type 0} (f : ℕ → A) (n : ℕ) (v : A) → with_at f n v n ≡ v
at_itself f n v = rw (here n) refl

granted_sends : (s : SenderPhase) → is_granted s ≡ true → may_receive s ≡ false
granted_sends s e = grind arith

quitted_block : (locks : ℕ → Lock) (n : ℕ) (b : Bool) → ((if b then with_at locks message_res (let_go (locks message_res) n) else locks) message_res).block ≡ (locks message_res).block
quitted_block locks n true = refl
quitted_block locks n false = refl

module _ (members : ℕ → Bool) (past : List rounds.Entry) (core : Core) (k : Kept members past core) where
  sound : SoundAt (rounds_at core) members past
  sound = reached_sound members past (rounds_at core) k.follows.reaches

  -- A finish.

  finished_reach : (n : ℕ) → is_granted (core.sender n) ≡ true → Followed members (entry_of (rounds_at core) (rounds.Finish n) ∷ past) (rounds_of (with_at core.state n states.Up) (with_at core.sender n senders.Idle) core.receiver (finished core.locks n))
  finished_reach n g = follow_on members past (rounds_at core) _ (rounds.Finish n) refl k.follows
      (may_finish _ g)
      (finish_follows core.state core.sender core.receiver core.locks (finished core.locks n) n refl)

  finished_meta : (n : ℕ) (o : Offer) → is_granted (core.sender n) ≡ true → wish_fits (core.state n) o.wish ≡ true → Kept members (entry_of (rounds_at core) (rounds.Finish n) ∷ past) (superblock_changed (round_over core n) n o)
  finished_meta n o g w = record {
    follows = finished_reach n g;
    offers = offers_all core.state core.sender core.offer n states.Up senders.Idle None k.offers refl;
    block = λ m q p f. k.block m q (still_published core.sender n senders.Idle refl m p) (still_offered core.offer n m q f);
    live = live_same core.members.live core.state n states.Up k.live (up_live _ _ w);
    slots = k.slots;
    nodes = k.nodes;
    low = low_at core.state n states.Up _ k.low (λ e. k.low n (sym (up_live _ _ w)));
  }

  -- of a node that is up
  finished_up : (n : ℕ) → is_granted (core.sender n) ≡ true → core.state n ≡ states.Up → Kept members (entry_of (rounds_at core) (rounds.Finish n) ∷ past) (round_over core n)
  finished_up n g up = record {
    follows = subst (λ s. Followed members (entry_of (rounds_at core) (rounds.Finish n) ∷ past) (rounds_of s (with_at core.sender n senders.Idle) core.receiver (finished core.locks n))) (with_same core.state n states.Up up) (finished_reach n g);
    offers = offers_at core.state core.sender core.offer n senders.Idle None k.offers refl;
    block = λ m q p f. k.block m q (still_published core.sender n senders.Idle refl m p) (still_offered core.offer n m q f);
    live = k.live;
    slots = k.slots;
    nodes = k.nodes;
    low = k.low;
  }

  -- who finishes an unclean round leaves
  leave_after : (n : ℕ) → is_granted (core.sender n) ≡ true → rounds.May (rounds_of (with_at core.state n states.Up) (with_at core.sender n senders.Idle) core.receiver (finished core.locks n)) (rounds.Leave n)
  leave_after n g = (at_itself core.state n states.Up, at_itself core.sender n senders.Idle, (sound.senders n).sending (granted_sends _ g))

  finished_unclean : (n : ℕ) (o : Offer) → is_granted (core.sender n) ≡ true → Kept members (with_events (rounds_at core) (finish_events n wishes.Unclean) past) (finish_wish (round_over core n) n o wishes.Unclean)
  finished_unclean n o g = record {
    follows =
        let w = finish_follows core.state core.sender core.receiver core.locks (finished core.locks n) n refl in
        let first = follow_on members past (rounds_at core) (rounds.after (rounds_at core) (rounds.Finish n)) (rounds.Finish n) refl k.follows (may_finish _ g) refl in
        follow_on members _ (rounds.after (rounds_at core) (rounds.Finish n)) _ (rounds.Leave n) refl first
        (subst (λ x. rounds.May x (rounds.Leave n)) (sym w) (leave_after n g))
        (ap (λ x. rounds.after x (rounds.Leave n)) w
        ∙ leave_follows (with_at core.state n states.Up) (with_at core.sender n senders.Idle) core.receiver (finished core.locks n) (all_let_go (finished core.locks n) n) n (finishing_lets_go core.locks n)
        ∙ ap (λ s. rounds_of s (with_at core.sender n senders.Idle) core.receiver (all_let_go (finished core.locks n) n)) (with_twice core.state n states.Up states.Out));
    offers = offers_out core.state core.sender core.offer n k.offers;
    block = λ m q p f. k.block m q (still_published core.sender n senders.Idle refl m p) (still_offered core.offer n m q (still_offered (with_at core.offer n None) n m q f));
    live = live_at core.members.live core.state n states.Out false k.live refl;
    slots = slots_none core.recovery n k.slots;
    nodes = k.nodes;
    low = low_at core.state n states.Out _ k.low (λ e. cc);
  }

  finished_wish : (n : ℕ) (o : Offer) (w : Wish) → is_granted (core.sender n) ≡ true → wish_fits (core.state n) w ≡ true → o.wish ≡ w → Kept members (with_events (rounds_at core) (finish_events n w) past) (finish_wish (round_over core n) n o w)
  finished_wish n o wishes.Unclean g f is = finished_unclean n o g
  finished_wish n o (wishes.Range r) g f is = quiet_kept members _ _ _ (finished_up n g (up_offers _ _ f refl)) (record { rounds = refl; offer = refl; live = refl; array = refl; slots = λ s. s })
  finished_wish n o (wishes.NewDisk l) g f is = quiet_kept members _ _ _ (finished_up n g (up_offers _ _ f refl)) (record { rounds = refl; offer = refl; live = refl; array = refl; slots = λ s. s })
  finished_wish n o (wishes.Remove l) g f is = quiet_kept members _ _ _ (finished_up n g (up_offers _ _ f refl)) (record { rounds = refl; offer = refl; live = refl; array = refl; slots = λ s. s })
  finished_wish n o (wishes.ReAdd l) g f is = quiet_kept members _ _ _ (finished_up n g (up_offers _ _ f refl)) (record { rounds = refl; offer = refl; live = refl; array = refl; slots = λ s. s })
  finished_wish n o w g f is = finished_meta n o g (ap (wish_fits (core.state n)) is ∙ f)

  pub finish_kept : (n : ℕ) → first_of (finish_guards core n) ≡ None → Kept members (with_events (rounds_at core) (finish_offer_events n (core.offer n)) past) (finish_offer core n (core.offer n))
  finish_kept n e = by_offer (core.offer n) refl
    where
      by_offer : (x : Option Offer) → core.offer n ≡ x → Kept members (with_events (rounds_at core) (finish_offer_events n x) past) (finish_offer core n x)
      by_offer None is = let l = living core n _ k.nodes e in let b = tested (is_granted (core.sender n)) _ _ l.rest in absurd (no_offer _ _ _ (k.offers n) (granted_stands _ b.0) is)
      by_offer (Some o) is =
          let l = living core n _ k.nodes e in
          let b = tested (is_granted (core.sender n)) _ _ l.rest in
          finished_wish n o o.wish b.0 (some_offer _ _ o (ap (offering (core.state n) (core.sender n)) (sym is) ∙ k.offers n) (granted_stands _ b.0)) refl

  -- A round that is given up.

  quit_up : (n : ℕ) → core.state n ≡ states.Up → may_quit (core.sender n) ≡ true → Kept members (entry_of (rounds_at core) (rounds.Quit n) ∷ past) (record (sender_idle core n) { locks = quitted core.locks n (core.sender n) })
  quit_up n up q = record {
    follows = follow_on members past (rounds_at core) _ (rounds.Quit n) refl k.follows (may_give_up _ q)
        (quit_follows core.state core.sender core.receiver core.locks (quitted core.locks n (core.sender n)) n up refl);
    offers = offers_at core.state core.sender core.offer n senders.Idle None k.offers refl;
    block = λ m o p f. quitted_block core.locks n (has_message (core.sender n)) ∙ k.block m o (still_published core.sender n senders.Idle refl m p) (still_offered core.offer n m o f);
    live = k.live;
    slots = k.slots;
    nodes = k.nodes;
    low = k.low;
  }

  -- the node isn't up yet
  quit_first : (n : ℕ) → rounds.is_up (core.state n) ≡ false → may_quit (core.sender n) ≡ true → Kept members (entry_of (rounds_at core) (rounds.Quit n) ∷ past) (record (node_out (sender_idle core n) n) { members = left core.members n true; locks = all_let_go core.locks n })
  quit_first n down q = record {
    follows = follow_on members past (rounds_at core) _ (rounds.Quit n) refl k.follows (may_give_up _ q)
        (quit_first_follows core.state core.sender core.receiver core.locks (all_let_go core.locks n) n down
        (quitting_lets_go (core.state n) core.locks n (core.sender n) down (λ none. (sound.holds n).calm (quits_with _ q none) (rw ((sound.states_hold n).still down) refl))));
    offers = offers_out core.state core.sender core.offer n k.offers;
    block = λ m o p f. k.block m o (still_published core.sender n senders.Idle refl m p) (still_offered core.offer n m o (still_offered (with_at core.offer n None) n m o f));
    live = live_at core.members.live core.state n states.Out false k.live refl;
    slots = slots_none core.recovery n k.slots;
    nodes = k.nodes;
    low = low_at core.state n states.Out _ k.low (λ e. cc);
  }

  pub quit_kept : (n : ℕ) → first_of (quit_guards core n) ≡ None → Kept members (entry_of (rounds_at core) (rounds.Quit n) ∷ past) (quit_from core n (core.state n))
  quit_kept n e = by_state (core.state n) refl
    where
      may : may_quit (core.sender n) ≡ true
      may = (tested (may_quit (core.sender n)) _ _ (living core n _ k.nodes e).rest).0

      unlocked : (new : Core) → Quiet (record new { locks = device_unlocked new.locks n }) new
      unlocked new = record { rounds = rounds_on new (device_unlocked new.locks n) (three_device new.locks n); offer = refl; live = refl; array = refl; slots = λ s. s }

      by_state : (s : NodeState) → core.state n ≡ s → Kept members (entry_of (rounds_at core) (rounds.Quit n) ∷ past) (quit_from core n s)
      by_state states.Up is = quiet_kept members _ _ _ (quit_up n is may) (unlocked _)
      by_state states.Out is = quit_first n (rw is refl) may
      by_state states.Joining is = quit_first n (rw is refl) may
      by_state states.Loaded is = quit_first n (rw is refl) may
