-- What the rows of senders, and of nodes that come and go, keep of the other locks.
use Rattle.std.proofs.Common.{◌≡◌, ◌≢◌, ℕ, Bool, true, false, not, List, [], ◌∷◌, Option, Some, None, refl, sym, ap, ◌∙◌, arith, ◌==◌, ◌&&◌, ◌||◌, if◌then◌else◌}
use Rattle.std.specs.Option.{option_map}
use Rattle.std.proofs.lemmas.Bool.Decides.{nat_tests}
use Rattle.dlm_modes.specs.Guards.{first_of}
use Rattle.dlm_modes.specs.Points.{with_at}
use Rattle.dlm_modes.specs.declared.mode.Mode.{Mode}
use Rattle.dlm_modes.specs.declared.mode.Mode.TheVariants.{CR, EX}
use Rattle.dlm_space.specs.declared.ask.Ask.{Ask}
use Rattle.dlm_space.specs.Queues.{asks_of}
use Rattle.dlm_space.specs.Locks.{Lock, granted, granted_from}
use Rattle.dlm_space.specs.Orderly.{agree}
use Rattle.mdc_types.specs.declared.events.Wish.{Wish}
use Rattle.mdc_types.specs.declared.events.Wish.TheVariants as wishes
use Rattle.mdc_types.specs.declared.roles.NodeState.{NodeState}
use Rattle.mdc_types.specs.declared.roles.NodeState.TheVariants as states
use Rattle.msg_rounds.specs.Locks.{token_res, message_res}
use Rattle.msg_rounds.specs.Phases.{has_published, is_idle}
use Rattle.msg_rounds.specs.Refusals.{is_sender_idle, is_token_held, is_message_held, is_offered, is_granted}
use Rattle.msg_rounds.specs.declared.phases.SenderPhase.{SenderPhase}
use Rattle.msg_rounds.specs.declared.phases.SenderPhase.TheVariants as senders
use Rattle.node_member.specs.Members.{Members, drawn_one}
use Rattle.laws_rounds.specs.Machine as rounds
use Rattle.cluster_model.specs.State.{Core, Offer, Turn, NotAsked, Asked}
use Rattle.cluster_model.specs.Guards.{no_node, not_fenced, is_out}
use Rattle.cluster_model.specs.Phases.{is_up, is_in, is_joining, is_unclean, offers, copy_word, is_none as is_none_word}
use Rattle.cluster_model.specs.Changes.{no_new_dev}
use Rattle.cluster_model.specs.Joining.{join_guards, join, up_guards, up}
use Rattle.cluster_model.specs.Leaving.{leave_guards, leave}
use Rattle.cluster_model.specs.Rounds.{token_guards, ask_token, message_guards, ask_message, quit_guards, quit_from, quit}
use Rattle.cluster_model.specs.Wishes.{offer_guards, offer_of, offered, loaded_offers, wish_guards}
use Rattle.cluster_model.specs.Superblocks.{written_on, super_written}
use Rattle.cluster_model.specs.Publishing.{publish_guards, publish}
use Rattle.cluster_model.specs.Finishing.{finish_guards, finish}
use Rattle.laws_locks.specs.Rounded.{has_token, offering, stands, Rounded}
use Rattle.laws_locks.specs.Others.{turn_held, turn_request, may_lock_device, device_fits, OtherLocks}
use Rattle.laws_locks.proofs.Guarded.{first_none, tested, a_node, living}
use Rattle.laws_locks.proofs.Told.{joining_is}
use Rattle.laws_locks.proofs.Keeping.{Kept}
use Rattle.laws_locks.proofs.Facts.{rounded}
use Rattle.laws_locks.proofs.Words.{no_turn}
use Rattle.laws_locks.proofs.Unmoved.{SameElse, else_at, unmoved, sender_same, offer_same}
use Rattle.laws_locks.proofs.Devices.{agrees_cr}
use Rattle.laws_locks.proofs.Nodes.{join_keeps, up_keeps, gone_keeps, quit_keeps}
use Rattle.laws_locks.proofs.Publish.{quit_up_keeps, publish_keeps, finish_keeps}

pub locker_token : (s : SenderPhase) → may_lock_device s ≡ true → has_token s ≡ true
locker_token s e = grind arith

pub published_token : (s : SenderPhase) → has_published s ≡ true → has_token s ≡ true
published_token s e = grind arith

pub published_unlocks : (s : SenderPhase) → has_published s ≡ true → may_lock_device s ≡ false
published_unlocks s e = grind arith

pub in_live : (s : NodeState) → is_out s ≡ false → not (is_out s) ≡ true
in_live s e = grind arith

pub fits_in : (s : NodeState) (sender : SenderPhase) (x : Option Offer) → offering s sender x ≡ true → stands sender ≡ true → is_in s ≡ true
fits_in s sender x i e = grind arith

pub granted_stands : (s : SenderPhase) → is_granted s ≡ true → stands s ≡ true
granted_stands s e = grind arith

pub far_none : (s : NodeState) (sender : SenderPhase) (held : Option Mode) → device_fits s sender held ≡ true → s ≡ states.Out → held ≡ None
far_none s sender held f e = grind arith

pub not_up_out : (s : NodeState) → s ≡ states.Out → is_up s ≡ false
not_up_out s e = grind arith

pub none_held : (held : Option Mode) (t : Turn) → held ≡ turn_held t → t ≡ NotAsked → held ≡ None
none_held held t e f = grind arith

-- The head of the queue on `resync`.

pub head_asks : (a : Ask) (rest : List Ask) (f : ℕ → List Mode) → ((m : ℕ) → asks_of m (a ∷ rest) ≡ f m) → f a.node ≡ a.mode ∷ asks_of a.node rest
head_asks a rest f q = grind (arith, nat_tests, q a.node)

pub rest_asks : (a : Ask) (rest : List Ask) (f : ℕ → List Mode) → ((m : ℕ) → asks_of m (a ∷ rest) ≡ f m) → (m : ℕ) → m ≢ a.node → asks_of m rest ≡ f m
rest_asks a rest f q m ne = grind (arith, nat_tests, q m)

pub turn_asker : (t : Turn) (v : Mode) (rest : List Mode) → turn_request t ≡ v ∷ rest → (t ≡ Asked) × (v ≡ EX) × (rest ≡ [])
turn_asker t v rest e = grind arith

pub served_is : (lock : Lock) (a : Ask) (rest : List Ask) → lock.conversions ≡ [] → lock.requests ≡ a ∷ rest → a.mode ≡ EX → granted lock ≡ record lock { held = with_at lock.held a.node (Some EX); requests = rest }
served_is lock a rest c q m =
    ap (λ x. granted_from lock x lock.requests) c ∙ ap (granted_from lock []) q
    ∙ ap (λ v. record lock { held = with_at lock.held a.node (Some v); requests = rest }) m

pub leaves_not : (b : Bool) → not b ≡ true → b ≡ false
leaves_not b e = grind arith

-- who hasn't offered to leave has no such offer
pub clean_offer : (s : NodeState) (sender : SenderPhase) (x : Option Offer) → offering s sender x ≡ true → not ((is_offered sender || has_published sender) && offers is_unclean x) ≡ true → offers is_unclean x ≡ false
clean_offer s sender None i e = refl
clean_offer s sender (Some q) i e = grind arith

pub drawn_live : (b : Bool) (m : Members) → (if b then drawn_one m else m).live ≡ m.live
drawn_live true m = refl
drawn_live false m = refl

pub drawn_pending : (b : Bool) (m : Members) → (if b then drawn_one m else m).pending ≡ m.pending
drawn_pending true m = refl
drawn_pending false m = refl

module _ (members : ℕ → Bool) (past : List rounds.Entry) (core : Core) (k : Kept members past core) (o : OtherLocks core) where
  r : Rounded core
  r = rounded members past core k

  -- where one has the token, no other holds EX on `no-new-dev`
  pub others_cr : (n : ℕ) → has_token (core.sender n) ≡ true → (m : ℕ) → m ≢ n → agree (Some CR) ((core.locks no_new_dev).held m) ≡ true
  others_cr n t m ne = agrees_cr (core.state m) (core.sender m) _ (o.device.fits m) (by_test (may_lock_device (core.sender m)) refl)
    where
      by_test : (b : Bool) → may_lock_device (core.sender m) ≡ b → b ≡ false
      by_test false e = refl
      by_test true e = absurd (ne (r.phased.alone m n (locker_token _ e) t))

  -- and while a message is published nobody does
  pub all_cr : (n : ℕ) → has_published (core.sender n) ≡ true → (m : ℕ) → agree (Some CR) ((core.locks no_new_dev).held m) ≡ true
  all_cr n t m = agrees_cr (core.state m) (core.sender m) _ (o.device.fits m) (by_test (may_lock_device (core.sender m)) refl)
    where
      by_test : (b : Bool) → may_lock_device (core.sender m) ≡ b → b ≡ false
      by_test false e = refl
      by_test true e =
          let same = r.phased.alone m n (locker_token _ e) (published_token _ t) in
          sym e ∙ published_unlocks _ (ap (λ j. has_published (core.sender j)) same ∙ t)

  pub join_other : (n : ℕ) → first_of (join_guards core n) ≡ None → OtherLocks (join core n)
  join_other n e =
      let a = first_none (no_node core n) _ e in
      let b = first_none (not_fenced core n) _ a.1 in
      let c = tested (not (core.members.live n)) _ _ b.1 in
      let d = tested (not (core.members.pending n)) _ _ c.1 in
      join_keeps core n o (a_node core n k.nodes a.0) (leaves_not _ d.0) (is_out_is _ (sym (k.live n) ∙ leaves_not _ c.0))
    where
      is_out_is : (s : NodeState) → not (is_out s) ≡ false → s ≡ states.Out
      is_out_is s e = grind arith

  pub up_other : (n : ℕ) → first_of (up_guards core n) ≡ None → OtherLocks (up core n)
  up_other n e =
      let l = living core n _ k.nodes e in
      let a = tested (is_joining (core.state n)) _ _ l.rest in
      let b = tested (is_token_held (core.sender n)) _ _ a.1 in
      up_keeps core n o (joining_is _ a.0) (others_cr n (held_token _ b.0))
    where
      held_token : (s : SenderPhase) → is_token_held s ≡ true → has_token s ≡ true
      held_token s e = grind arith

  pub leave_other : (n : ℕ) → first_of (leave_guards core n) ≡ None → OtherLocks (leave core n)
  leave_other n e =
      let l = living core n _ k.nodes e in
      let a = tested (is_up (core.state n)) _ _ l.rest in
      let b = tested (is_sender_idle (core.sender n)) _ _ a.1 in
      let c = tested (is_idle (core.receiver n).phase) _ _ b.1 in
      let d = tested (is_none_word (copy_word (core.copy n))) _ _ c.1 in
      gone_keeps core n true o l.live (no_turn _ _ _ d.0)

  pub quit_other : (n : ℕ) → first_of (quit_guards core n) ≡ None → OtherLocks (quit core n)
  quit_other n e = by_state (core.state n) refl
    where
      first : is_up (core.state n) ≡ false → OtherLocks (quit_from core n states.Joining)
      first down = quit_keeps core n (gone_keeps core n true o (living core n _ k.nodes e).live (o.resync.still n down))

      by_state : (s : NodeState) → core.state n ≡ s → OtherLocks (quit_from core n s)
      by_state states.Up is = quit_up_keeps core n o
      by_state states.Out is = first (ap is_up is)
      by_state states.Joining is = first (ap is_up is)
      by_state states.Loaded is = first (ap is_up is)

  -- a sender's phase changes, and one of the three locks
  pub sender_other : (n : ℕ) (s : SenderPhase) (locks : ℕ → Lock) → SameElse locks core.locks → ((core.locks no_new_dev).held n ≡ Some EX → may_lock_device (core.sender n) ≡ true → may_lock_device s ≡ true) → OtherLocks (record core { sender = with_at core.sender n s; locks = locks })
  sender_other n s locks same may = unmoved (record core { sender = with_at core.sender n s; locks = locks }) core (record {
    locks = same;
    turn = λ m. refl;
    recovers = λ m k. refl;
    live = refl;
    pending = refl;
    state = refl;
    sender = λ m held was. by_test m (m == n) (λ t. grind (arith, nat_tests)) held was;
    offer = o.resync.unclean;
  }) o
    where
      by_test : (m : ℕ) (b : Bool) → (b ≡ true → m ≡ n) → (core.locks no_new_dev).held m ≡ Some EX → may_lock_device (core.sender m) ≡ true → may_lock_device (if b then s else core.sender m) ≡ true
      by_test m true is held was = may (ap (core.locks no_new_dev).held (sym (is refl)) ∙ held) (ap (λ j. may_lock_device (core.sender j)) (sym (is refl)) ∙ was)
      by_test m false is held was = was

  pub token_other : (n : ℕ) → first_of (token_guards core n) ≡ None → OtherLocks (ask_token core n)
  token_other n e =
      let l = living core n _ k.nodes e in
      let a = tested (is_up (core.state n)) _ _ l.rest in
      let b = tested (is_sender_idle (core.sender n)) _ _ a.1 in
      sender_other n senders.TokenAsked (ask_token core n).locks (else_at core.locks token_res _ refl) (λ held was. idle_not _ b.0 was)
    where
      idle_not : (s : SenderPhase) → is_sender_idle s ≡ true → may_lock_device s ≡ true → false ≡ true
      idle_not s e f = grind arith

  pub message_other : (n : ℕ) → first_of (message_guards core n) ≡ None → OtherLocks (ask_message core n)
  message_other n e = sender_other n senders.MessageAsked (ask_message core n).locks (else_at core.locks message_res _ refl) (λ held was. refl)

  -- who offers to leave has no turn
  pub unclean_turn : (n : ℕ) (wish : Wish) → first_of (wish_guards core n wish) ≡ None → is_unclean wish ≡ true → (core.copy n).turn ≡ NotAsked
  unclean_turn n wishes.Unclean e u = no_turn _ _ _ (tested (is_none_word (copy_word (core.copy n))) _ _ e).0
  unclean_turn n wish e u = cc

  pub offer_other : (n : ℕ) (wish : Wish) → first_of (offer_guards core n wish) ≡ None → OtherLocks (offered core n wish)
  offer_other n wish e =
      let l = living core n _ k.nodes e in
      let a = first_none (loaded_offers (core.state n) wish) _ l.rest in
      let b = tested (is_message_held (core.sender n)) _ _ a.1 in
      unmoved (offered core n wish) core (record {
        locks = λ r e. refl;
        turn = λ m. refl;
        recovers = λ m k. refl;
        live = drawn_live _ core.members;
        pending = drawn_pending _ core.members;
        state = refl;
        sender = λ m held may. sender_same core.sender n senders.Offered m (λ e. refl) may;
        offer = offer_same core.offer n (Some (offer_of core n wish)) core.copy o.resync.unclean (unclean_turn n wish b.1);
      }) o

  pub super_other : (n l : ℕ) → OtherLocks (super_written core n l)
  super_other n l = unmoved (super_written core n l) core (record {
    locks = λ r e. refl;
    turn = λ m. refl;
    recovers = λ m k. refl;
    live = refl;
    pending = refl;
    state = refl;
    sender = λ m held may. may;
    offer = offer_same core.offer n _ core.copy o.resync.unclean (λ e. o.resync.unclean n (sym (written_same (core.offer n)) ∙ e));
  }) o
    where
      written_same : (x : Option Offer) → offers is_unclean (option_map (written_on l) x) ≡ offers is_unclean x
      written_same None = refl
      written_same (Some q) = refl

  pub publish_other : (n : ℕ) → first_of (publish_guards core n) ≡ None → OtherLocks (publish core n)
  publish_other n e =
      let l = living core n _ k.nodes e in
      publish_keeps core n (core.offer n) o (k.live n ∙ in_live _ l.live) l.node

  pub finish_other : (n : ℕ) → first_of (finish_guards core n) ≡ None → OtherLocks (finish core n)
  finish_other n e =
      let l = living core n _ k.nodes e in
      let b = tested (is_granted (core.sender n)) _ _ l.rest in
      finish_keeps core n (core.offer n) refl o (granted_is_phase _ b.0) (fits_in _ _ _ (k.offers n) (granted_stands _ b.0)) l.live
    where
      granted_is_phase : (s : SenderPhase) → is_granted s ≡ true → s ≡ senders.Granted
      granted_is_phase s e = grind arith
