-- The changes that an accepted event makes.
use Rattle.std.proofs.Common.{◌≡◌, inl, inr, ℕ, ◌<◌, ◌==◌, ◌&&◌, Bool, true, false, not, if◌then◌else◌, List, ◌∷◌, Option, Some, None, refl, sym, ap, subst, ◌∙◌, arith}
use Rattle.std.specs.Prelude.{option_map}
use Rattle.dlm_modes.specs.Guards.{first_of, unless}
use Rattle.dlm_modes.specs.Points.{with_at}
use Rattle.dlm_modes.specs.declared.mode.Mode.{Mode}
use Rattle.dlm_modes.specs.declared.mode.Mode.TheVariants.{PR, PW, EX}
use Rattle.mdc_types.specs.Resources.{number_of}
use Rattle.mdc_types.specs.declared.events.Wish.{Wish}
use Rattle.mdc_types.specs.declared.events.Wish.TheVariants as wishes
use Rattle.mdc_types.specs.declared.outcomes.Outcome.{Outcome}
use Rattle.mdc_types.specs.declared.outcomes.Outcome.TheVariants as outcomes
use Rattle.mdc_types.specs.declared.refusals.Refusal.{Refusal}
use Rattle.mdc_types.specs.declared.refusals.Refusal.TheVariants.{Missing, SlotLive, Stale, Draining, Reading, SenderGone, NotUp}
use Rattle.mdc_types.specs.declared.resources.Res.{Res}
use Rattle.mdc_types.specs.declared.resources.Res.TheVariants as resources
use Rattle.mdc_types.specs.declared.roles.NodeState.{NodeState}
use Rattle.mdc_types.specs.declared.roles.NodeState.TheVariants as states
use Rattle.dlm_space.specs.Locks.{holding, let_go, granted, all_let_go, asked}
use Rattle.dlm_space.specs.declared.ask.Ask.{Ask}
use Rattle.md_superblock.specs.Arrays.{Says, says_in}
use Rattle.msg_rounds.specs.Locks.{token_res, message_res, ack_res, token_asked, message_processed, resumed, published, finished, quitted}
use Rattle.msg_rounds.specs.Phases.{is_idle, has_published, has_message, may_receive}
use Rattle.msg_rounds.specs.Refusals.{is_offered, is_granted, is_taken, is_message_held}
use Rattle.msg_rounds.specs.declared.phases.SenderPhase.TheVariants as senders
use Rattle.msg_rounds.specs.declared.phases.ReceiverPhase.TheVariants as receivers
use Rattle.node_member.specs.Members.{left}
use Rattle.leg_failure.specs.Views.{acknowledged}
use Rattle.cluster_msgs.specs.declared.msg.Body.{Body}
use Rattle.cluster_msgs.specs.declared.msg.Body.TheVariants as bodies
use Rattle.cluster_msgs.specs.declared.msg.Msg.{Msg}
use Rattle.mirror_io.specs.Flight.{write_from, read_from}
use Rattle.cluster_model.specs.State.{Core, Offer, Loaded, Unread, Held}
use Rattle.cluster_model.specs.Guards.{is_out, of_live, no_node, not_fenced}
use Rattle.cluster_model.specs.Phases.{is_in, is_up, is_joining, is_metadata, is_unclean, sender_is, receiver_is}
use Rattle.cluster_model.specs.Changes.{sender_now, device_unlocked, no_new_dev}
use Rattle.cluster_model.specs.Granting.{asker, grant_to, message_held}
use Rattle.cluster_model.specs.Joining.{join_guards, up_guards, greatest, newest, missing_leg, join, up}
use Rattle.cluster_model.specs.Leaving.{leave_guards, leave}
use Rattle.cluster_model.specs.Publishing.{block_of, wish_is_due, publish_offer, publish, publish_wish, publish_guards, offer_is_due}
use Rattle.cluster_model.specs.Finishing.{finish, finish_offer, finish_wish, finish_guards, round_over}
use Rattle.cluster_model.specs.Receiving.{receiver_now, receiver_idle}
use Rattle.cluster_model.specs.Processing.{processed, draining_by, see_device, device_lock_kept, do_message, do_body, processed_guards}
use Rattle.cluster_model.specs.Rounds.{quit_from}
use Rattle.cluster_model.specs.Superblocks.{written_on, super_written, sb_guards}
use Rattle.cluster_model.specs.Wishes.{offer_of, offer_guards, wish_guards, loaded_offers, offered}
use Rattle.cluster_model.specs.After.{after, tried_as, with_super}
use Rattle.laws_locks.specs.Rounded.{Rounded, stands, offering}
use Rattle.laws_sound.specs.Requests.{InFlight}
use Rattle.laws_sound.proofs.Guarded.{all_none, first_none, unless_none, refused_none}
use Rattle.laws_sound.proofs.Supers.{says_fit}
use Rattle.laws_sound.proofs.Flights.{none_from, none_read_from}
use Rattle.laws_sound.proofs.RoundFacts.{Standing, no_offer, standing, offered_up, offered_stands, granted_stands, published_stands, held_silent, token_silent, receives_silent, is_taken_now, busy_receives, node_below, head_asks, pr_busy, ack_published, granted_block, same_at, unlocked_in, kept_in, quitted_in, finished_in, processed_in, resumed_in, published_in, has_stood, stands_sends}
use Rattle.laws_sound.proofs.Change.{Changes, changed, still, more, Hears, tells, readies, turns, joins, loads, comes, leaves, offers, writes_super, publishes, shuts, opens, announces, finishes, idles, hears_roles, hears_range, hears, resumes_whole, resumes}

-- Grants.

module _ (core : Core) (r : Rounded core) where
  granted_message : (a : Ask) (mode : Mode) → a.mode ≡ mode → asker core resources.Message ≡ Some a → Changes core (record (message_held core a.node mode) { locks = with_at core.locks message_res (granted (core.locks message_res)) })
  granted_message a PR is e =
      changed (readies a.node (with_at core.locks message_res (granted (core.locks message_res))) (same_at core.locks message_res (granted (core.locks message_res)) (granted_block (core.locks message_res)))
      (pr_busy core.locks (core.sender a.node) (core.receiver a.node).phase a (r.phased.holds a.node) is (head_asks (core.locks message_res).conversions (core.locks message_res).requests a e)))
  granted_message a mode is e = changed (tells a.node senders.MessageHeld (with_at core.locks message_res (granted (core.locks message_res))) (same_at core.locks message_res (granted (core.locks message_res)) (granted_block (core.locks message_res))) (λ e. cc))

  -- who is granted `ack` has an offer, since it has one afterwards
  granted_ack : (a : Ask) → offering (core.state a.node) senders.Granted (core.offer a.node) ≡ true → asker core resources.Ack ≡ Some a → has_published (core.sender a.node) ≡ true
  granted_ack a after e =
      let s = standing (core.state a.node) senders.Granted (core.offer a.node) after refl in
      let up = has_stood (core.state a.node) (core.sender a.node) (core.offer a.node) s.offer (r.offering.offers a.node) s.is in
      ack_published core.locks (core.sender a.node) (core.receiver a.node).phase a (r.phased.holds a.node) (stands_sends (core.sender a.node) up) (head_asks (core.locks ack_res).conversions (core.locks ack_res).requests a e)

  pub grant_change : (res : Res) (x : Option Ask) → asker core res ≡ x → ((a : Ask) → res ≡ resources.Ack → x ≡ Some a → offering (core.state a.node) senders.Granted (core.offer a.node) ≡ true) → Changes core (grant_to core res x)
  grant_change res None e f = still
  grant_change resources.Token (Some a) e f = changed (tells a.node senders.TokenHeld (with_at core.locks (number_of resources.Token) (granted (core.locks (number_of resources.Token)))) (same_at core.locks (number_of resources.Token) (granted (core.locks (number_of resources.Token))) (granted_block (core.locks (number_of resources.Token)))) (λ e. cc))
  grant_change resources.Message (Some a) e f = granted_message a a.mode refl e
  grant_change resources.Ack (Some a) e f = changed (tells a.node senders.Granted (with_at core.locks ack_res (granted (core.locks ack_res))) (same_at core.locks ack_res (granted (core.locks ack_res)) (granted_block (core.locks ack_res))) (λ p. granted_ack a (f a refl refl) e))
  grant_change resources.Resync (Some a) e f = changed (turns a.node Held (with_at core.locks (number_of resources.Resync) (granted (core.locks (number_of resources.Resync)))) (same_at core.locks (number_of resources.Resync) (granted (core.locks (number_of resources.Resync))) (granted_block (core.locks (number_of resources.Resync)))))
  grant_change (resources.Bitmap n) (Some a) e f = cc
  grant_change resources.NoNewDev (Some a) e f = cc

  -- Coming in.

  out_of : (s : NodeState) (b : Bool) → b ≡ not (is_out s) → not b ≡ true → s ≡ states.Out
  out_of states.Out b e live = refl
  out_of s true e live = cc
  out_of s false e live = cc

  asked_in : (n k : ℕ) → (token_asked (with_at core.locks n (holding (core.locks n) n PW)) n k).block ≡ (core.locks k).block
  asked_in n k =
      let now = with_at core.locks n (holding (core.locks n) n PW) in
      same_at now token_res (asked (now token_res) n EX) refl k ∙ same_at core.locks n (holding (core.locks n) n PW) refl k

  pub join_change : (n : ℕ) → first_of (join_guards core n) ≡ None → Changes core (join core n)
  join_change n ok =
      let free = unless_none (not (core.members.live n)) (SlotLive n) (all_none (join_guards core n) ok).1.1.0 in
      changed (joins n (λ m l. if m == n then 0 else core.head m l) (token_asked (with_at core.locks n (holding (core.locks n) n PW)) n) (asked_in n)
      (out_of (core.state n) (core.members.live n) (r.numbered.live n) free))

  says_read : (x : Option Says) (says : Says) → tried_as x ≡ Loaded says → x ≡ Some says
  says_read None says e = cc
  says_read (Some s) says e = cc

  pub load_change : (n l : ℕ) (o : Outcome) → Changes core (with_super core n l o)
  load_change n l (outcomes.Super events v) = changed (loads n l (tried_as (says_in core.array l v.bytes)) (λ says e. says_fit core.array l v.bytes says (says_read (says_in core.array l v.bytes) says e)))
  load_change n l o = changed (loads n l Unread (λ says e. cc))

  joining_is : (s : NodeState) → is_joining s ≡ true → s ≡ states.Joining
  joining_is states.Joining e = refl
  joining_is s e = cc

  pub come_change : (n : ℕ) → first_of (up_guards core n) ≡ None → Changes core (up core n)
  come_change n ok =
      let a = (all_none (up_guards core n) ok).1.1.1 in
      let silent = no_offer (core.state n) (core.sender n) (core.offer n) (r.offering.offers n) (token_silent (core.sender n) (unless_none _ _ a.1.0)) in
      changed (comes n (joining_is (core.state n) (unless_none (is_joining (core.state n)) _ a.0)) silent r.numbered.beyond (unless_none _ (Stale (greatest (core.tried n)) core.members.completed) a.1.1.1.0)
      (refused_none Missing (missing_leg (core.tried n) (newest (core.tried n))) a.1.1.1.1.0))

  pub leave_change : (n : ℕ) → first_of (leave_guards core n) ≡ None → Changes core (leave core n)
  leave_change n ok =
      let a = (all_none (leave_guards core n) ok).1.1.1 in
      changed (leaves n (left core.members n true) (all_let_go core.locks n) core.sender (record { drawn = refl; completed = refl; heirs = λ d h e. e }) (λ k. refl) (λ m e. e) (unless_none (is_idle (core.receiver n).phase) _ a.1.1.0)
      (record { rests = (none_from (core.writes n) (refused_none Draining (write_from 0 (core.writes n)) a.1.1.1.1.0), none_read_from (core.reads n) (refused_none Reading (read_from 0 (core.reads n)) a.1.1.1.1.1.0)) }))

  -- Offers.

  after_live : (n : ℕ) (gs : List (Option Refusal)) → first_of (of_live core n gs) ≡ None → first_of gs ≡ None
  after_live n gs e = (first_none (unless (not (is_out (core.state n))) (NotUp n)) gs (first_none (not_fenced core n) (unless (not (is_out (core.state n))) (NotUp n) ∷ gs) (first_none (no_node core n) (not_fenced core n ∷ unless (not (is_out (core.state n))) (NotUp n) ∷ gs) e).1).1).1

  pub offer_change : (n : ℕ) (wish : Wish) → offering (core.state n) senders.Offered (Some (offer_of core n wish)) ≡ true → first_of (offer_guards core n wish) ≡ None → Changes core (offered core n wish)
  offer_change n wish up ok =
      let first = loaded_offers (core.state n) wish in
      let second = sender_is core n (is_message_held (core.sender n)) in
      let one = first_none first (second ∷ wish_guards core n wish) (after_live n (first ∷ second ∷ wish_guards core n wish) ok) in
      let two = first_none second (wish_guards core n wish) one.1 in
      changed (offers n wish (no_offer (core.state n) (core.sender n) (core.offer n) (r.offering.offers n) (held_silent (core.sender n) (unless_none _ _ two.0))) (offered_up (core.state n) (offer_of core n wish) up) two.1)

  and_first : (a b : Bool) → (a && b) ≡ true → a ≡ true
  and_first a b e = grind arith

  its_offer : (n : ℕ) → stands (core.sender n) ≡ true → Standing (core.state n) (core.offer n)
  its_offer n up = standing (core.state n) (core.sender n) (core.offer n) (r.offering.offers n) up

  pub super_change : (n l : ℕ) → first_of (sb_guards core n l) ≡ None → Changes core (super_written core n l)
  super_change n l ok =
      let a = (all_none (sb_guards core n l) ok).1.1.1 in
      let up = offered_stands (core.sender n) (and_first (is_offered (core.sender n)) _ (unless_none _ _ a.1.0)) in
      let s = its_offer n up.0 in
      subst (λ x. Changes core (record core { offer = with_at core.offer n (option_map (written_on l) x) })) (sym s.is) (changed (writes_super n l s.offer s.is))

  calm : (n : ℕ) → has_message (core.sender n) ≡ true → (m : ℕ) → is_idle (core.receiver m).phase ≡ true
  calm n has m = ap is_idle (r.phased.calm n m has)

  publish_by : (n : ℕ) (o : Offer) (w : Wish) → o.wish ≡ w → core.offer n ≡ Some o → n < 16 → has_message (core.sender n) ≡ true → first_of (wish_is_due core n o o.wish) ≡ None
      → Changes core (publish_wish (record (sender_now core n senders.Published) { locks = device_unlocked (published core.locks n (block_of core n o)) n }) n w)
  publish_by n o (wishes.Range x) w is lt has due =
      let locks = device_unlocked (published core.locks n (block_of core n o)) n in
      changed (shuts n x o locks is w lt (published_in core.locks n (block_of core n o)) (calm n has))
  publish_by n o w e is lt has due = changed (publishes n o (device_unlocked (published core.locks n (block_of core n o)) n) is (published_in core.locks n (block_of core n o)) (calm n has) due)

  pub publish_change : (n : ℕ) → first_of (publish_guards core n) ≡ None → Changes core (publish core n)
  publish_change n ok =
      let first = sender_is core n (is_offered (core.sender n)) in
      let one = first_none first (offer_is_due core n (core.offer n)) (after_live n (first ∷ offer_is_due core n (core.offer n)) ok) in
      let up = offered_stands (core.sender n) (unless_none (is_offered (core.sender n)) _ one.0) in
      let s = its_offer n up.0 in
      subst (λ x. Changes core (publish_offer core n x)) (sym s.is)
      (publish_by n s.offer s.offer.wish refl s.is (node_below core n r.numbered s.up) up.1 (subst (λ x. first_of (offer_is_due core n x) ≡ None) s.is one.1))

  finish_by : (n : ℕ) (o : Offer) (w : Wish) → o.wish ≡ w → core.offer n ≡ Some o → is_in (core.state n) ≡ true → has_published (core.sender n) ≡ true → may_receive (core.sender n) ≡ false → InFlight core
      → Changes core (finish_wish (round_over core n) n o w)
  finish_by n o (wishes.Range x) w is up said sends f = changed (opens n o x (finished core.locks n) is w (finished_in core.locks n))
  finish_by n o wishes.Unclean w is up said sends f =
      more (changed (idles n (finished core.locks n) (finished_in core.locks n)))
      (leaves n (left core.members n false) (all_let_go (finished core.locks n) n) (with_at core.sender n senders.Idle) (record { drawn = refl; completed = refl; heirs = λ d h e. e }) (λ k. refl) (λ m e. e) (ap is_idle (r.phased.sending n sends))
      (record { rests = f.leaving n (rw (said, is) (ap is_unclean w)) }))
  finish_by n o (wishes.NewDisk l) w is up said sends f = changed (announces n (wishes.NewDisk l) (finished core.locks n) (finished_in core.locks n))
  finish_by n o (wishes.Remove l) w is up said sends f = changed (announces n (wishes.Remove l) (finished core.locks n) (finished_in core.locks n))
  finish_by n o (wishes.ReAdd l) w is up said sends f = changed (announces n (wishes.ReAdd l) (finished core.locks n) (finished_in core.locks n))
  finish_by n o w e is up said sends f = changed (finishes n o (finished core.locks n) is (ap is_metadata e) up (finished_in core.locks n))

  pub finish_change : (n : ℕ) → InFlight core → first_of (finish_guards core n) ≡ None → Changes core (finish core n)
  finish_change n f ok =
      let a = (all_none (finish_guards core n) ok).1.1.1 in
      let up = granted_stands (core.sender n) (unless_none (is_granted (core.sender n)) _ a.0) in
      let s = its_offer n up.0 in
      subst (λ x. Changes core (finish_offer core n x)) (sym s.is) (finish_by n s.offer s.offer.wish refl s.is s.up up.1 up.2 f)

  pub quit_by : (n : ℕ) (s : NodeState) → core.state n ≡ s → InFlight core → Changes core (quit_from core n s)
  quit_by n states.Up e f = changed (idles n (device_unlocked (quitted core.locks n (core.sender n)) n) (λ k. unlocked_in (quitted core.locks n (core.sender n)) n k ∙ quitted_in core.locks n (core.sender n) k))
  quit_by n s e f =
      more (changed (idles n core.locks (λ k. refl)))
      (leaves n (left core.members n true) (all_let_go core.locks n) (with_at core.sender n senders.Idle) (record { drawn = refl; completed = refl; heirs = λ d h e. e }) (λ k. refl) (λ m e. e) (ap is_idle (r.phased.still n (ap is_up e)))
      (record { rests = f.resting n (ap is_up e) }))

  -- Messages.

  busy_of : (n : ℕ) → is_taken (core.receiver n).phase ≡ true → is_idle (core.receiver n).phase ≡ false
  busy_of n e = ap is_idle (is_taken_now (core.receiver n).phase e)

  hears_at : (n : ℕ) (m : Msg) → is_taken (core.receiver n).phase ≡ true → (core.receiver n).gone ≡ false → core.heard n ≡ Some m → (o : Offer) × Hears core n m (core.receiver n).from o
  hears_at n m t gone e =
      let from = (core.receiver n).from in
      let said = r.phased.calls n (is_taken_now (core.receiver n).phase t) gone in
      let s = its_offer from (published_stands (core.sender from) said) in
      let receives = busy_receives (core.sender n) (core.receiver n).phase (busy_of n t) (r.phased.sending n) in (
        s.offer,
        record {
          heard = e;
          busy = busy_of n t;
          sender = refl;
          offer = s.is;
          block = r.offering.block from s.offer said s.is;
          up = s.up;
          node = node_below core from r.numbered s.up;
          silent = no_offer (core.state n) (core.sender n) (core.offer n) (r.offering.offers n) (receives_silent (core.sender n) receives);
        },
      )

  body_by : (n : ℕ) (m : Msg) (b : Body) → m.body ≡ b → is_taken (core.receiver n).phase ≡ true → (core.receiver n).gone ≡ false → core.heard n ≡ Some m
      → Changes core (record (receiver_now (do_body core n (core.receiver n).from b) n receivers.Waiting) { locks = message_processed (do_body core n (core.receiver n).from b).locks n })
  body_by n m (bodies.Metadata events roles size) b t gone e =
      let h = hears_at n m t gone e in
      changed (hears_roles n (message_processed (device_lock_kept core.locks n) n) events size roles m (core.receiver n).from h.0 (λ k. processed_in (device_lock_kept core.locks n) n k ∙ kept_in core.locks n k) h.1 (inl b))
  body_by n m (bodies.Capacity events roles size) b t gone e =
      let h = hears_at n m t gone e in
      changed (hears_roles n (message_processed (device_lock_kept core.locks n) n) events size roles m (core.receiver n).from h.0 (λ k. processed_in (device_lock_kept core.locks n) n k ∙ kept_in core.locks n k) h.1 (inr b))
  body_by n m (bodies.Resyncing x) b t gone e = let h = hears_at n m t gone e in changed (hears_range n (message_processed core.locks n) x m (core.receiver n).from h.0 (processed_in core.locks n) h.1 b)
  body_by n m (bodies.NewDisk l uuid) b t gone e = changed (hears n (message_processed (see_device core n l).locks n) (λ k. processed_in (see_device core n l).locks n k ∙ seen_in n l k) (busy_of n t))
    where
      seen_in : (n l k : ℕ) → ((see_device core n l).locks k).block ≡ (core.locks k).block
      seen_in n l k = by (core.cut n l)
        where
          by : (c : Bool) → ((if c then device_lock_kept core.locks n else with_at core.locks no_new_dev (let_go (core.locks no_new_dev) n)) k).block ≡ (core.locks k).block
          by true = kept_in core.locks n k
          by false = same_at core.locks no_new_dev (let_go (core.locks no_new_dev) n) refl k
  body_by n m b is t gone e = changed (hears n (message_processed core.locks n) (processed_in core.locks n) (busy_of n t))

  message_by : (n : ℕ) (x : Option Msg) → core.heard n ≡ x → is_taken (core.receiver n).phase ≡ true → (core.receiver n).gone ≡ false
      → Changes core (record (receiver_now (do_message core n x) n receivers.Waiting) { locks = message_processed (do_message core n x).locks n })
  message_by n None e t gone = changed (hears n (message_processed core.locks n) (processed_in core.locks n) (busy_of n t))
  message_by n (Some m) e t gone = body_by n m m.body refl t gone e

  not_gone : (b : Bool) → not b ≡ true → b ≡ false
  not_gone b e = grind arith

  pub process_change : (n : ℕ) → first_of (processed_guards core n) ≡ None → Changes core (processed core n)
  process_change n ok =
      let first = receiver_is core n (is_taken (core.receiver n).phase) in
      let second = unless (not (core.receiver n).gone) (SenderGone (core.receiver n).from) in
      let one = first_none first (second ∷ draining_by core n (core.heard n)) (after_live n (first ∷ second ∷ draining_by core n (core.heard n)) ok) in
      let two = first_none second (draining_by core n (core.heard n)) one.1 in
      message_by n (core.heard n) refl (unless_none _ _ one.0) (not_gone (core.receiver n).gone (unless_none _ _ two.0))

  pub resume_by : (n : ℕ) (b : Bool) → Changes core (record (receiver_idle (if b then record core { view = with_at core.view n (acknowledged (core.view n)) } else core) n) { locks = resumed core.locks n })
  resume_by n true = changed (resumes_whole n (resumed core.locks n) (resumed_in core.locks n))
  resume_by n false = changed (resumes n (resumed core.locks n) (resumed_in core.locks n))
