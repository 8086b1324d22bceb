-- What a grant keeps.
use Rattle.std.proofs.Common.{◌≡◌, ◌⊎◌, inl, inr, ℕ, Bool, true, false, List, [], ◌∷◌, Option, Some, None, refl, sym, ap, ◌∙◌, subst, arith, ◌==◌, if◌then◌else◌}
use Rattle.std.proofs.lemmas.Bool.Decides.{nat_tests}
use Rattle.dlm_modes.specs.Guards.{first_of}
use Rattle.dlm_modes.specs.Points.{with_at}
use Rattle.dlm_modes.specs.declared.mode.Mode.{Mode}
use Rattle.dlm_modes.specs.declared.mode.Mode.TheVariants.{PR, EX}
use Rattle.dlm_space.specs.declared.ask.Ask.{Ask}
use Rattle.dlm_space.specs.Queues.{head, ask_for}
use Rattle.dlm_space.specs.Locks.{Lock, granted, granted_from, blocker, head_refusal, grant_refusal}
use Rattle.mdc_types.specs.declared.resources.Res.{Res}
use Rattle.mdc_types.specs.declared.resources.Res.TheVariants as resources
use Rattle.mdc_types.specs.Resources.{number_of}
use Rattle.mdc_types.specs.declared.refusals.Refusal.TheVariants.{NothingAsked}
use Rattle.cluster_model.specs.Guards.{found_or}
use Rattle.msg_rounds.specs.Locks.{token_res, message_res, ack_res}
use Rattle.msg_rounds.specs.Phases.{has_published}
use Rattle.msg_rounds.specs.declared.phases.SenderPhase.{SenderPhase}
use Rattle.msg_rounds.specs.declared.phases.SenderPhase.TheVariants as senders
use Rattle.laws_rounds.specs.Machine as rounds
use Rattle.laws_rounds.specs.Following.{is_of_rounds, rounds_of}
use Rattle.laws_rounds.specs.News.{news_at, heads}
use Rattle.laws_rounds.proofs.Three.{three_else}
use Rattle.laws_rounds.proofs.Tells.{token_head, ack_head, message_head, PrHead, MessageHead}
use Rattle.laws_rounds.proofs.Follows.{grant_follows, token_granted_follows, message_granted_follows, ack_granted_follows, pr_granted_follows}
use Rattle.cluster_model.specs.State.{Core}
use Rattle.cluster_model.specs.Granting.{asker, not_grantable, grant_guards, grant_to, grant}
use Rattle.cluster_model.specs.Changes.{resync_res}
use Rattle.laws_locks.specs.Following.{rounds_at, with_events, grant_events, res_events}
use Rattle.laws_locks.specs.Rounded.{stands}
use Rattle.laws_locks.proofs.Guarded.{first_none, refused_none}
use Rattle.laws_locks.proofs.Keeping.{Followed, Kept, Quiet, inv_at, follow_grant, quiet_kept, rounds_on, offers_sender, was_published}

granted_block : (lock : Lock) (conversions requests : List Ask) → (granted_from lock conversions requests).block ≡ lock.block
granted_block lock (a ∷ conversions) requests = refl
granted_block lock [] (a ∷ requests) = refl
granted_block lock [] [] = refl

-- the asker stands in nobody's way
none_blocks : (lock : Lock) (x : Option ℕ) → x ≡ None → (head_is : Option Ask) → (a : Ask) → head_is ≡ Some a → x ≡ blocker lock a.node a.mode → head_refusal lock head_is ≡ None
none_blocks lock x e None a is b = cc
none_blocks lock x e (Some c) a is b =
    let same : a ≡ c = cc in
    let none : blocker lock c.node c.mode ≡ None = ap (λ y. blocker lock y.node y.mode) (sym same) ∙ sym b ∙ e in
    rw none refl

pub grantable : (lock : Lock) (a : Ask) → not_grantable lock (Some a) ≡ None → head lock.conversions lock.requests ≡ Some a → grant_refusal lock ≡ None
grantable lock a e is = none_blocks lock (blocker lock a.node a.mode) (refused_none _ _ e) (head lock.conversions lock.requests) a is refl

-- the locks after a grant
abbrev served : (ℕ → Lock) → ℕ → ℕ → Lock
served locks r = with_at locks r (granted (locks r))

served_block : (locks : ℕ → Lock) (r : ℕ) → (served locks r message_res).block ≡ (locks message_res).block
served_block locks r = by_test (message_res == r) (number_is message_res r)
  where
    number_is : (m r : ℕ) → (m == r) ≡ true → m ≡ r
    number_is m r e = grind (arith, nat_tests)

    by_test : (b : Bool) → (b ≡ true → message_res ≡ r) → (if b then granted (locks r) else locks message_res).block ≡ (locks message_res).block
    by_test true e = granted_block (locks r) (locks r).conversions (locks r).requests ∙ ap (λ j. (locks j).block) (sym (e refl))
    by_test false e = refl

token_stands : (s : SenderPhase) → s ≡ senders.TokenAsked → stands s ≡ false
token_stands s e = grind arith

message_stands : (s : SenderPhase) → s ≡ senders.MessageAsked → stands s ≡ false
message_stands s e = grind arith

published_stands : (s : SenderPhase) → s ≡ senders.Published → stands s ≡ true
published_stands s e = grind arith

has_published_is : (s : SenderPhase) → s ≡ senders.Published → has_published s ≡ true
has_published_is s e = grind arith

pub grant_guard : (core : Core) (res : Res) → first_of (grant_guards core res) ≡ None → not_grantable (core.locks (number_of res)) (asker core res) ≡ None
grant_guard core res e = (first_none (not_grantable (core.locks (number_of res)) (asker core res)) [] (first_none (found_or (asker core res) (NothingAsked res)) (not_grantable (core.locks (number_of res)) (asker core res) ∷ []) e).1).0

module _ (members : ℕ → Bool) (past : List rounds.Entry) (core : Core) (k : Kept members past core) where
  -- the grant and its news, on one of the three
  two_reach : (r : ℕ) (a : Ask) (new : rounds.Rounds) → is_of_rounds r ≡ true → rounds.May (rounds_at core) (rounds.Grant r) → heads (rounds_at core) r ≡ Some a
      → rounds.after (rounds_of core.state core.sender core.receiver (served core.locks r)) (news_at r a) ≡ new
      → Followed members (with_events (rounds_at core) (grant_events r (Some a)) past) new
  two_reach r a new is may h e =
      let w = grant_follows core.state core.sender core.receiver core.locks (served core.locks r) r is refl in
      follow_grant members past (rounds_at core) new r a k.follows may h (ap (λ x. rounds.after x (news_at r a)) w ∙ e)

  sends : (r n : ℕ) (s : SenderPhase) (es : List rounds.Entry) → Followed members es (rounds_of core.state (with_at core.sender n s) core.receiver (served core.locks r)) → stands s ≡ stands (core.sender n) → (has_published s ≡ true → has_published (core.sender n) ≡ true)
      → Kept members es (record core { sender = with_at core.sender n s; locks = served core.locks r })
  sends r n s es reach st pu = record {
    follows = reach;
    offers = offers_sender core.state core.sender core.offer n s k.offers st;
    block = λ m o p f. served_block core.locks r ∙ k.block m o (was_published core.sender n s pu m p) f;
    live = k.live;
    slots = k.slots;
    nodes = k.nodes;
    low = k.low;
  }

  grants_token : (a : Ask) → rounds.May (rounds_at core) (rounds.Grant token_res) → heads (rounds_at core) token_res ≡ Some a → Kept members (with_events (rounds_at core) (grant_events token_res (Some a)) past) (grant_to core resources.Token (Some a))
  grants_token a may h =
      let t = token_head (rounds_at core) a (inv_at members past (rounds_at core) k.follows.reaches).queues h in
      sends token_res a.node senders.TokenHeld _
      (two_reach token_res a _ refl may h (token_granted_follows core.state core.sender core.receiver (served core.locks token_res) (served core.locks token_res) a.node refl))
      (sym (token_stands _ t.phase)) (λ p. cc)

  grants_ack : (a : Ask) → rounds.May (rounds_at core) (rounds.Grant ack_res) → heads (rounds_at core) ack_res ≡ Some a → Kept members (with_events (rounds_at core) (grant_events ack_res (Some a)) past) (grant_to core resources.Ack (Some a))
  grants_ack a may h =
      let t = ack_head (rounds_at core) a (inv_at members past (rounds_at core) k.follows.reaches).queues h in
      sends ack_res a.node senders.Granted _
      (two_reach ack_res a _ refl may h (ack_granted_follows core.state core.sender core.receiver (served core.locks ack_res) (served core.locks ack_res) a.node refl))
      (sym (published_stands _ t.phase)) (λ p. has_published_is _ t.phase)

  -- PR is a receiver's
  grants_pr : (n : ℕ) → rounds.May (rounds_at core) (rounds.Grant message_res) → heads (rounds_at core) message_res ≡ Some (ask_for n PR) → Kept members (with_events (rounds_at core) (grant_events message_res (Some (ask_for n PR))) past) (grant_to core resources.Message (Some (ask_for n PR)))
  grants_pr n may h = record {
    follows = two_reach message_res (ask_for n PR) _ refl may h (pr_granted_follows core.state core.sender core.receiver (served core.locks message_res) (served core.locks message_res) n refl);
    offers = k.offers;
    block = λ m o p f. served_block core.locks message_res ∙ k.block m o p f;
    live = k.live;
    slots = k.slots;
    nodes = k.nodes;
    low = k.low;
  }

  -- and EX a sender's
  grants_ex : (n : ℕ) → core.sender n ≡ senders.MessageAsked → rounds.May (rounds_at core) (rounds.Grant message_res) → heads (rounds_at core) message_res ≡ Some (ask_for n EX) → Kept members (with_events (rounds_at core) (grant_events message_res (Some (ask_for n EX))) past) (grant_to core resources.Message (Some (ask_for n EX)))
  grants_ex n asks may h = sends message_res n senders.MessageHeld _
      (two_reach message_res (ask_for n EX) _ refl may h (message_granted_follows core.state core.sender core.receiver (served core.locks message_res) (served core.locks message_res) n refl))
      (sym (message_stands _ asks)) (λ p. cc)

  grants_message : (n : ℕ) (mode : Mode) → PrHead (rounds_at core) (ask_for n mode) ⊎ MessageHead (rounds_at core) (ask_for n mode) → rounds.May (rounds_at core) (rounds.Grant message_res) → heads (rounds_at core) message_res ≡ Some (ask_for n mode) → Kept members (with_events (rounds_at core) (grant_events message_res (Some (ask_for n mode))) past) (grant_to core resources.Message (Some (ask_for n mode)))
  grants_message n mode (inl p) may h = subst (λ v. heads (rounds_at core) message_res ≡ Some (ask_for n v) → Kept members (with_events (rounds_at core) (grant_events message_res (Some (ask_for n v))) past) (grant_to core resources.Message (Some (ask_for n v)))) (sym p.mode) (grants_pr n may) h
  grants_message n mode (inr p) may h = subst (λ v. heads (rounds_at core) message_res ≡ Some (ask_for n v) → Kept members (with_events (rounds_at core) (grant_events message_res (Some (ask_for n v))) past) (grant_to core resources.Message (Some (ask_for n v)))) (sym p.mode) (grants_ex n p.phase may) h

  -- `resync` is none of the three
  grants_resync : (x : Option Ask) → Quiet (grant_to core resources.Resync x) core
  grants_resync None = record { rounds = refl; offer = refl; live = refl; array = refl; slots = λ s. s }
  grants_resync (Some a) = record { rounds = rounds_on core (served core.locks resync_res) (three_else core.locks resync_res _ refl); offer = refl; live = refl; array = refl; slots = λ s. s }

  pub grant_kept : (res : Res) → first_of (grant_guards core res) ≡ None → Kept members (with_events (rounds_at core) (res_events core res) past) (grant core res)
  grant_kept (resources.Bitmap n) e = k
  grant_kept resources.NoNewDev e = k
  grant_kept resources.Resync e = quiet_kept members past _ core k (grants_resync (asker core resources.Resync))
  grant_kept resources.Token e = by_asker (asker core resources.Token) refl (grant_guard core resources.Token e)
    where
      by_asker : (x : Option Ask) → head (core.locks token_res).conversions (core.locks token_res).requests ≡ x → not_grantable (core.locks token_res) x ≡ None → Kept members (with_events (rounds_at core) (grant_events token_res x) past) (grant_to core resources.Token x)
      by_asker None h g = k
      by_asker (Some a) h g = grants_token a (inl refl, grantable (core.locks token_res) a g h) h
  grant_kept resources.Ack e = by_asker (asker core resources.Ack) refl (grant_guard core resources.Ack e)
    where
      by_asker : (x : Option Ask) → head (core.locks ack_res).conversions (core.locks ack_res).requests ≡ x → not_grantable (core.locks ack_res) x ≡ None → Kept members (with_events (rounds_at core) (grant_events ack_res x) past) (grant_to core resources.Ack x)
      by_asker None h g = k
      by_asker (Some a) h g = grants_ack a (inr (inr refl), grantable (core.locks ack_res) a g h) h
  grant_kept resources.Message e = by_asker (asker core resources.Message) refl (grant_guard core resources.Message e)
    where
      by_asker : (x : Option Ask) → head (core.locks message_res).conversions (core.locks message_res).requests ≡ x → not_grantable (core.locks message_res) x ≡ None → Kept members (with_events (rounds_at core) (grant_events message_res x) past) (grant_to core resources.Message x)
      by_asker None h g = k
      by_asker (Some a) h g = grants_message a.node a.mode (message_head (rounds_at core) a (inv_at members past (rounds_at core) k.follows.reaches).queues h) (inr (inl refl), grantable (core.locks message_res) a g h) h
