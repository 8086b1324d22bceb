-- The ways of grants, and of a sender's first asks.
use Rattle.std.proofs.Common.{◌≡◌, ◌≢◌, inl, inr, ℕ, ◌<◌, ◌==◌, ◌&&◌, Bool, true, false, not, List, [], ◌∷◌, Option, Some, None, refl, sym, ap, subst, ◌∙◌, arith}
use Rattle.std.proofs.lemmas.Bool.Decides.{nat_tests}
use Rattle.dlm_modes.proofs.FirstLaws.{first_such_none}
use Rattle.dlm_modes.specs.Guards.{first_of}
use Rattle.dlm_modes.specs.Points.{with_at}
use Rattle.dlm_modes.specs.declared.mode.Mode.{Mode}
use Rattle.dlm_modes.specs.declared.mode.Mode.TheVariants.{PR, EX}
use Rattle.mdc_types.specs.Resources.{number_of}
use Rattle.mdc_types.specs.declared.refusals.Refusal.TheVariants.{NotGrantable}
use Rattle.mdc_types.specs.declared.resources.Res.{Res}
use Rattle.mdc_types.specs.declared.resources.Res.TheVariants as resources
use Rattle.mdc_types.specs.declared.roles.NodeState.{NodeState}
use Rattle.dlm_space.specs.Locks.{granted, blocker, is_against, mode_of, disagrees}
use Rattle.dlm_space.specs.Queues.{asks_of}
use Rattle.dlm_space.specs.declared.ask.Ask.{Ask}
use Rattle.msg_rounds.specs.Locks.{token_res, message_res, ack_res}
use Rattle.msg_rounds.specs.Phases.{has_published, has_processed}
use Rattle.msg_rounds.specs.Refusals.{is_sender_idle, is_token_held, is_offered}
use Rattle.msg_rounds.specs.declared.phases.SenderPhase.{SenderPhase}
use Rattle.msg_rounds.specs.declared.phases.SenderPhase.TheVariants as senders
use Rattle.cluster_model.specs.State.{Core, Turn, NotAsked, Asked, Held}
use Rattle.cluster_model.specs.Changes.{resync_res}
use Rattle.cluster_model.specs.Granting.{asker, message_held, grant_to, not_grantable, grant_guards}
use Rattle.cluster_model.specs.Guards.{is_out}
use Rattle.cluster_model.specs.Phases.{is_up}
use Rattle.cluster_model.specs.Rounds.{token_guards, message_guards, ask_token, ask_message}
use Rattle.laws_locks.specs.Others.{turn_held, turn_request}
use Rattle.laws_locks.specs.Rounded.{has_token}
use Rattle.laws_sound.proofs.Guarded.{all_none, unless_none, refused_none}
use Rattle.laws_sound.proofs.RoundFacts.{head_asks}
use Rattle.storage_ways.proofs.Place.{Around, here, Place}
use Rattle.storage_ways.proofs.Blocks.{retold, told_high}
use Rattle.storage_ways.proofs.Guarding.{live_node}
use Rattle.storage_ways.proofs.Ways.{Way, still, speaks, readies, holds_turn}

pub idle_is : (s : SenderPhase) → is_sender_idle s ≡ true → s ≡ senders.Idle
idle_is senders.Idle e = refl
idle_is s e = cc

pub held_is : (s : SenderPhase) → is_token_held s ≡ true → s ≡ senders.TokenHeld
held_is senders.TokenHeld e = refl
held_is s e = cc

some_modes : (m : Mode) (ms : List Mode) → [] ≡ m ∷ ms → ⊥
some_modes m ms e = cc

none_asks : (n : ℕ) (q : List Ask) (m : Mode) (ms : List Mode) → q ≡ [] → asks_of n q ≡ m ∷ ms → ⊥
none_asks n q m ms empty e = some_modes m ms (sym (ap (asks_of n) empty) ∙ e)

other_mode : (m : Mode) → EX ≡ PR → ⊥
other_mode m e = cc

asked_turn : (t : Turn) (m : Mode) (ms : List Mode) → turn_request t ≡ m ∷ ms → (t ≡ Asked) × (m ≡ EX)
asked_turn Asked m ms e = (refl, cc)
asked_turn t m ms e = cc

against_ex : (held : Option Mode) → held ≡ Some EX → disagrees EX held ≡ true
against_ex held e = rw e refl

must_be : (b c : Bool) → (not b && c) ≡ false → c ≡ true → b ≡ true
must_be b c e f = grind arith

two_turns : (t : Turn) → t ≡ Asked → t ≡ Held → ⊥
two_turns t e f = cc

held_asked : (t : Turn) → t ≡ Held → t ≡ NotAsked → ⊥
held_asked t e f = cc

module _ (core : Core) (a : Around) (p : Place core a) where
  -- nobody else holds `resync`
  free_turn : (n : ℕ) → (core.copy n).turn ≡ Asked → blocker (core.locks resync_res) n EX ≡ None → (m : ℕ) → (core.copy m).turn ≢ Held
  free_turn n asked none m held =
      let holds : (core.locks resync_res).held m ≡ Some EX = p.others.resync.held m ∙ ap turn_held held in
      let lt = by_state (is_out (core.state m)) refl in
      let same = must_be (m == n) (disagrees EX ((core.locks resync_res).held m)) (first_such_none (is_against (core.locks resync_res) n EX) 0 16 none m (omega arith) (omega (arith, lt))) (against_ex ((core.locks resync_res).held m) holds) in
      let is : m ≡ n = grind (arith, nat_tests) in
      two_turns (core.copy n).turn asked (subst (λ j. (core.copy j).turn ≡ Held) is held)
    where
      out_down : (s : NodeState) → is_out s ≡ true → is_up s ≡ false
      out_down s e = grind arith

      by_state : (b : Bool) → is_out (core.state m) ≡ b → m < 16
      by_state false e = live_node core a p m e
      by_state true e = absurd (held_asked (core.copy m).turn held (p.others.resync.still m (out_down (core.state m) e)))

  token_asker : (x : Ask) → asker core resources.Token ≡ Some x → core.sender x.node ≡ senders.TokenAsked
  token_asker x e =
      let q = head_asks (core.locks token_res).conversions (core.locks token_res).requests x e in
      elim q.either [
        | inl c ↦ absurd (none_asks x.node (core.locks token_res).conversions x.mode q.rest p.known.askers.token_none c)
        | inr r ↦ p.known.askers.token x.node x.mode q.rest r
      ]

  ack_asker : (x : Ask) → asker core resources.Ack ≡ Some x → core.sender x.node ≡ senders.Published
  ack_asker x e =
      let q = head_asks (core.locks ack_res).conversions (core.locks ack_res).requests x e in
      elim q.either [
        | inl c ↦ p.known.askers.ack x.node x.mode q.rest c
        | inr r ↦ absurd (none_asks x.node (core.locks ack_res).requests x.mode q.rest p.known.askers.ack_none r)
      ]

  turn_asker : (x : Ask) → asker core resources.Resync ≡ Some x → ((core.copy x.node).turn ≡ Asked) × (x.mode ≡ EX)
  turn_asker x e =
      let q = head_asks (core.locks resync_res).conversions (core.locks resync_res).requests x e in
      elim q.either [
        | inl c ↦ absurd (none_asks x.node (core.locks resync_res).conversions x.mode q.rest p.others.resync.conversions c)
        | inr r ↦ asked_turn (core.copy x.node).turn x.mode q.rest (sym (p.others.resync.requests x.node) ∙ r)
      ]

  goes_on : (n : ℕ) (old s : SenderPhase) → core.sender n ≡ old → has_published s ≡ has_published old → has_token s ≡ true → is_offered s ≡ false → Way (here core a) (record (here core a) { sender = with_at core.sender n s })
  goes_on n old s is same token other = speaks n s (same ∙ sym (ap has_published is)) (λ e. token) other

  message_way : (x : Ask) (m : Mode) → x.mode ≡ m → asker core resources.Message ≡ Some x → Way (here core a) (here (record (message_held core x.node m) { locks = with_at core.locks message_res (granted (core.locks message_res)) }) a)
  message_way x PR is e =
      let q = head_asks (core.locks message_res).conversions (core.locks message_res).requests x e in
      elim q.either [
        | inl c ↦ retold (here core a) (record (message_held core x.node PR) { locks = with_at core.locks message_res (granted (core.locks message_res)) }) a _ (told_high core.locks message_res (granted (core.locks message_res)) (omega arith)) (readies x.node (ap has_processed (p.known.askers.converts x.node x.mode q.rest c).0))
        | inr r ↦ absurd (other_mode PR (sym (p.known.askers.message x.node x.mode q.rest r).1 ∙ is))
      ]
  message_way x m is e =
      let q = head_asks (core.locks message_res).conversions (core.locks message_res).requests x e in
      elim q.either [
        | inl c ↦ let both : m ≡ PR = sym is ∙ (p.known.askers.converts x.node x.mode q.rest c).1 in cc
        | inr r ↦ retold (here core a) (record (message_held core x.node m) { locks = with_at core.locks message_res (granted (core.locks message_res)) }) a _ (told_high core.locks message_res (granted (core.locks message_res)) (omega arith)) (goes_on x.node senders.MessageAsked senders.MessageHeld (p.known.askers.message x.node x.mode q.rest r).0 refl refl refl)
      ]

  free_by : (x : Ask) → x.mode ≡ EX → not_grantable (core.locks resync_res) (Some x) ≡ None → blocker (core.locks resync_res) x.node EX ≡ None
  free_by x is none = subst (λ m. blocker (core.locks resync_res) x.node m ≡ None) is (refused_none (λ m. NotGrantable m (mode_of (core.locks resync_res) m)) (blocker (core.locks resync_res) x.node x.mode) none)

  up_asker : (n : ℕ) → (core.copy n).turn ≡ Asked → is_up (core.state n) ≡ true
  up_asker n asked = by (is_up (core.state n)) refl
    where
      not_both : (t : Turn) → t ≡ Asked → t ≡ NotAsked → ⊥
      not_both t e f = cc

      by : (b : Bool) → is_up (core.state n) ≡ b → b ≡ true
      by true e = refl
      by false e = absurd (not_both (core.copy n).turn asked (p.others.resync.still n e))

  pub grant_way : (res : Res) (x : Option Ask) → asker core res ≡ x → not_grantable (core.locks (number_of res)) x ≡ None → Way (here core a) (here (grant_to core res x) a)
  grant_way res None e free = still
  grant_way resources.Token (Some x) e free = retold (here core a) (grant_to core resources.Token (Some x)) a _ (told_high core.locks token_res (granted (core.locks token_res)) (omega arith)) (goes_on x.node senders.TokenAsked senders.TokenHeld (token_asker x e) refl refl refl)
  grant_way resources.Message (Some x) e free = message_way x x.mode refl e
  grant_way resources.Ack (Some x) e free = retold (here core a) (grant_to core resources.Ack (Some x)) a _ (told_high core.locks ack_res (granted (core.locks ack_res)) (omega arith)) (goes_on x.node senders.Published senders.Granted (ack_asker x e) refl refl refl)
  grant_way resources.Resync (Some x) e free =
      let t = turn_asker x e in
      retold (here core a) (grant_to core resources.Resync (Some x)) a _ (told_high core.locks resync_res (granted (core.locks resync_res)) (omega arith))
      (holds_turn x.node (up_asker x.node t.0) t.0 (free_turn x.node t.0 (free_by x t.1 free)))
  grant_way (resources.Bitmap n) (Some x) e free = cc
  grant_way resources.NoNewDev (Some x) e free = cc

  pub granted_way : (res : Res) → first_of (grant_guards core res) ≡ None → Way (here core a) (here (grant_to core res (asker core res)) a)
  granted_way res ok = grant_way res (asker core res) refl (all_none (grant_guards core res) ok).1.0

  pub token_way : (n : ℕ) → first_of (token_guards core n) ≡ None → Way (here core a) (here (ask_token core n) a)
  token_way n ok =
      let g = (all_none (token_guards core n) ok).1.1.1 in
      let idle = idle_is (core.sender n) (unless_none _ _ g.1.0) in
      retold (here core a) (ask_token core n) a _ (told_high core.locks _ _ (omega arith))
      (speaks n senders.TokenAsked (sym (ap has_published idle)) (λ e. let no : has_token (core.sender n) ≡ false = ap has_token idle in cc) refl)

  pub message_asked_way : (n : ℕ) → first_of (message_guards core n) ≡ None → Way (here core a) (here (ask_message core n) a)
  message_asked_way n ok =
      let g = (all_none (message_guards core n) ok).1.1.1 in
      retold (here core a) (ask_message core n) a _ (told_high core.locks _ _ (omega arith))
      (goes_on n senders.TokenHeld senders.MessageAsked (held_is (core.sender n) (unless_none _ _ g.1.0)) refl refl refl)
