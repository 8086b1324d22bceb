-- The ways of the events that grant, and by which nodes come, go and die.
use Rattle.std.proofs.Common.{◌≡◌, inl, inr, ℕ, ◌==◌, ◌&&◌, Bool, true, false, not, if◌then◌else◌, List, [], ◌∷◌, Option, Some, None, refl, sym, ap, subst, ◌∙◌, arith}
use Rattle.std.proofs.Math.Path.{fun_ext}
use Rattle.std.specs.Prelude.{is_some, unwrap_or}
use Rattle.std.proofs.lemmas.Bool.{leb-true}
use Rattle.std.proofs.lemmas.Bool.Decides.{nat_tests}
use Rattle.dlm_modes.specs.First.{first_such}
use Rattle.dlm_modes.proofs.FirstLaws.{first_such_some}
use Rattle.dlm_modes.specs.Guards.{first_of}
use Rattle.dlm_modes.specs.Points.{with_at}
use Rattle.dlm_modes.specs.declared.mode.Mode.{Mode}
use Rattle.dlm_modes.specs.declared.mode.Mode.TheVariants.{PR, EX}
use Rattle.mdc_types.specs.declared.outcomes.Outcome.{Outcome}
use Rattle.mdc_types.specs.declared.outcomes.Outcome.TheVariants as outcomes
use Rattle.mdc_types.specs.declared.refusals.Refusal.TheVariants.{SlotLive, Stale}
use Rattle.mdc_types.specs.declared.resources.Res.{Res}
use Rattle.mdc_types.specs.declared.resources.Res.TheVariants as resources
use Rattle.mdc_types.specs.declared.roles.NodeState.{NodeState}
use Rattle.mdc_types.specs.declared.roles.NodeState.TheVariants as states
use Rattle.dlm_space.specs.Locks.{granted}
use Rattle.dlm_space.specs.Queues.{asks_of}
use Rattle.dlm_space.specs.declared.ask.Ask.{Ask}
use Rattle.md_superblock.specs.Arrays.{Says, says_in}
use Rattle.msg_rounds.specs.Locks.{token_res, message_res, ack_res}
use Rattle.msg_rounds.specs.Phases.{is_idle, has_published, has_processed, may_quit}
use Rattle.msg_rounds.specs.Refusals.{is_sender_idle, is_token_held, is_offered}
use Rattle.msg_rounds.specs.declared.phases.SenderPhase.{SenderPhase}
use Rattle.msg_rounds.specs.declared.phases.SenderPhase.TheVariants as senders
use Rattle.cluster_model.specs.State.{Core, Tried, Unread, Loaded, Held}
use Rattle.cluster_model.specs.Guards.{is_out}
use Rattle.cluster_model.specs.Phases.{is_joining, is_up}
use Rattle.cluster_model.specs.Granting.{asker, message_held, grant_to}
use Rattle.cluster_model.specs.Joining.{join_guards, join, load_guards, up_guards, up, view_from, says_of, events_of, greatest, is_newest, newest, says_at}
use Rattle.cluster_model.specs.Leaving.{leave_guards, leave, die}
use Rattle.cluster_model.specs.Rounds.{token_guards, message_guards, ask_token, ask_message, quit_guards, quit, quit_from}
use Rattle.cluster_model.specs.After.{with_super, tried_as}
use Rattle.laws_locks.specs.Rounded.{has_token, stands}
use Rattle.cluster_model.specs.Changes.{covering}
use Rattle.laws_rounds.proofs.Follows.{with_same}
use Rattle.laws_sound.proofs.Guarded.{all_none, unless_none}
use Rattle.laws_sound.proofs.RoundFacts.{head_asks, no_offer}
use Rattle.laws_sound.proofs.Views.{newest_found}
use Rattle.laws_roles.proofs.Parts.{Part, Ghost, part_of, source_of, with_source}
use Rattle.laws_roles.proofs.Ways.{Way, Ways, none, one, speaks, readies, joins, loads, comes, goes, dies, idles, copies}
use Rattle.laws_roles.proofs.Known.{Known}

-- what is changed twice to the same is changed once
pub with_twice : {A : Type 0} (f : ℕ → A) (n : ℕ) (v : A) → with_at (with_at f n v) n v ≡ with_at f n v
with_twice {A = A} f n v = fun_ext (λ m. by (m == n) (f m))
  where
    by : (b : Bool) (old : A) → (if b then v else (if b then v else old)) ≡ (if b then v else old)
    by true old = refl
    by false old = refl

-- Phases.

idle_is : (s : SenderPhase) → is_sender_idle s ≡ true → s ≡ senders.Idle
idle_is senders.Idle e = refl
idle_is s e = cc

held_is : (s : SenderPhase) → is_token_held s ≡ true → s ≡ senders.TokenHeld
held_is senders.TokenHeld e = refl
held_is s e = cc

quits_silent : (s : SenderPhase) → may_quit s ≡ true → has_published s ≡ false
quits_silent senders.TokenHeld e = refl
quits_silent senders.MessageHeld e = refl
quits_silent senders.Offered e = refl
quits_silent s e = cc

joining_is : (s : NodeState) → is_joining s ≡ true → s ≡ states.Joining
joining_is states.Joining e = refl
joining_is s e = cc

out_is : (s : NodeState) (live : Bool) → live ≡ not (is_out s) → not live ≡ true → s ≡ states.Out
out_is states.Out live e free = refl
out_is s true e free = cc
out_is s false e free = cc

some_modes : (m : Mode) (ms : List Mode) → [] ≡ m ∷ ms → ⊥
some_modes m ms e = cc

none_asks : (n : ℕ) (q : List Ask) (m : Mode) (ms : List Mode) → q ≡ [] → asks_of n q ≡ m ∷ ms → ⊥
none_asks n q m ms empty e = some_modes m ms (sym (ap (asks_of n) empty) ∙ e)

other_mode : (m : Mode) → EX ≡ PR → ⊥
other_mode m e = cc

module _ (core : Core) (k : Known core) (sup : ℕ → Option Says) (g : Ghost) where
  abbrev pub Here : Part
  Here = part_of core sup g

  -- Grants.

  token_asker : (a : Ask) → asker core resources.Token ≡ Some a → core.sender a.node ≡ senders.TokenAsked
  token_asker a e =
      let q = head_asks (core.locks token_res).conversions (core.locks token_res).requests a e in
      elim q.either [
        | inl c ↦ absurd (none_asks a.node (core.locks token_res).conversions a.mode q.rest k.askers.token_none c)
        | inr r ↦ k.askers.token a.node a.mode q.rest r
      ]

  ack_asker : (a : Ask) → asker core resources.Ack ≡ Some a → core.sender a.node ≡ senders.Published
  ack_asker a e =
      let q = head_asks (core.locks ack_res).conversions (core.locks ack_res).requests a e in
      elim q.either [
        | inl c ↦ k.askers.ack a.node a.mode q.rest c
        | inr r ↦ absurd (none_asks a.node (core.locks ack_res).requests a.mode q.rest k.askers.ack_none r)
      ]

  goes_on : (n : ℕ) (old s : SenderPhase) → core.sender n ≡ old → has_published s ≡ has_published old → has_token s ≡ true → is_offered s ≡ false → Way Here (record Here { sender = with_at core.sender n s })
  goes_on n old s is same token other = speaks n s (same ∙ sym (ap has_published is)) (λ e. token) other

  message_way : (a : Ask) (m : Mode) → a.mode ≡ m → asker core resources.Message ≡ Some a → Ways Here (part_of (record (message_held core a.node m) { locks = with_at core.locks message_res (granted (core.locks message_res)) }) sup g)
  message_way a PR is e =
      let q = head_asks (core.locks message_res).conversions (core.locks message_res).requests a e in
      elim q.either [
        | inl c ↦ one (readies a.node (ap has_processed (k.askers.converts a.node a.mode q.rest c).0))
        | inr r ↦ absurd (other_mode PR (sym (k.askers.message a.node a.mode q.rest r).1 ∙ is))
      ]
  message_way a m is e =
      let q = head_asks (core.locks message_res).conversions (core.locks message_res).requests a e in
      elim q.either [
        | inl c ↦ let both : m ≡ PR = sym is ∙ (k.askers.converts a.node a.mode q.rest c).1 in cc
        | inr r ↦ one (goes_on a.node senders.MessageAsked senders.MessageHeld (k.askers.message a.node a.mode q.rest r).0 refl refl refl)
      ]

  pub grant_way : (res : Res) (x : Option Ask) → asker core res ≡ x → Ways Here (part_of (grant_to core res x) sup g)
  grant_way res None e = none
  grant_way resources.Token (Some a) e = one (goes_on a.node senders.TokenAsked senders.TokenHeld (token_asker a e) refl refl refl)
  grant_way resources.Message (Some a) e = message_way a a.mode refl e
  grant_way resources.Ack (Some a) e = one (goes_on a.node senders.Published senders.Granted (ack_asker a e) refl refl refl)
  grant_way resources.Resync (Some a) e = one (copies a.node (record (core.copy a.node) { turn = Held }) (λ l c. c))
  grant_way (resources.Bitmap n) (Some a) e = cc
  grant_way resources.NoNewDev (Some a) e = cc

  pub token_way : (n : ℕ) → first_of (token_guards core n) ≡ None → Ways Here (part_of (ask_token core n) sup g)
  token_way n ok =
      let a = (all_none (token_guards core n) ok).1.1.1 in
      let idle = idle_is (core.sender n) (unless_none _ _ a.1.0) in
      one (speaks n senders.TokenAsked (sym (ap has_published idle)) (λ e. let no : has_token (core.sender n) ≡ false = ap has_token idle in cc) refl)

  pub message_asked_way : (n : ℕ) → first_of (message_guards core n) ≡ None → Ways Here (part_of (ask_message core n) sup g)
  message_asked_way n ok =
      let a = (all_none (message_guards core n) ok).1.1.1 in
      one (goes_on n senders.TokenHeld senders.MessageAsked (held_is (core.sender n) (unless_none _ _ a.1.0)) refl refl refl)

  -- Coming.

  pub join_way : (n : ℕ) → first_of (join_guards core n) ≡ None → Ways Here (part_of (join core n) sup g)
  join_way n ok =
      let free = unless_none (not (core.members.live n)) (SlotLive n) (all_none (join_guards core n) ok).1.1.0 in
      let out = out_is (core.state n) (core.members.live n) (k.rounded.numbered.live n) free in
      one (joins n out (ap has_published (k.rounded.phased.out n out)))

  load_one : (n l : ℕ) (t : Tried) → first_of (load_guards core n l) ≡ None → (is_some (says_of t) ≡ true → sup l ≡ says_of t)
      → Ways Here (record Here { tried = λ m j. if (m == n) && (j == l) then t else core.tried m j })
  load_one n l t ok same =
      let a = (all_none (load_guards core n l) ok).1.1.1.1 in
      one (loads n l t (unless_none _ _ a.0) (ap has_token (held_is (core.sender n) (unless_none _ _ a.1.0))) same)

  said_so : (x y : Option Says) → x ≡ y → says_of (tried_as y) ≡ x
  said_so x None e = sym e
  said_so x (Some says) e = sym e

  -- what was read is the superblock that stands there
  pub load_way : (n l : ℕ) (o : Outcome) → first_of (load_guards core n l) ≡ None
      → ((events : ℕ) (v : _) → o ≡ outcomes.Super events v → sup l ≡ says_in core.array l v.bytes)
      → Ways Here (part_of (with_super core n l o) sup g)
  load_way n l (outcomes.Super events v) ok same = load_one n l (tried_as (says_in core.array l v.bytes)) ok (λ some. sym (said_so (sup l) (says_in core.array l v.bytes) (same events v refl)))
  load_way n l o ok same = load_one n l Unread ok (λ some. cc)

  -- the newest superblock that was read, and its number
  record Found (tried : ℕ → Tried) : Type 0 where
    leg : ℕ
    says : Says
    is : newest tried ≡ Some says
    read : says_of (tried leg) ≡ Some says
    newest : says.events ≡ greatest tried
    source : source_of tried ≡ leg

  found_at : (tried : ℕ → Tried) (l : ℕ) (t : Tried) → tried l ≡ t → newest tried ≡ says_of (tried l) → is_newest tried l ≡ true → source_of tried ≡ l → Found tried
  found_at tried l (Loaded says) e is passes source = record {
    leg = l;
    says = says;
    is = is ∙ ap says_of e;
    read = ap says_of e;
    newest = sym (ap events_of e) ∙ number_is (is_some (says_of (tried l))) (events_of (tried l)) (greatest tried) passes;
    source = source;
  }
    where
      number_is : (b : Bool) (x y : ℕ) → (b && (x == y)) ≡ true → x ≡ y
      number_is b x y e = grind (arith, nat_tests)
  found_at tried l t e is passes source = absurd (none_is (says_of (tried l)) (ap says_of e) passes)
    where
      none_is : (x : Option Says) → x ≡ None → (is_some x && (events_of (tried l) == greatest tried)) ≡ true → ⊥
      none_is None e p = cc
      none_is (Some s) e p = cc

  found : (tried : ℕ → Tried) (x : Option ℕ) → first_such (is_newest tried) 0 8 ≡ x → is_some x ≡ true → Found tried
  found tried None e some = cc
  found tried (Some l) e some = found_at tried l (tried l) refl (ap (says_at tried) e) (first_such_some (is_newest tried) 0 8 l e).passes (ap (λ x. unwrap_or x 0) e)

  pub up_way : (n : ℕ) → first_of (up_guards core n) ≡ None → Ways Here (part_of (up core n) sup (with_source g n (source_of (core.tried n))))
  up_way n ok =
      let a = (all_none (up_guards core n) ok).1.1.1 in
      let joining = joining_is (core.state n) (unless_none (is_joining (core.state n)) _ a.0) in
      let fresh = leb-true _ _ (unless_none _ (Stale (greatest (core.tried n)) core.members.completed) a.1.1.1.0) in
      let least = k.range.legs.events.some_completed.0 in
      let f = found (core.tried n) (first_such (is_newest (core.tried n)) 0 8) refl (newest_found (core.tried n) (omega (arith, least, fresh))) in
      let held = held_is (core.sender n) (unless_none _ _ a.1.0) in
      let quiet = no_offer (core.state n) (core.sender n) (core.offer n) (k.rounded.offering.offers n) (ap stands held) in
      subst (λ j. Ways Here (part_of (up core n) sup (with_source g n j))) (sym f.source)
      (subst (λ x. Ways Here (part_of (record (up core n) { view = with_at core.view n (view_from (core.tried n) x); copy = with_at core.copy n (covering (core.copy n) (view_from (core.tried n) x)) }) sup (with_source g n f.leg))) (sym f.is)
      (one (comes n f.leg f.says _ joining (ap is_idle (k.rounded.phased.still n (ap is_up joining))) f.read (omega (arith, fresh, f.newest)) quiet (k.empty.empty n (ap is_up joining)).copy)))

  -- Going.

  pub leave_way : (n : ℕ) → first_of (leave_guards core n) ≡ None → Ways Here (part_of (leave core n) sup g)
  leave_way n ok =
      let a = (all_none (leave_guards core n) ok).1.1.1 in
      let idle = idle_is (core.sender n) (unless_none _ _ a.1.0) in
      subst (λ s. Ways Here (record (part_of (leave core n) sup g) { sender = s })) (with_same core.sender n senders.Idle idle)
      (one (goes n (ap has_published idle) (unless_none (is_idle (core.receiver n).phase) _ a.1.1.0)))

  pub die_way : (n : ℕ) → Ways Here (part_of (die core n) sup g)
  die_way n = subst (λ x. Ways Here (record (part_of (die core n) sup g) { offer = x })) (sym (with_twice core.offer n None)) (one (dies n))

  pub quit_way : (n : ℕ) (s : NodeState) → core.state n ≡ s → has_published (core.sender n) ≡ false → Ways Here (part_of (quit_from core n s) sup g)
  quit_way n states.Up e silent = one (idles n (ap is_joining e) (λ m p. let no : true ≡ false = sym p ∙ silent in cc))
  quit_way n s e silent =
      subst (λ x. Ways Here (record (part_of (quit_from core n s) sup g) { offer = x })) (sym (with_twice core.offer n None))
      (one (goes n silent (ap is_idle (k.rounded.phased.still n (ap is_up e)))))

  pub quit_by : (n : ℕ) → first_of (quit_guards core n) ≡ None → Ways Here (part_of (quit core n) sup g)
  quit_by n ok = quit_way n (core.state n) refl (quits_silent (core.sender n) (unless_none (may_quit (core.sender n)) _ (all_none (quit_guards core n) ok).1.1.1.0))
