-- What is kept of the emptiness of nodes that come, go and offer.
use Rattle.std.proofs.Common.{◌≡◌, ◌≢◌, inl, inr, ℕ, Bool, true, false, not, List, [], ◌∷◌, Option, Some, None, refl, sym, ap, ◌∙◌, subst, arith, ◌==◌, ◌&&◌, if◌then◌else◌}
use Rattle.std.specs.Option.{option_map}
use Rattle.std.proofs.lemmas.Bool.Decides.{nat_tests}
use Rattle.dlm_modes.specs.Guards.{first_of}
use Rattle.dlm_modes.specs.Points.{with_at}
use Rattle.dlm_modes.specs.declared.mode.Mode.{Mode}
use Rattle.dlm_space.specs.declared.ask.Ask.{Ask}
use Rattle.dlm_space.specs.Queues.{asks_of}
use Rattle.dlm_space.specs.Locks.{Lock}
use Rattle.mdc_types.specs.declared.events.Event.TheVariants as events
use Rattle.mdc_types.specs.declared.outcomes.Outcome.{Outcome}
use Rattle.mdc_types.specs.declared.outcomes.Outcome.TheVariants as outcomes
use Rattle.mdc_types.specs.declared.roles.NodeState.{NodeState}
use Rattle.mdc_types.specs.declared.roles.NodeState.TheVariants as states
use Rattle.msg_rounds.specs.Phases.{has_published, is_idle}
use Rattle.msg_rounds.specs.Refusals.{is_sender_idle, is_granted}
use Rattle.msg_rounds.specs.declared.phases.SenderPhase.{SenderPhase}
use Rattle.msg_rounds.specs.declared.phases.SenderPhase.TheVariants as senders
use Rattle.node_member.specs.Members.{Members}
use Rattle.laws_rounds.specs.Machine as rounds
use Rattle.cluster_model.specs.State.{Core, Offer, Turn, NotAsked, Asked}
use Rattle.cluster_model.specs.Guards.{no_node, not_fenced, draining, reading, is_out}
use Rattle.cluster_model.specs.Phases.{is_up, is_joining, is_unclean, offers, copy_word, needs_up, is_none as is_none_word}
use Rattle.cluster_model.specs.Joining.{join_guards, join, up_guards, up}
use Rattle.cluster_model.specs.Leaving.{leave_guards, leave}
use Rattle.cluster_model.specs.Rounds.{quit_guards, quit_from, quit}
use Rattle.cluster_model.specs.Superblocks.{written_on}
use Rattle.cluster_model.specs.Writes.{not_leaving}
use Rattle.cluster_model.specs.After.{done}
use Rattle.mirror_io.specs.Flight.{write_from, read_from}
use Rattle.mirror_io.specs.declared.live.LiveWrite.{LiveWrite}
use Rattle.mirror_io.specs.declared.live.LiveRead.{LiveRead}
use Rattle.leg_failure.specs.Views.{NodeView}
use Rattle.node_bitmaps.specs.Bitmap.{Bitmap}
use Rattle.mdc_types.specs.declared.refusals.Refusal.{Refusal}
use Rattle.cluster_model.specs.State.{Copy}
use Rattle.cluster_model.specs.Guards.{of_live, no_leg}
use Rattle.cluster_model.specs.Changes.{no_copy, covering, window_closed, sender_idle, node_out}
use Rattle.cluster_model.specs.Joining.{view_from, newest}
use Rattle.cluster_model.specs.Leaving.{die}
use Rattle.cluster_model.specs.Gathering.{due_page, page_gathered}
use Rattle.cluster_model.specs.After.{with_super}
use Rattle.laws_locks.specs.Rounded.{stands}
use Rattle.laws_locks.specs.Others.{OtherLocks, turn_request}
use Rattle.laws_locks.specs.Empties.{Empty, Drained, UpOnly}
use Rattle.laws_locks.proofs.Guarded.{first_none, tested, refused_none, living}
use Rattle.laws_locks.proofs.Keeping.{Kept, here, still_published}
use Rattle.laws_locks.proofs.Emptied.{other_at, same_or_not, tame_keeps, gone_empties}
use Rattle.laws_locks.proofs.OwnRows.{marks_set, marks_need}

pub here_at : {A : Type 0} (f : ℕ → A) (n : ℕ) (v : A) → with_at f n v n ≡ v
here_at f n v = rw (here n) refl

pub unclean_still : (offer : ℕ → Option Offer) (n m : ℕ) → offers is_unclean (with_at offer n None m) ≡ true → offers is_unclean (offer m) ≡ true
unclean_still offer n m f = by_test (m == n) f
  where
    by_test : (b : Bool) → offers is_unclean (if b then None else offer m) ≡ true → offers is_unclean (offer m) ≡ true
    by_test true f = cc
    by_test false f = f

pub no_write : (ws : List LiveWrite) → write_from 0 ws ≡ None → ws ≡ []
no_write [] e = refl
no_write (w ∷ ws) e = grind (arith, nat_tests)

pub no_read : (rs : List LiveRead) → read_from 0 rs ≡ None → rs ≡ []
no_read [] e = refl
no_read (r ∷ rs) e = grind (arith, nat_tests)

-- a node without a pass covers nothing
pub covers_none : (copy : ℕ → Copy) (n : ℕ) (v : NodeView) (m : ℕ) → copy m ≡ no_copy → with_at copy n (covering (copy n) v) m ≡ no_copy
covers_none copy n v m e = elim (same_or_not m n) [
  | inl s ↦ subst (λ j. copy j ≡ no_copy → with_at copy n (covering (copy n) v) j ≡ no_copy) (sym s) (λ e. here_at copy n (covering (copy n) v) ∙ ap (λ c. covering c v) e) e
  | inr ne ↦ other_at copy n (covering (copy n) v) m ne ∙ e
]

pub closes_none : (copy : ℕ → Copy) (n : ℕ) (m : ℕ) → copy m ≡ no_copy → with_at copy n (window_closed (copy n)) m ≡ no_copy
closes_none copy n m e = elim (same_or_not m n) [
  | inl s ↦ subst (λ j. copy j ≡ no_copy → with_at copy n (window_closed (copy n)) j ≡ no_copy) (sym s) (λ e. here_at copy n (window_closed (copy n)) ∙ ap window_closed e) e
  | inr ne ↦ other_at copy n (window_closed (copy n)) m ne ∙ e
]

pub down_at : (state : ℕ → NodeState) (n : ℕ) (x : NodeState) (m : ℕ) → is_up (state n) ≡ false → is_up (with_at state n x m) ≡ false → is_up (state m) ≡ false
down_at state n x m was d = grind (arith, nat_tests)

pub up_at : (state : ℕ → NodeState) (n m : ℕ) → is_up (with_at state n states.Up m) ≡ false → is_up (state m) ≡ false
up_at state n m d = grind (arith, nat_tests)

pub not_up : (s : NodeState) → s ≡ states.Out → is_up s ≡ false
not_up s e = grind arith

pub joining_down : (s : NodeState) → is_joining s ≡ true → is_up s ≡ false
joining_down s e = grind arith

pub granted_published : (s : SenderPhase) → is_granted s ≡ true → has_published s ≡ true
granted_published s e = grind arith

pub granted_stands : (s : SenderPhase) → is_granted s ≡ true → stands s ≡ true
granted_stands s e = grind arith

pub live_out : (live : Bool) (s : NodeState) → live ≡ not (is_out s) → not live ≡ true → is_up s ≡ false
live_out live s e f = grind arith

pub asked_up : (up : Bool) (t : Turn) → (up ≡ false → t ≡ NotAsked) → t ≡ Asked → up ≡ true
asked_up up t e f = grind arith

pub head_turn : (a : Ask) (rest : List Ask) (f : ℕ → List Mode) → ((m : ℕ) → asks_of m (a ∷ rest) ≡ f m) → f a.node ≡ a.mode ∷ asks_of a.node rest
head_turn a rest f q = grind (arith, nat_tests, q a.node)

pub turn_asked : (t : Turn) (v : Mode) (rest : List Mode) → turn_request t ≡ v ∷ rest → t ≡ Asked
turn_asked t v rest e = grind arith

pub by_guards : (gs : List (Option Refusal)) → first_of gs ≡ None → first_of gs ≡ None
by_guards gs e = e

module _ (members : ℕ → Bool) (past : List rounds.Entry) (core : Core) (k : Kept members past core) (o : OtherLocks core) (u : UpOnly core) where
  pub row_up : (n : ℕ) (gs : List (Option Refusal)) → first_of (of_live core n (needs_up core n ∷ gs)) ≡ None → is_up (core.state n) ≡ true
  row_up n gs e = (tested (is_up (core.state n)) _ gs (living core n (needs_up core n ∷ gs) k.nodes e).rest).0

  pub leg_up : (n l : ℕ) (gs : List (Option Refusal)) → first_of (of_live core n (no_leg core l ∷ needs_up core n ∷ gs)) ≡ None → is_up (core.state n) ≡ true
  leg_up n l gs e = (tested (is_up (core.state n)) _ gs (first_none (no_leg core l) (needs_up core n ∷ gs) (living core n (no_leg core l ∷ needs_up core n ∷ gs) k.nodes e).rest).1).0

  pub second_guard : (n : ℕ) (gs : List (Option Refusal)) → first_of (of_live core n (needs_up core n ∷ not_leaving core n ∷ gs)) ≡ None → not (has_published (core.sender n) && offers is_unclean (core.offer n)) ≡ true
  second_guard n gs e =
      let a = tested (is_up (core.state n)) _ (not_leaving core n ∷ gs) (living core n (needs_up core n ∷ not_leaving core n ∷ gs) k.nodes e).rest in
      (tested (not (has_published (core.sender n) && offers is_unclean (core.offer n))) _ gs a.1).0

  -- nodes that go

  pub gone_at : (n : ℕ) (new : Core) → Empty new n → ((m : ℕ) → m ≢ n → new.state m ≡ core.state m) → ((m : ℕ) → m ≢ n → Empty core m → Empty new m) → ((m : ℕ) → m ≢ n → Drained core m → Drained new m) → ((m : ℕ) → m ≢ n → has_published (new.sender m) ≡ true → offers is_unclean (new.offer m) ≡ true → Drained core m) → UpOnly new
  gone_at n new e st others still drains = gone_empties new core n (record { state = st; others = others; empty = e; drains = drains; still = still }) u

  -- the rest of a node that is out
  pub out_empty : (c : Core) (n : ℕ) (locks : ℕ → Lock) (m2 : Members) → c.writes n ≡ [] → c.reads n ≡ [] → Empty (record (node_out c n) { members = m2; locks = locks }) n
  out_empty c n locks m2 w r = record {
    writes = w;
    reads = r;
    copy = here_at c.copy n no_copy;
    recovery = here_at c.recovery n None;
    set = λ j. ap (λ (b : Bitmap). b.set j) (here_at c.bitmap n _);
    need = λ j. ap (λ (b : Bitmap). b.need j) (here_at c.bitmap n _);
  }

  pub out_others : (c : Core) (n : ℕ) (locks : ℕ → Lock) (m2 : Members) (m : ℕ) → m ≢ n → Empty c m → Empty (record (node_out c n) { members = m2; locks = locks }) m
  out_others c n locks m2 m ne e = record {
    writes = e.writes;
    reads = e.reads;
    copy = other_at c.copy n no_copy m ne ∙ e.copy;
    recovery = other_at c.recovery n None m ne ∙ e.recovery;
    set = λ j. ap (λ (b : Bitmap). b.set j) (other_at c.bitmap n _ m ne) ∙ e.set j;
    need = λ j. ap (λ (b : Bitmap). b.need j) (other_at c.bitmap n _ m ne) ∙ e.need j;
  }

  pub same_empty : (new : Core) (m : ℕ) → new.writes m ≡ core.writes m → new.reads m ≡ core.reads m → new.copy m ≡ core.copy m → new.recovery m ≡ core.recovery m → new.bitmap m ≡ core.bitmap m → Empty core m → Empty new m
  same_empty new m w r c v b e = record {
    writes = w ∙ e.writes;
    reads = r ∙ e.reads;
    copy = c ∙ e.copy;
    recovery = v ∙ e.recovery;
    set = λ j. ap (λ (x : Bitmap). x.set j) b ∙ e.set j;
    need = λ j. ap (λ (x : Bitmap). x.need j) b ∙ e.need j;
  }

  pub die_empty : (n : ℕ) → UpOnly (die core n)
  die_empty n = gone_at n (die core n)
      (record { writes = here_at core.writes n []; reads = here_at core.reads n []; copy = here_at core.copy n no_copy; recovery = here_at core.recovery n None; set = λ j. ap (λ (b : Bitmap). b.set j) (here_at core.bitmap n _); need = λ j. ap (λ (b : Bitmap). b.need j) (here_at core.bitmap n _) })
      (λ m ne. other_at core.state n states.Out m ne)
      (λ m ne. same_empty (die core n) m (other_at core.writes n [] m ne) (other_at core.reads n [] m ne) (other_at core.copy n no_copy m ne) (other_at core.recovery n None m ne) (other_at core.bitmap n _ m ne))
      (λ m ne d. record { writes = other_at core.writes n [] m ne ∙ d.writes; reads = other_at core.reads n [] m ne ∙ d.reads })
      (λ m ne p f. u.drained m (still_published core.sender n senders.Idle refl m p) (unclean_still core.offer n m (unclean_still (with_at core.offer n None) n m f)))

  pub leave_empty : (n : ℕ) → first_of (leave_guards core n) ≡ None → UpOnly (leave core n)
  leave_empty n e =
      let l = living core n _ k.nodes e in
      let a = tested (is_up (core.state n)) _ _ l.rest in
      let b = tested (is_sender_idle (core.sender n)) _ _ a.1 in
      let c = tested (is_idle (core.receiver n).phase) _ _ b.1 in
      let d = tested (is_none_word (copy_word (core.copy n))) _ _ c.1 in
      let w = first_none (draining core n) _ d.1 in
      let x = first_none (reading core n) _ w.1 in
      gone_at n (leave core n)
      (out_empty core n (leave core n).locks (leave core n).members (no_write _ (refused_none _ _ w.0)) (no_read _ (refused_none _ _ x.0)))
      (λ m ne. other_at core.state n states.Out m ne)
      (out_others core n (leave core n).locks (leave core n).members)
      (λ m ne d. record { writes = d.writes; reads = d.reads })
      (λ m ne p f. u.drained m p (unclean_still core.offer n m f))

  -- a node that isn't up gives its round up
  pub quit_first : (n : ℕ) → is_up (core.state n) ≡ false → UpOnly (quit_from core n states.Joining)
  quit_first n down =
      let e = u.empty n down in
      let new = quit_from core n states.Joining in
      gone_at n new
      (out_empty (sender_idle core n) n new.locks new.members e.writes e.reads)
      (λ m ne. other_at core.state n states.Out m ne)
      (λ m ne x. out_others (sender_idle core n) n new.locks new.members m ne (record { writes = x.writes; reads = x.reads; copy = x.copy; recovery = x.recovery; set = x.set; need = x.need }))
      (λ m ne d. record { writes = d.writes; reads = d.reads })
      (λ m ne p f. u.drained m (still_published core.sender n senders.Idle refl m p) (unclean_still core.offer n m (unclean_still (with_at core.offer n None) n m f)))

  pub quit_empty : (n : ℕ) → first_of (quit_guards core n) ≡ None → UpOnly (quit core n)
  quit_empty n e = by_state (core.state n) refl
    where
      by_state : (s : NodeState) → core.state n ≡ s → UpOnly (quit_from core n s)
      by_state states.Up is = tame_keeps _ core (record { down = λ m d. d; writes = λ m e. e; reads = λ m e. e; copy = λ m e d. e; recovery = λ m e. e; set = λ m c. refl; need = λ m c. refl; drains = λ m p f. u.drained m (still_published core.sender n senders.Idle refl m p) (unclean_still core.offer n m f) }) u
      by_state states.Out is = quit_first n (ap is_up is)
      by_state states.Joining is = quit_first n (ap is_up is)
      by_state states.Loaded is = quit_first n (ap is_up is)

  -- nodes that come

  pub join_empty : (n : ℕ) → first_of (join_guards core n) ≡ None → UpOnly (join core n)
  join_empty n e =
      let a = first_none (no_node core n) _ e in
      let b = first_none (not_fenced core n) _ a.1 in
      let c = tested (not (core.members.live n)) _ _ b.1 in
      tame_keeps (join core n) core (record { down = λ m d. down_at core.state n states.Joining m (live_out _ _ (k.live n) c.0) d; writes = λ m e. e; reads = λ m e. e; copy = λ m e d. e; recovery = λ m e. e; set = λ m c. refl; need = λ m c. refl; drains = λ m p f. u.drained m (still_published core.sender n senders.TokenAsked refl m p) f }) u

  pub up_empty : (n : ℕ) → first_of (up_guards core n) ≡ None → UpOnly (up core n)
  up_empty n e =
      let l = living core n _ k.nodes e in
      let a = tested (is_joining (core.state n)) _ _ l.rest in
      tame_keeps (up core n) core (record { down = λ m d. down_at core.state n states.Loaded m (joining_down _ a.0) d; writes = λ m e. e; reads = λ m e. e; copy = λ m e d. covers_none core.copy n (view_from (core.tried n) (newest (core.tried n))) m e; recovery = λ m e. e; set = λ m j. marks_set core.bitmap n _ refl m j; need = λ m j. marks_need core.bitmap n _ refl m j; drains = u.drained }) u

  pub load_empty : (n l : ℕ) (out : Outcome) → UpOnly (with_super core n l out)
  load_empty n l (outcomes.Super e v) = tame_keeps _ core (record { down = λ m d. d; writes = λ m e. e; reads = λ m e. e; copy = λ m e d. e; recovery = λ m e. e; set = λ m c. refl; need = λ m c. refl; drains = u.drained }) u
  load_empty n l out = tame_keeps _ core (record { down = λ m d. d; writes = λ m e. e; reads = λ m e. e; copy = λ m e d. e; recovery = λ m e. e; set = λ m c. refl; need = λ m c. refl; drains = u.drained }) u

  pub gather_empty : (n : ℕ) (out : Outcome) → UpOnly (done core (events.Gather n) out)
  gather_empty n (outcomes.Page v) = by_due (due_page core n)
    where
      by_due : (due : Option (ℕ × ℕ)) → UpOnly (page_gathered core n due v)
      by_due None = u
      by_due (Some due) = tame_keeps _ core (record { down = λ m d. d; writes = λ m e. e; reads = λ m e. e; copy = λ m e d. e; recovery = λ m e. e; set = λ m c. refl; need = λ m c. refl; drains = u.drained }) u
  gather_empty n out = u

  -- offers

  pub drain_offered : (n : ℕ) (x : Option Offer) (m : ℕ) → has_published (with_at core.sender n senders.Offered m) ≡ true → offers is_unclean (with_at core.offer n x m) ≡ true → Drained core m
  drain_offered n x m p f = by_test (m == n) p f
    where
      by_test : (b : Bool) → has_published (if b then senders.Offered else core.sender m) ≡ true → offers is_unclean (if b then x else core.offer m) ≡ true → Drained core m
      by_test true p f = cc
      by_test false p f = u.drained m p f

  pub written_unclean : (n l m : ℕ) → offers is_unclean (with_at core.offer n (option_map (written_on l) (core.offer n)) m) ≡ true → offers is_unclean (core.offer m) ≡ true
  written_unclean n l m f = elim (same_or_not m n) [
    | inl s ↦ subst (λ j. offers is_unclean (with_at core.offer n (option_map (written_on l) (core.offer n)) j) ≡ true → offers is_unclean (core.offer j) ≡ true) (sym s) (λ f. sym (same (core.offer n)) ∙ ap (offers is_unclean) (sym (here_at core.offer n (option_map (written_on l) (core.offer n)))) ∙ f) f
    | inr ne ↦ ap (offers is_unclean) (sym (other_at core.offer n (option_map (written_on l) (core.offer n)) m ne)) ∙ f
  ]
    where
      same : (x : Option Offer) → offers is_unclean (option_map (written_on l) x) ≡ offers is_unclean x
      same None = refl
      same (Some q) = refl
