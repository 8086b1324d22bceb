-- The ways by which a node goes: it leaves, dies, or gives its round up.
use Rattle.std.proofs.Common.{◌≡◌, ℕ, suc, ◌<◌, ◌==◌, ◌&&◌, ◌||◌, Bool, true, false, not, if◌then◌else◌, List, [], ◌∷◌, Option, Some, None, refl, sym, ap, subst, ◌∙◌, arith}
use Rattle.std.specs.Prelude.{is_some}
use Rattle.std.proofs.lemmas.Bool.Decides.{nat_tests}
use Rattle.dlm_modes.specs.First.{first_such}
use Rattle.dlm_modes.proofs.FirstLaws.{first_such_none}
use Rattle.dlm_modes.specs.Guards.{first_of}
use Rattle.dlm_modes.specs.Points.{with_at}
use Rattle.mdc_types.specs.Geometry.{chunks_of}
use Rattle.mdc_types.specs.declared.refusals.Refusal.TheVariants.{Unclean, Draining}
use Rattle.mdc_types.specs.declared.roles.NodeState.{NodeState}
use Rattle.mdc_types.specs.declared.roles.NodeState.TheVariants as states
use Rattle.msg_rounds.specs.Locks.{quitted}
use Rattle.msg_rounds.specs.Phases.{is_idle, has_published, may_quit}
use Rattle.msg_rounds.specs.declared.phases.SenderPhase.{SenderPhase}
use Rattle.msg_rounds.specs.declared.phases.SenderPhase.TheVariants as senders
use Rattle.mirror_io.specs.Flight.{write_from}
use Rattle.mirror_io.specs.declared.live.LiveWrite.{LiveWrite}
use Rattle.node_bitmaps.specs.Bitmap.{first_set}
use Rattle.node_recovery.specs.Progress.{Recovering}
use Rattle.resync_worker.specs.Copying.{Passing}
use Rattle.cluster_model.specs.State.{Core, Copy, NotAsked, Held, Turn, sizes}
use Rattle.cluster_model.specs.Guards.{is_out}
use Rattle.cluster_model.specs.Leaving.{leave_guards, leave, die_guards, die}
use Rattle.cluster_model.specs.Phases.{is_up}
use Rattle.cluster_model.specs.Rounds.{quit_guards, quit, quit_from}
use Rattle.laws_locks.specs.Others.{recovers as recovers_slot, has_slot}
use Rattle.laws_locks.specs.Rounded.{stands}
use Rattle.laws_sound.proofs.Guarded.{all_none, unless_none, refused_none, living}
use Rattle.laws_roles.proofs.Rows.{with_twice}
use Rattle.storage_ways.proofs.Parts.{told_by, recovers, has_pass}
use Rattle.storage_ways.proofs.Place.{Around, here, Place, sound_of}
use Rattle.storage_ways.proofs.Blocks.{retold, told_died, told_unlocked, told_quitted}
use Rattle.storage_ways.proofs.Guarding.{not_asked, live_node}
use Rattle.storage_ways.proofs.GrantRows.{idle_is}
use Rattle.storage_ways.proofs.ComingRows.{no_offer_of}
use Rattle.storage_ways.proofs.Ways.{Way, leaves, quits, dies, voids}

pub no_write : (ws : List LiveWrite) → write_from 0 ws ≡ None → ws ≡ []
no_write [] e = refl
no_write (w ∷ ws) e = grind (arith, nat_tests)

-- What who copies nothing doesn't do.

pub no_pass : (c : Copy) → (has_pass c ≡ true → c.turn ≡ Held) → c.turn ≡ NotAsked → c.pass ≡ None
no_pass c f e = by c.pass f
  where
    not_both : Held ≡ NotAsked → ⊥
    not_both e = cc

    by : (x : Option Passing) → (is_some x ≡ true → c.turn ≡ Held) → x ≡ None
    by None f = refl
    by (Some q) f = absurd (not_both (sym (f refl) ∙ e))

pub no_recovery : (x : Option Recovering) (t : Turn) → (is_some x ≡ true → t ≡ Held) → t ≡ NotAsked → x ≡ None
no_recovery None t f e = refl
no_recovery (Some r) t f e = let held = f refl in cc

pub live_so : (live out : Bool) → live ≡ not out → out ≡ false → live ≡ true
live_so live out e f = grind arith

up_not_out : (s : NodeState) → is_up s ≡ true → is_out s ≡ false
up_not_out s e = grind arith

-- the node recovers the slot, by either word
same_recovers : (x : Option Recovering) (k : ℕ) → recovers_slot x k ≡ recovers x k
same_recovers None k = refl
same_recovers (Some r) k = refl

own_slot : (n m : ℕ) (live : Bool) → live ≡ true → ((n == m) && live) ≡ (m == n)
own_slot n m live e = by_test (m == n) refl
  where
    by_test : (b : Bool) → (m == n) ≡ b → ((n == m) && live) ≡ b
    by_test true t = let same : (n == m) ≡ true = grind (arith, nat_tests) in rw (same, e) refl
    by_test false t = let other : (n == m) ≡ false = grind (arith, nat_tests) in rw other refl

none_set : (set : ℕ → Bool) (n : ℕ) → ((c : ℕ) → set c ≡ true → c < n) → first_such set 0 n ≡ None → (c : ℕ) → set c ≡ false
none_set set n fits none c = by (set c) refl
  where
    by : (b : Bool) → set c ≡ b → b ≡ false
    by false e = refl
    by true e = let lt = fits c e in let no = first_such_none set 0 n none c (omega arith) (omega (arith, lt)) in cc

pub quits_silent : (s : SenderPhase) → may_quit s ≡ true → has_published s ≡ false
quits_silent s e = grind arith

module _ (core : Core) (a : Around) (p : Place core a) where
  pub live_at : (n : ℕ) → is_out (core.state n) ≡ false → core.members.live n ≡ true
  live_at n e = live_so (core.members.live n) (is_out (core.state n)) (p.known.rounded.numbered.live n) e

  pub leave_way : (n : ℕ) → first_of (leave_guards core n) ≡ None → Way (here core a) (here (leave core n) a)
  leave_way n ok =
      let g = (all_none (leave_guards core n) ok).1.1.1 in
      let c = core.copy n in
      let s = (sound_of core a p).turns in
      let up = unless_none (is_up (core.state n)) _ g.0 in
      let out = up_not_out (core.state n) up in
      let idle = idle_is (core.sender n) (unless_none _ _ g.1.0) in
      let turn = not_asked c.turn c.pass c.window (unless_none _ _ g.1.1.1.0) in
      leaves n (record {
        going = record {
          node = live_node core a p n out;
          live = live_at n out;
          turn = turn;
          pass = no_pass c (s.pass n) turn;
          recovery = no_recovery (core.recovery n) c.turn (s.recovery n) turn;
          writes = no_write (core.writes n) (refused_none Draining (write_from 0 (core.writes n)) g.1.1.1.1.0);
          idle = unless_none (is_idle (core.receiver n).phase) _ g.1.1.0;
        };
        up = up;
        sender = idle;
        none = no_offer_of core a p n (ap stands idle);
        clean = none_set (core.bitmap n).set (chunks_of (sizes core)) (p.known.range.flight.bitmaps n).set (refused_none Unclean (first_set (sizes core) (core.bitmap n)) g.1.1.1.1.1.1.0);
      })

  -- its locks for writing are those of its slot, and of the slot that it recovers
  dead_blocks : (n : ℕ) → core.members.live n ≡ true → (m : ℕ) → told_by (die core n).locks m ≡ (if (m == n) || recovers (core.recovery n) m then None else told_by core.locks m)
  dead_blocks n live m =
      told_died core.locks n (has_slot core n) (p.others.slots.held n) m
      ∙ ap (λ b. if b then None else told_by core.locks m) (ap (λ b. b || recovers_slot (core.recovery n) m) (own_slot n m (core.members.live n) live) ∙ ap (λ b. (m == n) || b) (same_recovers (core.recovery n) m))

  pub die_way : (n : ℕ) → first_of (die_guards core n) ≡ None → Way (here core a) (here (die core n) (record a { moments = suc a.moments }))
  die_way n ok =
      let l = living core n [] p.known.rounded.numbered.nodes ok in
      let live = live_at n l.live in
      subst (λ x. Way (here core a) (record (here (die core n) (record a { moments = suc a.moments })) { offer = x })) (sym (with_twice core.offer n None))
      (dies n (told_by (die core n).locks) (record { node = l.node; live = live; blocks = dead_blocks n live }))

  give_up : (n : ℕ) (s : NodeState) → core.state n ≡ s → is_up s ≡ false → is_out s ≡ false → has_published (core.sender n) ≡ false → Way (here core a) (record (here (quit_from core n states.Joining) a) { offer = with_at core.offer n None })
  give_up n s e down live silent =
      let not_up = ap is_up e ∙ down in
      let out = ap is_out e ∙ live in
      let empty = p.known.empty.empty n not_up in
      quits n (record {
        going = record {
          node = live_node core a p n out;
          live = live_at n out;
          turn = ap (λ (c : Copy). c.turn) empty.copy;
          pass = ap (λ (c : Copy). c.pass) empty.copy;
          recovery = empty.recovery;
          writes = empty.writes;
          idle = ap is_idle (p.known.rounded.phased.still n not_up);
        };
        not_up = not_up;
        silent = silent;
        clean = empty.set;
      })

  quit_at : (n : ℕ) (s : NodeState) → core.state n ≡ s → is_out s ≡ false → has_published (core.sender n) ≡ false → Way (here core a) (here (quit_from core n s) a)
  quit_at n states.Up e live silent =
      retold (here core a) (quit_from core n states.Up) a _ (told_unlocked (quitted core.locks n (core.sender n)) n ∙ told_quitted core.locks n (core.sender n))
      (voids n senders.Idle refl refl silent)
  quit_at n states.Out e live silent = cc
  quit_at n s e live silent =
      subst (λ x. Way (here core a) (record (here (quit_from core n s) a) { offer = x })) (sym (with_twice core.offer n None))
      (give_up n s e refl refl silent)

  pub quit_way : (n : ℕ) → first_of (quit_guards core n) ≡ None → Way (here core a) (here (quit core n) a)
  quit_way n ok =
      let g = (all_none (quit_guards core n) ok).1.1 in
      quit_at n (core.state n) refl (not_true (is_out (core.state n)) (unless_none _ _ g.0)) (quits_silent (core.sender n) (unless_none (may_quit (core.sender n)) _ g.1.0))
    where
      not_true : (b : Bool) → not b ≡ true → b ≡ false
      not_true b e = grind arith
