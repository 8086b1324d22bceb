-- The ways of offers.
use Rattle.std.proofs.Common.{◌≡◌, inl, inr, ℕ, suc, ◌==◌, ◌&&◌, ◌||◌, Bool, true, false, not, Option, Some, None, refl, ap, subst, arith}
use Rattle.std.specs.Prelude.{is_some, is_none}
use Rattle.std.proofs.lemmas.Bool.{cases_lt}
use Rattle.std.proofs.lemmas.Bool.Decides.{nat_tests}
use Rattle.dlm_modes.proofs.FirstLaws.{first_such_none}
use Rattle.dlm_modes.specs.Guards.{first_of}
use Rattle.mdc_types.specs.Geometry.{Sizes, chunks_of}
use Rattle.mdc_types.specs.Roles.{is_working, is_faulty}
use Rattle.mdc_types.specs.declared.events.Wish.{Wish}
use Rattle.mdc_types.specs.declared.events.Wish.TheVariants as wishes
use Rattle.mdc_types.specs.declared.numbers.Range.{Range}
use Rattle.mdc_types.specs.declared.refusals.Refusal.TheVariants.{Pending, Degraded, NotCopied, NoSector}
use Rattle.mdc_types.specs.declared.roles.Role.{Role}
use Rattle.mdc_types.specs.declared.roles.Role.TheVariants.{Spare}
use Rattle.mdc_types.specs.declared.roles.NodeState.{NodeState}
use Rattle.mdc_types.specs.declared.roles.NodeState.TheVariants as states
use Rattle.msg_rounds.specs.Phases.{is_idle, has_published, may_receive}
use Rattle.node_member.specs.Members.{first_pending}
use Rattle.leg_failure.specs.Views.{NodeView, works, proposed_role}
use Rattle.resync_worker.specs.Copying.{Passing, first_todo}
use Rattle.cluster_model.specs.State.{Core, NotAsked, sizes}
use Rattle.cluster_model.specs.Phases.{is_in, is_up, is_metadata, is_unclean}
use Rattle.cluster_model.specs.Wishes.{loaded_offers, wish_guards, offer_guards, is_window, other_faulty, has_copied, with_change, offer_of, offered}
use Rattle.laws_locks.specs.Rounded.{has_token}
use Rattle.laws_sound.proofs.Guarded.{all_none, unless_none, refused_none}
use Rattle.laws_roles.proofs.OfferRows.{stays_working}
use Rattle.laws_roles.proofs.Parts.{promotes, with_wish, covered_by}
use Rattle.laws_roles.proofs.WishGuards.{Guards, guards, inside, no_offers, wish_known}
use Rattle.storage_ways.proofs.Parts.{is_range, has_pass}
use Rattle.storage_ways.proofs.Place.{Around, here, Place}
use Rattle.storage_ways.proofs.Guarding.{not_asked, under_pass}
use Rattle.storage_ways.proofs.ComingRows.{silent_by}
use Rattle.storage_ways.proofs.Ways.{Way, Offering, offers}

-- a loaded node offers `meta`
loaded_meta : (s : NodeState) (w : Wish) → is_in s ≡ true → loaded_offers s w ≡ None → is_up s ≡ false → is_metadata w ≡ true
loaded_meta states.Up w i e down = cc
loaded_meta states.Loaded wishes.Meta i e down = refl
loaded_meta states.Loaded w i e down = cc
loaded_meta s w i e down = cc

working_or : (w : Wish) (v : NodeView) (l : ℕ) → is_working (with_change w (proposed_role v) l) ≡ true → (works v l || promotes w l) ≡ true
working_or (wishes.Spare j) v l e = grind (arith, nat_tests, stays_working (v.role l) (v.lost l))
working_or (wishes.Rebuild j) v l e = grind (arith, nat_tests, stays_working (v.role l) (v.lost l))
working_or (wishes.Work j) v l e = grind (arith, nat_tests, stays_working (v.role l) (v.lost l))
working_or w v l e = grind (arith, stays_working (v.role l) (v.lost l) e)

same_leg : (l j : ℕ) → (l == j) ≡ true → j ≡ l
same_leg l j e = grind (arith, nat_tests)

sole : (faulty : Bool) (j l : ℕ) → (faulty && not (j == l)) ≡ false → faulty ≡ true → j ≡ l
sole faulty j l e f = grind (arith, nat_tests)

spare_not_faulty : (r : Role) → r ≡ Spare → is_faulty r ≡ true → ⊥
spare_not_faulty r e f = cc

-- the pass covers the leg, and has nothing left to copy
record CopiedAll (g : Sizes) (x : Option Passing) (l : ℕ) : Type 0 where
  covered : covered_by x l ≡ true
  left : (q : Passing) → x ≡ Some q → first_todo g q ≡ None

none_of : {A : Type 0} (x : Option A) → is_none x ≡ true → x ≡ None
none_of None e = refl
none_of (Some y) e = cc

three : (x y z : Bool) → (x && y && z) ≡ true → (x ≡ true) × (y ≡ true)
three x y z e = grind arith

copied_all : (g : Sizes) (x : Option Passing) (l : ℕ) → has_copied g x l ≡ true → CopiedAll g x l
copied_all g None l e = cc
copied_all g (Some q) l e =
    let t = three (q.covered l) (is_none (first_todo g q)) (is_none q.buffer) e in
    record { covered = t.0; left = λ r is. let same : q ≡ r = cc in subst (λ x. first_todo g x ≡ None) same (none_of (first_todo g q) t.1) }

module _ (core : Core) (a : Around) (p : Place core a) where
  -- what the guards of a promotion tell
  record Promoting (n l : ℕ) : Type 0 where
    pending : (d : ℕ) → core.members.pending d ≡ false
    faulty : (j : ℕ) → is_faulty ((core.view n).role j) ≡ true → j ≡ l
    copied : CopiedAll (sizes core) (core.copy n).pass l

  pending_none : first_pending core.members ≡ None → (d : ℕ) → core.members.pending d ≡ false
  pending_none none d = by (core.members.pending d) refl
    where
      by : (b : Bool) → core.members.pending d ≡ b → b ≡ false
      by false e = refl
      by true e = let lt = p.slots d e in let no = first_such_none core.members.pending 0 16 none d (omega arith) (omega (arith, lt)) in cc

  faulty_alone : (n l : ℕ) → other_faulty (core.view n) l ≡ None → (j : ℕ) → is_faulty ((core.view n).role j) ≡ true → j ≡ l
  faulty_alone n l none j f = elim (cases_lt j 8) [
    | inl lt ↦ sole (is_faulty ((core.view n).role j)) j l (first_such_none (λ i. is_faulty ((core.view n).role i) && not (i == l)) 0 8 none j (omega arith) (omega (arith, lt))) f
    | inr past ↦
        let legs = p.known.range.legs.sizes_fit.legs.1 in
        absurd (spare_not_faulty ((core.view n).role j) ((p.known.range.legs.views n).roles j (omega (arith, past, legs))) f)
  ]

  promoting : (n l : ℕ) (wish : Wish) → Guards core p.known n wish → promotes wish l ≡ true → Promoting n l
  promoting n l (wishes.Work j) g e =
      let t = all_none (wish_guards core n (wishes.Work j)) g.rest in
      subst (Promoting n) (same_leg l j e)
      (record {
        pending = pending_none (refused_none Pending (first_pending core.members) t.1.1.0);
        faulty = faulty_alone n j (refused_none Degraded (other_faulty (core.view n) j) t.1.1.1.1.0);
        copied = copied_all (sizes core) (core.copy n).pass j (unless_none (has_copied (sizes core) (core.copy n).pass j) (NotCopied j) t.1.1.1.1.1.0);
      })
  promoting n l w g e = cc

  none_left : (n : ℕ) (q : Passing) → (core.copy n).pass ≡ Some q → first_todo (sizes core) q ≡ None → (c : ℕ) → q.todo c ≡ false
  none_left n q is none c = by (q.todo c) refl
    where
      by : (b : Bool) → q.todo c ≡ b → b ≡ false
      by false e = refl
      by true e = let lt = ((p.known.range.room.copies n).pass q is).todo c e in let no = first_such_none q.todo 0 (chunks_of (sizes core)) none c (omega arith) (omega (arith, lt)) in cc

  range_form : (n : ℕ) (wish : Wish) (r : Range) → Guards core p.known n wish → wish ≡ wishes.Range r → is_window (sizes core) r ≡ true
  range_form n (wishes.Range s) r g e =
      let t = all_none (wish_guards core n (wishes.Range s)) g.rest in
      let same : s ≡ r = cc in
      subst (λ x. is_window (sizes core) x ≡ true) same (unless_none (is_window (sizes core) s) (NoSector s.lo) t.1.1.0)
  range_form n w r g e = cc

  under_range : (n : ℕ) (wish : Wish) → Guards core p.known n wish → is_range wish ≡ true → has_pass (core.copy n) ≡ true
  under_range n (wishes.Range s) g e =
      let t = all_none (wish_guards core n (wishes.Range s)) g.rest in
      let c = core.copy n in
      ap is_some (under_pass c.turn c.pass c.window (unless_none _ _ t.1.0)).pass
  under_range n w g e = cc

  leaving : (n : ℕ) (wish : Wish) → Guards core p.known n wish → is_unclean wish ≡ true → (core.copy n).turn ≡ NotAsked
  leaving n wishes.Unclean g e =
      let t = all_none (wish_guards core n wishes.Unclean) g.rest in
      let c = core.copy n in
      not_asked c.turn c.pass c.window (unless_none _ _ t.0)
  leaving n w g e = cc

  offering : (n : ℕ) (wish : Wish) → Guards core p.known n wish → Offering (here core a) n (offer_of core n wish)
  offering n wish g =
      let w = wish_known core p.known a.super a.ghost n wish g in
      record {
        none = no_offers core p.known n wish g;
        silent = silent_by core a p n (ap has_token g.held) (ap has_published g.held);
        inside = inside core p.known n wish g;
        idle = ap is_idle (p.known.rounded.phased.sending n (ap may_receive g.held));
        acked = w.known;
        up = w.up;
        loaded = loaded_meta (core.state n) wish (inside core p.known n wish g) g.loaded;
        range = λ r e. range_form n wish r g e;
        pass = under_range n wish g;
        unclean = leaving n wish g;
        none_pending = λ l d e. (promoting n l wish g e).pending d;
        none_faulty = λ l j e f. (promoting n l wish g e).faulty j f;
        rebuilding = w.promoted;
        covered = λ l e. (promoting n l wish g e).copied.covered;
        nothing_left = λ l c q e is. none_left n q is ((promoting n l wish g e).copied.left q is) c;
        events = λ e. refl;
        working = λ l e. working_or wish (core.view n) l e;
      }

  by_wish : (n : ℕ) (wish : Wish) → Offering (here core a) n (offer_of core n wish) → Way (here core a) (here (offered core n wish) (record a { ghost = with_wish a.ghost wish; moments = suc a.moments }))
  by_wish n wishes.Meta o = offers n (offer_of core n wishes.Meta) o
  by_wish n (wishes.Spare l) o = offers n (offer_of core n (wishes.Spare l)) o
  by_wish n (wishes.Rebuild l) o = offers n (offer_of core n (wishes.Rebuild l)) o
  by_wish n (wishes.Work l) o = offers n (offer_of core n (wishes.Work l)) o
  by_wish n (wishes.Grow z) o = offers n (offer_of core n (wishes.Grow z)) o
  by_wish n w o = offers n (offer_of core n w) o

  pub offer_way : (n : ℕ) (wish : Wish) → first_of (offer_guards core n wish) ≡ None → Way (here core a) (here (offered core n wish) (record a { ghost = with_wish a.ghost wish; moments = suc a.moments }))
  offer_way n wish ok = by_wish n wish (offering n wish (guards core p.known n wish ok))
