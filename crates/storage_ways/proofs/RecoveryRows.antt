-- The ways of recoveries: a slot's recovery begins, reads its pages, clears them, and ends.
use Rattle.std.proofs.Common.{◌≡◌, ℕ, ◌<◌, ◌==◌, ◌&&◌, Bool, true, false, not, Option, Some, None, refl, sym, subst, arith, nat_lt}
use Rattle.std.specs.Prelude.{is_some}
use Rattle.std.proofs.lemmas.Bool.Decides.{nat_tests}
use Rattle.dlm_modes.specs.First.{first_such}
use Rattle.dlm_modes.proofs.FirstLaws.{first_such_none}
use Rattle.dlm_modes.specs.Guards.{first_of}
use Rattle.mdc_types.specs.Geometry.{chunks_of, nodes_of, page_of, pages_of}
use Rattle.mdc_types.proofs.PageLaws.{leg_left-none}
use Rattle.mdc_types.specs.declared.numbers.Sector.{Sector}
use Rattle.mdc_types.specs.declared.refusals.Refusal.TheVariants.{NoLeg, NoPage, NotPending, NotRead, BitMissing, NotWritten, Needed, NotWorking, HeirPending}
use Rattle.leg_failure.specs.Views.{works, is_target}
use Rattle.node_bitmaps.specs.Bitmap.{lacks_mark, is_unmarked, unmarked_target_of}
use Rattle.node_member.specs.Members.{Members}
use Rattle.node_recovery.specs.Progress.{Recovering, unread_leg, uncleared_leg, first_found_needed}
use Rattle.slot_pages.specs.Slot.{page_has}
use Rattle.cluster_model.specs.State.{Core, sizes}
use Rattle.cluster_model.specs.Failures.{slot_failed}
use Rattle.cluster_model.specs.Phases.{is_up}
use Rattle.cluster_model.specs.Recovering.{rec_guards, recover, pending_heir, slotin_guards, slot_read, page_found, slotout_guards, slot_cleared, page_cleared, leg_unread, leg_unmarked, recovered_guards, recovered, slot_recovered, leg_uncleared, chunk_needed}
use Rattle.laws_sound.proofs.Guarded.{all_none, unless_none, refused_none}
use Rattle.storage_ways.proofs.Parts.{with_page, with_page_if, begun_there}
use Rattle.storage_ways.proofs.Place.{Around, here, Place, sound_of}
use Rattle.storage_ways.proofs.Blocks.{retold, told_kept}
use Rattle.storage_ways.proofs.Guarding.{acked_by, target_leg, working_at, below_legs, lock_alone, none_open, one_open, both_nots}
use Rattle.storage_ways.proofs.Ways.{Way, Open, SlotClears, EndsRecovery, recovers_slot, slot_reads, slot_clears, misses_slot, ends_recovery}

heir_recovered : (m : Members) (x : Option ℕ) → pending_heir m x ≡ None → (h : ℕ) → x ≡ Some h → m.pending h ≡ false
heir_recovered m None e h is = cc
heir_recovered m (Some k) e h is =
    let same : k ≡ h = cc in
    subst (λ j. m.pending j ≡ false) same (not_true (m.pending k) (unless_none (not (m.pending k)) (HeirPending k) e))
  where
    not_true : (b : Bool) → not b ≡ true → b ≡ false
    not_true b e = grind arith

marked_by : (found set mark : Bool) → (found && (set && not mark)) ≡ false → found ≡ true → set ≡ true → mark ≡ true
marked_by found set mark e f s = grind arith

lacks_none : (x : Option ℕ) → is_some x ≡ false → x ≡ None
lacks_none None e = refl
lacks_none (Some c) e = cc

other_node : (s n : ℕ) → (s ≡ n → ⊥) → (s == n) ≡ false
other_node s n ne = by (s == n) refl
  where
    by : (b : Bool) → (s == n) ≡ b → b ≡ false
    by false e = refl
    by true e = let same : s ≡ n = grind (arith, nat_tests) in absurd (ne same)

module _ (core : Core) (a : Around) (p : Place core a) where
  pub recover_way : (n d : ℕ) → first_of (rec_guards core n d) ≡ None → Way (here core a) (here (recover core n d) (record a { since = begun_there a.since n }))
  recover_way n d ok =
      let g = (all_none (rec_guards core n d) ok).1.1.1 in
      let c = core.copy n in
      let alone = lock_alone c.turn c.pass c.window (unless_none _ _ g.1.0) in
      retold (here core a) (recover core n d) (record a { since = begun_there a.since n }) _ (told_kept core.locks d _ refl)
      (recovers_slot n d (record {
        up = unless_none (is_up (core.state n)) _ g.0;
        turn = alone.turn;
        pass = alone.pass;
        recovery = none_open (core.recovery n) (unless_none _ _ g.1.1.0);
        pending = unless_none (core.members.pending d) (NotPending d) g.1.1.1.1.0;
        heir = heir_recovered core.members (core.members.heir d) g.1.1.1.1.1.0;
      }))

  opened : (n : ℕ) (r : Recovering) → is_up (core.state n) ≡ true → core.recovery n ≡ Some r → Open (here core a) n r
  opened n r up is = record {
    up = up;
    recovery = is;
    pending = (sound_of core a p).turns.slot n r is;
    other = other_node r.slot n ((sound_of core a p).turns.other n r is);
  }

  -- A page is read.

  pub record PageRead (n q l : ℕ) : Type 0 where
    pub recovering : Recovering
    pub is : core.recovery n ≡ Some recovering
    pub opened : Open (here core a) n recovering
    pub page : q < pages_of (sizes core)
    pub leg : l < (sizes core).legs
    pub works : works (core.view n) l ≡ true
    pub slot : recovering.slot < nodes_of (sizes core)

  pub page_read : (n q l : ℕ) → first_of (slotin_guards core n q l) ≡ None → PageRead n q l
  page_read n q l ok =
      let g = (all_none (slotin_guards core n q l) ok).1.1.1 in
      let r = one_open (core.recovery n) (unless_none _ _ g.1.1.0) in
      record {
        recovering = r.recovering;
        is = r.is;
        opened = opened n r.recovering (unless_none (is_up (core.state n)) _ g.1.0) r.is;
        page = below_legs q (pages_of (sizes core)) (unless_none (nat_lt q (pages_of (sizes core))) (NoPage q) g.1.1.1.0);
        leg = below_legs l (sizes core).legs (unless_none (nat_lt l (sizes core).legs) (NoLeg l) g.0);
        works = unless_none (works (core.view n) l) (NotWorking l) g.1.1.1.1.0;
        slot = (p.known.range.room.recoveries n r.recovering r.is).slot;
      }

  pub slot_in_way : (n q l : ℕ) (r : PageRead n q l) (v : Sector) → ((c : ℕ) → page_has (sizes core) q v.bytes c ≡ ((page_of c == q) && a.bit r.recovering.slot c l)) → Way (here core a) (here (slot_read core n q l v) a)
  slot_in_way n q l r v bits =
      subst (λ x. Way (here core a) (here (page_found core n x q l v) a)) (sym r.is)
      (slot_reads n q l r.recovering (page_has (sizes core) q v.bytes) (record { opened = r.opened; page = r.page; leg = r.leg; works = r.works; bits = bits }))

  -- A page is cleared.

  read_all : (n : ℕ) (r : Recovering) → unread_leg (sizes core) r (works (core.view n)) ≡ None → (q l : ℕ) → q < pages_of (sizes core) → works (core.view n) l ≡ true → r.read q l ≡ true
  read_all n r none q l lt w = leg_left-none r.read (works (core.view n)) (pages_of (sizes core)) none q l lt (working_at core a p n l w) w

  cleared_all : (n : ℕ) (r : Recovering) → uncleared_leg (sizes core) r (is_target (core.view n)) ≡ None → (q l : ℕ) → q < pages_of (sizes core) → is_target (core.view n) l ≡ true → r.cleared q l ≡ true
  cleared_all n r none q l lt t = leg_left-none r.cleared (is_target (core.view n)) (pages_of (sizes core)) none q l lt (target_leg core a p n l t) t

  marked_all : (n : ℕ) (r : Recovering) → ((c : ℕ) → r.found c ≡ true → c < chunks_of (sizes core)) → unmarked_target_of (sizes core) (core.bitmap n) (is_target (core.view n)) r.found ≡ None
      → (c j : ℕ) → r.found c ≡ true → (core.bitmap n).set c ≡ true → is_target (core.view n) j ≡ true → (core.bitmap n).marks c j ≡ true
  marked_all n r fits none c j f s t =
      let lt = target_leg core a p n j t in
      let lacks = both_nots (is_target (core.view n) j) (lacks_mark (sizes core) (core.bitmap n) r.found j) (first_such_none (λ l. is_target (core.view n) l && lacks_mark (sizes core) (core.bitmap n) r.found l) 0 8 none j (omega arith) (omega (arith, lt))) t in
      let each = lacks_none (first_such (λ d. r.found d && is_unmarked (core.bitmap n) d j) 0 (chunks_of (sizes core))) lacks in
      let below = fits c f in
      marked_by (r.found c) ((core.bitmap n).set c) ((core.bitmap n).marks c j) (first_such_none (λ d. r.found d && is_unmarked (core.bitmap n) d j) 0 (chunks_of (sizes core)) each c (omega arith) (omega (arith, below))) f s

  pub record PageCleared (n q l : ℕ) : Type 0 where
    pub recovering : Recovering
    pub is : core.recovery n ≡ Some recovering
    pub clears : SlotClears (here core a) n q l recovering
    pub slot : recovering.slot < nodes_of (sizes core)

  pub page_cleared_so : (n q l : ℕ) → first_of (slotout_guards core n q l) ≡ None → PageCleared n q l
  page_cleared_so n q l ok =
      let g = (all_none (slotout_guards core n q l) ok).1.1.1 in
      let o = one_open (core.recovery n) (unless_none _ _ g.1.1.0) in
      let r = o.recovering in
      let fits = p.known.range.room.recoveries n r o.is in
      record {
        recovering = r;
        is = o.is;
        clears = record {
          all = record {
            opened = opened n r (unless_none (is_up (core.state n)) _ g.1.0) o.is;
            acked = acked_by core a p n g.1.1.1.1.1.0;
            read = read_all n r (subst (λ x. leg_unread core n x ≡ None) o.is (refused_none NotRead (leg_unread core n (core.recovery n)) g.1.1.1.1.1.1.0));
          };
          page = below_legs q (pages_of (sizes core)) (unless_none (nat_lt q (pages_of (sizes core))) (NoPage q) g.1.1.1.0);
          leg = below_legs l (sizes core).legs (unless_none (nat_lt l (sizes core).legs) (NoLeg l) g.0);
          target = unless_none (is_target (core.view n) l) _ g.1.1.1.1.0;
          marked = marked_all n r fits.found (subst (λ x. leg_unmarked core n x ≡ None) o.is (refused_none BitMissing (leg_unmarked core n (core.recovery n)) g.1.1.1.1.1.1.1.0));
        };
        slot = fits.slot;
      }

  pub slot_out_way : (n q l : ℕ) (r : PageCleared n q l) → Way (here core a) (here (slot_cleared core n q l) (record a { bit = with_page a.bit r.recovering.slot q l (λ c. false) }))
  slot_out_way n q l r =
      subst (λ x. Way (here core a) (here (page_cleared core n x q l) (record a { bit = with_page a.bit r.recovering.slot q l (λ c. false) }))) (sym r.is)
      (slot_clears n q l r.recovering r.clears)

  pub missed_slot_way : (n q l : ℕ) (r : PageCleared n q l) (left : Bool) → Way (here core a) (here (slot_failed core q l (core.recovery n)) (record a { bit = with_page_if left a.bit r.recovering.slot q l (λ c. false) }))
  missed_slot_way n q l r left =
      subst (λ x. Way (here core a) (here (slot_failed core q l x) (record a { bit = with_page_if left a.bit r.recovering.slot q l (λ c. false) }))) (sym r.is)
      (misses_slot n q l r.recovering left r.clears)

  -- The slot is recovered.

  none_needed : (n : ℕ) (r : Recovering) → ((c : ℕ) → r.found c ≡ true → c < chunks_of (sizes core)) → first_found_needed (sizes core) r (core.bitmap n).need ≡ None → (c : ℕ) → r.found c ≡ true → (core.bitmap n).need c ≡ false
  none_needed n r fits none c f =
      let below = fits c f in
      both_nots (r.found c) ((core.bitmap n).need c) (first_such_none (λ d. r.found d && (core.bitmap n).need d) 0 (chunks_of (sizes core)) none c (omega arith) (omega (arith, below))) f

  pub record Ended (n : ℕ) : Type 0 where
    pub recovering : Recovering
    pub is : core.recovery n ≡ Some recovering
    pub ends : EndsRecovery (here core a) n recovering

  pub ended : (n : ℕ) → first_of (recovered_guards core n) ≡ None → Ended n
  ended n ok =
      let g = (all_none (recovered_guards core n) ok).1.1.1 in
      let o = one_open (core.recovery n) (unless_none _ _ g.1.0) in
      let r = o.recovering in
      let fits = p.known.range.room.recoveries n r o.is in
      record {
        recovering = r;
        is = o.is;
        ends = record {
          all = record {
            opened = opened n r (unless_none (is_up (core.state n)) _ g.0) o.is;
            acked = acked_by core a p n g.1.1.0;
            read = read_all n r (subst (λ x. leg_unread core n x ≡ None) o.is (refused_none NotRead (leg_unread core n (core.recovery n)) g.1.1.1.0));
          };
          cleared = cleared_all n r (subst (λ x. leg_uncleared core n x ≡ None) o.is (refused_none NotWritten (leg_uncleared core n (core.recovery n)) g.1.1.1.1.0));
          met = none_needed n r fits.found (subst (λ x. chunk_needed core n x ≡ None) o.is (refused_none Needed (chunk_needed core n (core.recovery n)) g.1.1.1.1.1.0));
        };
      }

  pub recovered_way : (n : ℕ) → first_of (recovered_guards core n) ≡ None → Way (here core a) (here (recovered core n) a)
  recovered_way n ok =
      let o = ended n ok in
      subst (λ x. Way (here core a) (here (slot_recovered core n x) a)) (sym o.is)
      (retold (here core a) (slot_recovered core n (Some o.recovering)) a _ (told_kept core.locks o.recovering.slot _ refl)
      (ends_recovery n o.recovering o.ends))
