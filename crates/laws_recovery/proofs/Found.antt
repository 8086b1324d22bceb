-- What a slot answers for is found by its recoverer and marked by it, before anything is cleared.
use Rattle.std.proofs.Common.{◌≡◌, ℕ, ◌||◌, Bool, true, false, Some, refl, sym, ap, subst, ◌∙◌, arith}
use Rattle.std.proofs.lemmas.Bool.Decides.{nat_tests}
use Rattle.mdc_types.specs.Geometry.{page_of}
use Rattle.mdc_types.specs.Roles.{is_working, is_written, is_faulty}
use Rattle.mdc_types.specs.declared.roles.NodeState.{NodeState}
use Rattle.mdc_types.specs.declared.roles.NodeState.TheVariants as states
use Rattle.disk_addition.specs.Additions.{after, rebuilt}
use Rattle.disk_addition.specs.Wishes.{is_readd}
use Rattle.disk_addition.specs.declared.addition.Addition.{Addition}
use Rattle.mdc_types.specs.declared.events.Wish.{Wish}
use Rattle.mdc_types.specs.declared.events.Wish.TheVariants as wishes
use Rattle.node_recovery.specs.Progress.{Recovering}
use Rattle.cluster_model.specs.Gathering.{is_again_of}
use Rattle.cluster_model.specs.Phases.{is_in, is_up, is_metadata}
use Rattle.cluster_model.specs.State.{Offer}
use Rattle.laws_roles.proofs.Parts.{changes_super, offered_role}
use Rattle.storage_ways.proofs.Parts.{Part, chunk_in, read_leg, recovers, found_in, read_in, cleared_in, covers, todo}
use Rattle.storage_ways.proofs.Ways.{Acked, AllRead, SlotClears, EndsRecovery, Whole}
use Rattle.storage_ways.proofs.Roled.{acked_works, read_good, written_target, good_target}
use Rattle.laws_writes.proofs.Ghosts.{Ghost}
use Rattle.laws_writes.proofs.Places.{page_lt}
use Rattle.laws_writes.proofs.Settled.{Since}
use Rattle.laws_recovery.proofs.Ghosts.{Hold}
use Rattle.laws_recovery.proofs.Known.{Known}
use Rattle.laws_writes.proofs.Points.{clash}
use Rattle.laws_recovery.proofs.Stale.{lacks}

pub up_inside : (x : NodeState) → is_up x ≡ true → is_in x ≡ true
up_inside states.Up e = refl
up_inside x e = cc

pub same_slot : (r : Recovering) → recovers (Some r) r.slot ≡ true
same_slot r = grind (arith, nat_tests)

rebuilt_readd : (b : Addition) (k l : ℕ) → is_again_of (rebuilt b k) l ≡ true → is_readd b l ≡ true
rebuilt_readd b k l e = grind (arith, nat_tests)

again_readd : (b : Addition) (x : Wish) (l : ℕ) → is_metadata x ≡ true → is_again_of (after b x) l ≡ true → is_readd b l ≡ true
again_readd b (wishes.Rebuild k) l meta e = rebuilt_readd b k l e
again_readd b (wishes.Range r) l meta e = cc
again_readd b x l meta e = cc

module _ (w : Part) (g : Ghost) (h : Hold) (z : Since) (a : Known w g h z) where
  pub reads_working : (n : ℕ) → is_up (w.state n) ≡ true → Acked w n → is_working (w.ghost.agreed.role (read_leg w n)) ≡ true
  reads_working n up acked = sym (acked_works w a.sound n (read_leg w n) up acked) ∙ a.sound.serves n (up_inside (w.state n) up)

  pub reads_good : (n : ℕ) → is_up (w.state n) ≡ true → w.ghost.good (read_leg w n) ≡ true
  reads_good n up = read_good w a.sound n (up_inside (w.state n) up)

  found_there : (n c : ℕ) (r : Recovering) → AllRead w n r → w.bit r.slot c (read_leg w n) ≡ true → r.found c ≡ true
  found_there n c r x bit =
      let rec = x.opened.recovery in
      let leg = read_leg w n in
      let read = x.read (page_of c) leg (page_lt w.geometry c (a.sound.within.bits r.slot c leg bit)) (a.sound.serves n (up_inside (w.state n) x.opened.up)) in
      sym (ap (λ y. found_in y c) rec)
      ∙ a.pages.read_found n r.slot c leg (ap (λ y. recovers y r.slot) rec ∙ same_slot r) (ap (λ y. read_in y (page_of c) leg) rec ∙ read) bit

  -- a bit that a whole recovery would have cleared
  not_cleared : (n c : ℕ) (r : Recovering) → EndsRecovery w n r → w.bit r.slot c (read_leg w n) ≡ true → ⊥
  not_cleared n c r x bit =
      let up = x.all.opened.up in
      let rec = x.all.opened.recovery in
      let leg = read_leg w n in
      let clean = x.cleared (page_of c) leg (page_lt w.geometry c (a.sound.within.bits r.slot c leg bit)) (good_target w a.sound n leg up x.all.acked (reads_good n up)) in
      clash (w.bit r.slot c leg) bit (a.pages.cleared n r.slot c leg (ap (λ y. recovers y r.slot) rec ∙ same_slot r) (ap (λ y. cleared_in y (page_of c) leg) rec ∙ clean))

  -- What a leg missed.

  pub missed_there : (n l s : ℕ) (r : Recovering) → AllRead w n r → w.ghost.missed l ≡ true → lacks w g l s ≡ true → h.hold l s ≡ r.slot → w.bit r.slot (chunk_in w s) (read_leg w n) ≡ true
  missed_there n l s r x missed lack is =
      subst (λ k. w.bit k (chunk_in w s) (read_leg w n) ≡ true) is (a.stale.holder_working l s (read_leg w n) missed lack (reads_working n x.opened.up x.acked))

  pub missed_found : (n l s : ℕ) (r : Recovering) → AllRead w n r → w.ghost.missed l ≡ true → lacks w g l s ≡ true → h.hold l s ≡ r.slot → r.found (chunk_in w s) ≡ true
  missed_found n l s r x missed lack is = found_there n (chunk_in w s) r x (missed_there n l s r x missed lack is)

  pub missed_set : (n l s : ℕ) (r : Recovering) → AllRead w n r → w.ghost.missed l ≡ true → lacks w g l s ≡ true → h.hold l s ≡ r.slot → (w.bitmap n).set (chunk_in w s) ≡ true
  missed_set n l s r x missed lack is =
      let rec = x.opened.recovery in
      a.stale.holder_read l s n missed lack (ap (λ y. recovers y (h.hold l s)) rec ∙ ap (λ k. recovers (Some r) k) is ∙ same_slot r)
      (ap (λ y. found_in y (chunk_in w s)) rec ∙ missed_found n l s r x missed lack is)

  pub missed_bit : (n p i l s j : ℕ) (r : Recovering) → SlotClears w n p i r → w.ghost.missed l ≡ true → lacks w g l s ≡ true → h.hold l s ≡ r.slot → is_written (w.ghost.agreed.role j) ≡ true → w.bit n (chunk_in w s) j ≡ true
  missed_bit n p i l s j r x missed lack is written =
      a.bits.mark_bit n (chunk_in w s) j (x.marked (chunk_in w s) j (missed_found n l s r x.all missed lack is) (missed_set n l s r x.all missed lack is) (written_target w a.sound n j x.all.opened.up x.all.acked written))

  pub missed_kept : (n l s : ℕ) (r : Recovering) → EndsRecovery w n r → w.ghost.missed l ≡ true → lacks w g l s ≡ true → h.hold l s ≡ r.slot → ⊥
  missed_kept n l s r x missed lack is = not_cleared n (chunk_in w s) r x (missed_there n l s r x.all missed lack is)

  -- What a covered leg lacks.

  pub covered_there : (n m l s : ℕ) (r : Recovering) → AllRead w n r → covers w m l ≡ true → lacks w g l s ≡ true → todo w m (chunk_in w s) ≡ false → h.hold l s ≡ r.slot → w.bit r.slot (chunk_in w s) (read_leg w n) ≡ true
  covered_there n m l s r x covered lack copied is =
      subst (λ k. w.bit k (chunk_in w s) (read_leg w n) ≡ true) is (a.stale.covered_good m l s (read_leg w n) covered lack copied (reads_good n x.opened.up))

  pub covered_found : (n m l s : ℕ) (r : Recovering) → AllRead w n r → covers w m l ≡ true → lacks w g l s ≡ true → todo w m (chunk_in w s) ≡ false → h.hold l s ≡ r.slot → r.found (chunk_in w s) ≡ true
  covered_found n m l s r x covered lack copied is = found_there n (chunk_in w s) r x (covered_there n m l s r x covered lack copied is)

  pub covered_kept : (n m l s : ℕ) (r : Recovering) → EndsRecovery w n r → covers w m l ≡ true → lacks w g l s ≡ true → todo w m (chunk_in w s) ≡ false → h.hold l s ≡ r.slot → ⊥
  covered_kept n m l s r x covered lack copied is = not_cleared n (chunk_in w s) r x (covered_there n m l s r x.all covered lack copied is)

  -- A leg that becomes one that missed something was faulty already: a good leg is stale nowhere.

  pub was_faulty : (n : ℕ) (o : Offer) → Whole w n o → is_metadata o.wish ≡ true → (l s : ℕ) → (is_faulty (o.role l) || is_again_of (after (w.adding n).addition o.wish) l) ≡ true → lacks w g l s ≡ true → is_faulty (w.ghost.agreed.role l) ≡ true
  was_faulty n o x meta l s missed lack = by (is_faulty (o.role l)) refl
    where
      super : changes_super (w.offer n) ≡ true
      super = ap changes_super x.offer ∙ meta

      good_or : (f good : Bool) → (f || good) ≡ true → (good ≡ true → ⊥) → f ≡ true
      good_or true good e not_good = refl
      good_or false good e not_good = absurd (not_good e)

      right : (f b : Bool) → f ≡ false → (f || b) ≡ true → b ≡ true
      right f b n e = grind arith

      by : (b : Bool) → is_faulty (o.role l) ≡ b → is_faulty (w.ghost.agreed.role l) ≡ true
      by true e = good_or (is_faulty (w.ghost.agreed.role l)) (w.ghost.good l) (a.sound.roles.offer_faulty n l super (ap (λ y. is_faulty (offered_role y l)) x.offer ∙ e))
          (λ good. clash (lacks w g l s) lack (a.stale.not_stale l s good))
      by false e = a.sound.additions.readd_faulty n l (again_readd (w.adding n).addition o.wish l meta (right (is_faulty (o.role l)) (is_again_of (after (w.adding n).addition o.wish) l) e missed))
