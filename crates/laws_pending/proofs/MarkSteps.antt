-- Each way keeps the marks of a pending slot: those that stood on all good legs, and those that stood
-- on all trusted ones.
use Rattle.std.proofs.Common.{◌≡◌, ℕ, ◌==◌, ◌<◌, ◌&&◌, ◌||◌, Bool, true, false, if◌then◌else◌, refl, sym, ap, subst, ◌∙◌, arith}
use Rattle.std.proofs.lemmas.Bool.Decides.{nat_tests}
use Rattle.dlm_modes.specs.Points.{with_at}
use Rattle.mdc_types.specs.Roles.{is_working}
use Rattle.mdc_types.specs.declared.roles.NodeState.{NodeState}
use Rattle.mdc_types.specs.declared.roles.NodeState.TheVariants as states
use Rattle.node_recovery.specs.Progress.{Recovering}
use Rattle.leg_failure.specs.Views.{works}
use Rattle.cluster_model.specs.Guards.{is_out}
use Rattle.cluster_model.specs.Phases.{is_up, is_metadata}
use Rattle.cluster_model.specs.State.{Offer}
use Rattle.laws_roles.proofs.Parts.{number, said_role, changes_super, offered_role, promotes, with_wish, with_promoted}
use Rattle.storage_ways.proofs.Parts.{Part, with_page_if}
use Rattle.storage_ways.proofs.Ways as ways
use Rattle.storage_ways.proofs.Ways.{Way, AllRead, Whole, Offering}
use Rattle.laws_writes.proofs.Ghosts.{Ghost}
use Rattle.laws_writes.proofs.Settled.{Since}
use Rattle.laws_pending.proofs.Ghosts.{Pend, pend_after, marks_trusted, marks_good, is_promoted}
use Rattle.laws_pending.proofs.Gone.{owed_there, was_good, full_found, owed_gone, apart_up, marked_served, marked_called, marked_good}
use Rattle.laws_pending.proofs.Known.{Known}
use Rattle.laws_pending.proofs.Pending.{Full, OwedServed, OwedCalled}
use Rattle.laws_pending.proofs.Points.{clash, same_point, by_test, if_true, if_false}
use Rattle.laws_pending.proofs.Trust.{Trusts, reads, says, trusted, serves_before, calls_before, true_le, left}

pub page_else : (bit : ℕ → ℕ → ℕ → Bool) (some : Bool) (k q i : ℕ) (set : ℕ → Bool) (d c l : ℕ) → (d == k) ≡ false → bit d c l ≡ true → with_page_if some bit k q i set d c l ≡ true
page_else bit some k q i set d c l apart old = grind (arith, apart)

moved_found : (here found old : Bool) → (if here && found then true else old) ≡ false → here ≡ true → found ≡ true → ⊥
moved_found here found old e t f = grind arith

moved_old : (here found old : Bool) → (if here && found then true else old) ≡ false → old ≡ false
moved_old here found old e = grind arith

pub below_sixteen : (x : NodeState) (n : ℕ) → (is_out x ≡ false → n < 16) → is_up x ≡ true → n < 16
below_sixteen x n f up = f (up_out x up)
  where
    up_out : (y : NodeState) → is_up y ≡ true → is_out y ≡ false
    up_out y e = grind arith

module _ (w : Part) (g : Ghost) (z : Since) (p : Pend) (a : Known w g z p) where
  -- the page of a slot is cleared: what has to stay wasn't there any more
  cleared_else : (n q i : ℕ) (r : Recovering) (some : Bool) → AllRead w n r → (d c l : ℕ) → (if (d == r.slot) && r.found c then true else p.moved d c) ≡ false
      → ((d == r.slot) ≡ true → r.found c ≡ true) → w.bit d c l ≡ true → with_page_if some w.bit r.slot q i (λ k. false) d c l ≡ true
  cleared_else n q i r some x d c l stays found old = by_test (d == r.slot)
      (λ t. absurd (moved_found (d == r.slot) (r.found c) (p.moved d c) stays t (found t)))
      (λ f. page_else w.bit some r.slot q i (λ k. false) d c l f old)

  full_cleared : (n q i : ℕ) (r : Recovering) (some : Bool) → AllRead w n r → (d c l : ℕ) → w.pending d ≡ true → p.full d c ≡ true → (if (d == r.slot) && r.found c then true else p.moved d c) ≡ false
      → w.ghost.good l ≡ true → l < w.geometry.legs → with_page_if some w.bit r.slot q i (λ k. false) d c l ≡ true
  full_cleared n q i r some x d c l pend full stays good lt =
      let old = moved_old (d == r.slot) (r.found c) (p.moved d c) stays in
      cleared_else n q i r some x d c l stays
      (λ t. let same = same_point d r.slot t in full_found w g z p a n r x c (subst (λ k. p.full k c ≡ true) same full) (subst (λ k. p.moved k c ≡ false) same old))
      (a.pendings.full d c l pend full old good lt)

  owed_cleared : (n q i : ℕ) (r : Recovering) (some : Bool) → AllRead w n r → (d c l : ℕ) → w.pending d ≡ true → p.owed d c ≡ true → (if (d == r.slot) && r.found c then true else p.moved d c) ≡ false
      → Trusts w l → l < w.geometry.legs → p.promoted d l ≡ false → with_page_if some w.bit r.slot q i (λ k. false) d c l ≡ true
  owed_cleared n q i r some x d c l pend owed stays trust lt other =
      let old = moved_old (d == r.slot) (r.found c) (p.moved d c) stays in
      cleared_else n q i r some x d c l stays
      (λ t. let same = same_point d r.slot t in owed_gone w g z p a n r x c l (subst (λ k. p.owed k c ≡ true) same owed) (subst (λ k. p.moved k c ≡ false) same old) (was_good w g z p a l trust) (subst (λ k. p.promoted k l ≡ false) same other))
      (owed_there w g z p a d c l pend owed old lt other (trusted trust))

  pub offered_good : (n : ℕ) (o : Offer) → Whole w n o → is_metadata o.wish ≡ true → (l : ℕ) → is_working (o.role l) ≡ true → w.ghost.good l ≡ true
  offered_good n o e meta l working = a.sound.roles.offer_good n l (ap changes_super e.offer ∙ meta) (ap (λ y. is_working (offered_role y l)) e.offer ∙ working)

  -- while a slot is pending no leg becomes good
  pub wish_good : (n d : ℕ) (o : Offer) → Offering w n o → w.pending d ≡ true → (l : ℕ) → (with_wish w.ghost o.wish).good l ≡ true → w.ghost.good l ≡ true
  wish_good n d o x pend l = by (is_metadata o.wish)
    where
      none : promotes o.wish l ≡ true → ⊥
      none e = clash (w.pending d) pend (x.none_pending l d e)

      either : (b c : Bool) → (c ≡ true → ⊥) → (b || c) ≡ true → b ≡ true
      either true c f e = refl
      either false c f e = absurd (f e)

      by : (b : Bool) → (if b then with_promoted w.ghost o.wish else w.ghost).good l ≡ true → w.ghost.good l ≡ true
      by true e = either (w.ghost.good l) (promotes o.wish l) none e
      by false e = e

pub full : (w v : Part) (x : Way w v) (g : Ghost) (z : Since) (p : Pend) → Known w g z p → Full v (pend_after x p)
full w v (ways.offers n o x) g z p a d c l pend all stays good lt = a.pendings.full d c l pend all stays (wish_good w g z p a n d o x pend l good) lt
full w v (ways.finishes n o x meta) g z p a d c l pend all stays good lt = a.pendings.full d c l pend all stays (offered_good w g z p a n o x meta l good) lt
full w v (ways.leaves n x) g z p a d c l pend all stays good lt = grind (arith, nat_tests, a.pendings.full d c l)
full w v (ways.quits n x) g z p a d c l pend all stays good lt = grind (arith, nat_tests, a.pendings.full d c l)
full w v (ways.parts n o x) g z p a d c l pend all stays good lt = by_test (d == n)
    (λ t. subst (λ k. v.bit k c l ≡ true) (sym (same_point d n t)) (marked_good v n c l (if_true (d == n) (marks_good v n c) (p.full d c) t all) lt good))
    (λ f. a.pendings.full d c l (if_false (d == n) true (w.pending d) true f pend) (if_false (d == n) (marks_good v n c) (p.full d c) true f all) (if_false (d == n) false (p.moved d c) false f stays) good lt)
full w v (ways.dies n told x) g z p a d c l pend all stays good lt = by_test (d == n)
    (λ t. subst (λ k. v.bit k c l ≡ true) (sym (same_point d n t)) (marked_good v n c l (if_true (d == n) (marks_good v n c) (p.full d c) t all) lt good))
    (λ f. a.pendings.full d c l (if_false (d == n) true (w.pending d) true f pend) (if_false (d == n) (marks_good v n c) (p.full d c) true f all) (if_false (d == n) false (p.moved d c) false f stays) good lt)
full w v (ways.marks n q i x) g z p a d c l pend all stays good lt = page_else w.bit true n q i (w.bitmap n).set d c l (apart_up w g z p a n d x.up pend) (a.pendings.full d c l pend all stays good lt)
full w v (ways.misses_page n q i some x) g z p a d c l pend all stays good lt = page_else w.bit some n q i (w.bitmap n).set d c l (apart_up w g z p a n d x.up pend) (a.pendings.full d c l pend all stays good lt)
full w v (ways.slot_clears n q i r x) g z p a d c l pend all stays good lt = full_cleared w g z p a n q i r true x.all d c l pend all stays good lt
full w v (ways.misses_slot n q i r some x) g z p a d c l pend all stays good lt = full_cleared w g z p a n q i r some x.all d c l pend all stays good lt
full w v (ways.ends_recovery n r x) g z p a d c l pend all stays good lt = grind (arith, nat_tests, a.pendings.full d c l)
full w v x g z p a d c l pend all stays good lt = a.pendings.full d c l pend all stays good lt

pub owed_served : (w v : Part) (x : Way w v) (g : Ghost) (z : Since) (p : Pend) → Known w g z p → OwedServed v (pend_after x p)
owed_served w v (ways.leaves n x) g z p a d c l m pend owed stays e lt other = owed_there w g z p a d c l (grind (arith, nat_tests)) owed stays lt other (serves_before w v (ways.leaves n x) a.sound m l lt e)
owed_served w v (ways.quits n x) g z p a d c l m pend owed stays e lt other = owed_there w g z p a d c l (grind (arith, nat_tests)) owed stays lt other (serves_before w v (ways.quits n x) a.sound m l lt e)
owed_served w v (ways.parts n o x) g z p a d c l m pend owed stays e lt other = by_test (d == n)
    (λ t. subst (λ k. v.bit k c l ≡ true) (sym (same_point d n t)) (marked_served v n c l m (if_true (d == n) (marks_trusted v n c) (p.owed d c) t owed) lt (node_below n m l x.going.node e) e))
    (λ f. owed_there w g z p a d c l (if_false (d == n) true (w.pending d) true f pend) (if_false (d == n) (marks_trusted v n c) (p.owed d c) true f owed) (if_false (d == n) false (p.moved d c) false f stays) lt
    (if_false (d == n) (is_promoted v l) (p.promoted d l) false f other) (serves_before w v (ways.parts n o x) a.sound m l lt e))
  where
    node_below : (n m l : ℕ) → n < 16 → (is_up (with_at w.state n states.Out m) && works (v.view m) l) ≡ true → m < 16
    node_below n m l lt e = by_test (m == n) (λ t. subst (λ j. j < 16) (sym (same_point m n t)) lt) (λ f. below_sixteen (w.state m) m (a.sound.phases.below m) (grind arith))
owed_served w v (ways.dies n told x) g z p a d c l m pend owed stays e lt other = by_test (d == n)
    (λ t. subst (λ k. v.bit k c l ≡ true) (sym (same_point d n t)) (marked_served v n c l m (if_true (d == n) (marks_trusted v n c) (p.owed d c) t owed) lt (node_below n m l x.node e) e))
    (λ f. owed_there w g z p a d c l (if_false (d == n) true (w.pending d) true f pend) (if_false (d == n) (marks_trusted v n c) (p.owed d c) true f owed) (if_false (d == n) false (p.moved d c) false f stays) lt
    (if_false (d == n) (is_promoted v l) (p.promoted d l) false f other) (serves_before w v (ways.dies n told x) a.sound m l lt e))
  where
    node_below : (n m l : ℕ) → n < 16 → (is_up (with_at w.state n states.Out m) && works (v.view m) l) ≡ true → m < 16
    node_below n m l lt e = by_test (m == n) (λ t. subst (λ j. j < 16) (sym (same_point m n t)) lt) (λ f. below_sixteen (w.state m) m (a.sound.phases.below m) (grind arith))
owed_served w v (ways.marks n q i x) g z p a d c l m pend owed stays e lt other = page_else w.bit true n q i (w.bitmap n).set d c l (apart_up w g z p a n d x.up pend) (a.pendings.owed_served d c l m pend owed stays e lt other)
owed_served w v (ways.misses_page n q i some x) g z p a d c l m pend owed stays e lt other = page_else w.bit some n q i (w.bitmap n).set d c l (apart_up w g z p a n d x.up pend) (a.pendings.owed_served d c l m pend owed stays e lt other)
owed_served w v (ways.slot_clears n q i r x) g z p a d c l m pend owed stays e lt other = owed_cleared w g z p a n q i r true x.all d c l pend owed stays (reads m e) lt other
owed_served w v (ways.misses_slot n q i r some x) g z p a d c l m pend owed stays e lt other = owed_cleared w g z p a n q i r some x.all d c l pend owed stays (reads m e) lt other
owed_served w v (ways.ends_recovery n r x) g z p a d c l m pend owed stays e lt other = a.pendings.owed_served d c l m (grind (arith, nat_tests)) owed stays e lt other
owed_served w v (ways.finishes n o x meta) g z p a d c l m pend owed stays e lt other = owed_there w g z p a d c l pend owed stays lt other (serves_before w v (ways.finishes n o x meta) a.sound m l lt e)
owed_served w v (ways.hears_roles n rs size o x meta same) g z p a d c l m pend owed stays e lt other = owed_there w g z p a d c l pend owed stays lt other (serves_before w v (ways.hears_roles n rs size o x meta same) a.sound m l lt e)
owed_served w v (ways.resumes n x) g z p a d c l m pend owed stays e lt other = owed_there w g z p a d c l pend owed stays lt other (serves_before w v (ways.resumes n x) a.sound m l lt e)
owed_served w v (ways.loses n k out up) g z p a d c l m pend owed stays e lt other = owed_there w g z p a d c l pend owed stays lt other (serves_before w v (ways.loses n k out up) a.sound m l lt e)
owed_served w v (ways.joins n x) g z p a d c l m pend owed stays e lt other = owed_there w g z p a d c l pend owed stays lt other (serves_before w v (ways.joins n x) a.sound m l lt e)
owed_served w v (ways.comes n k told lost ranges x) g z p a d c l m pend owed stays e lt other = owed_there w g z p a d c l pend owed stays lt other (serves_before w v (ways.comes n k told lost ranges x) a.sound m l lt e)
owed_served w v x g z p a d c l m pend owed stays e lt other = a.pendings.owed_served d c l m pend owed stays e lt other

pub owed_called : (w v : Part) (x : Way w v) (g : Ghost) (z : Since) (p : Pend) → Known w g z p → OwedCalled v (pend_after x p)
owed_called w v (ways.leaves n x) g z p a d c l k pend owed stays e lt other = a.pendings.owed_called d c l k (grind (arith, nat_tests)) owed stays e lt other
owed_called w v (ways.quits n x) g z p a d c l k pend owed stays e lt other = a.pendings.owed_called d c l k (grind (arith, nat_tests)) owed stays e lt other
owed_called w v (ways.parts n o x) g z p a d c l k pend owed stays e lt other = by_test (d == n)
    (λ t. subst (λ j. v.bit j c l ≡ true) (sym (same_point d n t)) (marked_called v n c l k (if_true (d == n) (marks_trusted v n c) (p.owed d c) t owed) lt (a.pendings.super_leg k (true_le w.completed (number (w.super k)) (left _ (is_working (said_role (w.super k) l)) e))) e))
    (λ f. a.pendings.owed_called d c l k (if_false (d == n) true (w.pending d) true f pend) (if_false (d == n) (marks_trusted v n c) (p.owed d c) true f owed) (if_false (d == n) false (p.moved d c) false f stays) e lt
    (if_false (d == n) (is_promoted v l) (p.promoted d l) false f other))
owed_called w v (ways.dies n told x) g z p a d c l k pend owed stays e lt other = by_test (d == n)
    (λ t. subst (λ j. v.bit j c l ≡ true) (sym (same_point d n t)) (marked_called v n c l k (if_true (d == n) (marks_trusted v n c) (p.owed d c) t owed) lt (a.pendings.super_leg k (true_le w.completed (number (w.super k)) (left _ (is_working (said_role (w.super k) l)) e))) e))
    (λ f. a.pendings.owed_called d c l k (if_false (d == n) true (w.pending d) true f pend) (if_false (d == n) (marks_trusted v n c) (p.owed d c) true f owed) (if_false (d == n) false (p.moved d c) false f stays) e lt
    (if_false (d == n) (is_promoted v l) (p.promoted d l) false f other))
owed_called w v (ways.marks n q i x) g z p a d c l k pend owed stays e lt other = page_else w.bit true n q i (w.bitmap n).set d c l (apart_up w g z p a n d x.up pend) (a.pendings.owed_called d c l k pend owed stays e lt other)
owed_called w v (ways.misses_page n q i some x) g z p a d c l k pend owed stays e lt other = page_else w.bit some n q i (w.bitmap n).set d c l (apart_up w g z p a n d x.up pend) (a.pendings.owed_called d c l k pend owed stays e lt other)
owed_called w v (ways.slot_clears n q i r x) g z p a d c l k pend owed stays e lt other = owed_cleared w g z p a n q i r true x.all d c l pend owed stays (says k e) lt other
owed_called w v (ways.misses_slot n q i r some x) g z p a d c l k pend owed stays e lt other = owed_cleared w g z p a n q i r some x.all d c l pend owed stays (says k e) lt other
owed_called w v (ways.ends_recovery n r x) g z p a d c l k pend owed stays e lt other = a.pendings.owed_called d c l k (grind (arith, nat_tests)) owed stays e lt other
owed_called w v (ways.writes_super n i o x) g z p a d c l k pend owed stays e lt other = owed_there w g z p a d c l pend owed stays lt other (calls_before w v (ways.writes_super n i o x) a.sound k l e)
owed_called w v (ways.leaves_super n i o x) g z p a d c l k pend owed stays e lt other = owed_there w g z p a d c l pend owed stays lt other (calls_before w v (ways.leaves_super n i o x) a.sound k l e)
owed_called w v (ways.finishes n o x meta) g z p a d c l k pend owed stays e lt other = owed_there w g z p a d c l pend owed stays lt other (calls_before w v (ways.finishes n o x meta) a.sound k l e)
owed_called w v x g z p a d c l k pend owed stays e lt other = a.pendings.owed_called d c l k pend owed stays e lt other
