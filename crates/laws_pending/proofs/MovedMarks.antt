-- Each way keeps the marks of what a recovery moved from a pending slot.
use Rattle.std.proofs.Common.{◌≡◌, ℕ, ◌==◌, ◌<◌, ◌&&◌, ◌||◌, Bool, true, false, if◌then◌else◌, Option, Some, None, refl, sym, ap, subst, ◌∙◌, arith}
use Rattle.std.specs.Prelude.{is_some}
use Rattle.std.proofs.lemmas.Bool.Decides.{nat_tests}
use Rattle.dlm_modes.specs.Points.{with_at}
use Rattle.node_recovery.specs.Progress.{Recovering, begun}
use Rattle.storage_ways.proofs.Parts.{Part, chunk_in, recovers, found_in, with_page_if}
use Rattle.storage_ways.proofs.Ways as ways
use Rattle.storage_ways.proofs.Ways.{Way, SlotClears, EndsRecovery, AllRead}
use Rattle.laws_writes.proofs.Ghosts.{Ghost}
use Rattle.laws_writes.proofs.Settled.{Since, since_after}
use Rattle.laws_pending.proofs.Found.{up_settled, live_settled, heir_there}
use Rattle.laws_pending.proofs.Ghosts.{Pend, pend_after, marks_good}
use Rattle.laws_pending.proofs.Gone.{good_marked}
use Rattle.laws_pending.proofs.Known.{Known}
use Rattle.laws_pending.proofs.MarkSteps.{page_else, offered_good, wish_good}
use Rattle.laws_pending.proofs.MovedSteps.{Moved, heir_needs, none_moved, found_marked, same_heir, heir_else, heir_ends, gone_moved, died_moved, begun_moved, moved_or, settled_else, not_died}
use Rattle.laws_pending.proofs.Pending.{MovedKept, MovedBit, MovedHeir, MovedFull}
use Rattle.laws_pending.proofs.Points.{at_point, clash, same_point, apart_sym, by_test, if_false}

found_else : (recovery : ℕ → Option Recovering) (n m c : ℕ) (y : Option Recovering) → (m == n) ≡ false → found_in (recovery m) c ≡ true → found_in (with_at recovery n y m) c ≡ true
found_else recovery n m c y apart old = grind (arith, apart)

or_more : (a b : Bool) → a ≡ true → (a || b) ≡ true
or_more a b e = grind arith

-- a recovery that goes on has found no less
found_kept : (recovery : ℕ → Option Recovering) (n m c : ℕ) (r y : Recovering) → recovery n ≡ Some r → (r.found c ≡ true → y.found c ≡ true) → found_in (recovery m) c ≡ true → found_in (with_at recovery n (Some y) m) c ≡ true
found_kept recovery n m c r y rec more = at_point (λ x. found_in (recovery m) c ≡ true → found_in x c ≡ true) recovery n (Some y) m
    (λ is old. more (sym (ap (λ x. found_in x c) rec) ∙ sym (ap (λ j. found_in (recovery j) c) is) ∙ old)) (λ apart old. old)

found_now : (recovery : ℕ → Option Recovering) (n m c : ℕ) (y : Recovering) → m ≡ n → y.found c ≡ true → found_in (with_at recovery n (Some y) m) c ≡ true
found_now recovery n m c y is found = grind (arith, nat_tests)

found_there : (recovery : ℕ → Option Recovering) (n m c : ℕ) (r : Recovering) → recovery n ≡ Some r → m ≡ n → r.found c ≡ true → found_in (recovery m) c ≡ true
found_there recovery n m c r rec is found = ap (λ j. found_in (recovery j) c) is ∙ ap (λ x. found_in x c) rec ∙ found

heir_begun : (y : Option ℕ) (d e n h : ℕ) → (d == e) ≡ false → (if d == e then Some n else y) ≡ Some h → y ≡ Some h
heir_begun y d e n h f t = grind arith

heir_now : (y : Option ℕ) (d e n h : ℕ) → (d == e) ≡ true → (if d == e then Some n else y) ≡ Some h → n ≡ h
heir_now y d e n h f t = grind arith

heir_ended : (y : Option ℕ) (d e h : ℕ) (pend : Bool) → (if d == e then false else pend) ≡ true → (if d == e then None else y) ≡ Some h → y ≡ Some h
heir_ended y d e h pend e1 t = grind arith

not_ended : (d e : ℕ) (y : Bool) → (if d == e then false else y) ≡ true → (d == e) ≡ false
not_ended d e y t = grind arith

was_pending : (pending : ℕ → Bool) (n h : ℕ) → with_at pending n false h ≡ true → pending h ≡ true
was_pending pending n h e = grind arith

page_kept : (bit : ℕ → ℕ → ℕ → Bool) (some : Bool) (k q i : ℕ) (set : ℕ → Bool) (j c x : ℕ) → ((j == k) ≡ true → set c ≡ true) → bit j c x ≡ true → with_page_if some bit k q i set j c x ≡ true
page_kept bit some k q i set j c x has old = grind (arith, has)

module _ (w : Part) (g : Ghost) (z : Since) (p : Pend) (a : Known w g z p) where
  -- a node that ends a recovery is the heir of no other slot from which something was moved
  ended_apart : (n d h s : ℕ) (r : Recovering) → EndsRecovery w n r → Moved w z p d s → w.heir d ≡ Some h → w.pending h ≡ false → (d == r.slot) ≡ false → (h == n) ≡ false
  ended_apart n d h s r x m heir settled apart = by_test (h == n)
      (λ t.
      let was = a.pendings.moved_found d h s m.pending m.within m.moved m.unsettled heir settled in
      let same : (r.slot == d) ≡ true = sym (ap (λ y. recovers y d) (ap (λ j. w.recovery j) (same_point h n t) ∙ x.all.opened.recovery)) ∙ was in
      absurd (clash (r.slot == d) same (apart_sym d r.slot apart)))
      (λ f. f)

  -- the heir's page has what was moved
  heir_set : (n d h s : ℕ) → Moved w z p d s → w.heir d ≡ Some h → w.pending h ≡ false → (h == n) ≡ true → (w.bitmap n).set (chunk_in w s) ≡ true
  heir_set n d h s m heir settled t =
      subst (λ j. (w.bitmap j).set (chunk_in w s) ≡ true) (same_point h n t) (a.bits.need_set h (chunk_in w s) (heir_needs w g z p a d h s m heir settled))

  -- the page of the slot that is recovered is no live heir's
  bit_cleared : (n q i d h s l : ℕ) (r : Recovering) (some : Bool) → SlotClears w n q i r → w.pending d ≡ true → s < w.geometry.room
      → (if (d == r.slot) && r.found (chunk_in w s) then true else p.moved d (chunk_in w s)) ≡ true → z.since d s ≡ false → w.heir d ≡ Some h → w.pending h ≡ false → w.ghost.good l ≡ true
      → with_page_if some w.bit r.slot q i (λ c. false) h (chunk_in w s) l ≡ true
  bit_cleared n q i d h s l r some x pend lt moved new heir settled good = page_else w.bit some r.slot q i (λ c. false) h (chunk_in w s) l not_slot
      (moved_or (d == r.slot) (r.found (chunk_in w s)) (p.moved d (chunk_in w s)) moved
      (λ t found.
      let same = same_heir w g z p a n h r x.all.opened.recovery (subst (λ k. w.heir k ≡ Some h) (same_point d r.slot t) heir) in
      subst (λ j. w.bit j (chunk_in w s) l ≡ true) (sym same) (found_marked w g z p a n q i s l r x lt (subst (λ k. z.since k s ≡ false) (same_point d r.slot t) new) found good))
      (λ old. a.pendings.moved_bit d h s l pend lt old new heir settled good))
    where
      not_slot : (h == r.slot) ≡ false
      not_slot = by_test (h == r.slot) (λ t. absurd (clash (w.pending r.slot) x.all.opened.pending (subst (λ k. w.pending k ≡ false) (same_point h r.slot t) settled))) (λ f. f)

  -- who dies leaves a slot that marks what was moved to it
  full_died : (n d h s : ℕ) (full : Bool) → w.live n ≡ true → Moved w z p d s → w.heir d ≡ Some h → with_at w.pending n true h ≡ true
      → (((l : ℕ) → w.ghost.good l ≡ true → w.bit n (chunk_in w s) l ≡ true) → full ≡ true) → (if h == n then full else p.full h (chunk_in w s)) ≡ true
  full_died n d h s full live m heir pend all = by_test (h == n)
      (λ t. to_true (h == n) full (p.full h (chunk_in w s)) t
      (all (λ l good. a.pendings.moved_bit d n s l m.pending m.within m.moved m.unsettled (heir ∙ ap Some (same_point h n t)) (live_settled w g z p a n live) good)))
      (λ f. to_false (h == n) full (p.full h (chunk_in w s)) f (a.pendings.moved_full d h s m.pending m.within m.moved m.unsettled heir (if_false (h == n) true (w.pending h) true f pend)))
    where
      to_true : (b x y : Bool) → b ≡ true → x ≡ true → (if b then x else y) ≡ true
      to_true b x y t e = grind arith

      to_false : (b x y : Bool) → b ≡ false → y ≡ true → (if b then x else y) ≡ true
      to_false b x y f e = grind arith

pub moved_kept : (w v : Part) (x : Way w v) (g : Ghost) (z : Since) (p : Pend) → Known w g z p → MovedKept v (since_after x z) (pend_after x p)
moved_kept w v (ways.leaves n x) g z p a d h s pend lt moved new heir settled =
    let m = gone_moved w g z p a n d s pend lt moved new in
    let apart = heir_else w g z p a n d h s x.going.recovery (live_settled w g z p a n x.going.live) m heir in
    found_else w.recovery n h (chunk_in w s) None apart (a.pendings.moved_kept d h s m.pending lt moved new heir (if_false (h == n) false (w.pending h) false apart settled))
moved_kept w v (ways.quits n x) g z p a d h s pend lt moved new heir settled =
    let m = gone_moved w g z p a n d s pend lt moved new in
    let apart = heir_else w g z p a n d h s x.going.recovery (live_settled w g z p a n x.going.live) m heir in
    found_else w.recovery n h (chunk_in w s) None apart (a.pendings.moved_kept d h s m.pending lt moved new heir (if_false (h == n) false (w.pending h) false apart settled))
moved_kept w v (ways.parts n o x) g z p a d h s pend lt moved new heir settled =
    let m = (died_moved w g z p a n d s pend lt moved new).0 in
    let apart = not_died w.pending n h settled in
    found_else w.recovery n h (chunk_in w s) None apart (a.pendings.moved_kept d h s m.pending lt m.moved m.unsettled heir (if_false (h == n) true (w.pending h) false apart settled))
moved_kept w v (ways.dies n told x) g z p a d h s pend lt moved new heir settled =
    let m = (died_moved w g z p a n d s pend lt moved new).0 in
    let apart = not_died w.pending n h settled in
    found_else w.recovery n h (chunk_in w s) None apart (a.pendings.moved_kept d h s m.pending lt m.moved m.unsettled heir (if_false (h == n) true (w.pending h) false apart settled))
moved_kept w v (ways.settles n q b x) g z p a d h s pend lt moved new heir settled = a.pendings.moved_kept d h s pend lt moved (settled_else (s == b.sector) (z.since d s) new) heir settled
moved_kept w v (ways.recovers_slot n e x) g z p a d h s pend lt moved new heir settled =
    let m = begun_moved w g z p a n d s x.up pend lt moved new in
    by_test (d == e)
    (λ t. absurd (none_moved w g z p a n e s x (subst (λ k. Moved w z p k s) (same_point d e t) m)))
    (λ f. let old = heir_begun (w.heir d) d e n h f heir in
    let apart = heir_else w g z p a n d h s x.recovery (up_settled w g z p a n x.up) m old in
    found_else w.recovery n h (chunk_in w s) (Some (begun e)) apart (a.pendings.moved_kept d h s m.pending lt moved m.unsettled old settled))
moved_kept w v (ways.slot_reads n q i r has x) g z p a d h s pend lt moved new heir settled =
    found_kept w.recovery n h (chunk_in w s) r _ x.opened.recovery (or_more (r.found (chunk_in w s)) (has (chunk_in w s))) (a.pendings.moved_kept d h s pend lt moved new heir settled)
moved_kept w v (ways.slot_clears n q i r x) g z p a d h s pend lt moved new heir settled = moved_or (d == r.slot) (r.found (chunk_in w s)) (p.moved d (chunk_in w s)) moved
    (λ t found. let same = same_heir w g z p a n h r x.all.opened.recovery (subst (λ k. w.heir k ≡ Some h) (same_point d r.slot t) heir) in found_now w.recovery n h (chunk_in w s) _ same found)
    (λ old. found_kept w.recovery n h (chunk_in w s) r _ x.all.opened.recovery (λ e. e) (a.pendings.moved_kept d h s pend lt old new heir settled))
moved_kept w v (ways.misses_slot n q i r some x) g z p a d h s pend lt moved new heir settled = moved_or (d == r.slot) (r.found (chunk_in w s)) (p.moved d (chunk_in w s)) moved
    (λ t found. let same = same_heir w g z p a n h r x.all.opened.recovery (subst (λ k. w.heir k ≡ Some h) (same_point d r.slot t) heir) in found_there w.recovery n h (chunk_in w s) r x.all.opened.recovery same found)
    (λ old. a.pendings.moved_kept d h s pend lt old new heir settled)
moved_kept w v (ways.ends_recovery n r x) g z p a d h s pend lt moved new heir settled =
    let m = gone_moved w g z p a r.slot d s pend lt moved new in
    let old = heir_ended (w.heir d) d r.slot h (w.pending d) pend heir in
    let live = if_false (h == r.slot) false (w.pending h) false (heir_ends w g z p a n d h s r x m old) settled in
    found_else w.recovery n h (chunk_in w s) None (ended_apart w g z p a n d h s r x m old live (not_ended d r.slot (w.pending d) pend)) (a.pendings.moved_kept d h s m.pending lt moved new old live)
moved_kept w v x g z p a d h s pend lt moved new heir settled = a.pendings.moved_kept d h s pend lt moved new heir settled

pub moved_bit : (w v : Part) (x : Way w v) (g : Ghost) (z : Since) (p : Pend) → Known w g z p → MovedBit v (since_after x z) (pend_after x p)
moved_bit w v (ways.offers n o x) g z p a d h s l pend lt moved new heir settled good = a.pendings.moved_bit d h s l pend lt moved new heir settled (wish_good w g z p a n d o x pend l good)
moved_bit w v (ways.finishes n o x meta) g z p a d h s l pend lt moved new heir settled good = a.pendings.moved_bit d h s l pend lt moved new heir settled (offered_good w g z p a n o x meta l good)
moved_bit w v (ways.leaves n x) g z p a d h s l pend lt moved new heir settled good =
    let m = gone_moved w g z p a n d s pend lt moved new in
    let apart = heir_else w g z p a n d h s x.going.recovery (live_settled w g z p a n x.going.live) m heir in
    a.pendings.moved_bit d h s l m.pending lt moved new heir (if_false (h == n) false (w.pending h) false apart settled) good
moved_bit w v (ways.quits n x) g z p a d h s l pend lt moved new heir settled good =
    let m = gone_moved w g z p a n d s pend lt moved new in
    let apart = heir_else w g z p a n d h s x.going.recovery (live_settled w g z p a n x.going.live) m heir in
    a.pendings.moved_bit d h s l m.pending lt moved new heir (if_false (h == n) false (w.pending h) false apart settled) good
moved_bit w v (ways.parts n o x) g z p a d h s l pend lt moved new heir settled good =
    let m = (died_moved w g z p a n d s pend lt moved new).0 in
    a.pendings.moved_bit d h s l m.pending lt m.moved m.unsettled heir (if_false (h == n) true (w.pending h) false (not_died w.pending n h settled) settled) good
moved_bit w v (ways.dies n told x) g z p a d h s l pend lt moved new heir settled good =
    let m = (died_moved w g z p a n d s pend lt moved new).0 in
    a.pendings.moved_bit d h s l m.pending lt m.moved m.unsettled heir (if_false (h == n) true (w.pending h) false (not_died w.pending n h settled) settled) good
moved_bit w v (ways.settles n q b x) g z p a d h s l pend lt moved new heir settled good = a.pendings.moved_bit d h s l pend lt moved (settled_else (s == b.sector) (z.since d s) new) heir settled good
moved_bit w v (ways.marks n q i x) g z p a d h s l pend lt moved new heir settled good =
    let m : Moved w z p d s = record { pending = pend; within = lt; moved = moved; unsettled = new } in
    page_kept w.bit true n q i (w.bitmap n).set h (chunk_in w s) l (heir_set w g z p a n d h s m heir settled) (a.pendings.moved_bit d h s l pend lt moved new heir settled good)
moved_bit w v (ways.misses_page n q i some x) g z p a d h s l pend lt moved new heir settled good =
    let m : Moved w z p d s = record { pending = pend; within = lt; moved = moved; unsettled = new } in
    page_kept w.bit some n q i (w.bitmap n).set h (chunk_in w s) l (heir_set w g z p a n d h s m heir settled) (a.pendings.moved_bit d h s l pend lt moved new heir settled good)
moved_bit w v (ways.recovers_slot n e x) g z p a d h s l pend lt moved new heir settled good =
    let m = begun_moved w g z p a n d s x.up pend lt moved new in
    by_test (d == e)
    (λ t. absurd (none_moved w g z p a n e s x (subst (λ k. Moved w z p k s) (same_point d e t) m)))
    (λ f. a.pendings.moved_bit d h s l m.pending lt moved m.unsettled (heir_begun (w.heir d) d e n h f heir) settled good)
moved_bit w v (ways.slot_clears n q i r x) g z p a d h s l pend lt moved new heir settled good = bit_cleared w g z p a n q i d h s l r true x pend lt moved new heir settled good
moved_bit w v (ways.misses_slot n q i r some x) g z p a d h s l pend lt moved new heir settled good = bit_cleared w g z p a n q i d h s l r some x pend lt moved new heir settled good
moved_bit w v (ways.ends_recovery n r x) g z p a d h s l pend lt moved new heir settled good =
    let m = gone_moved w g z p a r.slot d s pend lt moved new in
    let old = heir_ended (w.heir d) d r.slot h (w.pending d) pend heir in
    a.pendings.moved_bit d h s l m.pending lt moved new old (if_false (h == r.slot) false (w.pending h) false (heir_ends w g z p a n d h s r x m old) settled) good
moved_bit w v x g z p a d h s l pend lt moved new heir settled good = a.pendings.moved_bit d h s l pend lt moved new heir settled good

pub moved_heir : (w v : Part) (x : Way w v) (g : Ghost) (z : Since) (p : Pend) → Known w g z p → MovedHeir v (since_after x z) (pend_after x p)
moved_heir w v (ways.leaves n x) g z p a d s pend lt moved new = a.pendings.moved_heir d s (gone_moved w g z p a n d s pend lt moved new).pending lt moved new
moved_heir w v (ways.quits n x) g z p a d s pend lt moved new = a.pendings.moved_heir d s (gone_moved w g z p a n d s pend lt moved new).pending lt moved new
moved_heir w v (ways.parts n o x) g z p a d s pend lt moved new = let m = (died_moved w g z p a n d s pend lt moved new).0 in a.pendings.moved_heir d s m.pending lt m.moved m.unsettled
moved_heir w v (ways.dies n told x) g z p a d s pend lt moved new = let m = (died_moved w g z p a n d s pend lt moved new).0 in a.pendings.moved_heir d s m.pending lt m.moved m.unsettled
moved_heir w v (ways.settles n q b x) g z p a d s pend lt moved new = a.pendings.moved_heir d s pend lt moved (settled_else (s == b.sector) (z.since d s) new)
moved_heir w v (ways.recovers_slot n e x) g z p a d s pend lt moved new = at_point (λ (y : Option ℕ). is_some y ≡ true) w.heir e (Some n) d
    (λ is. refl) (λ f. let m = begun_moved w g z p a n d s x.up pend lt moved new in a.pendings.moved_heir d s m.pending lt moved m.unsettled)
moved_heir w v (ways.slot_clears n q i r x) g z p a d s pend lt moved new = moved_or (d == r.slot) (r.found (chunk_in w s)) (p.moved d (chunk_in w s)) moved
    (λ t found. ap (λ k. is_some (w.heir k)) (same_point d r.slot t) ∙ ap is_some (heir_there w g z p a n r x.all.opened.recovery)) (λ old. a.pendings.moved_heir d s pend lt old new)
moved_heir w v (ways.misses_slot n q i r some x) g z p a d s pend lt moved new = moved_or (d == r.slot) (r.found (chunk_in w s)) (p.moved d (chunk_in w s)) moved
    (λ t found. ap (λ k. is_some (w.heir k)) (same_point d r.slot t) ∙ ap is_some (heir_there w g z p a n r x.all.opened.recovery)) (λ old. a.pendings.moved_heir d s pend lt old new)
moved_heir w v (ways.ends_recovery n r x) g z p a d s pend lt moved new = at_point (λ (y : Option ℕ). is_some y ≡ true) w.heir r.slot None d
    (λ is. absurd (gone is pend)) (λ f. a.pendings.moved_heir d s (gone_moved w g z p a r.slot d s pend lt moved new).pending lt moved new)
  where
    gone : d ≡ r.slot → with_at w.pending r.slot false d ≡ true → ⊥
    gone is e = grind (arith, nat_tests)
moved_heir w v x g z p a d s pend lt moved new = a.pendings.moved_heir d s pend lt moved new

pub moved_full : (w v : Part) (x : Way w v) (g : Ghost) (z : Since) (p : Pend) → Known w g z p → MovedFull v (since_after x z) (pend_after x p)
moved_full w v (ways.leaves n x) g z p a d h s pend lt moved new heir gone = a.pendings.moved_full d h s (gone_moved w g z p a n d s pend lt moved new).pending lt moved new heir (was_pending w.pending n h gone)
moved_full w v (ways.quits n x) g z p a d h s pend lt moved new heir gone = a.pendings.moved_full d h s (gone_moved w g z p a n d s pend lt moved new).pending lt moved new heir (was_pending w.pending n h gone)
moved_full w v (ways.parts n o x) g z p a d h s pend lt moved new heir gone =
    full_died w g z p a n d h s (marks_good v n (chunk_in w s)) x.going.live (died_moved w g z p a n d s pend lt moved new).0 heir gone (good_marked v n (chunk_in w s))
moved_full w v (ways.dies n told x) g z p a d h s pend lt moved new heir gone =
    full_died w g z p a n d h s (marks_good v n (chunk_in w s)) x.live (died_moved w g z p a n d s pend lt moved new).0 heir gone (good_marked v n (chunk_in w s))
moved_full w v (ways.settles n q b x) g z p a d h s pend lt moved new heir gone = a.pendings.moved_full d h s pend lt moved (settled_else (s == b.sector) (z.since d s) new) heir gone
moved_full w v (ways.recovers_slot n e x) g z p a d h s pend lt moved new heir gone =
    let m = begun_moved w g z p a n d s x.up pend lt moved new in
    by_test (d == e)
    (λ t. absurd (clash (w.pending n) (subst (λ k. w.pending k ≡ true) (sym (heir_now (w.heir d) d e n h t heir)) gone) (up_settled w g z p a n x.up)))
    (λ f. a.pendings.moved_full d h s m.pending lt moved m.unsettled (heir_begun (w.heir d) d e n h f heir) gone)
moved_full w v (ways.slot_clears n q i r x) g z p a d h s pend lt moved new heir gone = moved_or (d == r.slot) (r.found (chunk_in w s)) (p.moved d (chunk_in w s)) moved
    (λ t found. let same = same_heir w g z p a n h r x.all.opened.recovery (subst (λ k. w.heir k ≡ Some h) (same_point d r.slot t) heir) in
    absurd (clash (w.pending n) (subst (λ k. w.pending k ≡ true) same gone) (up_settled w g z p a n x.all.opened.up)))
    (λ old. a.pendings.moved_full d h s pend lt old new heir gone)
moved_full w v (ways.misses_slot n q i r some x) g z p a d h s pend lt moved new heir gone = moved_or (d == r.slot) (r.found (chunk_in w s)) (p.moved d (chunk_in w s)) moved
    (λ t found. let same = same_heir w g z p a n h r x.all.opened.recovery (subst (λ k. w.heir k ≡ Some h) (same_point d r.slot t) heir) in
    absurd (clash (w.pending n) (subst (λ k. w.pending k ≡ true) same gone) (up_settled w g z p a n x.all.opened.up)))
    (λ old. a.pendings.moved_full d h s pend lt old new heir gone)
moved_full w v (ways.ends_recovery n r x) g z p a d h s pend lt moved new heir gone =
    a.pendings.moved_full d h s (gone_moved w g z p a r.slot d s pend lt moved new).pending lt moved new (heir_ended (w.heir d) d r.slot h (w.pending d) pend heir) (was_pending w.pending r.slot h gone)
moved_full w v x g z p a d h s pend lt moved new heir gone = a.pendings.moved_full d h s pend lt moved new heir gone
