-- Each way keeps in the set of a live node, or of a recoverer that found it, what a leg missed.
use Rattle.std.proofs.Common.{◌≡◌, ℕ, ◌==◌, ◌||◌, Bool, true, false, if◌then◌else◌, Option, Some, None, refl, sym, ap, subst, ◌∙◌, arith}
use Rattle.std.proofs.lemmas.Bool.Decides.{nat_tests}
use Rattle.dlm_modes.specs.Points.{with_at}
use Rattle.mdc_types.specs.Geometry.{Sizes}
use Rattle.mdc_types.specs.Roles.{is_faulty}
use Rattle.disk_addition.specs.Additions.{after}
use Rattle.node_bitmaps.specs.Bitmap.{Bitmap, found_page}
use Rattle.node_recovery.specs.Progress.{Recovering, with_cleared, with_read, with_found}
use Rattle.resync_worker.specs.Copying.{completes}
use Rattle.resync_worker.specs.declared.buffer.Buffer.{Buffer}
use Rattle.cluster_model.specs.Bits.{is_degraded}
use Rattle.cluster_model.specs.Copying.{need_met}
use Rattle.cluster_model.specs.Gathering.{is_again_of}
use Rattle.cluster_model.specs.Phases.{is_up, is_metadata}
use Rattle.cluster_model.specs.State.{Offer}
use Rattle.storage_ways.proofs.Parts.{Part, chunk_in, recovers, found_in}
use Rattle.storage_ways.proofs.Roled.{acked_degraded}
use Rattle.storage_ways.proofs.Ways as ways
use Rattle.storage_ways.proofs.Ways.{Way, Clearing, AllRead}
use Rattle.laws_writes.proofs.Ghosts.{Ghost, ghost_after}
use Rattle.laws_writes.proofs.Recoverers.{slot_down}
use Rattle.laws_writes.proofs.Settled.{Since}
use Rattle.laws_recovery.proofs.Decided.{decided_set, decided_read}
use Rattle.laws_recovery.proofs.Found.{was_faulty, missed_set}
use Rattle.laws_recovery.proofs.Ghosts.{Hold, hold_after}
use Rattle.laws_recovery.proofs.Known.{Known}
use Rattle.laws_recovery.proofs.Lacks.{lacks_tried, lacks_copied, decides_end, decides_settle, buffer_is}
use Rattle.laws_recovery.proofs.Marked.{wish_missed}
use Rattle.laws_writes.proofs.Points.{at_point, either_if, same_point, clash}
use Rattle.laws_recovery.proofs.Stale.{HolderSet, HolderRead, lacks}

-- a chunk stays in the sets
pub more_set : (f : ℕ → Bitmap) (n : ℕ) (b : Bitmap) (k c : ℕ) → ((f n).set c ≡ true → b.set c ≡ true) → (f k).set c ≡ true → (with_at f n b k).set c ≡ true
more_set f n b k c more old = at_point (λ (m : Bitmap). m.set c ≡ true) f n b k (λ is. more (subst (λ j. (f j).set c ≡ true) is old)) (λ e. old)

pub entered_set : (set : ℕ → Bool) (c d : ℕ) → set d ≡ true → with_at set c true d ≡ true
entered_set set c d e = grind (arith, nat_tests)

pub met_set : (m : Bitmap) (g : Sizes) (b : Buffer) (c : ℕ) → m.set c ≡ true → (need_met m (completes g b)).set c ≡ true
met_set m g b c e = by (completes g b)
  where
    by : (x : Option ℕ) → (need_met m x).set c ≡ true
    by None = e
    by (Some d) = e

more_or : (a b : Bool) → a ≡ true → (a || b) ≡ true
more_or a b e = grind arith

or_true : (a b : Bool) → b ≡ true → (a || b) ≡ true
or_true a b e = grind arith

module _ (w : Part) (g : Ghost) (h : Hold) (z : Since) (a : Known w g h z) where
  -- who may clear a chunk knows that no leg missed anything
  none_missed : (n c : ℕ) → Clearing w n c → (l : ℕ) → w.ghost.missed l ≡ true → ⊥
  none_missed n c e l missed =
      clash (is_degraded (w.view n) l) (acked_degraded w a.sound n l e.up e.acked ∙ a.sound.additions.missed_role l missed) (e.whole l)

  was_missed : (n : ℕ) (o : Offer) → ways.Whole w n o → is_metadata o.wish ≡ true → (l s : ℕ) → (is_faulty (o.role l) || is_again_of (after (w.adding n).addition o.wish) l) ≡ true → lacks w g l s ≡ true → w.ghost.missed l ≡ true
  was_missed n o x meta l s missed lack = a.sound.additions.faulty_missed l (was_faulty w g h z a n o x meta l s missed lack)

  -- a recoverer has what it answers for from now on
  more_held : (n l s : ℕ) (r : Recovering) → AllRead w n r → w.ghost.missed l ≡ true → lacks w g l s ≡ true → (b : Bitmap) → ((c : ℕ) → (w.bitmap r.slot).set c ≡ true → b.set c ≡ true)
      → w.live (if h.hold l s == r.slot then n else h.hold l s) ≡ true → (with_at w.bitmap r.slot b (if h.hold l s == r.slot then n else h.hold l s)).set (chunk_in w s) ≡ true
  more_held n l s r x missed lack b more = either_if (λ k. w.live k ≡ true → (with_at w.bitmap r.slot b k).set (chunk_in w s) ≡ true) (h.hold l s == r.slot) n (h.hold l s)
      (λ is live. more_set w.bitmap r.slot b n (chunk_in w s) (more (chunk_in w s)) (missed_set w g h z a n l s r x missed lack (same_point (h.hold l s) r.slot is)))
      (λ apart live. more_set w.bitmap r.slot b (h.hold l s) (chunk_in w s) (more (chunk_in w s)) (a.stale.holder_set l s missed lack live))

pub holder_set : (w v : Part) (x : Way w v) (g : Ghost) (h : Hold) (z : Since) → Known w g h z → HolderSet v (ghost_after x g) (hold_after x g h)
holder_set w v (ways.joins n x) g h z a l s missed lack live = grind (arith, nat_tests, a.stale.holder_set l s missed lack, a.stale.holder l s missed lack, x.dead, x.recovered)
holder_set w v (ways.leaves n x) g h z a l s missed lack live = grind (arith, nat_tests, a.stale.holder_set l s missed lack)
holder_set w v (ways.quits n x) g h z a l s missed lack live = grind (arith, nat_tests, a.stale.holder_set l s missed lack)
holder_set w v (ways.parts n o x) g h z a l s missed lack live = grind (arith, nat_tests, a.stale.holder_set l s missed lack)
holder_set w v (ways.dies n told x) g h z a l s missed lack live = grind (arith, nat_tests, a.stale.holder_set l s missed lack)
holder_set w v (ways.offers n o x) g h z a l s missed lack live = a.stale.holder_set l s (sym (wish_missed w.ghost o.wish l) ∙ missed) lack live
holder_set w v (ways.finishes n o x meta) g h z a l s missed lack live = more_set w.bitmap n _ (h.hold l s) (chunk_in w s) (λ e. e) (a.stale.holder_set l s (was_missed w g h z a n o x meta l s missed lack) lack live)
holder_set w v (ways.hears_roles n roles size o e meta same) g h z a l s missed lack live = more_set w.bitmap n _ (h.hold l s) (chunk_in w s) (λ e. e) (a.stale.holder_set l s missed lack live)
holder_set w v (ways.comes n k says lost ranges e) g h z a l s missed lack live = more_set w.bitmap n _ (h.hold l s) (chunk_in w s) (λ e. e) (a.stale.holder_set l s missed lack live)
holder_set w v (ways.asks n t k u new e) g h z a l s missed lack live = more_set w.bitmap n _ (h.hold l s) (chunk_in w s) (entered_set (w.bitmap n).set (chunk_in w t) (chunk_in w s)) (a.stale.holder_set l s missed lack live)
holder_set w v (ways.outs n k i x t) g h z a l s missed lack live = a.stale.holder_set l s missed (lacks_tried w g a.contents n k i x true t l s lack) live
holder_set w v (ways.misses n k i x left t) g h z a l s missed lack live = a.stale.holder_set l s missed (lacks_tried w g a.contents n k i x left t l s lack) live
holder_set w v (ways.ends n k x e) g h z a l s missed lack live = more_set w.bitmap n _ ((hold_after (ways.ends n k x e) g h).hold l s) (chunk_in w s) (λ e. e)
    (decided_set w g h z a n x.sector x.value (decides_end w g a.sound a.contents n k x e) l s missed lack live)
holder_set w v (ways.breaks n k x e) g h z a l s missed lack live = more_set w.bitmap n _ (h.hold l s) (chunk_in w s) (λ e. e) (a.stale.holder_set l s missed lack live)
holder_set w v (ways.marks n p i e) g h z a l s missed lack live = more_set w.bitmap n _ (h.hold l s) (chunk_in w s) (λ e. e) (a.stale.holder_set l s missed lack live)
holder_set w v (ways.misses_page n p i left e) g h z a l s missed lack live = more_set w.bitmap n _ (h.hold l s) (chunk_in w s) (λ e. e) (a.stale.holder_set l s missed lack live)
holder_set w v (ways.clears n c e) g h z a l s missed lack live = absurd (none_missed w g h z a n c e l missed)
holder_set w v (ways.copies n i p b e) g h z a l s missed lack live = a.stale.holder_set l s missed (lacks_copied w g i b.sector b.value true (a.stale.buffer_value n b (buffer_is w n p b e.buffers)) l s lack) live
holder_set w v (ways.misses_copy n i p b left e) g h z a l s missed lack live = a.stale.holder_set l s missed (lacks_copied w g i b.sector b.value left (a.stale.buffer_value n b (buffer_is w n p b e.buffers)) l s lack) live
holder_set w v (ways.settles n p b e) g h z a l s missed lack live = more_set w.bitmap n _ ((hold_after (ways.settles n p b e) g h).hold l s) (chunk_in w s) (met_set (w.bitmap n) w.geometry b (chunk_in w s))
    (decided_set w g h z a n b.sector b.value (decides_settle w g a.contents a.stale.buffer_value n p b e) l s missed lack live)
holder_set w v (ways.slot_reads n p i r has e) g h z a l s missed lack live = more_set w.bitmap n _ (h.hold l s) (chunk_in w s) (more_or ((w.bitmap n).set (chunk_in w s)) (has (chunk_in w s))) (a.stale.holder_set l s missed lack live)
holder_set w v (ways.slot_clears n p i r e) g h z a l s missed lack live = more_held w g h z a n l s r e.all missed lack _ (λ c set. set) live
holder_set w v (ways.misses_slot n p i r left e) g h z a l s missed lack live = more_held w g h z a n l s r e.all missed lack _ (λ c set. set) live
holder_set w v x g h z a l s missed lack live = a.stale.holder_set l s missed lack live

module _ (w : Part) (g : Ghost) (h : Hold) (z : Since) (a : Known w g h z) where
  -- nobody recovers the slot of an up node
  not_recovered : (n m : ℕ) → is_up (w.state n) ≡ true → recovers (w.recovery m) n ≡ true → ⊥
  not_recovered n m up e = clash (is_up (w.state n)) up (slot_down w a.sound m n e)

  read_set : (n p i : ℕ) (r : Recovering) (has : ℕ → Bool) → w.recovery n ≡ Some r → (l s m : ℕ) → w.ghost.missed l ≡ true → lacks w g l s ≡ true
      → recovers (with_at w.recovery n (Some (with_found (with_read r p i) has)) m) (h.hold l s) ≡ true
      → found_in (with_at w.recovery n (Some (with_found (with_read r p i) has)) m) (chunk_in w s) ≡ true
      → (with_at w.bitmap n (found_page w.geometry (w.bitmap n) p has) m).set (chunk_in w s) ≡ true
  read_set n p i r has rec l s m missed lack = by (m == n) refl
    where
      here : (r.slot == h.hold l s) ≡ true → (found : Bool) → r.found (chunk_in w s) ≡ found → (found || has (chunk_in w s)) ≡ true → ((w.bitmap n).set (chunk_in w s) || has (chunk_in w s)) ≡ true
      here slot true is e = more_or ((w.bitmap n).set (chunk_in w s)) (has (chunk_in w s))
          (a.stale.holder_read l s n missed lack (ap (λ y. recovers y (h.hold l s)) rec ∙ slot) (ap (λ y. found_in y (chunk_in w s)) rec ∙ is))
      here slot false is e = or_true ((w.bitmap n).set (chunk_in w s)) (has (chunk_in w s)) e

      by : (b : Bool) → (m == n) ≡ b → recovers (if b then Some (with_found (with_read r p i) has) else w.recovery m) (h.hold l s) ≡ true
          → found_in (if b then Some (with_found (with_read r p i) has) else w.recovery m) (chunk_in w s) ≡ true
          → (if b then found_page w.geometry (w.bitmap n) p has else w.bitmap m).set (chunk_in w s) ≡ true
      by true t slot found = here slot (r.found (chunk_in w s)) refl found
      by false t slot found = a.stale.holder_read l s m missed lack slot found

  clear_set : (n p i : ℕ) (r : Recovering) (recovery : ℕ → Option Recovering) → AllRead w n r
      → ((m k : ℕ) → recovers (recovery m) k ≡ true → recovers (w.recovery m) k ≡ true) → ((m c : ℕ) → found_in (recovery m) c ≡ true → found_in (w.recovery m) c ≡ true)
      → (l s m : ℕ) → w.ghost.missed l ≡ true → lacks w g l s ≡ true
      → recovers (recovery m) (if h.hold l s == r.slot then n else h.hold l s) ≡ true → found_in (recovery m) (chunk_in w s) ≡ true → (w.bitmap m).set (chunk_in w s) ≡ true
  clear_set n p i r recovery x slots founds l s m missed lack = either_if (λ k. recovers (recovery m) k ≡ true → found_in (recovery m) (chunk_in w s) ≡ true → (w.bitmap m).set (chunk_in w s) ≡ true)
      (h.hold l s == r.slot) n (h.hold l s)
      (λ is recover found. absurd (not_recovered n m x.opened.up (slots m n recover)))
      (λ apart recover found. a.stale.holder_read l s m missed lack (slots m (h.hold l s) recover) (founds m (chunk_in w s) found))

  -- a recovery that clears keeps its slot and what it found
  pub same_recovers : (n p i : ℕ) (r : Recovering) → w.recovery n ≡ Some r → (m k : ℕ) → recovers (with_at w.recovery n (Some (with_cleared r p i)) m) k ≡ true → recovers (w.recovery m) k ≡ true
  same_recovers n p i r rec m k = at_point (λ y. recovers y k ≡ true → recovers (w.recovery m) k ≡ true) w.recovery n (Some (with_cleared r p i)) m
      (λ is e. ap (λ j. recovers (w.recovery j) k) is ∙ ap (λ y. recovers y k) rec ∙ e) (λ apart e. e)

  pub same_found : (n p i : ℕ) (r : Recovering) → w.recovery n ≡ Some r → (m c : ℕ) → found_in (with_at w.recovery n (Some (with_cleared r p i)) m) c ≡ true → found_in (w.recovery m) c ≡ true
  same_found n p i r rec m c = at_point (λ y. found_in y c ≡ true → found_in (w.recovery m) c ≡ true) w.recovery n (Some (with_cleared r p i)) m
      (λ is e. ap (λ j. found_in (w.recovery j) c) is ∙ ap (λ y. found_in y c) rec ∙ e) (λ apart e. e)

pub holder_read : (w v : Part) (x : Way w v) (g : Ghost) (h : Hold) (z : Since) → Known w g h z → HolderRead v (ghost_after x g) (hold_after x g h)
holder_read w v (ways.leaves n x) g h z a l s m missed lack recover found = grind (arith, nat_tests, a.stale.holder_read l s m missed lack)
holder_read w v (ways.quits n x) g h z a l s m missed lack recover found = grind (arith, nat_tests, a.stale.holder_read l s m missed lack)
holder_read w v (ways.parts n o x) g h z a l s m missed lack recover found = grind (arith, nat_tests, a.stale.holder_read l s m missed lack)
holder_read w v (ways.dies n told x) g h z a l s m missed lack recover found = grind (arith, nat_tests, a.stale.holder_read l s m missed lack)
holder_read w v (ways.offers n o x) g h z a l s m missed lack recover found = a.stale.holder_read l s m (sym (wish_missed w.ghost o.wish l) ∙ missed) lack recover found
holder_read w v (ways.finishes n o x meta) g h z a l s m missed lack recover found = more_set w.bitmap n _ m (chunk_in w s) (λ e. e) (a.stale.holder_read l s m (was_missed w g h z a n o x meta l s missed lack) lack recover found)
holder_read w v (ways.hears_roles n roles size o e meta same) g h z a l s m missed lack recover found = more_set w.bitmap n _ m (chunk_in w s) (λ e. e) (a.stale.holder_read l s m missed lack recover found)
holder_read w v (ways.comes n k says lost ranges e) g h z a l s m missed lack recover found = more_set w.bitmap n _ m (chunk_in w s) (λ e. e) (a.stale.holder_read l s m missed lack recover found)
holder_read w v (ways.asks n t k u new e) g h z a l s m missed lack recover found = more_set w.bitmap n _ m (chunk_in w s) (entered_set (w.bitmap n).set (chunk_in w t) (chunk_in w s)) (a.stale.holder_read l s m missed lack recover found)
holder_read w v (ways.outs n k i x t) g h z a l s m missed lack recover found = a.stale.holder_read l s m missed (lacks_tried w g a.contents n k i x true t l s lack) recover found
holder_read w v (ways.misses n k i x left t) g h z a l s m missed lack recover found = a.stale.holder_read l s m missed (lacks_tried w g a.contents n k i x left t l s lack) recover found
holder_read w v (ways.ends n k x e) g h z a l s m missed lack recover found = more_set w.bitmap n _ m (chunk_in w s) (λ e. e)
    (decided_read w g h z a n x.sector x.value (decides_end w g a.sound a.contents n k x e) l s m missed lack recover found)
holder_read w v (ways.breaks n k x e) g h z a l s m missed lack recover found = more_set w.bitmap n _ m (chunk_in w s) (λ e. e) (a.stale.holder_read l s m missed lack recover found)
holder_read w v (ways.marks n p i e) g h z a l s m missed lack recover found = more_set w.bitmap n _ m (chunk_in w s) (λ e. e) (a.stale.holder_read l s m missed lack recover found)
holder_read w v (ways.misses_page n p i left e) g h z a l s m missed lack recover found = more_set w.bitmap n _ m (chunk_in w s) (λ e. e) (a.stale.holder_read l s m missed lack recover found)
holder_read w v (ways.clears n c e) g h z a l s m missed lack recover found = absurd (none_missed w g h z a n c e l missed)
holder_read w v (ways.copies n i p b e) g h z a l s m missed lack recover found = a.stale.holder_read l s m missed (lacks_copied w g i b.sector b.value true (a.stale.buffer_value n b (buffer_is w n p b e.buffers)) l s lack) recover found
holder_read w v (ways.misses_copy n i p b left e) g h z a l s m missed lack recover found = a.stale.holder_read l s m missed (lacks_copied w g i b.sector b.value left (a.stale.buffer_value n b (buffer_is w n p b e.buffers)) l s lack) recover found
holder_read w v (ways.settles n p b e) g h z a l s m missed lack recover found = more_set w.bitmap n _ m (chunk_in w s) (met_set (w.bitmap n) w.geometry b (chunk_in w s))
    (decided_read w g h z a n b.sector b.value (decides_settle w g a.contents a.stale.buffer_value n p b e) l s m missed lack recover found)
holder_read w v (ways.recovers_slot n d e) g h z a l s m missed lack recover found = grind (arith, nat_tests, a.stale.holder_read l s m missed lack)
holder_read w v (ways.slot_reads n p i r has e) g h z a l s m missed lack recover found = read_set w g h z a n p i r has e.opened.recovery l s m missed lack recover found
holder_read w v (ways.slot_clears n p i r e) g h z a l s m missed lack recover found = more_set w.bitmap r.slot _ m (chunk_in w s) (λ e. e)
    (clear_set w g h z a n p i r _ e.all (same_recovers w g h z a n p i r e.all.opened.recovery) (same_found w g h z a n p i r e.all.opened.recovery) l s m missed lack recover found)
holder_read w v (ways.misses_slot n p i r left e) g h z a l s m missed lack recover found = more_set w.bitmap r.slot _ m (chunk_in w s) (λ e. e)
    (clear_set w g h z a n p i r w.recovery e.all (λ j k e. e) (λ j c e. e) l s m missed lack recover found)
holder_read w v (ways.ends_recovery n r e) g h z a l s m missed lack recover found = grind (arith, nat_tests, a.stale.holder_read l s m missed lack)
holder_read w v x g h z a l s m missed lack recover found = a.stale.holder_read l s m missed lack recover found
