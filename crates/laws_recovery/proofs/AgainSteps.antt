-- Each way keeps what is known of a leg that is added again: what wasn't gathered is found otherwise.
use Rattle.std.proofs.Common.{◌≡◌, ◌≢◌, ℕ, ◌+◌, ◌/◌, ◌%◌, ◌==◌, ◌<◌, ◌&&◌, ◌||◌, Bool, true, false, sym, ap, subst, ◌∙◌, arith}
use Rattle.std.specs.Prelude.{is_some}
use Rattle.std.proofs.lemmas.Bool.Decides.{nat_tests}
use Rattle.std.proofs.lemmas.Nat.{div-mul-add, mod-mul-add}
use Rattle.dlm_modes.specs.Points.{with_at}
use Rattle.mdc_types.specs.Geometry.{page_of, pages_of}
use Rattle.mdc_types.specs.declared.events.Wish.{Wish}
use Rattle.mdc_types.specs.declared.events.Wish.TheVariants as wishes
use Rattle.disk_addition.specs.Additions.{after}
use Rattle.disk_addition.specs.declared.addition.Addition.{Addition}
use Rattle.disk_addition.specs.declared.addition.Addition.TheVariants.{Nothing}
use Rattle.node_recovery.specs.Progress.{Recovering}
use Rattle.slot_gathering.specs.Gatherings.{Gathering}
use Rattle.cluster_model.specs.Finishing.{gathering_after}
use Rattle.cluster_model.specs.Gathering.{is_again_of}
use Rattle.cluster_model.specs.Phases.{is_metadata}
use Rattle.cluster_model.specs.State.{Adding, Offer}
use Rattle.laws_roles.proofs.Parts.{needs_known}
use Rattle.storage_ways.proofs.Parts.{Part, chunk_in, found_in, is_range}
use Rattle.storage_ways.proofs.Roled.{again_written, acked_works}
use Rattle.storage_ways.proofs.Ways as ways
use Rattle.storage_ways.proofs.Ways.{Way, Whole, Gathers, EndsRecovery}
use Rattle.laws_writes.proofs.Ghosts.{Ghost, ghost_after}
use Rattle.laws_writes.proofs.Intent.{is_gathered, IsPast, place_of}
use Rattle.laws_writes.proofs.Places.{page_lt}
use Rattle.laws_writes.proofs.Settled.{Since}
use Rattle.laws_recovery.proofs.Arms.{arm_out, arm_else, arm_begun, arm_read, arm_clear, arm_of, arm_ended}
use Rattle.laws_recovery.proofs.Decided.{decided_else}
use Rattle.laws_recovery.proofs.Found.{missed_found}
use Rattle.laws_recovery.proofs.Ghosts.{Hold, hold_after}
use Rattle.laws_recovery.proofs.HolderSteps.{goes_clean, cleared_kept}
use Rattle.laws_recovery.proofs.Known.{Known}
use Rattle.laws_recovery.proofs.Lacks.{lacks_tried, lacks_copied, decides_end, decides_settle, buffer_is, lacks_below}
use Rattle.laws_writes.proofs.Points.{at_point, either_if, same_point, clash}
use Rattle.laws_recovery.proofs.Stale.{AgainArm, lacks, arm}

-- another addition is no leg that is added again
pub not_begun : (b : Addition) (x : Wish) (l : ℕ) → needs_known x ≡ true → is_metadata x ≡ false → is_range x ≡ false → is_again_of (after b x) l ≡ true → ⊥
not_begun b (wishes.NewDisk k) l known other no_range e = cc
not_begun b (wishes.Remove k) l known other no_range e = cc
not_begun b (wishes.ReAdd k) l known other no_range e = cc
not_begun b x l known other no_range e = cc

-- a leg that is just added again has nothing gathered for it
begins : (b : Addition) (y : Gathering) (l : ℕ) → is_again_of b l ≡ true → (gathering_after b y).next ≡ 0
begins b y l e = grind arith

nothing_again : (b : Addition) (l : ℕ) → b ≡ Nothing → is_again_of b l ≡ true → ⊥
nothing_again b l is e = clash (is_again_of b l) e (ap (λ x. is_again_of x l) is)

pub or_false : (a b : Bool) → (a || b) ≡ false → a ≡ false
or_false a b e = grind arith

right_false : (a b : Bool) → (a || b) ≡ false → b ≡ false
right_false a b e = grind arith

-- what a node's addition tells of a chunk at a place in the order of pages
abbrev pub Told : Adding → ℕ → ℕ → ℕ → Type 0 → Type 0
Told y l c place A = is_again_of y.addition l ≡ true → y.gathering.gathered c ≡ false → place < y.gathering.next → A

module _ (w : Part) (n : ℕ) (o : Offer) (x : Whole w n o) (meta : is_metadata o.wish ≡ true) where
  -- a whole round of the superblock leaves nothing gathered
  pub none_begun : (m l : ℕ) → let y = with_at w.adding n (record { addition = after (w.adding n).addition o.wish; gathering = gathering_after (after (w.adding n).addition o.wish) (w.adding n).gathering }) m in
      is_again_of y.addition l ≡ true → 0 < y.gathering.next → ⊥
  none_begun m l = at_point (λ y. is_again_of y.addition l ≡ true → 0 < y.gathering.next → ⊥) w.adding n _ m
      (λ is e lt. let none = begins (after (w.adding n).addition o.wish) (w.adding n).gathering l e in omega (arith, none, lt))
      (λ apart e lt. nothing_again (w.adding m).addition l (x.nothing m (differ m n apart) meta) e)
    where
      differ : (i j : ℕ) → (i == j) ≡ false → i ≢ j
      differ i j e = grind (arith, nat_tests)

module _ (w : Part) (g : Ghost) (h : Hold) (z : Since) (a : Known w g h z) where
  pub missed : (n l : ℕ) → is_again_of (w.adding n).addition l ≡ true → w.ghost.missed l ≡ true
  missed n l e = a.sound.additions.again_missed n l e

  -- the page that is due, of the slot that answers: it has the chunk
  due_has : (n k p i : ℕ) (has : ℕ → Bool) → Gathers w n k p i has → (l s : ℕ) → is_again_of (w.adding n).addition l ≡ true → lacks w g l s ≡ true
      → place_of w (h.hold l s) (chunk_in w s) ≡ (w.adding n).gathering.next → has (chunk_in w s) ≡ true
  due_has n k p i has e l s again lack at =
      let c = chunk_in w s in
      let working = sym (acked_works w a.sound n i e.up e.acked) ∙ e.works in
      let bit = a.stale.holder_working l s i (missed n l again) lack working in
      let page = page_lt w.geometry c (a.sound.within.bits (h.hold l s) c i bit) in
      let slot : h.hold l s ≡ k = sym (div-mul-add (h.hold l s) (pages_of w.geometry) (page_of c) page) ∙ ap (λ y. y / pages_of w.geometry) at ∙ sym e.slot in
      let same : page_of c ≡ p = sym (mod-mul-add (h.hold l s) (pages_of w.geometry) (page_of c) page) ∙ ap (λ y. y % pages_of w.geometry) at ∙ sym e.page in
      e.bits c ∙ both (page_of c) p (w.bit k c i) same (subst (λ j. w.bit j c i ≡ true) slot bit)
    where
      both : (m j : ℕ) (b : Bool) → m ≡ j → b ≡ true → ((m == j) && b) ≡ true
      both m j b same e = grind (arith, nat_tests)

  pub gathered_else : (n k p i : ℕ) (has : ℕ → Bool) → Gathers w n k p i has → (l s : ℕ) → is_again_of (w.adding n).addition l ≡ true → lacks w g l s ≡ true
      → ((w.adding n).gathering.gathered (chunk_in w s) || has (chunk_in w s)) ≡ false → place_of w (h.hold l s) (chunk_in w s) < (w.adding n).gathering.next + 1
      → IsPast w n (h.hold l s) (chunk_in w s)
  gathered_else n k p i has e l s again lack gathered past =
      let apart = λ (at : place_of w (h.hold l s) (chunk_in w s) ≡ (w.adding n).gathering.next). clash (has (chunk_in w s)) (due_has n k p i has e l s again lack at) (right_false ((w.adding n).gathering.gathered (chunk_in w s)) (has (chunk_in w s)) gathered) in
      below (place_of w (h.hold l s) (chunk_in w s)) (w.adding n).gathering.next past apart
    where
      below : (i j : ℕ) → i < j + 1 → (i ≡ j → ⊥) → i < j
      below i j lt apart = grind (arith, apart)

  -- a recovery that is whole found nothing that a leg still lacks
  met_again : (n l s m : ℕ) (r : Recovering) → EndsRecovery w m r → is_again_of (w.adding n).addition l ≡ true → lacks w g l s ≡ true → 0 < (w.adding n).gathering.next
      → found_in (w.recovery m) (chunk_in w s) ≡ true → ⊥
  met_again n l s m r e again lack some found =
      let rec = e.all.opened.recovery in
      let since = a.stale.again_fresh n l s m again lack some (ap is_some rec) in
      let need = a.settled.read_need m s (lacks_below w g l s lack) found since in
      clash ((w.bitmap m).need (chunk_in w s)) need (e.met (chunk_in w s) (sym (ap (λ y. found_in y (chunk_in w s)) rec) ∙ found))

  arm_before : (m l s : ℕ) → lacks w g l s ≡ true → Told (w.adding m) l (chunk_in w s) (place_of w (h.hold l s) (chunk_in w s)) (arm w (h.hold l s) (chunk_in w s) ≡ true)
  arm_before m l s lack again gathered past = a.stale.again_arm m l s again lack gathered past

pub some_before : (i j : ℕ) → i < j → 0 < j
some_before i j lt = omega arith

pub again_arm : (w v : Part) (x : Way w v) (g : Ghost) (h : Hold) (z : Since) → Known w g h z → AgainArm v (ghost_after x g) (hold_after x g h)
again_arm w v (ways.announces n o e known other no_range) g h z a m l s again lack gathered past = at_point (λ y. Told y l (chunk_in w s) (place_of w (h.hold l s) (chunk_in w s)) (arm w (h.hold l s) (chunk_in w s) ≡ true)) w.adding n _ m
    (λ is now. absurd (not_begun (w.adding n).addition o.wish l known other no_range now)) (λ apart. arm_before w g h z a m l s lack) again gathered past
again_arm w v (ways.finishes n o e meta) g h z a m l s again lack gathered past = absurd (none_begun w n o e meta m l again (some_before _ _ past))
again_arm w v (ways.hears_roles n roles size o e meta same) g h z a m l s again lack gathered past = at_point (λ y. Told y l (chunk_in w s) (place_of w (h.hold l s) (chunk_in w s)) (arm w (h.hold l s) (chunk_in w s) ≡ true)) w.adding n _ m
    (λ is now. cc) (λ apart. arm_before w g h z a m l s lack) again gathered past
again_arm w v (ways.leaves n x) g h z a m l s again lack gathered past = at_point (λ y. Told y l (chunk_in w s) (place_of w (h.hold l s) (chunk_in w s)) (arm v (h.hold l s) (chunk_in w s) ≡ true)) w.adding n _ m
    (λ is now. cc) (λ apart now gathered past. arm_else w.pending w.recovery n (h.hold l s) (chunk_in w s) (goes_clean w g h z a n l s x.going.live x.clean (missed w g h z a m l now) lack) (a.stale.again_arm m l s now lack gathered past)) again gathered past
again_arm w v (ways.quits n x) g h z a m l s again lack gathered past = at_point (λ y. Told y l (chunk_in w s) (place_of w (h.hold l s) (chunk_in w s)) (arm v (h.hold l s) (chunk_in w s) ≡ true)) w.adding n _ m
    (λ is now. cc) (λ apart now gathered past. arm_else w.pending w.recovery n (h.hold l s) (chunk_in w s) (goes_clean w g h z a n l s x.going.live x.clean (missed w g h z a m l now) lack) (a.stale.again_arm m l s now lack gathered past)) again gathered past
again_arm w v (ways.parts n o x) g h z a m l s again lack gathered past = at_point (λ y. Told y l (chunk_in w s) (place_of w (h.hold l s) (chunk_in w s)) (arm v (h.hold l s) (chunk_in w s) ≡ true)) w.adding n _ m
    (λ is now. cc) (λ apart now gathered past. arm_out w.pending w.recovery n (h.hold l s) (chunk_in w s) (a.stale.again_arm m l s now lack gathered past)) again gathered past
again_arm w v (ways.dies n told x) g h z a m l s again lack gathered past = at_point (λ y. Told y l (chunk_in w s) (place_of w (h.hold l s) (chunk_in w s)) (arm v (h.hold l s) (chunk_in w s) ≡ true)) w.adding n _ m
    (λ is now. cc) (λ apart now gathered past. arm_out w.pending w.recovery n (h.hold l s) (chunk_in w s) (a.stale.again_arm m l s now lack gathered past)) again gathered past
again_arm w v (ways.gathers n k p i has e) g h z a m l s again lack gathered past = at_point (λ y. Told y l (chunk_in w s) (place_of w (h.hold l s) (chunk_in w s)) (arm w (h.hold l s) (chunk_in w s) ≡ true)) w.adding n _ m
    (λ is now gathered past. a.stale.again_arm n l s now lack (or_false ((w.adding n).gathering.gathered (chunk_in w s)) (has (chunk_in w s)) gathered) (gathered_else w g h z a n k p i has e l s now lack gathered past))
    (λ apart. arm_before w g h z a m l s lack) again gathered past
again_arm w v (ways.outs n k i x t) g h z a m l s again lack gathered past = a.stale.again_arm m l s again (lacks_tried w g a.contents n k i x true t l s lack) gathered past
again_arm w v (ways.misses n k i x left t) g h z a m l s again lack gathered past = a.stale.again_arm m l s again (lacks_tried w g a.contents n k i x left t l s lack) gathered past
again_arm w v (ways.ends n k x e) g h z a m l s again lack gathered past = decided_else w g h z a n x.sector x.value (decides_end w g a.sound a.contents n k x e)
    (λ j. is_gathered w m (chunk_in w s) ≡ false → IsPast w m j (chunk_in w s) → arm w j (chunk_in w s) ≡ true) l s (again_written w a.sound m l again) lack (λ old. a.stale.again_arm m l s again old) gathered past
again_arm w v (ways.copies n i p b e) g h z a m l s again lack gathered past = a.stale.again_arm m l s again (lacks_copied w g i b.sector b.value true (a.stale.buffer_value n b (buffer_is w n p b e.buffers)) l s lack) gathered past
again_arm w v (ways.misses_copy n i p b left e) g h z a m l s again lack gathered past = a.stale.again_arm m l s again (lacks_copied w g i b.sector b.value left (a.stale.buffer_value n b (buffer_is w n p b e.buffers)) l s lack) gathered past
again_arm w v (ways.settles n p b e) g h z a m l s again lack gathered past = decided_else w g h z a n b.sector b.value (decides_settle w g a.contents a.stale.buffer_value n p b e)
    (λ j. is_gathered w m (chunk_in w s) ≡ false → IsPast w m j (chunk_in w s) → arm w j (chunk_in w s) ≡ true) l s (again_written w a.sound m l again) lack (λ old. a.stale.again_arm m l s again old) gathered past
again_arm w v (ways.recovers_slot n d e) g h z a m l s again lack gathered past = arm_begun w.pending w.recovery n d (h.hold l s) (chunk_in w s) e.recovery (a.stale.again_arm m l s again lack gathered past)
again_arm w v (ways.slot_reads n p i r has e) g h z a m l s again lack gathered past = arm_read w.pending w.recovery n p i (h.hold l s) (chunk_in w s) r has e.opened.recovery (a.stale.again_arm m l s again lack gathered past)
again_arm w v (ways.slot_clears n p i r e) g h z a m l s again lack gathered past = either_if (λ j. is_gathered w m (chunk_in w s) ≡ false → IsPast w m j (chunk_in w s) → arm v j (chunk_in w s) ≡ true) (h.hold l s == r.slot) n (h.hold l s)
    (λ is gathered past. arm_clear w.pending w.recovery n p i n (chunk_in w s) r e.all.opened.recovery (arm_of w.pending w.recovery n (chunk_in w s) r e.all.opened.recovery (missed_found w g h z a n l s r e.all (missed w g h z a m l again) lack (same_point (h.hold l s) r.slot is))))
    (λ apart gathered past. arm_clear w.pending w.recovery n p i (h.hold l s) (chunk_in w s) r e.all.opened.recovery (a.stale.again_arm m l s again lack gathered past)) gathered past
again_arm w v (ways.misses_slot n p i r left e) g h z a m l s again lack gathered past = either_if (λ j. is_gathered w m (chunk_in w s) ≡ false → IsPast w m j (chunk_in w s) → arm w j (chunk_in w s) ≡ true) (h.hold l s == r.slot) n (h.hold l s)
    (λ is gathered past. arm_of w.pending w.recovery n (chunk_in w s) r e.all.opened.recovery (missed_found w g h z a n l s r e.all (missed w g h z a m l again) lack (same_point (h.hold l s) r.slot is)))
    (λ apart gathered past. a.stale.again_arm m l s again lack gathered past) gathered past
again_arm w v (ways.ends_recovery n r e) g h z a m l s again lack gathered past = arm_ended w.pending w.recovery r.slot n (h.hold l s) (chunk_in w s) (cleared_kept w g h z a n l s r e (missed w g h z a m l again) lack)
    (λ found. met_again w g h z a m l s n r e again lack (some_before _ _ past) found) (a.stale.again_arm m l s again lack gathered past)
again_arm w v x g h z a m l s again lack gathered past = a.stale.again_arm m l s again lack gathered past
