-- Each way keeps a live or pending slot for what a leg missed, and that it marks that.
use Rattle.std.proofs.Common.{◌≡◌, ℕ, ◌==◌, ◌||◌, Bool, true, false, if◌then◌else◌, refl, sym, ap, subst, ◌∙◌, arith}
use Rattle.std.proofs.lemmas.Bool.Decides.{nat_tests}
use Rattle.mdc_types.specs.Roles.{is_working, is_faulty, is_rebuilding, is_written}
use Rattle.mdc_types.specs.declared.events.Wish.{Wish}
use Rattle.mdc_types.specs.declared.events.Wish.TheVariants as wishes
use Rattle.mdc_types.specs.declared.roles.Role.{Role}
use Rattle.disk_addition.specs.Additions.{after}
use Rattle.node_recovery.specs.Progress.{Recovering}
use Rattle.cluster_model.specs.Gathering.{is_again_of}
use Rattle.cluster_model.specs.Phases.{is_up, is_metadata}
use Rattle.cluster_model.specs.State.{Offer}
use Rattle.laws_roles.proofs.Parts.{promotes, needs_known, offered_role, changes_super}
use Rattle.storage_ways.proofs.Parts.{Part, chunk_in, with_page_if}
use Rattle.storage_ways.proofs.Roled.{good_written, acked_role}
use Rattle.storage_ways.proofs.Ways as ways
use Rattle.storage_ways.proofs.Ways.{Way, Offering, SlotClears}
use Rattle.laws_writes.proofs.Ghosts.{Ghost, ghost_after}
use Rattle.laws_writes.proofs.KeeperSteps.{live_up}
use Rattle.laws_writes.proofs.Settled.{Since}
use Rattle.laws_recovery.proofs.Decided.{decided_holder, decided_bit}
use Rattle.laws_recovery.proofs.Found.{was_faulty, missed_bit, missed_kept}
use Rattle.laws_recovery.proofs.Ghosts.{Hold, hold_after}
use Rattle.laws_recovery.proofs.Known.{Known}
use Rattle.laws_recovery.proofs.Lacks.{lacks_tried, lacks_copied, decides_end, decides_settle, working_good, buffer_is}
use Rattle.laws_recovery.proofs.Marked.{wish_missed, wish_agreed, wish_good, bit_kept, bit_else, apart_sym}
use Rattle.laws_writes.proofs.Points.{either_if, same_point, clash, or_left_true, or_right}
use Rattle.laws_recovery.proofs.Stale.{Holder, HolderWorking, HolderGood, lacks}

module _ (w : Part) (g : Ghost) (h : Hold) (z : Since) (a : Known w g h z) where
  live_there : (n k : ℕ) → w.live n ≡ true → (k == n) ≡ true → w.live k ≡ true
  live_there n k live e = subst (λ q. w.live q ≡ true) (sym (same_point k n e)) live

  -- who goes in peace has nothing set, and answers for nothing
  pub goes_clean : (n l s : ℕ) → w.live n ≡ true → ((c : ℕ) → (w.bitmap n).set c ≡ false) → w.ghost.missed l ≡ true → lacks w g l s ≡ true → (h.hold l s == n) ≡ false
  goes_clean n l s live clean missed lack = by (h.hold l s == n) refl
    where
      by : (b : Bool) → (h.hold l s == n) ≡ b → b ≡ false
      by false e = refl
      by true e =
          let set = a.stale.holder_set l s missed lack (live_there n (h.hold l s) live e) in
          absurd (clash ((w.bitmap n).set (chunk_in w s)) (subst (λ k. (w.bitmap k).set (chunk_in w s) ≡ true) (same_point (h.hold l s) n e) set) (clean (chunk_in w s)))

  pub cleared_kept : (n l s : ℕ) (r : Recovering) → ways.EndsRecovery w n r → w.ghost.missed l ≡ true → lacks w g l s ≡ true → (h.hold l s == r.slot) ≡ false
  cleared_kept n l s r x missed lack = by (h.hold l s == r.slot) refl
    where
      by : (b : Bool) → (h.hold l s == r.slot) ≡ b → b ≡ false
      by false e = refl
      by true e = absurd (missed_kept w g h z a n l s r x missed lack (same_point (h.hold l s) r.slot e))

pub holder : (w v : Part) (x : Way w v) (g : Ghost) (h : Hold) (z : Since) → Known w g h z → Holder v (ghost_after x g) (hold_after x g h)
holder w v (ways.joins n x) g h z a l s missed lack = grind (arith, nat_tests, a.stale.holder l s missed lack)
holder w v (ways.leaves n x) g h z a l s missed lack = grind (arith, nat_tests, a.stale.holder l s missed lack, goes_clean w g h z a n l s x.going.live x.clean missed lack)
holder w v (ways.quits n x) g h z a l s missed lack = grind (arith, nat_tests, a.stale.holder l s missed lack, goes_clean w g h z a n l s x.going.live x.clean missed lack)
holder w v (ways.parts n o x) g h z a l s missed lack = grind (arith, nat_tests, a.stale.holder l s missed lack)
holder w v (ways.dies n told x) g h z a l s missed lack = grind (arith, nat_tests, a.stale.holder l s missed lack)
holder w v (ways.finishes n o x meta) g h z a l s missed lack = a.stale.holder l s (a.sound.additions.faulty_missed l (was_faulty w g h z a n o x meta l s missed lack)) lack
holder w v (ways.offers n o x) g h z a l s missed lack = a.stale.holder l s (sym (wish_missed w.ghost o.wish l) ∙ missed) lack
holder w v (ways.outs n k i x t) g h z a l s missed lack = a.stale.holder l s missed (lacks_tried w g a.contents n k i x true t l s lack)
holder w v (ways.misses n k i x left t) g h z a l s missed lack = a.stale.holder l s missed (lacks_tried w g a.contents n k i x left t l s lack)
holder w v (ways.ends n k x e) g h z a l s missed lack = decided_holder w g h z a n x.sector x.value (decides_end w g a.sound a.contents n k x e) l s missed lack
holder w v (ways.copies n i p b e) g h z a l s missed lack = a.stale.holder l s missed (lacks_copied w g i b.sector b.value true (a.stale.buffer_value n b (buffer_is w n p b e.buffers)) l s lack)
holder w v (ways.misses_copy n i p b left e) g h z a l s missed lack = a.stale.holder l s missed (lacks_copied w g i b.sector b.value left (a.stale.buffer_value n b (buffer_is w n p b e.buffers)) l s lack)
holder w v (ways.settles n p b e) g h z a l s missed lack = decided_holder w g h z a n b.sector b.value (decides_settle w g a.contents a.stale.buffer_value n p b e) l s missed lack
holder w v (ways.slot_clears n p i r e) g h z a l s missed lack = either_if (λ k. (w.live k || w.pending k) ≡ true) (h.hold l s == r.slot) n (h.hold l s)
    (λ is. or_left_true (w.live n) (w.pending n) (live_up w a.sound n e.all.opened.up)) (λ apart. a.stale.holder l s missed lack)
holder w v (ways.misses_slot n p i r left e) g h z a l s missed lack = either_if (λ k. (w.live k || w.pending k) ≡ true) (h.hold l s == r.slot) n (h.hold l s)
    (λ is. or_left_true (w.live n) (w.pending n) (live_up w a.sound n e.all.opened.up)) (λ apart. a.stale.holder l s missed lack)
holder w v (ways.ends_recovery n r e) g h z a l s missed lack = grind (arith, nat_tests, a.stale.holder l s missed lack, cleared_kept w g h z a n l s r e missed lack)
holder w v x g h z a l s missed lack = a.stale.holder l s missed lack

promoted_known : (x : Wish) (l : ℕ) → promotes x l ≡ true → needs_known x ≡ true
promoted_known (wishes.Work k) l e = refl
promoted_known x l e = cc

faulty_rebuilds : (r : Role) → is_faulty r ≡ true → is_rebuilding r ≡ true → ⊥
faulty_rebuilds r f e = grind arith

module _ (w : Part) (g : Ghost) (h : Hold) (z : Since) (a : Known w g h z) where
  -- a page that its up node writes has what its slot answers for
  page_has : (n l s : ℕ) → is_up (w.state n) ≡ true → w.ghost.missed l ≡ true → lacks w g l s ≡ true → (h.hold l s == n) ≡ true → (w.bitmap n).set (chunk_in w s) ≡ true
  page_has n l s up missed lack e =
      subst (λ k. (w.bitmap k).set (chunk_in w s) ≡ true) (same_point (h.hold l s) n e) (a.stale.holder_set l s missed lack (live_there w g h z a n (h.hold l s) (live_up w a.sound n up) e))

  pub bit_marked : (n p i l s x : ℕ) (left : Bool) → is_up (w.state n) ≡ true → w.ghost.missed l ≡ true → lacks w g l s ≡ true
      → w.bit (h.hold l s) (chunk_in w s) x ≡ true → with_page_if left w.bit n p i (w.bitmap n).set (h.hold l s) (chunk_in w s) x ≡ true
  bit_marked n p i l s x left up missed lack old = bit_kept w.bit left n p i (w.bitmap n).set (h.hold l s) (chunk_in w s) x (page_has n l s up missed lack) old

  pub bit_cleared : (n p i l s x : ℕ) (r : Recovering) (left : Bool) → SlotClears w n p i r → w.ghost.missed l ≡ true → lacks w g l s ≡ true → is_written (w.ghost.agreed.role x) ≡ true
      → ((h.hold l s == r.slot) ≡ false → w.bit (h.hold l s) (chunk_in w s) x ≡ true)
      → with_page_if left w.bit r.slot p i (λ c. false) (if h.hold l s == r.slot then n else h.hold l s) (chunk_in w s) x ≡ true
  bit_cleared n p i l s x r left e missed lack written old =
      either_if (λ k. with_page_if left w.bit r.slot p i (λ c. false) k (chunk_in w s) x ≡ true) (h.hold l s == r.slot) n (h.hold l s)
      (λ is. bit_else w.bit left r.slot p i (λ c. false) n (chunk_in w s) x (apart_sym r.slot n e.all.opened.other) (missed_bit w g h z a n p i l s x r e missed lack (same_point (h.hold l s) r.slot is) written))
      (λ apart. bit_else w.bit left r.slot p i (λ c. false) (h.hold l s) (chunk_in w s) x apart (old apart))

  working_written : (r : Role) → is_working r ≡ true → is_written r ≡ true
  working_written r e = grind arith

  -- while a leg is to work no other is faulty
  not_promoted : (n : ℕ) (o : Offer) → Offering w n o → (l x : ℕ) → is_faulty (w.ghost.agreed.role l) ≡ true → promotes o.wish x ≡ true → ⊥
  not_promoted n o e l x faulty p =
      let known = promoted_known o.wish x p in
      let here = ap is_faulty (acked_role w a.sound n l (e.up known) (e.acked known)) ∙ faulty in
      faulty_rebuilds ((w.view n).role x) (subst (λ k. is_faulty ((w.view n).role k) ≡ true) (e.none_faulty x l p here) here) (e.rebuilding x p)

  pub offered_good : (n : ℕ) (o : Offer) → ways.Whole w n o → is_metadata o.wish ≡ true → (x : ℕ) → is_working (o.role x) ≡ true → w.ghost.good x ≡ true
  offered_good n o e meta x working = a.sound.roles.offer_good n x (ap changes_super e.offer ∙ meta) (ap (λ y. is_working (offered_role y x)) e.offer ∙ working)

pub holder_working : (w v : Part) (x : Way w v) (g : Ghost) (h : Hold) (z : Since) → Known w g h z → HolderWorking v (ghost_after x g) (hold_after x g h)
holder_working w v (ways.offers n o x) g h z a l s j missed lack working = a.stale.holder_working l s j (sym (wish_missed w.ghost o.wish l) ∙ missed) lack (sym (ap (λ y. is_working (y.role j)) (wish_agreed w.ghost o.wish)) ∙ working)
holder_working w v (ways.finishes n o x meta) g h z a l s j missed lack working =
    a.stale.holder_good l s j (was_faulty w g h z a n o x meta l s missed lack) lack (offered_good w g h z a n o x meta j working)
holder_working w v (ways.outs n k i x t) g h z a l s j missed lack working = a.stale.holder_working l s j missed (lacks_tried w g a.contents n k i x true t l s lack) working
holder_working w v (ways.misses n k i x left t) g h z a l s j missed lack working = a.stale.holder_working l s j missed (lacks_tried w g a.contents n k i x left t l s lack) working
holder_working w v (ways.ends n k x e) g h z a l s j missed lack working = let d = decides_end w g a.sound a.contents n k x e in
    decided_bit w g h z a n x.sector x.value d l s j (working_good w g a.sound n x.sector x.value d j working) lack (λ old. a.stale.holder_working l s j missed old working)
holder_working w v (ways.copies n i p b e) g h z a l s j missed lack working = a.stale.holder_working l s j missed (lacks_copied w g i b.sector b.value true (a.stale.buffer_value n b (buffer_is w n p b e.buffers)) l s lack) working
holder_working w v (ways.misses_copy n i p b left e) g h z a l s j missed lack working = a.stale.holder_working l s j missed (lacks_copied w g i b.sector b.value left (a.stale.buffer_value n b (buffer_is w n p b e.buffers)) l s lack) working
holder_working w v (ways.settles n p b e) g h z a l s j missed lack working = let d = decides_settle w g a.contents a.stale.buffer_value n p b e in
    decided_bit w g h z a n b.sector b.value d l s j (working_good w g a.sound n b.sector b.value d j working) lack (λ old. a.stale.holder_working l s j missed old working)
holder_working w v (ways.marks n p i e) g h z a l s j missed lack working = bit_marked w g h z a n p i l s j true e.up missed lack (a.stale.holder_working l s j missed lack working)
holder_working w v (ways.misses_page n p i left e) g h z a l s j missed lack working = bit_marked w g h z a n p i l s j left e.up missed lack (a.stale.holder_working l s j missed lack working)
holder_working w v (ways.slot_clears n p i r e) g h z a l s j missed lack working =
    bit_cleared w g h z a n p i l s j r true e missed lack (working_written w g h z a (w.ghost.agreed.role j) working) (λ apart. a.stale.holder_working l s j missed lack working)
holder_working w v (ways.misses_slot n p i r left e) g h z a l s j missed lack working =
    bit_cleared w g h z a n p i l s j r left e missed lack (working_written w g h z a (w.ghost.agreed.role j) working) (λ apart. a.stale.holder_working l s j missed lack working)
holder_working w v x g h z a l s j missed lack working = a.stale.holder_working l s j missed lack working

pub holder_good : (w v : Part) (x : Way w v) (g : Ghost) (h : Hold) (z : Since) → Known w g h z → HolderGood v (ghost_after x g) (hold_after x g h)
holder_good w v (ways.offers n o x) g h z a l s j faulty lack good = by (w.ghost.good j) refl
  where
    was : is_faulty (w.ghost.agreed.role l) ≡ true
    was = sym (ap (λ y. is_faulty (y.role l)) (wish_agreed w.ghost o.wish)) ∙ faulty

    by : (b : Bool) → w.ghost.good j ≡ b → w.bit (h.hold l s) (chunk_in w s) j ≡ true
    by true e = a.stale.holder_good l s j was lack e
    by false e = absurd (not_promoted w g h z a n o x l j was (or_right (w.ghost.good j) (promotes o.wish j) e (wish_good w.ghost o.wish j good)))
holder_good w v (ways.finishes n o x meta) g h z a l s j faulty lack good =
    a.stale.holder_good l s j (was_faulty w g h z a n o x meta l s (or_left_true (is_faulty (o.role l)) (is_again_of (after (w.adding n).addition o.wish) l) faulty) lack) lack (offered_good w g h z a n o x meta j good)
holder_good w v (ways.outs n k i x t) g h z a l s j faulty lack good = a.stale.holder_good l s j faulty (lacks_tried w g a.contents n k i x true t l s lack) good
holder_good w v (ways.misses n k i x left t) g h z a l s j faulty lack good = a.stale.holder_good l s j faulty (lacks_tried w g a.contents n k i x left t l s lack) good
holder_good w v (ways.ends n k x e) g h z a l s j faulty lack good =
    decided_bit w g h z a n x.sector x.value (decides_end w g a.sound a.contents n k x e) l s j good lack (λ old. a.stale.holder_good l s j faulty old good)
holder_good w v (ways.copies n i p b e) g h z a l s j faulty lack good = a.stale.holder_good l s j faulty (lacks_copied w g i b.sector b.value true (a.stale.buffer_value n b (buffer_is w n p b e.buffers)) l s lack) good
holder_good w v (ways.misses_copy n i p b left e) g h z a l s j faulty lack good = a.stale.holder_good l s j faulty (lacks_copied w g i b.sector b.value left (a.stale.buffer_value n b (buffer_is w n p b e.buffers)) l s lack) good
holder_good w v (ways.settles n p b e) g h z a l s j faulty lack good =
    decided_bit w g h z a n b.sector b.value (decides_settle w g a.contents a.stale.buffer_value n p b e) l s j good lack (λ old. a.stale.holder_good l s j faulty old good)
holder_good w v (ways.marks n p i e) g h z a l s j faulty lack good = bit_marked w g h z a n p i l s j true e.up (a.sound.additions.faulty_missed l faulty) lack (a.stale.holder_good l s j faulty lack good)
holder_good w v (ways.misses_page n p i left e) g h z a l s j faulty lack good = bit_marked w g h z a n p i l s j left e.up (a.sound.additions.faulty_missed l faulty) lack (a.stale.holder_good l s j faulty lack good)
holder_good w v (ways.slot_clears n p i r e) g h z a l s j faulty lack good =
    bit_cleared w g h z a n p i l s j r true e (a.sound.additions.faulty_missed l faulty) lack (good_written w a.sound j good) (λ apart. a.stale.holder_good l s j faulty lack good)
holder_good w v (ways.misses_slot n p i r left e) g h z a l s j faulty lack good =
    bit_cleared w g h z a n p i l s j r left e (a.sound.additions.faulty_missed l faulty) lack (good_written w a.sound j good) (λ apart. a.stale.holder_good l s j faulty lack good)
holder_good w v x g h z a l s j faulty lack good = a.stale.holder_good l s j faulty lack good
