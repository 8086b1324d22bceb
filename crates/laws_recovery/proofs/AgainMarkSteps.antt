-- Each way keeps the marks of what wasn't gathered for a leg that is added again, and that no
-- recovery has settled it.
use Rattle.std.proofs.Common.{◌≡◌, ℕ, ◌==◌, ◌<◌, Bool, true, false, if◌then◌else◌, Option, refl, sym, ap, subst, ◌∙◌, arith}
use Rattle.std.specs.Prelude.{is_some}
use Rattle.std.proofs.lemmas.Bool.Decides.{nat_tests}
use Rattle.dlm_modes.specs.Points.{with_at}
use Rattle.mdc_types.specs.Roles.{is_written}
use Rattle.node_recovery.specs.Progress.{Recovering}
use Rattle.cluster_model.specs.Gathering.{is_again_of}
use Rattle.cluster_model.specs.State.{Adding}
use Rattle.storage_ways.proofs.Parts.{Part, chunk_in, has_pass}
use Rattle.storage_ways.proofs.Roled.{again_written}
use Rattle.storage_ways.proofs.Ways as ways
use Rattle.storage_ways.proofs.Ways.{Way, Gathers}
use Rattle.laws_writes.proofs.Ghosts.{Ghost, ghost_after}
use Rattle.laws_writes.proofs.Intent.{is_gathered, IsPast, place_of}
use Rattle.laws_writes.proofs.Settled.{Since, since_after}
use Rattle.laws_recovery.proofs.AgainSteps.{Told, not_begun, none_begun, gathered_else, missed, or_false, some_before}
use Rattle.laws_recovery.proofs.Decided.{decided_else}
use Rattle.laws_recovery.proofs.Ghosts.{Hold, hold_after}
use Rattle.laws_recovery.proofs.HolderSteps.{bit_marked, bit_cleared}
use Rattle.laws_recovery.proofs.Known.{Known}
use Rattle.laws_recovery.proofs.Lacks.{lacks_tried, lacks_copied, decides_end, decides_settle, buffer_is, not_there, lacked_written}
use Rattle.laws_recovery.proofs.Marked.{wish_agreed}
use Rattle.laws_writes.proofs.Points.{at_point, clash, else_is}
use Rattle.laws_recovery.proofs.Stale.{AgainTargets, AgainFresh, lacks}

pub else_false : (b c : Bool) → b ≡ false → c ≡ false → (if b then true else c) ≡ false
else_false b c e f = grind arith

module _ (w : Part) (g : Ghost) (h : Hold) (z : Since) (a : Known w g h z) where
  bit_before : (m l s j : ℕ) → lacks w g l s ≡ true → is_written (w.ghost.agreed.role j) ≡ true
      → Told (w.adding m) l (chunk_in w s) (place_of w (h.hold l s) (chunk_in w s)) (w.bit (h.hold l s) (chunk_in w s) j ≡ true)
  bit_before m l s j lack written again gathered past = a.stale.again_targets m l s j again lack gathered past written

  past_else : (m n l s : ℕ) (r : Recovering) → IsPast w m (if h.hold l s == r.slot then n else h.hold l s) (chunk_in w s) → (h.hold l s == r.slot) ≡ false → IsPast w m (h.hold l s) (chunk_in w s)
  past_else m n l s r past apart = subst (λ k. IsPast w m k (chunk_in w s)) (else_is (h.hold l s == r.slot) n (h.hold l s) apart) past

pub again_targets : (w v : Part) (x : Way w v) (g : Ghost) (h : Hold) (z : Since) → Known w g h z → AgainTargets v (ghost_after x g) (hold_after x g h)
again_targets w v (ways.announces n o e known other no_range) g h z a m l s j again lack gathered past written =
    at_point (λ y. Told y l (chunk_in w s) (place_of w (h.hold l s) (chunk_in w s)) (w.bit (h.hold l s) (chunk_in w s) j ≡ true)) w.adding n _ m
    (λ is now. absurd (not_begun (w.adding n).addition o.wish l known other no_range now)) (λ apart. bit_before w g h z a m l s j lack written) again gathered past
again_targets w v (ways.offers n o x) g h z a m l s j again lack gathered past written = a.stale.again_targets m l s j again lack gathered past (sym (ap (λ y. is_written (y.role j)) (wish_agreed w.ghost o.wish)) ∙ written)
again_targets w v (ways.finishes n o e meta) g h z a m l s j again lack gathered past written = absurd (none_begun w n o e meta m l again (some_before _ _ past))
again_targets w v (ways.hears_roles n roles size o e meta same) g h z a m l s j again lack gathered past written =
    at_point (λ y. Told y l (chunk_in w s) (place_of w (h.hold l s) (chunk_in w s)) (w.bit (h.hold l s) (chunk_in w s) j ≡ true)) w.adding n _ m
    (λ is now. cc) (λ apart. bit_before w g h z a m l s j lack written) again gathered past
again_targets w v (ways.leaves n x) g h z a m l s j again lack gathered past written =
    at_point (λ y. Told y l (chunk_in w s) (place_of w (h.hold l s) (chunk_in w s)) (w.bit (h.hold l s) (chunk_in w s) j ≡ true)) w.adding n _ m
    (λ is now. cc) (λ apart. bit_before w g h z a m l s j lack written) again gathered past
again_targets w v (ways.quits n x) g h z a m l s j again lack gathered past written =
    at_point (λ y. Told y l (chunk_in w s) (place_of w (h.hold l s) (chunk_in w s)) (w.bit (h.hold l s) (chunk_in w s) j ≡ true)) w.adding n _ m
    (λ is now. cc) (λ apart. bit_before w g h z a m l s j lack written) again gathered past
again_targets w v (ways.parts n o x) g h z a m l s j again lack gathered past written =
    at_point (λ y. Told y l (chunk_in w s) (place_of w (h.hold l s) (chunk_in w s)) (w.bit (h.hold l s) (chunk_in w s) j ≡ true)) w.adding n _ m
    (λ is now. cc) (λ apart. bit_before w g h z a m l s j lack written) again gathered past
again_targets w v (ways.dies n told x) g h z a m l s j again lack gathered past written =
    at_point (λ y. Told y l (chunk_in w s) (place_of w (h.hold l s) (chunk_in w s)) (w.bit (h.hold l s) (chunk_in w s) j ≡ true)) w.adding n _ m
    (λ is now. cc) (λ apart. bit_before w g h z a m l s j lack written) again gathered past
again_targets w v (ways.gathers n k p i has e) g h z a m l s j again lack gathered past written =
    at_point (λ y. Told y l (chunk_in w s) (place_of w (h.hold l s) (chunk_in w s)) (w.bit (h.hold l s) (chunk_in w s) j ≡ true)) w.adding n _ m
    (λ is now gathered past. a.stale.again_targets n l s j now lack (or_false ((w.adding n).gathering.gathered (chunk_in w s)) (has (chunk_in w s)) gathered)
    (gathered_else w g h z a n k p i has e l s now lack gathered past) written)
    (λ apart. bit_before w g h z a m l s j lack written) again gathered past
again_targets w v (ways.outs n k i x t) g h z a m l s j again lack gathered past written = a.stale.again_targets m l s j again (lacks_tried w g a.contents n k i x true t l s lack) gathered past written
again_targets w v (ways.misses n k i x left t) g h z a m l s j again lack gathered past written = a.stale.again_targets m l s j again (lacks_tried w g a.contents n k i x left t l s lack) gathered past written
again_targets w v (ways.ends n k x e) g h z a m l s j again lack gathered past written = decided_else w g h z a n x.sector x.value (decides_end w g a.sound a.contents n k x e)
    (λ i. is_gathered w m (chunk_in w s) ≡ false → IsPast w m i (chunk_in w s) → w.bit i (chunk_in w s) j ≡ true) l s (again_written w a.sound m l again) lack
    (λ old gathered past. a.stale.again_targets m l s j again old gathered past written) gathered past
again_targets w v (ways.copies n i p b e) g h z a m l s j again lack gathered past written =
    a.stale.again_targets m l s j again (lacks_copied w g i b.sector b.value true (a.stale.buffer_value n b (buffer_is w n p b e.buffers)) l s lack) gathered past written
again_targets w v (ways.misses_copy n i p b left e) g h z a m l s j again lack gathered past written =
    a.stale.again_targets m l s j again (lacks_copied w g i b.sector b.value left (a.stale.buffer_value n b (buffer_is w n p b e.buffers)) l s lack) gathered past written
again_targets w v (ways.settles n p b e) g h z a m l s j again lack gathered past written = decided_else w g h z a n b.sector b.value (decides_settle w g a.contents a.stale.buffer_value n p b e)
    (λ i. is_gathered w m (chunk_in w s) ≡ false → IsPast w m i (chunk_in w s) → w.bit i (chunk_in w s) j ≡ true) l s (again_written w a.sound m l again) lack
    (λ old gathered past. a.stale.again_targets m l s j again old gathered past written) gathered past
again_targets w v (ways.marks n p i e) g h z a m l s j again lack gathered past written = bit_marked w g h z a n p i l s j true e.up (missed w g h z a m l again) lack (a.stale.again_targets m l s j again lack gathered past written)
again_targets w v (ways.misses_page n p i left e) g h z a m l s j again lack gathered past written = bit_marked w g h z a n p i l s j left e.up (missed w g h z a m l again) lack (a.stale.again_targets m l s j again lack gathered past written)
again_targets w v (ways.slot_clears n p i r e) g h z a m l s j again lack gathered past written = bit_cleared w g h z a n p i l s j r true e (missed w g h z a m l again) lack written
    (λ apart. a.stale.again_targets m l s j again lack gathered (past_else w g h z a m n l s r past apart) written)
again_targets w v (ways.misses_slot n p i r left e) g h z a m l s j again lack gathered past written = bit_cleared w g h z a n p i l s j r left e (missed w g h z a m l again) lack written
    (λ apart. a.stale.again_targets m l s j again lack gathered (past_else w g h z a m n l s r past apart) written)
again_targets w v x g h z a m l s j again lack gathered past written = a.stale.again_targets m l s j again lack gathered past written

-- what a node's addition tells of a leg at all, once a page was gathered
abbrev Begun : Adding → ℕ → Type 0 → Type 0
Begun y l A = is_again_of y.addition l ≡ true → 0 < y.gathering.next → A

module _ (w : Part) (g : Ghost) (h : Hold) (z : Since) (a : Known w g h z) where
  fresh_before : (m l s k : ℕ) → lacks w g l s ≡ true → is_some (w.recovery k) ≡ true → Begun (w.adding m) l (z.since k s ≡ false)
  fresh_before m l s k lack some again begun = a.stale.again_fresh m l s k again lack begun some

  -- who gathers copies nothing, and so nobody has settled anything in a recovery
  none_settled : (n k p i : ℕ) (has : ℕ → Bool) → Gathers w n k p i has → (s j : ℕ) → is_some (w.recovery j) ≡ true → z.since j s ≡ false
  none_settled n k p i has e s j some = by (z.since j s) refl
    where
      by : (b : Bool) → z.since j s ≡ b → b ≡ false
      by false is = refl
      by true is =
          let same = a.sound.turns.one j n (a.sound.turns.recovery j some) e.turn in
          let pass = a.settled.since_pass j s some is in
          absurd (clash (has_pass (w.copy n)) (subst (λ q. has_pass (w.copy q) ≡ true) same pass) (ap is_some e.pass))

  pub some_else : (recovery : ℕ → Option Recovering) (n k : ℕ) (x : Option Recovering) → is_some (recovery n) ≡ true → is_some (with_at recovery n x k) ≡ true → is_some (recovery k) ≡ true
  some_else recovery n k x here = at_point (λ y. is_some y ≡ true → is_some (recovery k) ≡ true) recovery n x k (λ is e. subst (λ q. is_some (recovery q) ≡ true) (sym is) here) (λ apart e. e)

pub again_fresh : (w v : Part) (x : Way w v) (g : Ghost) (h : Hold) (z : Since) → Known w g h z → AgainFresh v (ghost_after x g) (since_after x z)
again_fresh w v (ways.announces n o e known other no_range) g h z a m l s k again lack begun some = at_point (λ y. Begun y l (z.since k s ≡ false)) w.adding n _ m
    (λ is now. absurd (not_begun (w.adding n).addition o.wish l known other no_range now)) (λ apart. fresh_before w g h z a m l s k lack some) again begun
again_fresh w v (ways.finishes n o e meta) g h z a m l s k again lack begun some = absurd (none_begun w n o e meta m l again begun)
again_fresh w v (ways.hears_roles n roles size o e meta same) g h z a m l s k again lack begun some = at_point (λ y. Begun y l (z.since k s ≡ false)) w.adding n _ m
    (λ is now. cc) (λ apart. fresh_before w g h z a m l s k lack some) again begun
again_fresh w v (ways.leaves n x) g h z a m l s k again lack begun some = grind (arith, nat_tests, a.stale.again_fresh m l s k)
again_fresh w v (ways.quits n x) g h z a m l s k again lack begun some = grind (arith, nat_tests, a.stale.again_fresh m l s k)
again_fresh w v (ways.parts n o x) g h z a m l s k again lack begun some = grind (arith, nat_tests, a.stale.again_fresh m l s k)
again_fresh w v (ways.dies n told x) g h z a m l s k again lack begun some = grind (arith, nat_tests, a.stale.again_fresh m l s k)
again_fresh w v (ways.gathers n q p i has e) g h z a m l s k again lack begun some = none_settled w g h z a n q p i has e s k some
again_fresh w v (ways.outs n q i x t) g h z a m l s k again lack begun some = a.stale.again_fresh m l s k again (lacks_tried w g a.contents n q i x true t l s lack) begun some
again_fresh w v (ways.misses n q i x left t) g h z a m l s k again lack begun some = a.stale.again_fresh m l s k again (lacks_tried w g a.contents n q i x left t l s lack) begun some
again_fresh w v (ways.ends n q x e) g h z a m l s k again lack begun some = a.stale.again_fresh m l s k again (lacked_written w g a.sound n x.sector x.value (decides_end w g a.sound a.contents n q x e) l s (again_written w a.sound m l again) lack) begun some
again_fresh w v (ways.copies n i p b e) g h z a m l s k again lack begun some =
    a.stale.again_fresh m l s k again (lacks_copied w g i b.sector b.value true (a.stale.buffer_value n b (buffer_is w n p b e.buffers)) l s lack) begun some
again_fresh w v (ways.misses_copy n i p b left e) g h z a m l s k again lack begun some =
    a.stale.again_fresh m l s k again (lacks_copied w g i b.sector b.value left (a.stale.buffer_value n b (buffer_is w n p b e.buffers)) l s lack) begun some
again_fresh w v (ways.settles n p b e) g h z a m l s k again lack begun some =
    let d = decides_settle w g a.contents a.stale.buffer_value n p b e in
    let written = again_written w a.sound m l again in
    else_false (s == b.sector) (z.since k s) (not_there w g a.sound n b.sector b.value d l s written lack)
    (a.stale.again_fresh m l s k again (lacked_written w g a.sound n b.sector b.value d l s written lack) begun some)
again_fresh w v (ways.recovers_slot n d e) g h z a m l s k again lack begun some = grind (arith, nat_tests, a.stale.again_fresh m l s k)
again_fresh w v (ways.slot_reads n p i r has e) g h z a m l s k again lack begun some = a.stale.again_fresh m l s k again lack begun (some_else w g h z a w.recovery n k _ (ap is_some e.opened.recovery) some)
again_fresh w v (ways.slot_clears n p i r e) g h z a m l s k again lack begun some = a.stale.again_fresh m l s k again lack begun (some_else w g h z a w.recovery n k _ (ap is_some e.all.opened.recovery) some)
again_fresh w v (ways.ends_recovery n r e) g h z a m l s k again lack begun some = grind (arith, nat_tests, a.stale.again_fresh m l s k)
again_fresh w v x g h z a m l s k again lack begun some = a.stale.again_fresh m l s k again lack begun some
