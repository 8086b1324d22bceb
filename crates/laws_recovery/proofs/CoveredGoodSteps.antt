-- Each way keeps the marks of what a covered leg lacks and isn't to be copied any more.
use Rattle.std.proofs.Common.{◌≡◌, ℕ, ◌==◌, Bool, true, false, if◌then◌else◌, refl, ap, subst}
use Rattle.std.specs.Prelude.{option_map}
use Rattle.node_recovery.specs.Progress.{Recovering}
use Rattle.resync_worker.specs.Copying.{Passing, settled_at}
use Rattle.cluster_model.specs.Gathering.{is_again_of}
use Rattle.cluster_model.specs.Phases.{is_up}
use Rattle.laws_roles.proofs.Parts.{promotes}
use Rattle.storage_ways.proofs.Parts.{Part, chunk_in, todo, covers, found_in, with_page_if}
use Rattle.storage_ways.proofs.Roled.{covers_written, good_written}
use Rattle.storage_ways.proofs.Ways as ways
use Rattle.storage_ways.proofs.Ways.{Way, SlotClears}
use Rattle.laws_writes.proofs.Ghosts.{Ghost, ghost_after}
use Rattle.laws_writes.proofs.Settled.{Since}
use Rattle.laws_recovery.proofs.Covering.{Tells, mapped, still_todo, whole_todo, all_past, found_need, covered_bit}
use Rattle.laws_recovery.proofs.CoveredSteps.{Copies, same_leg, arm_gone, settled_covers}
use Rattle.laws_recovery.proofs.Decided.{decided_else}
use Rattle.laws_recovery.proofs.Ghosts.{Hold, hold_after}
use Rattle.laws_recovery.proofs.HolderSteps.{offered_good}
use Rattle.laws_recovery.proofs.Known.{Known}
use Rattle.laws_recovery.proofs.Lacks.{lacks_tried, lacks_copied, decides_end, decides_settle, buffer_is, not_there}
use Rattle.laws_recovery.proofs.Marked.{wish_good, bit_kept, bit_else, apart_sym}
use Rattle.laws_writes.proofs.Points.{at_point, either_if, same_point, clash, and_left, or_right}
use Rattle.laws_recovery.proofs.Stale.{CoveredGood, lacks, arm}
use Rattle.laws_recovery.proofs.StaleSteps.{no_arm}

module _ (w : Part) (g : Ghost) (h : Hold) (z : Since) (a : Known w g h z) where
  bit_before : (m l s j : ℕ) → lacks w g l s ≡ true → w.ghost.good j ≡ true → Copies l (chunk_in w s) (w.bit (h.hold l s) (chunk_in w s) j ≡ true) (w.copy m)
  bit_before m l s j lack good covered copied = a.stale.covered_good m l s j covered lack copied good

  bit_mapped : (f : Passing → Passing) (m l s j : ℕ) → lacks w g l s ≡ true → w.ghost.good j ≡ true → ((p : Passing) → (f p).covered l ≡ true → p.covered l ≡ true)
      → ((p : Passing) → (f p).todo (chunk_in w s) ≡ false → p.todo (chunk_in w s) ≡ false)
      → Tells (option_map f (w.copy m).pass) l (chunk_in w s) (w.bit (h.hold l s) (chunk_in w s) j ≡ true)
  bit_mapped f m l s j lack good covered left = mapped f (w.copy m).pass l (chunk_in w s) (w.bit (h.hold l s) (chunk_in w s) j ≡ true) covered left (bit_before m l s j lack good)

  -- the page of an up node that answers has the chunk: its recovery found it
  found_set : (m n l s : ℕ) → is_up (w.state n) ≡ true → covers w m l ≡ true → lacks w g l s ≡ true → todo w m (chunk_in w s) ≡ false → (h.hold l s == n) ≡ true → (w.bitmap n).set (chunk_in w s) ≡ true
  found_set m n l s up covered lack copied is =
      let armed = subst (λ k. arm w k (chunk_in w s) ≡ true) (same_point (h.hold l s) n is) (a.stale.covered_arm m l s covered lack copied) in
      let found = or_right (w.pending n) (found_in (w.recovery n) (chunk_in w s)) (up_settled (w.pending n) refl) armed in
      a.bits.need_set n (chunk_in w s) (found_need w g h z a m n l s covered lack found)
    where
      up_settled : (b : Bool) → w.pending n ≡ b → b ≡ false
      up_settled false e = refl
      up_settled true e = absurd (clash (is_up (w.state n)) up (ap is_up (a.sound.phases.pending n e)))

  covered_marked : (m n p i l s j : ℕ) (left : Bool) → is_up (w.state n) ≡ true → covers w m l ≡ true → lacks w g l s ≡ true → todo w m (chunk_in w s) ≡ false → w.ghost.good j ≡ true
      → with_page_if left w.bit n p i (w.bitmap n).set (h.hold l s) (chunk_in w s) j ≡ true
  covered_marked m n p i l s j left up covered lack copied good =
      bit_kept w.bit left n p i (w.bitmap n).set (h.hold l s) (chunk_in w s) j (found_set m n l s up covered lack copied) (a.stale.covered_good m l s j covered lack copied good)

  covered_cleared : (m n p i l s j : ℕ) (r : Recovering) (left : Bool) → SlotClears w n p i r → covers w m l ≡ true → lacks w g l s ≡ true → todo w m (chunk_in w s) ≡ false → w.ghost.good j ≡ true
      → with_page_if left w.bit r.slot p i (λ c. false) (if h.hold l s == r.slot then n else h.hold l s) (chunk_in w s) j ≡ true
  covered_cleared m n p i l s j r left e covered lack copied good =
      either_if (λ k. with_page_if left w.bit r.slot p i (λ c. false) k (chunk_in w s) j ≡ true) (h.hold l s == r.slot) n (h.hold l s)
      (λ is. bit_else w.bit left r.slot p i (λ c. false) n (chunk_in w s) j (apart_sym r.slot n e.all.opened.other) (covered_bit w g h z a m n p i l s j r e covered lack copied (same_point (h.hold l s) r.slot is) good))
      (λ apart. bit_else w.bit left r.slot p i (λ c. false) (h.hold l s) (chunk_in w s) j apart (a.stale.covered_good m l s j covered lack copied good))

pub covered_good : (w v : Part) (x : Way w v) (g : Ghost) (h : Hold) (z : Since) → Known w g h z → CoveredGood v (ghost_after x g) (hold_after x g h)
covered_good w v (ways.shuts n r o told e same) g h z a m l s j covered lack copied good = at_point (Copies l (chunk_in w s) (w.bit (h.hold l s) (chunk_in w s) j ≡ true)) w.copy n _ m
    (λ is. bit_mapped w g h z a _ n l s j lack good (λ p e. e) (λ p e. e)) (λ apart. bit_before w g h z a m l s j lack good) covered copied
covered_good w v (ways.opens n r o e wish) g h z a m l s j covered lack copied good = at_point (Copies l (chunk_in w s) (w.bit (h.hold l s) (chunk_in w s) j ≡ true)) w.copy n _ m
    (λ is. bit_before w g h z a n l s j lack good) (λ apart. bit_before w g h z a m l s j lack good) covered copied
covered_good w v (ways.finishes n o e meta) g h z a m l s j covered lack copied good = let was = offered_good w g h z a n o e meta j good in
    at_point (Copies l (chunk_in w s) (w.bit (h.hold l s) (chunk_in w s) j ≡ true)) w.copy n _ m
    (λ is. bit_mapped w g h z a _ n l s j lack was (λ p e. and_left (p.covered l) _ e) (λ p e. e)) (λ apart. bit_before w g h z a m l s j lack was) covered copied
covered_good w v (ways.hears_roles n roles size o e meta same) g h z a m l s j covered lack copied good = at_point (Copies l (chunk_in w s) (w.bit (h.hold l s) (chunk_in w s) j ≡ true)) w.copy n _ m
    (λ is. bit_mapped w g h z a _ n l s j lack good (λ p e. and_left (p.covered l) _ e) (λ p e. e)) (λ apart. bit_before w g h z a m l s j lack good) covered copied
covered_good w v (ways.comes n k says lost ranges e) g h z a m l s j covered lack copied good = at_point (Copies l (chunk_in w s) (w.bit (h.hold l s) (chunk_in w s) j ≡ true)) w.copy n _ m
    (λ is. bit_mapped w g h z a _ n l s j lack good (λ p e. and_left (p.covered l) _ e) (λ p e. e)) (λ apart. bit_before w g h z a m l s j lack good) covered copied
covered_good w v (ways.leaves n x) g h z a m l s j covered lack copied good = arm_gone w g h z a m n l s (w.bit (h.hold l s) (chunk_in w s) j ≡ true)
    (λ apart. bit_before w g h z a m l s j lack good) covered copied
covered_good w v (ways.quits n x) g h z a m l s j covered lack copied good = arm_gone w g h z a m n l s (w.bit (h.hold l s) (chunk_in w s) j ≡ true)
    (λ apart. bit_before w g h z a m l s j lack good) covered copied
covered_good w v (ways.parts n o x) g h z a m l s j covered lack copied good = arm_gone w g h z a m n l s (w.bit (h.hold l s) (chunk_in w s) j ≡ true)
    (λ apart. bit_before w g h z a m l s j lack good) covered copied
covered_good w v (ways.dies n told x) g h z a m l s j covered lack copied good = arm_gone w g h z a m n l s (w.bit (h.hold l s) (chunk_in w s) j ≡ true)
    (λ apart. bit_before w g h z a m l s j lack good) covered copied
covered_good w v (ways.offers n o x) g h z a m l s j covered lack copied good = by (w.ghost.good j) refl
  where
    by : (b : Bool) → w.ghost.good j ≡ b → w.bit (h.hold l s) (chunk_in w s) j ≡ true
    by true e = a.stale.covered_good m l s j covered lack copied e
    by false e =
        let promoted = or_right (w.ghost.good j) (promotes o.wish j) e (wish_good w.ghost o.wish j good) in
        absurd (clash (arm w (h.hold l s) (chunk_in w s)) (a.stale.covered_arm m l s covered lack copied) (no_arm w g h z a (λ d. x.none_pending j d promoted) (h.hold l s) (chunk_in w s)))
covered_good w v (ways.outs n k i x t) g h z a m l s j covered lack copied good = a.stale.covered_good m l s j covered (lacks_tried w g a.contents n k i x true t l s lack) copied good
covered_good w v (ways.misses n k i x left t) g h z a m l s j covered lack copied good = a.stale.covered_good m l s j covered (lacks_tried w g a.contents n k i x left t l s lack) copied good
covered_good w v (ways.ends n k x e) g h z a m l s j covered lack copied good = decided_else w g h z a n x.sector x.value (decides_end w g a.sound a.contents n k x e)
    (λ k. w.bit k (chunk_in w s) j ≡ true) l s (covers_written w a.sound m l covered) lack (λ old. a.stale.covered_good m l s j covered old copied good)
covered_good w v (ways.turns n up turn stays) g h z a m l s j covered lack copied good = at_point (Copies l (chunk_in w s) (w.bit (h.hold l s) (chunk_in w s) j ≡ true)) w.copy n _ m
    (λ is. bit_before w g h z a n l s j lack good) (λ apart. bit_before w g h z a m l s j lack good) covered copied
covered_good w v (ways.holds_turn n up turn alone) g h z a m l s j covered lack copied good = at_point (Copies l (chunk_in w s) (w.bit (h.hold l s) (chunk_in w s) j ≡ true)) w.copy n _ m
    (λ is. bit_before w g h z a n l s j lack good) (λ apart. bit_before w g h z a m l s j lack good) covered copied
covered_good w v (ways.passes_own n e) g h z a m l s j covered lack copied good = at_point (Copies l (chunk_in w s) (w.bit (h.hold l s) (chunk_in w s) j ≡ true)) w.copy n _ m
    (λ is e. cc) (λ apart. bit_before w g h z a m l s j lack good) covered copied
covered_good w v (ways.passes_full n e) g h z a m l s j covered lack copied good = at_point (Copies l (chunk_in w s) (w.bit (h.hold l s) (chunk_in w s) j ≡ true)) w.copy n _ m
    (λ is covered copied. absurd (whole_todo w g h z a l s lack copied)) (λ apart. bit_before w g h z a m l s j lack good) covered copied
covered_good w v (ways.passes_again n k e) g h z a m l s j covered lack copied good = at_point (Copies l (chunk_in w s) (w.bit (h.hold l s) (chunk_in w s) j ≡ true)) w.copy n _ m
    (λ is covered copied. let again = subst (λ y. is_again_of (w.adding n).addition y ≡ true) (same_leg k l covered) e.again in
    a.stale.again_targets n l s j again lack copied (all_past w g h z a n k e l s again lack) (good_written w a.sound j good))
    (λ apart. bit_before w g h z a m l s j lack good) covered copied
covered_good w v (ways.marks n p i e) g h z a m l s j covered lack copied good = covered_marked w g h z a m n p i l s j true e.up covered lack copied good
covered_good w v (ways.misses_page n p i left e) g h z a m l s j covered lack copied good = covered_marked w g h z a m n p i l s j left e.up covered lack copied good
covered_good w v (ways.fills n t i u p r e) g h z a m l s j covered lack copied good = at_point (Copies l (chunk_in w s) (w.bit (h.hold l s) (chunk_in w s) j ≡ true)) w.copy n _ m
    (λ is. bit_mapped w g h z a _ n l s j lack good (λ p e. e) (λ p e. e)) (λ apart. bit_before w g h z a m l s j lack good) covered copied
covered_good w v (ways.copies n i p b e) g h z a m l s j covered lack copied good = let old = lacks_copied w g i b.sector b.value true (a.stale.buffer_value n b (buffer_is w n p b e.buffers)) l s lack in
    at_point (Copies l (chunk_in w s) (w.bit (h.hold l s) (chunk_in w s) j ≡ true)) w.copy n _ m
    (λ is. bit_mapped w g h z a _ n l s j old good (λ p e. e) (λ p e. e)) (λ apart. bit_before w g h z a m l s j old good) covered copied
covered_good w v (ways.misses_copy n i p b left e) g h z a m l s j covered lack copied good =
    a.stale.covered_good m l s j covered (lacks_copied w g i b.sector b.value left (a.stale.buffer_value n b (buffer_is w n p b e.buffers)) l s lack) copied good
covered_good w v (ways.settles n p b e) g h z a m l s j covered lack copied good = at_point (Copies l (chunk_in w s) (w.bit ((hold_after (ways.settles n p b e) g h).hold l s) (chunk_in w s) j ≡ true)) w.copy n _ m
    (λ is covered copied.
    let before = settled_covers w g h z a n l (λ q. settled_at w.geometry q b) (w.copy n).pass (λ q e. e) covered in
    let d = decides_settle w g a.contents a.stale.buffer_value n p b e in
    let written = covers_written w a.sound n l before in
    let apart = not_there w g a.sound n b.sector b.value d l s written lack in
    decided_else w g h z a n b.sector b.value d (λ k. w.bit k (chunk_in w s) j ≡ true) l s written lack
    (λ old. bit_mapped w g h z a (λ q. settled_at w.geometry q b) n l s j old good (λ q e. e) (still_todo w g h z a n p b e l s before old apart) covered copied))
    (λ other covered copied.
    decided_else w g h z a n b.sector b.value (decides_settle w g a.contents a.stale.buffer_value n p b e) (λ k. w.bit k (chunk_in w s) j ≡ true) l s (covers_written w a.sound m l covered) lack
    (λ old. a.stale.covered_good m l s j covered old copied good)) covered copied
covered_good w v (ways.ends_pass n e) g h z a m l s j covered lack copied good = at_point (Copies l (chunk_in w s) (w.bit (h.hold l s) (chunk_in w s) j ≡ true)) w.copy n _ m
    (λ is e. cc) (λ apart. bit_before w g h z a m l s j lack good) covered copied
covered_good w v (ways.slot_clears n p i r e) g h z a m l s j covered lack copied good = covered_cleared w g h z a m n p i l s j r true e covered lack copied good
covered_good w v (ways.misses_slot n p i r left e) g h z a m l s j covered lack copied good = covered_cleared w g h z a m n p i l s j r left e covered lack copied good
covered_good w v x g h z a m l s j covered lack copied good = a.stale.covered_good m l s j covered lack copied good
