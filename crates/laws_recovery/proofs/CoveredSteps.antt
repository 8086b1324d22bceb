-- Each way keeps an arm for what a covered leg lacks and isn't to be copied any more.
use Rattle.std.proofs.Common.{◌≡◌, ℕ, ◌==◌, Bool, true, false, Option, Some, None, refl, subst, arith}
use Rattle.std.specs.Prelude.{option_map}
use Rattle.std.proofs.lemmas.Bool.Decides.{nat_tests}
use Rattle.dlm_modes.specs.Points.{with_at}
use Rattle.resync_worker.specs.Copying.{Passing, settled_at}
use Rattle.cluster_model.specs.Changes.{no_copy}
use Rattle.cluster_model.specs.Gathering.{is_again_of}
use Rattle.cluster_model.specs.State.{Copy}
use Rattle.laws_roles.proofs.Parts.{covered_by}
use Rattle.storage_ways.proofs.Parts.{Part, chunk_in, todo, covers}
use Rattle.storage_ways.proofs.Roled.{covers_written}
use Rattle.storage_ways.proofs.Ways as ways
use Rattle.storage_ways.proofs.Ways.{Way}
use Rattle.laws_writes.proofs.Ghosts.{Ghost, ghost_after}
use Rattle.laws_writes.proofs.Settled.{Since}
use Rattle.laws_recovery.proofs.Arms.{arm_out, arm_else, arm_begun, arm_read, arm_clear, arm_of, arm_ended}
use Rattle.laws_recovery.proofs.Covering.{Tells, mapped, still_todo, whole_todo, all_past, goes_armless, met_covered}
use Rattle.laws_recovery.proofs.Decided.{decided_else}
use Rattle.laws_recovery.proofs.Found.{covered_found, covered_kept}
use Rattle.laws_recovery.proofs.Ghosts.{Hold, hold_after}
use Rattle.laws_recovery.proofs.Known.{Known}
use Rattle.laws_recovery.proofs.Lacks.{lacks_tried, lacks_copied, decides_end, decides_settle, buffer_is, not_there}
use Rattle.laws_writes.proofs.Points.{at_point, either_if, same_point, and_left}
use Rattle.laws_recovery.proofs.Stale.{CoveredArm, lacks, arm}

-- what a node's copying tells of a covered leg
abbrev pub Copies : ℕ → ℕ → Type 0 → Copy → Type 0
Copies l c A y = Tells y.pass l c A

pub same_leg : (k l : ℕ) → (l == k) ≡ true → k ≡ l
same_leg k l e = grind (arith, nat_tests)

-- a slot apart from one that answered
pub apart_if : (k d : ℕ) → (k ≡ d → ⊥) → (k == d) ≡ false
apart_if k d f = by (k == d) refl
  where
    by : (b : Bool) → (k == d) ≡ b → b ≡ false
    by false e = refl
    by true e = absurd (f (same_point k d e))

module _ (w : Part) (g : Ghost) (h : Hold) (z : Since) (a : Known w g h z) where
  arm_before : (m l s : ℕ) → lacks w g l s ≡ true → Copies l (chunk_in w s) (arm w (h.hold l s) (chunk_in w s) ≡ true) (w.copy m)
  arm_before m l s lack covered copied = a.stale.covered_arm m l s covered lack copied

  arm_mapped : (f : Passing → Passing) (m l s : ℕ) → lacks w g l s ≡ true → ((p : Passing) → (f p).covered l ≡ true → p.covered l ≡ true) → ((p : Passing) → (f p).todo (chunk_in w s) ≡ false → p.todo (chunk_in w s) ≡ false)
      → Tells (option_map f (w.copy m).pass) l (chunk_in w s) (arm w (h.hold l s) (chunk_in w s) ≡ true)
  arm_mapped f m l s lack covered left = mapped f (w.copy m).pass l (chunk_in w s) (arm w (h.hold l s) (chunk_in w s) ≡ true) covered left (arm_before m l s lack)

  -- a pass of the node that goes
  pub arm_gone : (m n l s : ℕ) (A : Type 0) → ((m == n) ≡ false → covers w m l ≡ true → todo w m (chunk_in w s) ≡ false → A) → Copies l (chunk_in w s) A (with_at w.copy n no_copy m)
  arm_gone m n l s A old = at_point (Copies l (chunk_in w s) A) w.copy n no_copy m (λ is e. cc) old

  pub settled_covers : (n l : ℕ) (f : Passing → Passing) (x : Option Passing) → ((p : Passing) → (f p).covered l ≡ true → p.covered l ≡ true) → covered_by (option_map f x) l ≡ true → covered_by x l ≡ true
  settled_covers n l f None same e = cc
  settled_covers n l f (Some p) same e = same p e

pub covered_arm : (w v : Part) (x : Way w v) (g : Ghost) (h : Hold) (z : Since) → Known w g h z → CoveredArm v (ghost_after x g) (hold_after x g h)
covered_arm w v (ways.shuts n r o told e same) g h z a m l s covered lack copied = at_point (Copies l (chunk_in w s) (arm w (h.hold l s) (chunk_in w s) ≡ true)) w.copy n _ m
    (λ is. arm_mapped w g h z a _ n l s lack (λ p e. e) (λ p e. e)) (λ apart. arm_before w g h z a m l s lack) covered copied
covered_arm w v (ways.opens n r o e wish) g h z a m l s covered lack copied = at_point (Copies l (chunk_in w s) (arm w (h.hold l s) (chunk_in w s) ≡ true)) w.copy n _ m
    (λ is. arm_before w g h z a n l s lack) (λ apart. arm_before w g h z a m l s lack) covered copied
covered_arm w v (ways.finishes n o e meta) g h z a m l s covered lack copied = at_point (Copies l (chunk_in w s) (arm w (h.hold l s) (chunk_in w s) ≡ true)) w.copy n _ m
    (λ is. arm_mapped w g h z a _ n l s lack (λ p e. and_left (p.covered l) _ e) (λ p e. e)) (λ apart. arm_before w g h z a m l s lack) covered copied
covered_arm w v (ways.hears_roles n roles size o e meta same) g h z a m l s covered lack copied = at_point (Copies l (chunk_in w s) (arm w (h.hold l s) (chunk_in w s) ≡ true)) w.copy n _ m
    (λ is. arm_mapped w g h z a _ n l s lack (λ p e. and_left (p.covered l) _ e) (λ p e. e)) (λ apart. arm_before w g h z a m l s lack) covered copied
covered_arm w v (ways.comes n k says lost ranges e) g h z a m l s covered lack copied = at_point (Copies l (chunk_in w s) (arm w (h.hold l s) (chunk_in w s) ≡ true)) w.copy n _ m
    (λ is. arm_mapped w g h z a _ n l s lack (λ p e. and_left (p.covered l) _ e) (λ p e. e)) (λ apart. arm_before w g h z a m l s lack) covered copied
covered_arm w v (ways.leaves n x) g h z a m l s covered lack copied = arm_gone w g h z a m n l s (arm v (h.hold l s) (chunk_in w s) ≡ true)
    (λ apart covered copied. let old = a.stale.covered_arm m l s covered lack copied in arm_else w.pending w.recovery n (h.hold l s) (chunk_in w s) (goes_armless w g h z a n (h.hold l s) (chunk_in w s) x.going old) old) covered copied
covered_arm w v (ways.quits n x) g h z a m l s covered lack copied = arm_gone w g h z a m n l s (arm v (h.hold l s) (chunk_in w s) ≡ true)
    (λ apart covered copied. let old = a.stale.covered_arm m l s covered lack copied in arm_else w.pending w.recovery n (h.hold l s) (chunk_in w s) (goes_armless w g h z a n (h.hold l s) (chunk_in w s) x.going old) old) covered copied
covered_arm w v (ways.parts n o x) g h z a m l s covered lack copied = arm_gone w g h z a m n l s (arm v (h.hold l s) (chunk_in w s) ≡ true)
    (λ apart covered copied. arm_out w.pending w.recovery n (h.hold l s) (chunk_in w s) (a.stale.covered_arm m l s covered lack copied)) covered copied
covered_arm w v (ways.dies n told x) g h z a m l s covered lack copied = arm_gone w g h z a m n l s (arm v (h.hold l s) (chunk_in w s) ≡ true)
    (λ apart covered copied. arm_out w.pending w.recovery n (h.hold l s) (chunk_in w s) (a.stale.covered_arm m l s covered lack copied)) covered copied
covered_arm w v (ways.outs n k i x t) g h z a m l s covered lack copied = a.stale.covered_arm m l s covered (lacks_tried w g a.contents n k i x true t l s lack) copied
covered_arm w v (ways.misses n k i x left t) g h z a m l s covered lack copied = a.stale.covered_arm m l s covered (lacks_tried w g a.contents n k i x left t l s lack) copied
covered_arm w v (ways.ends n k x e) g h z a m l s covered lack copied = decided_else w g h z a n x.sector x.value (decides_end w g a.sound a.contents n k x e)
    (λ j. arm w j (chunk_in w s) ≡ true) l s (covers_written w a.sound m l covered) lack (λ old. a.stale.covered_arm m l s covered old copied)
covered_arm w v (ways.turns n up turn stays) g h z a m l s covered lack copied = at_point (Copies l (chunk_in w s) (arm w (h.hold l s) (chunk_in w s) ≡ true)) w.copy n _ m
    (λ is. arm_before w g h z a n l s lack) (λ apart. arm_before w g h z a m l s lack) covered copied
covered_arm w v (ways.holds_turn n up turn alone) g h z a m l s covered lack copied = at_point (Copies l (chunk_in w s) (arm w (h.hold l s) (chunk_in w s) ≡ true)) w.copy n _ m
    (λ is. arm_before w g h z a n l s lack) (λ apart. arm_before w g h z a m l s lack) covered copied
covered_arm w v (ways.passes_own n e) g h z a m l s covered lack copied = at_point (Copies l (chunk_in w s) (arm w (h.hold l s) (chunk_in w s) ≡ true)) w.copy n _ m
    (λ is e. cc) (λ apart. arm_before w g h z a m l s lack) covered copied
covered_arm w v (ways.passes_full n e) g h z a m l s covered lack copied = at_point (Copies l (chunk_in w s) (arm w (h.hold l s) (chunk_in w s) ≡ true)) w.copy n _ m
    (λ is covered copied. absurd (whole_todo w g h z a l s lack copied)) (λ apart. arm_before w g h z a m l s lack) covered copied
covered_arm w v (ways.passes_again n k e) g h z a m l s covered lack copied = at_point (Copies l (chunk_in w s) (arm w (h.hold l s) (chunk_in w s) ≡ true)) w.copy n _ m
    (λ is covered copied. let again = subst (λ j. is_again_of (w.adding n).addition j ≡ true) (same_leg k l covered) e.again in
    a.stale.again_arm n l s again lack copied (all_past w g h z a n k e l s again lack))
    (λ apart. arm_before w g h z a m l s lack) covered copied
covered_arm w v (ways.fills n t i u p r e) g h z a m l s covered lack copied = at_point (Copies l (chunk_in w s) (arm w (h.hold l s) (chunk_in w s) ≡ true)) w.copy n _ m
    (λ is. arm_mapped w g h z a _ n l s lack (λ p e. e) (λ p e. e)) (λ apart. arm_before w g h z a m l s lack) covered copied
covered_arm w v (ways.copies n i p b e) g h z a m l s covered lack copied = let old = lacks_copied w g i b.sector b.value true (a.stale.buffer_value n b (buffer_is w n p b e.buffers)) l s lack in
    at_point (Copies l (chunk_in w s) (arm w (h.hold l s) (chunk_in w s) ≡ true)) w.copy n _ m
    (λ is. arm_mapped w g h z a _ n l s old (λ p e. e) (λ p e. e)) (λ apart. arm_before w g h z a m l s old) covered copied
covered_arm w v (ways.misses_copy n i p b left e) g h z a m l s covered lack copied =
    a.stale.covered_arm m l s covered (lacks_copied w g i b.sector b.value left (a.stale.buffer_value n b (buffer_is w n p b e.buffers)) l s lack) copied
covered_arm w v (ways.settles n p b e) g h z a m l s covered lack copied = at_point (Copies l (chunk_in w s) (arm w ((hold_after (ways.settles n p b e) g h).hold l s) (chunk_in w s) ≡ true)) w.copy n _ m
    (λ is covered copied.
    let before = settled_covers w g h z a n l (λ q. settled_at w.geometry q b) (w.copy n).pass (λ q e. e) covered in
    let d = decides_settle w g a.contents a.stale.buffer_value n p b e in
    let written = covers_written w a.sound n l before in
    let apart = not_there w g a.sound n b.sector b.value d l s written lack in
    decided_else w g h z a n b.sector b.value d (λ j. arm w j (chunk_in w s) ≡ true) l s written lack
    (λ old. arm_mapped w g h z a (λ q. settled_at w.geometry q b) n l s old (λ q e. e) (still_todo w g h z a n p b e l s before old apart) covered copied))
    (λ other covered copied.
    decided_else w g h z a n b.sector b.value (decides_settle w g a.contents a.stale.buffer_value n p b e) (λ j. arm w j (chunk_in w s) ≡ true) l s (covers_written w a.sound m l covered) lack
    (λ old. a.stale.covered_arm m l s covered old copied)) covered copied
covered_arm w v (ways.ends_pass n e) g h z a m l s covered lack copied = at_point (Copies l (chunk_in w s) (arm w (h.hold l s) (chunk_in w s) ≡ true)) w.copy n _ m
    (λ is e. cc) (λ apart. arm_before w g h z a m l s lack) covered copied
covered_arm w v (ways.recovers_slot n d e) g h z a m l s covered lack copied = arm_begun w.pending w.recovery n d (h.hold l s) (chunk_in w s) e.recovery (a.stale.covered_arm m l s covered lack copied)
covered_arm w v (ways.slot_reads n p i r has e) g h z a m l s covered lack copied = arm_read w.pending w.recovery n p i (h.hold l s) (chunk_in w s) r has e.opened.recovery (a.stale.covered_arm m l s covered lack copied)
covered_arm w v (ways.slot_clears n p i r e) g h z a m l s covered lack copied = either_if (λ j. arm v j (chunk_in w s) ≡ true) (h.hold l s == r.slot) n (h.hold l s)
    (λ is. arm_clear w.pending w.recovery n p i n (chunk_in w s) r e.all.opened.recovery
    (arm_of w.pending w.recovery n (chunk_in w s) r e.all.opened.recovery (covered_found w g h z a n m l s r e.all covered lack copied (same_point (h.hold l s) r.slot is))))
    (λ apart. arm_clear w.pending w.recovery n p i (h.hold l s) (chunk_in w s) r e.all.opened.recovery (a.stale.covered_arm m l s covered lack copied))
covered_arm w v (ways.misses_slot n p i r left e) g h z a m l s covered lack copied = either_if (λ j. arm w j (chunk_in w s) ≡ true) (h.hold l s == r.slot) n (h.hold l s)
    (λ is. arm_of w.pending w.recovery n (chunk_in w s) r e.all.opened.recovery (covered_found w g h z a n m l s r e.all covered lack copied (same_point (h.hold l s) r.slot is)))
    (λ apart. a.stale.covered_arm m l s covered lack copied)
covered_arm w v (ways.ends_recovery n r e) g h z a m l s covered lack copied = arm_ended w.pending w.recovery r.slot n (h.hold l s) (chunk_in w s)
    (apart_if (h.hold l s) r.slot (λ is. covered_kept w g h z a n m l s r e covered lack copied is)) (λ found. met_covered w g h z a m n l s r e covered lack found) (a.stale.covered_arm m l s covered lack copied)
covered_arm w v x g h z a m l s covered lack copied = a.stale.covered_arm m l s covered lack copied
