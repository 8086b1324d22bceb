-- Each way keeps that a recovery settled nothing that a leg lacks which its pass covers.
use Rattle.std.proofs.Common.{◌≡◌, ℕ, ◌==◌, Bool, true, false, if◌then◌else◌, Option, Some, None, refl, sym, ap, subst, arith}
use Rattle.std.specs.Prelude.{is_some, option_map}
use Rattle.dlm_modes.specs.Points.{with_at}
use Rattle.node_recovery.specs.Progress.{Recovering}
use Rattle.resync_worker.specs.Copying.{Passing, restarted, filled, copied, settled_at}
use Rattle.cluster_model.specs.Changes.{no_copy}
use Rattle.cluster_model.specs.State.{Copy}
use Rattle.laws_roles.proofs.Parts.{covered_by}
use Rattle.storage_ways.proofs.Parts.{Part}
use Rattle.storage_ways.proofs.Roled.{covers_written}
use Rattle.storage_ways.proofs.Ways as ways
use Rattle.storage_ways.proofs.Ways.{Way}
use Rattle.laws_writes.proofs.Ghosts.{Ghost, ghost_after}
use Rattle.laws_writes.proofs.Settled.{Since, since_after}
use Rattle.laws_recovery.proofs.AgainMarkSteps.{else_false, some_else}
use Rattle.laws_recovery.proofs.Covering.{no_since}
use Rattle.laws_recovery.proofs.Ghosts.{Hold}
use Rattle.laws_recovery.proofs.Known.{Known}
use Rattle.laws_recovery.proofs.Lacks.{lacks_tried, lacks_copied, decides_end, decides_settle, buffer_is, not_there, lacked_written}
use Rattle.laws_writes.proofs.Points.{at_point, and_left}
use Rattle.laws_recovery.proofs.Stale.{CoveredFresh, lacks}

covered_mapped : (l : ℕ) (f : Passing → Passing) (x : Option Passing) → ((p : Passing) → (f p).covered l ≡ true → p.covered l ≡ true) → covered_by (option_map f x) l ≡ true → covered_by x l ≡ true
covered_mapped l f None same e = cc
covered_mapped l f (Some p) same e = same p e

covered_point : (copy : ℕ → Copy) (n m l : ℕ) (y : Copy) → (covered_by y.pass l ≡ true → covered_by (copy n).pass l ≡ true) → covered_by (with_at copy n y m).pass l ≡ true → covered_by (copy m).pass l ≡ true
covered_point copy n m l y less = at_point (λ x. covered_by x.pass l ≡ true → covered_by (copy m).pass l ≡ true) copy n y m
    (λ is e. subst (λ j. covered_by (copy j).pass l ≡ true) (sym is) (less e)) (λ apart e. e)

some_left : (recovery : ℕ → Option Recovering) (n m : ℕ) → is_some (with_at recovery n None m) ≡ true → is_some (recovery m) ≡ true
some_left recovery n m = at_point (λ y. is_some y ≡ true → is_some (recovery m) ≡ true) recovery n None m (λ is e. cc) (λ apart e. e)

begun_false : (b c : Bool) → (b ≡ false → c ≡ false) → (if b then false else c) ≡ false
begun_false true c f = refl
begun_false false c f = f refl

some_begun : (recovery : ℕ → Option Recovering) (n m : ℕ) (x : Option Recovering) → (m == n) ≡ false → is_some (with_at recovery n x m) ≡ true → is_some (recovery m) ≡ true
some_begun recovery n m x apart e = grind arith

module _ (w : Part) (g : Ghost) (h : Hold) (z : Since) (a : Known w g h z) where
  -- a pass that goes on covers no more
  goes_on : (n m l s : ℕ) (f : Passing → Passing) → ((p : Passing) → (f p).covered l ≡ true → p.covered l ≡ true) → lacks w g l s ≡ true → is_some (w.recovery m) ≡ true
      → covered_by (with_at w.copy n (record (w.copy n) { pass = option_map f (w.copy n).pass }) m).pass l ≡ true → z.since m s ≡ false
  goes_on n m l s f same lack some e = a.stale.covered_fresh m l s (covered_point w.copy n m l (record (w.copy n) { pass = option_map f (w.copy n).pass }) (covered_mapped l f (w.copy n).pass same) e) lack some

  goes_out : (n m l s : ℕ) → lacks w g l s ≡ true → is_some (with_at w.recovery n None m) ≡ true → covered_by (with_at w.copy n no_copy m).pass l ≡ true → z.since m s ≡ false
  goes_out n m l s lack some e = a.stale.covered_fresh m l s (covered_point w.copy n m l no_copy (λ e. cc) e) lack (some_left w.recovery n m some)

  begins : (n m l s : ℕ) (p : Passing) → (w.copy n).pass ≡ None → lacks w g l s ≡ true → is_some (w.recovery m) ≡ true
      → covered_by (with_at w.copy n (record (w.copy n) { pass = Some p }) m).pass l ≡ true → z.since m s ≡ false
  begins n m l s p none lack some = at_point (λ y. covered_by y.pass l ≡ true → z.since m s ≡ false) w.copy n (record (w.copy n) { pass = Some p }) m
      (λ is e. subst (λ j. z.since j s ≡ false) (sym is) (no_since w g h z a n s none (subst (λ j. is_some (w.recovery j) ≡ true) is some)))
      (λ apart e. a.stale.covered_fresh m l s e lack some)

pub covered_fresh : (w v : Part) (x : Way w v) (g : Ghost) (h : Hold) (z : Since) → Known w g h z → CoveredFresh v (ghost_after x g) (since_after x z)
covered_fresh w v (ways.shuts n r o told e same) g h z a m l s covered lack some = a.stale.covered_fresh m l s (covered_point w.copy n m l _ (covered_mapped l restarted (w.copy n).pass (λ p e. e)) covered) lack some
covered_fresh w v (ways.opens n r o e wish) g h z a m l s covered lack some = a.stale.covered_fresh m l s (covered_point w.copy n m l _ (λ e. e) covered) lack some
covered_fresh w v (ways.finishes n o e meta) g h z a m l s covered lack some = goes_on w g h z a n m l s _ (λ p e. and_left (p.covered l) _ e) lack some covered
covered_fresh w v (ways.hears_roles n roles size o e meta same) g h z a m l s covered lack some = goes_on w g h z a n m l s _ (λ p e. and_left (p.covered l) _ e) lack some covered
covered_fresh w v (ways.comes n k says lost ranges e) g h z a m l s covered lack some = goes_on w g h z a n m l s _ (λ p e. and_left (p.covered l) _ e) lack some covered
covered_fresh w v (ways.leaves n x) g h z a m l s covered lack some = goes_out w g h z a n m l s lack some covered
covered_fresh w v (ways.quits n x) g h z a m l s covered lack some = goes_out w g h z a n m l s lack some covered
covered_fresh w v (ways.parts n o x) g h z a m l s covered lack some = begun_false (m == n) (z.since m s) (λ apart. goes_out w g h z a n m l s lack some covered)
covered_fresh w v (ways.dies n told x) g h z a m l s covered lack some = begun_false (m == n) (z.since m s) (λ apart. goes_out w g h z a n m l s lack some covered)
covered_fresh w v (ways.outs n k i x t) g h z a m l s covered lack some = a.stale.covered_fresh m l s covered (lacks_tried w g a.contents n k i x true t l s lack) some
covered_fresh w v (ways.misses n k i x left t) g h z a m l s covered lack some = a.stale.covered_fresh m l s covered (lacks_tried w g a.contents n k i x left t l s lack) some
covered_fresh w v (ways.ends n k x e) g h z a m l s covered lack some =
    a.stale.covered_fresh m l s covered (lacked_written w g a.sound n x.sector x.value (decides_end w g a.sound a.contents n k x e) l s (covers_written w a.sound m l covered) lack) some
covered_fresh w v (ways.turns n up turn stays) g h z a m l s covered lack some = a.stale.covered_fresh m l s (covered_point w.copy n m l _ (λ e. e) covered) lack some
covered_fresh w v (ways.holds_turn n up turn alone) g h z a m l s covered lack some = a.stale.covered_fresh m l s (covered_point w.copy n m l _ (λ e. e) covered) lack some
covered_fresh w v (ways.passes_own n e) g h z a m l s covered lack some = begins w g h z a n m l s _ e.pass lack some covered
covered_fresh w v (ways.passes_full n e) g h z a m l s covered lack some = begins w g h z a n m l s _ e.pass lack some covered
covered_fresh w v (ways.passes_again n k e) g h z a m l s covered lack some = begins w g h z a n m l s _ e.passes.pass lack some covered
covered_fresh w v (ways.fills n t i u p r e) g h z a m l s covered lack some = goes_on w g h z a n m l s (λ q. filled q t u i) (λ q e. e) lack some covered
covered_fresh w v (ways.copies n i p b e) g h z a m l s covered lack some =
    goes_on w g h z a n m l s (λ q. copied q i) (λ q e. e) (lacks_copied w g i b.sector b.value true (a.stale.buffer_value n b (buffer_is w n p b e.buffers)) l s lack) some covered
covered_fresh w v (ways.misses_copy n i p b left e) g h z a m l s covered lack some =
    a.stale.covered_fresh m l s covered (lacks_copied w g i b.sector b.value left (a.stale.buffer_value n b (buffer_is w n p b e.buffers)) l s lack) some
covered_fresh w v (ways.settles n p b e) g h z a m l s covered lack some =
    let before = covered_point w.copy n m l _ (covered_mapped l (λ q. settled_at w.geometry q b) (w.copy n).pass (λ q e. e)) covered in
    let d = decides_settle w g a.contents a.stale.buffer_value n p b e in
    let written = covers_written w a.sound m l before in
    else_false (s == b.sector) (z.since m s) (not_there w g a.sound n b.sector b.value d l s written lack)
    (a.stale.covered_fresh m l s before (lacked_written w g a.sound n b.sector b.value d l s written lack) some)
covered_fresh w v (ways.ends_pass n e) g h z a m l s covered lack some = a.stale.covered_fresh m l s (covered_point w.copy n m l no_copy (λ e. cc) covered) lack some
covered_fresh w v (ways.recovers_slot n d e) g h z a m l s covered lack some =
    begun_false (m == n) (z.since m s) (λ apart. a.stale.covered_fresh m l s covered lack (some_begun w.recovery n m _ apart some))
covered_fresh w v (ways.slot_reads n p i r has e) g h z a m l s covered lack some = a.stale.covered_fresh m l s covered lack (some_else w g h z a w.recovery n m _ (ap is_some e.opened.recovery) some)
covered_fresh w v (ways.slot_clears n p i r e) g h z a m l s covered lack some = a.stale.covered_fresh m l s covered lack (some_else w g h z a w.recovery n m _ (ap is_some e.all.opened.recovery) some)
covered_fresh w v (ways.ends_recovery n r e) g h z a m l s covered lack some = a.stale.covered_fresh m l s covered lack (some_left w.recovery n m some)
covered_fresh w v x g h z a m l s covered lack some = a.stale.covered_fresh m l s covered lack some
