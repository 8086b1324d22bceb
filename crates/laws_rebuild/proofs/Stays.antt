-- A leg that is agreed to be written lacks nothing that it didn't lack before.
use Rattle.std.proofs.Common.{◌≡◌, ℕ, ◌<◌, ◌&&◌, not, Bool, true, false, ap, sym, ◌∙◌, arith}
use Rattle.std.specs.Prelude.{nat_lt}
use Rattle.std.proofs.lemmas.Bool.Decides.{nat_tests}
use Rattle.mdc_types.specs.Roles.{is_written}
use Rattle.laws_roles.specs.Agreed.{Agreed}
use Rattle.storage_ways.proofs.Parts.{Part}
use Rattle.storage_ways.proofs.Sound.{Sound}
use Rattle.storage_ways.proofs.Ways as ways
use Rattle.storage_ways.proofs.Ways.{Way, Ways}
use Rattle.laws_writes.proofs.Ghosts.{Ghost, ghost_after, is_among}
use Rattle.laws_writes.proofs.Points.{fails}
use Rattle.laws_writes.proofs.Settled.{Since}
use Rattle.laws_writes.proofs.Values.{ValuesAre, values_step}
use Rattle.laws_writes.proofs.Written.{ghost_over}
use Rattle.laws_recovery.proofs.Ghosts.{Hold}
use Rattle.laws_recovery.proofs.Known.{Known}
use Rattle.laws_recovery.proofs.Lacks.{lacks_tried, lacks_copied, decides_end, decides_settle, lacked_written, buffer_is}
use Rattle.laws_recovery.proofs.Recovered.{Recovered, known_of, hold_over, since_over, recovered_ways}
use Rattle.laws_recovery.proofs.Stale.{lacks}
use Rattle.laws_rebuild.proofs.Calm.{calm_first, agreed_over}

stays : (w v : Part) (x : Way w v) (g : Ghost) (h : Hold) (z : Since) → Known w g h z → (l s : ℕ)
    → is_written (w.ghost.agreed.role l) ≡ true → lacks w g l s ≡ false → lacks v (ghost_after x g) l s ≡ false
stays w v (ways.outs n k i x t) g h z a l s written old = fails _ _ (lacks_tried w g a.contents n k i x true t l s) old
stays w v (ways.misses n k i x left t) g h z a l s written old = fails _ _ (lacks_tried w g a.contents n k i x left t l s) old
stays w v (ways.ends n k x e) g h z a l s written old = fails _ _ (lacked_written w g a.sound n x.sector x.value (decides_end w g a.sound a.contents n k x e) l s written) old
stays w v (ways.copies n i p b e) g h z a l s written old = fails _ _ (lacks_copied w g i b.sector b.value true (a.stale.buffer_value n b (buffer_is w n p b e.buffers)) l s) old
stays w v (ways.misses_copy n i p b left e) g h z a l s written old = fails _ _ (lacks_copied w g i b.sector b.value left (a.stale.buffer_value n b (buffer_is w n p b e.buffers)) l s) old
stays w v (ways.settles n p b e) g h z a l s written old = fails _ _ (lacked_written w g a.sound n b.sector b.value (decides_settle w g a.contents a.stale.buffer_value n p b e) l s written) old
stays w v x g h z a l s written old = old

stays_over : (w v : Part) (xs : Ways w v) (g : Ghost) (h : Hold) (z : Since) → Recovered w g h z → v.moments ≡ w.moments → (l s : ℕ)
    → is_written (w.ghost.agreed.role l) ≡ true → lacks w g l s ≡ false → lacks v (ghost_over xs g) l s ≡ false
stays_over w v ways.none g h z r calm l s written old = old
stays_over w v (ways.more {u = u} xs sd x) g h z r calm l s written old =
    let before = calm_first w u v xs x calm in
    let here = recovered_ways w u xs g h z r in
    stays u v x (ghost_over xs g) (hold_over xs g h) (since_over xs z) (known_of u (ghost_over xs g) (hold_over xs g h) (since_over xs z) sd here) l s
    (ap (λ (a : Agreed). is_written (a.role l)) (agreed_over w u xs before) ∙ written)
    (stays_over w u xs g h z r before l s written old)

-- In the words of the entries: the leg holds one of the values.

abbrev pub fresh : Part → ℕ → ℕ → Bool
fresh w l s = is_among (w.stored l s) (w.values s)

below : (i j : ℕ) → i < j → nat_lt i j ≡ true
below i j lt = grind (arith, nat_tests)

none : (a b : Bool) → b ≡ true → (a && not b) ≡ false
none a b e = grind arith

some : (a b : Bool) → a ≡ true → (a && not b) ≡ false → b ≡ true
some a b t e = grind arith

fresh_lacks : (w : Part) (g : Ghost) → ValuesAre w g → (l s : ℕ) → s < w.geometry.room → fresh w l s ≡ true → lacks w g l s ≡ false
fresh_lacks w g same l s lt e =
    none (nat_lt s w.geometry.room) (is_among (w.stored l s) (g.values s)) (ap (λ vs. is_among (w.stored l s) vs) (same s lt) ∙ e)

lacks_fresh : (w : Part) (g : Ghost) → ValuesAre w g → (l s : ℕ) → s < w.geometry.room → lacks w g l s ≡ false → fresh w l s ≡ true
lacks_fresh w g same l s lt e =
    ap (λ vs. is_among (w.stored l s) vs) (sym (same s lt))
    ∙ some (nat_lt s w.geometry.room) (is_among (w.stored l s) (g.values s)) (below s w.geometry.room lt) e

-- by one way, and by some that count no moment
pub fresh_way : (w v : Part) (x : Way w v) (g : Ghost) (h : Hold) (z : Since) → Sound w → Recovered w g h z → (l s : ℕ) → s < w.geometry.room → s < v.geometry.room
    → is_written (w.ghost.agreed.role l) ≡ true → fresh w l s ≡ true → fresh v l s ≡ true
fresh_way w v x g h z sd r l s lt lt' written old =
    lacks_fresh v (ghost_after x g) (values_step w v x g r.written.values) l s lt'
    (stays w v x g h z (known_of w g h z sd r) l s written (fresh_lacks w g r.written.values l s lt old))

pub fresh_over : (w v : Part) (xs : Ways w v) (g : Ghost) (h : Hold) (z : Since) → Recovered w g h z → v.moments ≡ w.moments → (l s : ℕ) → s < w.geometry.room → s < v.geometry.room
    → is_written (w.ghost.agreed.role l) ≡ true → fresh w l s ≡ true → fresh v l s ≡ true
fresh_over w v xs g h z r calm l s lt lt' written old =
    lacks_fresh v (ghost_over xs g) (recovered_ways w v xs g h z r).written.values l s lt'
    (stays_over w v xs g h z r calm l s written (fresh_lacks w g r.written.values l s lt old))
