-- Each way keeps what is known of bitmaps.
use Rattle.std.proofs.Common.{◌≡◌, ℕ, ◌==◌, ◌&&◌, if◌then◌else◌, Bool, true, false, Option, Some, None, List, refl, sym, ap, ◌∙◌, arith}
use Rattle.std.proofs.lemmas.Bool.Decides.{nat_tests}
use Rattle.mdc_types.specs.declared.numbers.Sector.{Sector}
use Rattle.dlm_modes.specs.Points.{with_at}
use Rattle.mdc_types.specs.Roles.{role_of}
use Rattle.leg_failure.specs.Views.{new_view, finished, taken as view_taken, fresh_targets}
use Rattle.node_bitmaps.specs.Bitmap.{Bitmap, with_set, with_need, entered, exited, with_new_legs, written, failed}
use Rattle.node_recovery.specs.Progress.{Recovering}
use Rattle.resync_worker.specs.Copying.{completes}
use Rattle.cluster_model.specs.Copying.{need_met}
use Rattle.cluster_model.specs.Phases.{is_up}
use Rattle.mirror_io.specs.Flight.{write_in, new_write}
use Rattle.mirror_io.specs.declared.live.LiveWrite.{LiveWrite}
use Rattle.mdc_types.specs.Geometry.{page_of}
use Rattle.storage_ways.proofs.Parts.{with_page_if, Part, chunk_in, write_of, writes_at}
use Rattle.storage_ways.proofs.Sound.{Sound}
use Rattle.storage_ways.proofs.Ways.{Way, Asking, Open}
use Rattle.storage_ways.proofs.Ways as ways
use Rattle.laws_writes.proofs.WriterSteps.{one_writer, one_write}
use Rattle.laws_writes.proofs.Flights.{write_there, same_nat}
use Rattle.laws_writes.proofs.Bits.{Bits, MarkBit, NeedSet, WriteSet}

-- no live write is of a sector in which none is
none_of : (w : Part) (c m k u : ℕ) → ((j : ℕ) (x : LiveWrite) → write_in j (w.writes m) ≡ Some x → (chunk_in w x.sector == c) ≡ false) → writes_at (write_of w m k) u ≡ true → (chunk_in w u == c) ≡ false
none_of w c m k u none = by (write_of w m k) refl
  where
    by : (x : Option LiveWrite) → write_of w m k ≡ x → writes_at x u ≡ true → (chunk_in w u == c) ≡ false
    by None is e = cc
    by (Some x) is e = let there = none k x is in let same : x.sector ≡ u = grind (arith, nat_tests) in ap (λ t. chunk_in w t == c) (sym same) ∙ there

-- marks on new legs are forgotten, and nothing else changes
mark_less : (bitmap : ℕ → Bitmap) (n : ℕ) (legs : ℕ → Bool) (a c l : ℕ) → (with_at bitmap n (with_new_legs (bitmap n) legs) a).marks c l ≡ true → (bitmap a).marks c l ≡ true
mark_less bitmap n legs a c l = grind (arith, nat_tests)

need_broken : (bitmap : ℕ → Bitmap) (n e a c : ℕ) → ((bitmap a).need c ≡ true → (bitmap a).set c ≡ true) → (bitmap n).set e ≡ true
    → (with_at bitmap n (with_need (exited (bitmap n) e) e true) a).need c ≡ true → (with_at bitmap n (with_need (exited (bitmap n) e) e true) a).set c ≡ true
need_broken bitmap n e a c old there = grind (arith, nat_tests)

set_asked : (w : Part) (n s k : ℕ) (v : Sector) (new : List LiveWrite) → Asking w n s k v new → (a i u : ℕ)
    → (writes_at (write_of w a i) u ≡ true → (w.bitmap a).set (chunk_in w u) ≡ true)
    → writes_at (write_in i (with_at w.writes n new a)) u ≡ true
    → (with_at w.bitmap n (entered (with_set (w.bitmap n) (chunk_in w s) true) (chunk_in w s)) a).set (chunk_in w u) ≡ true
set_asked w n s k v new x a i u old = by (a == n) refl (i == k) (x.finds i)
  where
    first : (s == u) ≡ true → with_at (w.bitmap n).set (chunk_in w s) true (chunk_in w u) ≡ true
    first e = let is : s ≡ u = grind (arith, nat_tests) in ap (λ y. with_at (w.bitmap n).set (chunk_in w s) true (chunk_in w y)) (sym is) ∙ ap (λ b. if b then true else (w.bitmap n).set (chunk_in w s)) (same_nat (chunk_in w s))

    kept : (e : ℕ) → (w.bitmap n).set (chunk_in w u) ≡ true → with_at (w.bitmap n).set e true (chunk_in w u) ≡ true
    kept e h = grind arith

    by : (b : Bool) → (a == n) ≡ b → (d : Bool) → write_in i new ≡ (if d then Some (new_write k s v) else write_of w n i)
        → writes_at (write_in i (if b then new else w.writes a)) u ≡ true
        → (if b then entered (with_set (w.bitmap n) (chunk_in w s) true) (chunk_in w s) else w.bitmap a).set (chunk_in w u) ≡ true
    by false t d f h = old h
    by true t true f h = first (ap (λ y. writes_at y u) (sym f) ∙ h)
    by true t false f h =
        let is : a ≡ n = grind (arith, nat_tests) in
        kept (chunk_in w s) (ap (λ m. (w.bitmap m).set (chunk_in w u)) (sym is) ∙ old (ap (λ m. writes_at (write_of w m i) u) is ∙ ap (λ y. writes_at y u) (sym f) ∙ h))

-- a slot that is recovered has nobody's set
no_set : (w : Part) → Sound w → (n : ℕ) (r : Recovering) → Open w n r → (c : ℕ) → (w.bitmap r.slot).set c ≡ false
no_set w sound n r o c = sound.rests.set r.slot c (ap is_up (sound.phases.pending r.slot o.pending))

by_old : (left x y b : Bool) → b ≡ true → (if left && false && x && y then false else b) ≡ true
by_old left x y b e = grind arith

need_cleared : (bitmap : ℕ → Bitmap) (n q a c : ℕ) → ((bitmap a).need c ≡ true → (bitmap a).set c ≡ true) → (bitmap n).need q ≡ false
    → (with_at bitmap n (with_set (bitmap n) q false) a).need c ≡ true → (with_at bitmap n (with_set (bitmap n) q false) a).set c ≡ true
need_cleared bitmap n q a c old none = grind (arith, nat_tests)

cleared_mark : (left : Bool) (bitmap : ℕ → Bitmap) (bit : ℕ → ℕ → ℕ → Bool) (d p j a c l : ℕ) → ((bitmap a).marks c l ≡ true → bit a c l ≡ true) → (bitmap d).set c ≡ false
    → (with_at bitmap d (written (bitmap d) p j) a).marks c l ≡ true → with_page_if left bit d p j (λ i. false) a c l ≡ true
cleared_mark left bitmap bit d p j a c l old none = by (a == d) refl
  where
    at_d : a ≡ d → (x y : Bool) → (if x && y then (bitmap d).set c else (bitmap d).marks c l) ≡ true → (if left && true && x && y then false else bit a c l) ≡ true
    at_d is x y h = let there : (bitmap d).marks c l ≡ true → bit a c l ≡ true = λ e. old (ap (λ m. (bitmap m).marks c l) is ∙ e) in grind arith

    by : (b : Bool) → (a == d) ≡ b → (if b then written (bitmap d) p j else bitmap a).marks c l ≡ true
        → (if left && b && (page_of c == p) && (l == j) then false else bit a c l) ≡ true
    by true t = let is : a ≡ d = grind (arith, nat_tests) in at_d is (page_of c == p) (l == j)
    by false t = λ h. by_old left (page_of c == p) (l == j) (bit a c l) (old h)

missed_mark : (left : Bool) (bitmap : ℕ → Bitmap) (bit : ℕ → ℕ → ℕ → Bool) (d p j a c l : ℕ) → ((bitmap a).marks c l ≡ true → bit a c l ≡ true) → (bitmap d).set c ≡ false
    → (with_at bitmap d (failed (bitmap d) p j) a).marks c l ≡ true → with_page_if left bit d p j (λ i. false) a c l ≡ true
missed_mark left bitmap bit d p j a c l old none = by (a == d) refl
  where
    at_d : a ≡ d → (x y : Bool) → (if x && y then ((bitmap d).marks c l && (bitmap d).set c) else (bitmap d).marks c l) ≡ true → (if left && true && x && y then false else bit a c l) ≡ true
    at_d is x y h = let there : (bitmap d).marks c l ≡ true → bit a c l ≡ true = λ e. old (ap (λ m. (bitmap m).marks c l) is ∙ e) in grind arith

    by : (b : Bool) → (a == d) ≡ b → (if b then failed (bitmap d) p j else bitmap a).marks c l ≡ true
        → (if left && b && (page_of c == p) && (l == j) then false else bit a c l) ≡ true
    by true t = let is : a ≡ d = grind (arith, nat_tests) in at_d is (page_of c == p) (l == j)
    by false t = λ h. by_old left (page_of c == p) (l == j) (bit a c l) (old h)

need_settled : (bitmap : ℕ → Bitmap) (n a c : ℕ) (d : Option ℕ) → ((bitmap a).need c ≡ true → (bitmap a).set c ≡ true)
    → (with_at bitmap n (need_met (bitmap n) d) a).need c ≡ true → (with_at bitmap n (need_met (bitmap n) d) a).set c ≡ true
need_settled bitmap n a c None old = grind (arith, nat_tests)
need_settled bitmap n a c (Some d) old = grind (arith, nat_tests)

pub mark_bit : (w v : Part) → Way w v → Sound w → Bits w → MarkBit v
mark_bit w v (ways.finishes n o z meta) sound bits a c l = λ e. bits.mark_bit a c l (mark_less w.bitmap n (fresh_targets (w.view n) (finished (w.view n) o.role o.size)) a c l e)
mark_bit w v (ways.hears_roles n roles size o h meta same) sound bits a c l = λ e. bits.mark_bit a c l (mark_less w.bitmap n (fresh_targets (w.view n) (view_taken (w.view n) (role_of roles) size)) a c l e)
mark_bit w v (ways.comes n j says lost ranges z) sound bits a c l = λ e. bits.mark_bit a c l (mark_less w.bitmap n (fresh_targets (w.view n) (new_view (role_of says.roles) says.size lost)) a c l e)
mark_bit w v (ways.leaves n p) sound bits a c l = grind (arith, nat_tests, bits.mark_bit a c l)
mark_bit w v (ways.quits n p) sound bits a c l = grind (arith, nat_tests, bits.mark_bit a c l)
mark_bit w v (ways.parts n o p) sound bits a c l = grind (arith, nat_tests, bits.mark_bit a c l)
mark_bit w v (ways.dies n told p) sound bits a c l = grind (arith, nat_tests, bits.mark_bit a c l)
mark_bit w v (ways.asks n t j y new x) sound bits a c l = grind (arith, nat_tests, bits.mark_bit a c l)
mark_bit w v (ways.ends n f x e) sound bits a c l = grind (arith, nat_tests, bits.mark_bit a c l)
mark_bit w v (ways.breaks n f x e) sound bits a c l = grind (arith, nat_tests, bits.mark_bit a c l)
mark_bit w v (ways.marks n p j t) sound bits a c l = grind (arith, nat_tests, bits.mark_bit a c l)
mark_bit w v (ways.misses_page n p j left t) sound bits a c l = grind (arith, nat_tests, bits.mark_bit a c l)
mark_bit w v (ways.clears n q e) sound bits a c l = grind (arith, nat_tests, bits.mark_bit a c l)
mark_bit w v (ways.settles n p b e) sound bits a c l = grind (arith, nat_tests, bits.mark_bit a c l)
mark_bit w v (ways.slot_reads n p j r has e) sound bits a c l = grind (arith, nat_tests, bits.mark_bit a c l)
mark_bit w v (ways.slot_clears n p j r e) sound bits a c l = cleared_mark true w.bitmap w.bit r.slot p j a c l (bits.mark_bit a c l) (no_set w sound n r e.all.opened c)
mark_bit w v (ways.misses_slot n p j r left e) sound bits a c l = missed_mark left w.bitmap w.bit r.slot p j a c l (bits.mark_bit a c l) (no_set w sound n r e.all.opened c)
mark_bit w v x sound bits a c l = bits.mark_bit a c l

pub need_set : (w v : Part) → Way w v → Sound w → Bits w → NeedSet v
need_set w v (ways.finishes n o z meta) sound bits a c = grind (arith, nat_tests, bits.need_set a c)
need_set w v (ways.hears_roles n roles size o h meta same) sound bits a c = grind (arith, nat_tests, bits.need_set a c)
need_set w v (ways.comes n j says lost ranges z) sound bits a c = grind (arith, nat_tests, bits.need_set a c)
need_set w v (ways.leaves n p) sound bits a c = grind (arith, nat_tests, bits.need_set a c)
need_set w v (ways.quits n p) sound bits a c = grind (arith, nat_tests, bits.need_set a c)
need_set w v (ways.parts n o p) sound bits a c = grind (arith, nat_tests, bits.need_set a c)
need_set w v (ways.dies n told p) sound bits a c = grind (arith, nat_tests, bits.need_set a c)
need_set w v (ways.asks n t j y new x) sound bits a c = grind (arith, nat_tests, bits.need_set a c)
need_set w v (ways.ends n f x e) sound bits a c = grind (arith, nat_tests, bits.need_set a c)
need_set w v (ways.breaks n f x e) sound bits a c = need_broken w.bitmap n (chunk_in w x.sector) a c (bits.need_set a c) (bits.write_set n f x.sector (write_there w n f x e.write))
need_set w v (ways.marks n p j t) sound bits a c = grind (arith, nat_tests, bits.need_set a c)
need_set w v (ways.misses_page n p j left t) sound bits a c = grind (arith, nat_tests, bits.need_set a c)
need_set w v (ways.clears n q e) sound bits a c = need_cleared w.bitmap n q a c (bits.need_set a c) e.need
need_set w v (ways.settles n p b e) sound bits a c = need_settled w.bitmap n a c (completes w.geometry b) (bits.need_set a c)
need_set w v (ways.slot_reads n p j r has e) sound bits a c = grind (arith, nat_tests, bits.need_set a c)
need_set w v (ways.slot_clears n p j r e) sound bits a c = grind (arith, nat_tests, bits.need_set a c)
need_set w v (ways.misses_slot n p j r left e) sound bits a c = grind (arith, nat_tests, bits.need_set a c)
need_set w v x sound bits a c = bits.need_set a c

pub write_set : (w v : Part) → Way w v → Sound w → Bits w → WriteSet v
write_set w v (ways.finishes n o z meta) sound bits a k u = grind (arith, nat_tests, bits.write_set a k u)
write_set w v (ways.hears_roles n roles size o h meta same) sound bits a k u = grind (arith, nat_tests, bits.write_set a k u)
write_set w v (ways.comes n j says lost ranges z) sound bits a k u = grind (arith, nat_tests, bits.write_set a k u)
write_set w v (ways.leaves n p) sound bits a k u = grind (arith, nat_tests, bits.write_set a k u, p.going.writes)
write_set w v (ways.quits n p) sound bits a k u = grind (arith, nat_tests, bits.write_set a k u, p.going.writes)
write_set w v (ways.parts n o p) sound bits a k u = grind (arith, nat_tests, bits.write_set a k u, p.going.writes)
write_set w v (ways.dies n told p) sound bits a k u = grind (arith, nat_tests, bits.write_set a k u)
write_set w v (ways.asks n t j y new x) sound bits a k u = set_asked w n t j y new x a k u (bits.write_set a k u)
write_set w v (ways.outs n f j x t) sound bits a k u = grind (arith, nat_tests, bits.write_set a k u, t.does k, t.write)
write_set w v (ways.misses n f j x left t) sound bits a k u = grind (arith, nat_tests, bits.write_set a k u, t.starts k, t.write)
write_set w v (ways.ends n f x e) sound bits a k u = grind (arith, nat_tests, bits.write_set a k u, e.ending.finds k)
write_set w v (ways.breaks n f x e) sound bits a k u = grind (arith, nat_tests, bits.write_set a k u, e.finds k)
write_set w v (ways.marks n p j t) sound bits a k u = grind (arith, nat_tests, bits.write_set a k u)
write_set w v (ways.misses_page n p j left t) sound bits a k u = grind (arith, nat_tests, bits.write_set a k u)
write_set w v (ways.clears n q e) sound bits a k u = grind (arith, nat_tests, bits.write_set a k u, none_of w q n k u e.none)
write_set w v (ways.settles n p b e) sound bits a k u = grind (arith, nat_tests, bits.write_set a k u)
write_set w v (ways.slot_reads n p j r has e) sound bits a k u = grind (arith, nat_tests, bits.write_set a k u)
write_set w v (ways.slot_clears n p j r e) sound bits a k u = grind (arith, nat_tests, bits.write_set a k u)
write_set w v (ways.misses_slot n p j r left e) sound bits a k u = grind (arith, nat_tests, bits.write_set a k u)
write_set w v x sound bits a k u = bits.write_set a k u

pub bits_step : (w v : Part) → Way w v → Sound w → Bits w → Bits v
bits_step w v x sound bits = record {
  mark_bit = mark_bit w v x sound bits;
  need_set = need_set w v x sound bits;
  write_set = write_set w v x sound bits;
  one_writer = one_writer w v x sound bits;
  one_write = one_write w v x sound bits;
}
