-- Each way keeps what is known of live writes and suspended ranges.
use Rattle.std.proofs.Common.{◌≡◌, ℕ, ◌<◌, ◌==◌, Bool, true, false, Option, Some, None, if◌then◌else◌, List, refl, sym, ap, ◌∙◌, arith}
use Rattle.std.proofs.lemmas.Bool.Decides.{nat_tests}
use Rattle.mdc_types.specs.Ranges.{holds}
use Rattle.mdc_types.specs.declared.numbers.Sector.{Sector}
use Rattle.suspend_ranges.specs.Suspended.{suspends}
use Rattle.mirror_io.specs.Flight.{write_in, new_write}
use Rattle.mirror_io.specs.declared.live.LiveWrite.{LiveWrite}
use Rattle.storage_ways.proofs.Parts.{Part, write_of, writes_at}
use Rattle.storage_ways.proofs.Sound.{Sound}
use Rattle.storage_ways.proofs.Ways.{Way, NoneWithin, Asking}
use Rattle.storage_ways.proofs.Ways as ways
use Rattle.laws_writes.proofs.Windows.{Windows, NoWriteThere}

-- no live write of the node is of a sector in the range
none_at : (w : Part) (n lo hi : ℕ) → NoneWithin w n lo hi → (k s : ℕ) → writes_at (write_of w n k) s ≡ true → holds lo hi s ≡ false
none_at w n lo hi none k s = by (write_of w n k) refl
  where
    by : (x : Option LiveWrite) → write_of w n k ≡ x → writes_at x s ≡ true → holds lo hi s ≡ false
    by None is e = cc
    by (Some x) is e = let there = none k x is in grind (arith, nat_tests)

-- where the node's new writes are no range of its list is
free_at : (w : Part) (n s k : ℕ) (v : Sector) (new : List LiveWrite) → Asking w n s k v new → (i u m : ℕ) → m < 16
    → (writes_at (write_of w n i) u ≡ true → suspends u (w.suspended n m) ≡ false)
    → writes_at (write_in i new) u ≡ true → suspends u (w.suspended n m) ≡ false
free_at w n s k v new x i u m lt old h = by (i == k) (ap (λ y. writes_at y u) (sym (x.finds i)) ∙ h)
  where
    same : (s == u) ≡ true → suspends u (w.suspended n m) ≡ false
    same e = let free = x.free m lt in let is : s ≡ u = grind (arith, nat_tests) in ap (λ y. suspends y (w.suspended n m)) (sym is) ∙ free

    by : (b : Bool) → writes_at (if b then Some (new_write k s v) else write_of w n i) u ≡ true → suspends u (w.suspended n m) ≡ false
    by true e = same e
    by false e = old e

pub no_write_there : (w v : Part) → Way w v → Sound w → Windows w → NoWriteThere v
no_write_there w v (ways.shuts n r o told p b) sound win a m i u lt = grind (arith, nat_tests, win.no_write_there a m i u lt, none_at w n r.lo r.hi p.none i u)
no_write_there w v (ways.hears_range n r o h is free) sound win a m i u lt = grind (arith, nat_tests, win.no_write_there a m i u lt, none_at w n r.lo r.hi free i u)
no_write_there w v (ways.comes n j says lost ranges c) sound win a m i u lt = grind (arith, nat_tests, win.no_write_there a m i u lt, sound.rests.writes n, c.joining)
no_write_there w v (ways.leaves n p) sound win a m i u lt = grind (arith, nat_tests, win.no_write_there a m i u lt)
no_write_there w v (ways.quits n p) sound win a m i u lt = grind (arith, nat_tests, win.no_write_there a m i u lt)
no_write_there w v (ways.parts n o p) sound win a m i u lt = grind (arith, nat_tests, win.no_write_there a m i u lt)
no_write_there w v (ways.dies n told p) sound win a m i u lt = grind (arith, nat_tests, win.no_write_there a m i u lt)
no_write_there w v (ways.asks n t j y new x) sound win a m i u lt = grind (arith, nat_tests, win.no_write_there a m i u lt, free_at w n t j y new x i u m lt)
no_write_there w v (ways.outs n f j x t) sound win a m i u lt = grind (arith, nat_tests, win.no_write_there a m i u lt, t.does i, t.write)
no_write_there w v (ways.misses n f j x left t) sound win a m i u lt = grind (arith, nat_tests, win.no_write_there a m i u lt, t.starts i, t.write)
no_write_there w v (ways.ends n f x e) sound win a m i u lt = grind (arith, nat_tests, win.no_write_there a m i u lt, e.ending.finds i)
no_write_there w v (ways.breaks n f x e) sound win a m i u lt = grind (arith, nat_tests, win.no_write_there a m i u lt, e.finds i)
no_write_there w v x sound win a m i u lt = win.no_write_there a m i u lt
