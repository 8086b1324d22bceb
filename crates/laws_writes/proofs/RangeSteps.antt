-- Each way keeps what is known of the ranges that nodes copy in.
use Rattle.std.proofs.Common.{arith}
use Rattle.std.proofs.lemmas.Bool.Decides.{nat_tests}
use Rattle.mdc_types.specs.Ranges.{holds}
use Rattle.storage_ways.proofs.Parts.{Part}
use Rattle.storage_ways.proofs.Sound.{Sound}
use Rattle.storage_ways.proofs.Ways.{Way, NoneWithin, Asking}
use Rattle.storage_ways.proofs.Ways as ways
use Rattle.laws_writes.proofs.Windows.{Windows, WindowOwn, RangeOwn, RangeShut, OwnWhy}

pub window_own : (w v : Part) → Way w v → Sound w → Windows w → WindowOwn v
window_own w v (ways.shuts n r o told p b) sound win m = grind (arith, nat_tests, win.window_own m)
window_own w v (ways.opens n r o c is) sound win m = grind (arith, nat_tests, win.window_own m, win.range_own n, c.published, c.offer, is)
window_own w v (ways.finishes n o c meta) sound win m = grind (arith, nat_tests, win.window_own m)
window_own w v (ways.hears_roles n roles size o h meta same) sound win m = grind (arith, nat_tests, win.window_own m)
window_own w v (ways.hears_range n r o h is free) sound win m = grind (arith, nat_tests, win.window_own m, h.other)
window_own w v (ways.comes n j says lost ranges c) sound win m = grind (arith, nat_tests, win.window_own m, c.copy, c.members m, c.joining)
window_own w v (ways.leaves n p) sound win m = grind (arith, nat_tests, win.window_own m)
window_own w v (ways.quits n p) sound win m = grind (arith, nat_tests, win.window_own m)
window_own w v (ways.parts n o p) sound win m = grind (arith, nat_tests, win.window_own m)
window_own w v (ways.dies n told p) sound win m = grind (arith, nat_tests, win.window_own m)
window_own w v (ways.turns n up not_asked stays) sound win m = grind (arith, nat_tests, win.window_own m)
window_own w v (ways.holds_turn n up asked free) sound win m = grind (arith, nat_tests, win.window_own m)
window_own w v (ways.passes_own n p) sound win m = grind (arith, nat_tests, win.window_own m)
window_own w v (ways.passes_full n p) sound win m = grind (arith, nat_tests, win.window_own m)
window_own w v (ways.passes_again n j p) sound win m = grind (arith, nat_tests, win.window_own m)
window_own w v (ways.fills n t j y p r f) sound win m = grind (arith, nat_tests, win.window_own m)
window_own w v (ways.copies n j p b c) sound win m = grind (arith, nat_tests, win.window_own m)
window_own w v (ways.settles n p b e) sound win m = grind (arith, nat_tests, win.window_own m)
window_own w v (ways.ends_pass n e) sound win m = grind (arith, nat_tests, win.window_own m)
window_own w v x sound win m = win.window_own m

pub range_own : (w v : Part) → Way w v → Sound w → Windows w → RangeOwn v
range_own w v (ways.speaks n s said holds plain) sound win m = grind (arith, nat_tests, win.range_own m)
range_own w v (ways.voids n s quiet plain silent) sound win m = grind (arith, nat_tests, win.range_own m)
range_own w v (ways.offers n o p) sound win m = grind (arith, nat_tests, win.range_own m)
range_own w v (ways.publishes n o p) sound win m = grind (arith, nat_tests, win.range_own m, p.no_range, p.offer)
range_own w v (ways.shuts n r o told p b) sound win m = grind (arith, nat_tests, win.range_own m, p.offer, p.wish)
range_own w v (ways.opens n r o c is) sound win m = grind (arith, nat_tests, win.range_own m)
range_own w v (ways.announces n o c known other no_range) sound win m = grind (arith, nat_tests, win.range_own m)
range_own w v (ways.finishes n o c meta) sound win m = grind (arith, nat_tests, win.range_own m)
range_own w v (ways.hears_range n r o h is free) sound win m = grind (arith, nat_tests, win.range_own m, h.other)
range_own w v (ways.writes_super n j o y) sound win m = grind (arith, nat_tests, win.range_own m, y.offer, y.silent m)
range_own w v (ways.joins n j) sound win m = grind (arith, nat_tests, win.range_own m, j.idle)
range_own w v (ways.comes n j says lost ranges c) sound win m = grind (arith, nat_tests, win.range_own m, c.silent m)
range_own w v (ways.leaves n p) sound win m = grind (arith, nat_tests, win.range_own m)
range_own w v (ways.quits n p) sound win m = grind (arith, nat_tests, win.range_own m)
range_own w v (ways.parts n o p) sound win m = grind (arith, nat_tests, win.range_own m)
range_own w v (ways.dies n told p) sound win m = grind (arith, nat_tests, win.range_own m)
range_own w v x sound win m = win.range_own m

pub range_shut : (w v : Part) → Way w v → Sound w → Windows w → RangeShut v
range_shut w v (ways.speaks n s said holds plain) sound win m = grind (arith, nat_tests, win.range_shut m)
range_shut w v (ways.voids n s quiet plain silent) sound win m = grind (arith, nat_tests, win.range_shut m)
range_shut w v (ways.offers n o p) sound win m = grind (arith, nat_tests, win.range_shut m)
range_shut w v (ways.publishes n o p) sound win m = grind (arith, nat_tests, win.range_shut m, p.no_range, p.offer)
range_shut w v (ways.shuts n r o told p b) sound win m = grind (arith, nat_tests, win.range_shut m)
range_shut w v (ways.opens n r o c is) sound win m = grind (arith, nat_tests, win.range_shut m)
range_shut w v (ways.announces n o c known other no_range) sound win m = grind (arith, nat_tests, win.range_shut m)
range_shut w v (ways.finishes n o c meta) sound win m = grind (arith, nat_tests, win.range_shut m)
range_shut w v (ways.hears_roles n roles size o h meta same) sound win m = grind (arith, nat_tests, win.range_shut m)
range_shut w v (ways.writes_super n j o y) sound win m = grind (arith, nat_tests, win.range_shut m, y.offer, y.silent m)
range_shut w v (ways.joins n j) sound win m = grind (arith, nat_tests, win.range_shut m, j.idle)
range_shut w v (ways.comes n j says lost ranges c) sound win m = grind (arith, nat_tests, win.range_shut m, c.silent m)
range_shut w v (ways.leaves n p) sound win m = grind (arith, nat_tests, win.range_shut m)
range_shut w v (ways.quits n p) sound win m = grind (arith, nat_tests, win.range_shut m)
range_shut w v (ways.parts n o p) sound win m = grind (arith, nat_tests, win.range_shut m)
range_shut w v (ways.dies n told p) sound win m = grind (arith, nat_tests, win.range_shut m)
range_shut w v (ways.turns n up not_asked stays) sound win m = grind (arith, nat_tests, win.range_shut m)
range_shut w v (ways.holds_turn n up asked free) sound win m = grind (arith, nat_tests, win.range_shut m)
range_shut w v (ways.passes_own n p) sound win m = grind (arith, nat_tests, win.range_shut m)
range_shut w v (ways.passes_full n p) sound win m = grind (arith, nat_tests, win.range_shut m)
range_shut w v (ways.passes_again n j p) sound win m = grind (arith, nat_tests, win.range_shut m)
range_shut w v (ways.fills n t j y p r f) sound win m = grind (arith, nat_tests, win.range_shut m)
range_shut w v (ways.copies n j p b c) sound win m = grind (arith, nat_tests, win.range_shut m)
range_shut w v (ways.settles n p b e) sound win m = grind (arith, nat_tests, win.range_shut m)
range_shut w v (ways.ends_pass n e) sound win m = grind (arith, nat_tests, win.range_shut m)
range_shut w v x sound win m = win.range_shut m

pub own_why : (w v : Part) → Way w v → Sound w → Windows w → OwnWhy v
own_why w v (ways.speaks n s said holds plain) sound win m = grind (arith, nat_tests, win.own_why m)
own_why w v (ways.voids n s quiet plain silent) sound win m = grind (arith, nat_tests, win.own_why m)
own_why w v (ways.offers n o p) sound win m = grind (arith, nat_tests, win.own_why m, p.silent m)
own_why w v (ways.publishes n o p) sound win m = grind (arith, nat_tests, win.own_why m, p.silent m)
own_why w v (ways.shuts n r o told p b) sound win m = grind (arith, nat_tests, win.own_why m, p.offer, p.wish)
own_why w v (ways.opens n r o c is) sound win m = grind (arith, nat_tests, win.own_why m, c.offer, is, win.range_own n, c.published)
own_why w v (ways.announces n o c known other no_range) sound win m = grind (arith, nat_tests, win.own_why m, c.offer)
own_why w v (ways.finishes n o c meta) sound win m = grind (arith, nat_tests, win.own_why m, c.offer)
own_why w v (ways.hears_roles n roles size o h meta same) sound win m = grind (arith, nat_tests, win.own_why m)
own_why w v (ways.hears_range n r o h is free) sound win m = grind (arith, nat_tests, win.own_why m, h.other)
own_why w v (ways.writes_super n j o y) sound win m = grind (arith, nat_tests, win.own_why m, y.offer, y.silent m)
own_why w v (ways.joins n j) sound win m = grind (arith, nat_tests, win.own_why m, j.idle)
own_why w v (ways.comes n j says lost ranges c) sound win m = grind (arith, nat_tests, win.own_why m, c.silent m, c.members m, c.joining)
own_why w v (ways.leaves n p) sound win m = grind (arith, nat_tests, win.own_why m)
own_why w v (ways.quits n p) sound win m = grind (arith, nat_tests, win.own_why m)
own_why w v (ways.parts n o p) sound win m = grind (arith, nat_tests, win.own_why m)
own_why w v (ways.dies n told p) sound win m = grind (arith, nat_tests, win.own_why m)
own_why w v (ways.turns n up not_asked stays) sound win m = grind (arith, nat_tests, win.own_why m)
own_why w v (ways.holds_turn n up asked free) sound win m = grind (arith, nat_tests, win.own_why m)
own_why w v (ways.passes_own n p) sound win m = grind (arith, nat_tests, win.own_why m)
own_why w v (ways.passes_full n p) sound win m = grind (arith, nat_tests, win.own_why m)
own_why w v (ways.passes_again n j p) sound win m = grind (arith, nat_tests, win.own_why m)
own_why w v (ways.fills n t j y p r f) sound win m = grind (arith, nat_tests, win.own_why m)
own_why w v (ways.copies n j p b c) sound win m = grind (arith, nat_tests, win.own_why m)
own_why w v (ways.settles n p b e) sound win m = grind (arith, nat_tests, win.own_why m)
own_why w v (ways.ends_pass n e) sound win m = grind (arith, nat_tests, win.own_why m, e.window, e.sender)
own_why w v x sound win m = win.own_why m
