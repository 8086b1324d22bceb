-- Each way keeps what is known of the forms of ranges, and passes.
use Rattle.std.proofs.Common.{arith}
use Rattle.std.proofs.lemmas.Bool.Decides.{nat_tests}
use Rattle.storage_ways.proofs.Parts.{Part}
use Rattle.storage_ways.proofs.Sound.{Sound}
use Rattle.storage_ways.proofs.Ways.{Way, NoneWithin, Asking}
use Rattle.storage_ways.proofs.Ways as ways
use Rattle.laws_writes.proofs.Windows.{Windows, RangeForm, OwnForm, OwnSome, WindowPass, RangePass}

pub range_form : (w v : Part) → Way w v → Sound w → Windows w → RangeForm v
range_form w v (ways.voids n s quiet plain silent) sound win a q u = grind (arith, nat_tests, win.range_form a q u)
range_form w v (ways.offers n o p) sound win a q u = grind (arith, nat_tests, win.range_form a q u, p.range q)
range_form w v (ways.opens n r o c is) sound win a q u = grind (arith, nat_tests, win.range_form a q u)
range_form w v (ways.announces n o c known other no_range) sound win a q u = grind (arith, nat_tests, win.range_form a q u)
range_form w v (ways.finishes n o c meta) sound win a q u = grind (arith, nat_tests, win.range_form a q u)
range_form w v (ways.writes_super n j o y) sound win a q u = grind (arith, nat_tests, win.range_form a q u, y.meta)
range_form w v (ways.leaves n p) sound win a q u = grind (arith, nat_tests, win.range_form a q u)
range_form w v (ways.quits n p) sound win a q u = grind (arith, nat_tests, win.range_form a q u)
range_form w v (ways.parts n o p) sound win a q u = grind (arith, nat_tests, win.range_form a q u)
range_form w v (ways.dies n told p) sound win a q u = grind (arith, nat_tests, win.range_form a q u)
range_form w v x sound win a q u = win.range_form a q u

pub own_form : (w v : Part) → Way w v → Sound w → Windows w → OwnForm v
own_form w v (ways.shuts n r o told p b) sound win a q = grind (arith, nat_tests, win.own_form a q, win.range_form n r o, p.offer, p.wish)
own_form w v (ways.hears_range n r o h is free) sound win a q = grind (arith, nat_tests, win.own_form a q, h.other)
own_form w v (ways.comes n j says lost ranges c) sound win a q = grind (arith, nat_tests, win.own_form a q, c.members a, c.joining)
own_form w v (ways.leaves n p) sound win a q = grind (arith, nat_tests, win.own_form a q)
own_form w v (ways.quits n p) sound win a q = grind (arith, nat_tests, win.own_form a q)
own_form w v (ways.parts n o p) sound win a q = grind (arith, nat_tests, win.own_form a q)
own_form w v (ways.dies n told p) sound win a q = grind (arith, nat_tests, win.own_form a q)
own_form w v x sound win a q = win.own_form a q

pub own_some : (w v : Part) → Way w v → Sound w → Windows w → OwnSome v
own_some w v (ways.shuts n r o told p b) sound win a q = grind (arith, nat_tests, win.own_some a q)
own_some w v (ways.hears_range n r o h is free) sound win a q = grind (arith, nat_tests, win.own_some a q, h.other)
own_some w v (ways.comes n j says lost ranges c) sound win a q = grind (arith, nat_tests, win.own_some a q, c.members a, c.joining)
own_some w v (ways.leaves n p) sound win a q = grind (arith, nat_tests, win.own_some a q)
own_some w v (ways.quits n p) sound win a q = grind (arith, nat_tests, win.own_some a q)
own_some w v (ways.parts n o p) sound win a q = grind (arith, nat_tests, win.own_some a q)
own_some w v (ways.dies n told p) sound win a q = grind (arith, nat_tests, win.own_some a q)
own_some w v x sound win a q = win.own_some a q

pub window_pass : (w v : Part) → Way w v → Sound w → Windows w → WindowPass v
window_pass w v (ways.shuts n r o told p b) sound win m = grind (arith, nat_tests, win.window_pass m)
window_pass w v (ways.opens n r o c is) sound win m = grind (arith, nat_tests, win.window_pass m, win.range_pass n, c.offer, is)
window_pass w v (ways.finishes n o c meta) sound win m = grind (arith, nat_tests, win.window_pass m)
window_pass w v (ways.hears_roles n roles size o h meta same) sound win m = grind (arith, nat_tests, win.window_pass m)
window_pass w v (ways.comes n j says lost ranges c) sound win m = grind (arith, nat_tests, win.window_pass m, c.copy)
window_pass w v (ways.leaves n p) sound win m = grind (arith, nat_tests, win.window_pass m)
window_pass w v (ways.quits n p) sound win m = grind (arith, nat_tests, win.window_pass m)
window_pass w v (ways.parts n o p) sound win m = grind (arith, nat_tests, win.window_pass m)
window_pass w v (ways.dies n told p) sound win m = grind (arith, nat_tests, win.window_pass m)
window_pass w v (ways.turns n up not_asked stays) sound win m = grind (arith, nat_tests, win.window_pass m)
window_pass w v (ways.holds_turn n up asked free) sound win m = grind (arith, nat_tests, win.window_pass m)
window_pass w v (ways.passes_own n p) sound win m = grind (arith, nat_tests, win.window_pass m)
window_pass w v (ways.passes_full n p) sound win m = grind (arith, nat_tests, win.window_pass m)
window_pass w v (ways.passes_again n j p) sound win m = grind (arith, nat_tests, win.window_pass m)
window_pass w v (ways.fills n t j y p r f) sound win m = grind (arith, nat_tests, win.window_pass m)
window_pass w v (ways.copies n j p b c) sound win m = grind (arith, nat_tests, win.window_pass m)
window_pass w v (ways.settles n p b e) sound win m = grind (arith, nat_tests, win.window_pass m)
window_pass w v (ways.ends_pass n e) sound win m = grind (arith, nat_tests, win.window_pass m, e.window)
window_pass w v x sound win m = win.window_pass m

pub range_pass : (w v : Part) → Way w v → Sound w → Windows w → RangePass v
range_pass w v (ways.voids n s quiet plain silent) sound win m = grind (arith, nat_tests, win.range_pass m)
range_pass w v (ways.offers n o p) sound win m = grind (arith, nat_tests, win.range_pass m, p.pass)
range_pass w v (ways.shuts n r o told p b) sound win m = grind (arith, nat_tests, win.range_pass m)
range_pass w v (ways.opens n r o c is) sound win m = grind (arith, nat_tests, win.range_pass m)
range_pass w v (ways.announces n o c known other no_range) sound win m = grind (arith, nat_tests, win.range_pass m)
range_pass w v (ways.finishes n o c meta) sound win m = grind (arith, nat_tests, win.range_pass m)
range_pass w v (ways.hears_roles n roles size o h meta same) sound win m = grind (arith, nat_tests, win.range_pass m)
range_pass w v (ways.writes_super n j o y) sound win m = grind (arith, nat_tests, win.range_pass m, y.offer)
range_pass w v (ways.comes n j says lost ranges c) sound win m = grind (arith, nat_tests, win.range_pass m, c.none m)
range_pass w v (ways.leaves n p) sound win m = grind (arith, nat_tests, win.range_pass m)
range_pass w v (ways.quits n p) sound win m = grind (arith, nat_tests, win.range_pass m)
range_pass w v (ways.parts n o p) sound win m = grind (arith, nat_tests, win.range_pass m)
range_pass w v (ways.dies n told p) sound win m = grind (arith, nat_tests, win.range_pass m)
range_pass w v (ways.turns n up not_asked stays) sound win m = grind (arith, nat_tests, win.range_pass m)
range_pass w v (ways.holds_turn n up asked free) sound win m = grind (arith, nat_tests, win.range_pass m)
range_pass w v (ways.passes_own n p) sound win m = grind (arith, nat_tests, win.range_pass m)
range_pass w v (ways.passes_full n p) sound win m = grind (arith, nat_tests, win.range_pass m)
range_pass w v (ways.passes_again n j p) sound win m = grind (arith, nat_tests, win.range_pass m)
range_pass w v (ways.fills n t j y p r f) sound win m = grind (arith, nat_tests, win.range_pass m)
range_pass w v (ways.copies n j p b c) sound win m = grind (arith, nat_tests, win.range_pass m)
range_pass w v (ways.settles n p b e) sound win m = grind (arith, nat_tests, win.range_pass m)
range_pass w v (ways.ends_pass n e) sound win m = grind (arith, nat_tests, win.range_pass m, sound.phases.stands n, e.sender)
range_pass w v x sound win m = win.range_pass m
