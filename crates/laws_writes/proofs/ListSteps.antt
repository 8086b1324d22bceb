-- Each way keeps what is known of lists of suspended ranges.
use Rattle.std.proofs.Common.{◌≡◌, ℕ, ◌<◌, ◌==◌, ◌||◌, ◌&&◌, Bool, true, false, Option, Some, None, refl, arith}
use Rattle.std.specs.Prelude.{is_some}
use Rattle.std.proofs.lemmas.Bool.Decides.{nat_tests}
use Rattle.mdc_types.specs.Ranges.{holds}
use Rattle.mdc_types.specs.declared.roles.NodeState.{NodeState}
use Rattle.mdc_types.specs.declared.roles.NodeState.TheVariants as states
use Rattle.node_recovery.specs.Progress.{Recovering}
use Rattle.cluster_model.specs.Guards.{is_out}
use Rattle.msg_rounds.specs.Phases.{has_published}
use Rattle.cluster_model.specs.Phases.{is_up, offers}
use Rattle.storage_ways.proofs.Parts.{Part, own, tells_range, has_pass, is_range, recovers}
use Rattle.storage_ways.proofs.Sound.{Sound}
use Rattle.storage_ways.proofs.Ways.{Way, NoneWithin, Asking}
use Rattle.storage_ways.proofs.Ways as ways
use Rattle.laws_writes.proofs.Windows.{Windows, ListOwn, LoadedOwn, OwnUp, NoList, BlockOwn}

something : {A : Type 0} (x : Option A) → is_some x ≡ false → x ≡ None
something None e = refl
something (Some a) e = cc

-- who has no window, and has published no range, has no range of its own
pub own_none : (w : Part) → Windows w → (n : ℕ) → (w.copy n).pass ≡ None → tells_range w n ≡ false → own w n ≡ None
own_none w win n pass told = something (own w n) (grind (arith, win.own_why n, win.window_pass n))

below : (w : Part) → Sound w → (m : ℕ) → is_up (w.state m) ≡ true → m < 16
below w sound m up = sound.phases.below m (by (w.state m) up)
  where
    by : (s : NodeState) → is_up s ≡ true → is_out s ≡ false
    by states.Up e = refl
    by s e = cc

one_of : (a b c p : Bool) → (a || (b && c)) ≡ true → (a ≡ true → p ≡ true) → (c ≡ true → p ≡ true) → p ≡ true
one_of a b c p e f g = grind arith

-- a slot that another node recovers is no one's that copies
recovered_none : (w : Part) → Sound w → Windows w → (n m : ℕ) → recovers (w.recovery n) m ≡ true → (m == n) ≡ false → own w m ≡ None
recovered_none w sound win n m r other = something (own w m) (by (is_some (own w m)) refl)
  where
    opened : (x : Option Recovering) → recovers x m ≡ true → is_some x ≡ true
    opened None e = cc
    opened (Some y) e = refl

    copies : is_some (own w m) ≡ true → has_pass (w.copy m) ≡ true
    copies e = one_of (is_some (w.copy m).window) (has_published (w.sender m)) (offers is_range (w.offer m)) (has_pass (w.copy m)) (win.own_why m e) (win.window_pass m) (win.range_pass m)

    by : (b : Bool) → is_some (own w m) ≡ b → b ≡ false
    by false e = refl
    by true e = let same = sound.turns.one n m (sound.turns.recovery n (opened (w.recovery n) r)) (sound.turns.pass m (copies e)) in absurd (grind (arith, nat_tests))

pub list_own : (w v : Part) → Way w v → Sound w → Windows w → ListOwn v
list_own w v (ways.speaks n s said holds plain) sound win a m = grind (arith, nat_tests, win.list_own a m)
list_own w v (ways.voids n s quiet plain silent) sound win a m = grind (arith, nat_tests, win.list_own a m)
list_own w v (ways.offers n o p) sound win a m = grind (arith, nat_tests, win.list_own a m, p.silent m)
list_own w v (ways.publishes n o p) sound win a m = grind (arith, nat_tests, win.list_own a m, p.no_range, p.offer, p.silent m)
list_own w v (ways.shuts n r o told p b) sound win a m = grind (arith, nat_tests, win.list_own a m, p.offer, p.wish, p.calm a, p.silent m)
list_own w v (ways.opens n r o c is) sound win a m = grind (arith, nat_tests, win.list_own a m, c.only m, c.processed a, c.offer)
list_own w v (ways.announces n o c known other no_range) sound win a m = grind (arith, nat_tests, win.list_own a m, c.only m, c.offer)
list_own w v (ways.finishes n o c meta) sound win a m = grind (arith, nat_tests, win.list_own a m, c.only m, c.offer, win.loaded_own a m, c.alone a, c.inside)
list_own w v (ways.readies n did) sound win a m = grind (arith, nat_tests, win.list_own a m)
list_own w v (ways.takes n from x idle) sound win a m = grind (arith, nat_tests, win.list_own a m)
list_own w v (ways.hears_roles n roles size o h meta same) sound win a m = grind (arith, nat_tests, win.list_own a m, h.only m, h.offer)
list_own w v (ways.hears_range n r o h is free) sound win a m = grind (arith, nat_tests, win.list_own a m, h.only m, h.offer, h.other, is, win.range_own m)
list_own w v (ways.hears n o h no_range other) sound win a m = grind (arith, nat_tests, win.list_own a m, h.only m, h.offer)
list_own w v (ways.resumes n q) sound win a m = grind (arith, nat_tests, win.list_own a m, q.silent m)
list_own w v (ways.rests n q) sound win a m = grind (arith, nat_tests, win.list_own a m, q.silent m)
list_own w v (ways.writes_super n j o y) sound win a m = grind (arith, nat_tests, win.list_own a m, y.offer)
list_own w v (ways.joins n j) sound win a m = grind (arith, nat_tests, win.list_own a m, j.idle)
list_own w v (ways.comes n j says lost ranges c) sound win a m = grind (arith, nat_tests, win.list_own a m, c.members m, c.joining, c.silent m, win.own_up m)
list_own w v (ways.leaves n p) sound win a m = grind (arith, nat_tests, win.list_own a m, own_none w win n p.going.pass, p.sender)
list_own w v (ways.quits n p) sound win a m = grind (arith, nat_tests, win.list_own a m, own_none w win n p.going.pass, p.silent)
list_own w v (ways.parts n o p) sound win a m = grind (arith, nat_tests, win.list_own a m, own_none w win n p.going.pass, p.whole.offer, p.wish)
list_own w v (ways.dies n told p) sound win a m = grind (arith, nat_tests, win.list_own a m)
list_own w v x sound win a m = win.list_own a m

pub loaded_own : (w v : Part) → Way w v → Sound w → Windows w → LoadedOwn v
loaded_own w v (ways.shuts n r o told p b) sound win a m = grind (arith, nat_tests, win.loaded_own a m, sound.phases.loaded a, sound.phases.alone n a, p.offered, p.up)
loaded_own w v (ways.hears_range n r o h is free) sound win a m = grind (arith, nat_tests, win.loaded_own a m, h.other, h.up)
loaded_own w v (ways.joins n j) sound win a m = grind (arith, nat_tests, win.loaded_own a m)
loaded_own w v (ways.comes n j says lost ranges c) sound win a m = grind (arith, nat_tests, win.loaded_own a m, c.members m, c.joining, c.alone a, win.own_up m, win.block_own m, below w sound m)
loaded_own w v (ways.finishes n o c meta) sound win a m = grind (arith, nat_tests, win.loaded_own a m)
loaded_own w v (ways.leaves n p) sound win a m = grind (arith, nat_tests, win.loaded_own a m, own_none w win n p.going.pass, p.sender)
loaded_own w v (ways.quits n p) sound win a m = grind (arith, nat_tests, win.loaded_own a m, own_none w win n p.going.pass, p.silent)
loaded_own w v (ways.parts n o p) sound win a m = grind (arith, nat_tests, win.loaded_own a m, own_none w win n p.going.pass, p.whole.offer, p.wish)
loaded_own w v (ways.dies n told p) sound win a m = grind (arith, nat_tests, win.loaded_own a m)
loaded_own w v x sound win a m = win.loaded_own a m

pub own_up : (w v : Part) → Way w v → Sound w → Windows w → OwnUp v
own_up w v (ways.shuts n r o told p b) sound win m = grind (arith, nat_tests, win.own_up m, p.up)
own_up w v (ways.hears_range n r o h is free) sound win m = grind (arith, nat_tests, win.own_up m, h.other)
own_up w v (ways.joins n j) sound win m = grind (arith, nat_tests, win.own_up m)
own_up w v (ways.comes n j says lost ranges c) sound win m = grind (arith, nat_tests, win.own_up m, c.members m, c.joining)
own_up w v (ways.finishes n o c meta) sound win m = grind (arith, nat_tests, win.own_up m)
own_up w v (ways.leaves n p) sound win m = grind (arith, nat_tests, win.own_up m)
own_up w v (ways.quits n p) sound win m = grind (arith, nat_tests, win.own_up m)
own_up w v (ways.parts n o p) sound win m = grind (arith, nat_tests, win.own_up m)
own_up w v (ways.dies n told p) sound win m = grind (arith, nat_tests, win.own_up m)
own_up w v x sound win m = win.own_up m

pub no_list : (w v : Part) → Way w v → Sound w → Windows w → NoList v
no_list w v (ways.shuts n r o told p b) sound win m a = grind (arith, nat_tests, win.no_list m a, p.up)
no_list w v (ways.hears_range n r o h is free) sound win m a = grind (arith, nat_tests, win.no_list m a, h.up)
no_list w v (ways.joins n j) sound win m a = grind (arith, nat_tests, win.no_list m a)
no_list w v (ways.comes n j says lost ranges c) sound win m a = grind (arith, nat_tests, win.no_list m a)
no_list w v (ways.finishes n o c meta) sound win m a = grind (arith, nat_tests, win.no_list m a, c.inside)
no_list w v (ways.leaves n p) sound win m a = grind (arith, nat_tests, win.no_list m a)
no_list w v (ways.quits n p) sound win m a = grind (arith, nat_tests, win.no_list m a)
no_list w v (ways.parts n o p) sound win m a = grind (arith, nat_tests, win.no_list m a)
no_list w v (ways.dies n told p) sound win m a = grind (arith, nat_tests, win.no_list m a)
no_list w v x sound win m a = win.no_list m a

pub block_own : (w v : Part) → Way w v → Sound w → Windows w → BlockOwn v
block_own w v (ways.shuts n r o told p b) sound win m lt = grind (arith, nat_tests, win.block_own m lt, b m)
block_own w v (ways.hears_range n r o h is free) sound win m lt = grind (arith, nat_tests, win.block_own m lt, h.other)
block_own w v (ways.comes n j says lost ranges c) sound win m lt = grind (arith, nat_tests, win.block_own m lt, c.members m, c.joining, win.own_up m)
block_own w v (ways.leaves n p) sound win m lt = grind (arith, nat_tests, win.block_own m lt, own_none w win n p.going.pass, p.sender)
block_own w v (ways.quits n p) sound win m lt = grind (arith, nat_tests, win.block_own m lt, own_none w win n p.going.pass, p.silent)
block_own w v (ways.parts n o p) sound win m lt = grind (arith, nat_tests, win.block_own m lt, own_none w win n p.going.pass, p.whole.offer, p.wish)
block_own w v (ways.dies n told p) sound win m lt = grind (arith, nat_tests, win.block_own m lt, p.blocks m, recovered_none w sound win n m)
block_own w v x sound win m lt = win.block_own m lt
