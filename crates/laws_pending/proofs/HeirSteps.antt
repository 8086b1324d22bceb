-- Each way keeps the line of heirs, and what was settled along it.
use Rattle.std.proofs.Common.{◌≡◌, ℕ, ◌<◌, ◌≤◌, Bool, true, Option, Some, None, refl, sym, ap, subst, ◌∙◌, arith}
use Rattle.std.proofs.lemmas.Bool.Decides.{nat_tests}
use Rattle.dlm_modes.specs.Points.{with_at}
use Rattle.laws_roles.proofs.Parts.{number}
use Rattle.node_recovery.specs.Progress.{Recovering, with_read}
use Rattle.storage_ways.proofs.Parts.{Part, read_in}
use Rattle.storage_ways.proofs.Ways as ways
use Rattle.storage_ways.proofs.Ways.{Way}
use Rattle.laws_writes.proofs.Ghosts.{Ghost, ghost_after}
use Rattle.laws_writes.proofs.Settled.{Since, since_after}
use Rattle.laws_pending.proofs.Found.{up_settled, live_settled, heir_there}
use Rattle.laws_pending.proofs.Ghosts.{Pend, pend_after}
use Rattle.laws_pending.proofs.Known.{Known}
use Rattle.laws_pending.proofs.Pending.{ReadLeg, SuperLeg, BornNow, Line, SinceLine, WasHeir, SinceYoung}
use Rattle.laws_pending.proofs.Points.{at_point}

more_read : {P : Type 0} (r : Recovering) (q k i l : ℕ) → (with_read r q k).read i l ≡ true → (r.read i l ≡ true → P) → (l ≡ k → P) → P
more_read {P = P} r q k i l = at_point (λ (row : ℕ → Bool). row l ≡ true → (r.read i l ≡ true → P) → (l ≡ k → P) → P) r.read q (with_at (r.read q) k true) i
    (λ is. at_point (λ (b : Bool). b ≡ true → (r.read i l ≡ true → P) → (l ≡ k → P) → P) (r.read q) k true l (λ same e old new. new same) (λ apart e old new. old (subst (λ j. r.read j l ≡ true) (sym is) e)))
    (λ apart e old new. old e)

pub read_leg_step : (w v : Part) (x : Way w v) (g : Ghost) (z : Since) (p : Pend) → Known w g z p → ReadLeg v
read_leg_step w v (ways.leaves n x) g z p a m q l = grind (arith, nat_tests, a.pendings.read_leg m q l)
read_leg_step w v (ways.quits n x) g z p a m q l = grind (arith, nat_tests, a.pendings.read_leg m q l)
read_leg_step w v (ways.parts n o x) g z p a m q l = grind (arith, nat_tests, a.pendings.read_leg m q l)
read_leg_step w v (ways.dies n told x) g z p a m q l = grind (arith, nat_tests, a.pendings.read_leg m q l)
read_leg_step w v (ways.recovers_slot n d x) g z p a m q l = grind (arith, nat_tests, a.pendings.read_leg m q l)
read_leg_step w v (ways.slot_reads n q k r has x) g z p a m i l = at_point (λ y. read_in y i l ≡ true → l < w.geometry.legs) w.recovery n _ m
    (λ is e. more_read r q k i l e (λ old. a.pendings.read_leg n i l (ap (λ y. read_in y i l) x.opened.recovery ∙ old)) (λ same. subst (λ j. j < w.geometry.legs) (sym same) x.leg)) (λ e. a.pendings.read_leg m i l)
read_leg_step w v (ways.slot_clears n q k r x) g z p a m i l = grind (arith, nat_tests, a.pendings.read_leg m i l, x.all.opened.recovery)
read_leg_step w v (ways.ends_recovery n r x) g z p a m q l = grind (arith, nat_tests, a.pendings.read_leg m q l)
read_leg_step w v x g z p a m q l = a.pendings.read_leg m q l

pub super_leg : (w v : Part) (x : Way w v) (g : Ghost) (z : Since) (p : Pend) → Known w g z p → SuperLeg v
super_leg w v (ways.writes_super n l o x) g z p a k = at_point (λ y. w.completed ≤ number y → k < w.geometry.legs) w.super l _ k
    (λ is le. subst (λ j. j < w.geometry.legs) (sym is) x.leg) (λ e. a.pendings.super_leg k)
super_leg w v (ways.leaves_super n l o x) g z p a k = at_point (λ y. w.completed ≤ number y → k < w.geometry.legs) w.super l _ k
    (λ is le. subst (λ j. j < w.geometry.legs) (sym is) x.leg) (λ e. a.pendings.super_leg k)
super_leg w v (ways.finishes n o x meta) g z p a k = grind (arith, a.pendings.super_leg k, a.sound.numbers.offer_new n, a.sound.numbers.offer_drawn n, x.offer, meta)
super_leg w v x g z p a k = a.pendings.super_leg k

pub born_now : (w v : Part) (x : Way w v) (g : Ghost) (z : Since) (p : Pend) → Known w g z p → BornNow v (pend_after x p)
born_now w v (ways.leaves n x) g z p a d = grind (arith, nat_tests, a.pendings.born_now d)
born_now w v (ways.quits n x) g z p a d = grind (arith, nat_tests, a.pendings.born_now d)
born_now w v (ways.parts n o x) g z p a d = grind (arith, nat_tests, a.pendings.born_now d)
born_now w v (ways.dies n told x) g z p a d = grind (arith, nat_tests, a.pendings.born_now d)
born_now w v (ways.ends_recovery n r x) g z p a d = grind (arith, nat_tests, a.pendings.born_now d)
born_now w v x g z p a d = a.pendings.born_now d

module _ (w : Part) (g : Ghost) (z : Since) (p : Pend) (a : Known w g z p) where
  -- a live node's slot has no heir
  pub no_heir_of : (n : ℕ) → w.live n ≡ true → w.heir n ≡ None
  no_heir_of n live = a.pages.no_heir n (live_settled w g z p a n live)

pub line : (w v : Part) (x : Way w v) (g : Ghost) (z : Since) (p : Pend) → Known w g z p → Line v (pend_after x p)
line w v (ways.leaves n x) g z p a d h = grind (arith, nat_tests, a.pendings.line d h)
line w v (ways.quits n x) g z p a d h = grind (arith, nat_tests, a.pendings.line d h)
line w v (ways.parts n o x) g z p a d h = grind (arith, nat_tests, a.pendings.line d h, a.pendings.born_now d, no_heir_of w g z p a n x.going.live)
line w v (ways.dies n told x) g z p a d h = grind (arith, nat_tests, a.pendings.line d h, a.pendings.born_now d, no_heir_of w g z p a n x.live)
line w v (ways.recovers_slot n e x) g z p a d h = grind (arith, nat_tests, a.pendings.line d h, up_settled w g z p a n x.up)
line w v (ways.ends_recovery n r x) g z p a d h = grind (arith, nat_tests, a.pendings.line d h)
line w v x g z p a d h = a.pendings.line d h

pub since_line : (w v : Part) (x : Way w v) (g : Ghost) (z : Since) (p : Pend) → Known w g z p → SinceLine v (since_after x z)
since_line w v (ways.leaves n x) g z p a d h s = grind (arith, nat_tests, a.pendings.since_line d h s)
since_line w v (ways.quits n x) g z p a d h s = grind (arith, nat_tests, a.pendings.since_line d h s)
since_line w v (ways.parts n o x) g z p a d h s = grind (arith, nat_tests, a.pendings.since_line d h s, no_heir_of w g z p a n x.going.live)
since_line w v (ways.dies n told x) g z p a d h s = grind (arith, nat_tests, a.pendings.since_line d h s, no_heir_of w g z p a n x.live)
since_line w v (ways.settles n q b x) g z p a d h s = grind (arith, a.pendings.since_line d h s)
since_line w v (ways.recovers_slot n e x) g z p a d h s = grind (arith, nat_tests, a.pendings.since_line d h s, up_settled w g z p a n x.up)
since_line w v (ways.slot_reads n q k r has x) g z p a d h s = grind (arith, nat_tests, a.pendings.since_line d h s, x.opened.recovery)
since_line w v (ways.slot_clears n q k r x) g z p a d h s = grind (arith, nat_tests, a.pendings.since_line d h s, x.all.opened.recovery)
since_line w v (ways.ends_recovery n r x) g z p a d h s = grind (arith, nat_tests, a.pendings.since_line d h s)
since_line w v x g z p a d h s = a.pendings.since_line d h s

pub was_heir : (w v : Part) (x : Way w v) (g : Ghost) (z : Since) (p : Pend) → Known w g z p → WasHeir v (pend_after x p)
was_heir w v (ways.leaves n x) g z p a m d = grind (arith, nat_tests, a.pendings.was_heir m d)
was_heir w v (ways.quits n x) g z p a m d = grind (arith, nat_tests, a.pendings.was_heir m d)
was_heir w v (ways.parts n o x) g z p a m d = grind (arith, nat_tests, a.pendings.was_heir m d)
was_heir w v (ways.dies n told x) g z p a m d = by (w.recovery n) refl
  where
    by : (y : Option Recovering) → w.recovery n ≡ y → v.pending m ≡ true → (pend_after (ways.dies n told x) p).was m ≡ Some d → v.heir d ≡ Some m
    by None e = grind (arith, nat_tests, a.pendings.was_heir m d, e)
    by (Some r) e = grind (arith, nat_tests, a.pendings.was_heir m d, e, heir_there w g z p a n r e)
was_heir w v (ways.recovers_slot n e x) g z p a m d = grind (arith, nat_tests, a.pendings.was_heir m d, x.heir m)
was_heir w v (ways.ends_recovery n r x) g z p a m d = grind (arith, nat_tests, a.pendings.was_heir m d, heir_there w g z p a n r x.all.opened.recovery, up_settled w g z p a n x.all.opened.up)
was_heir w v x g z p a m d = a.pendings.was_heir m d

pub since_young : (w v : Part) (x : Way w v) (g : Ghost) (z : Since) (p : Pend) → Known w g z p → SinceYoung v (ghost_after x g) (since_after x z) (pend_after x p)
since_young w v (ways.leaves n x) g z p a d s = grind (arith, nat_tests, a.pendings.since_young d s)
since_young w v (ways.quits n x) g z p a d s = grind (arith, nat_tests, a.pendings.since_young d s)
since_young w v (ways.parts n o x) g z p a d s = grind (arith, nat_tests, a.pendings.since_young d s)
since_young w v (ways.dies n told x) g z p a d s = grind (arith, nat_tests, a.pendings.since_young d s)
since_young w v (ways.outs n k l x t) g z p a d s = grind (arith, nat_tests, a.pendings.since_young d s)
since_young w v (ways.misses n k l x left t) g z p a d s = grind (arith, nat_tests, a.pendings.since_young d s)
since_young w v (ways.ends n k x e) g z p a d s = grind (arith, nat_tests, a.pendings.since_young d s)
since_young w v (ways.settles n q b e) g z p a d s = grind (arith, nat_tests, a.pendings.since_young d s)
since_young w v (ways.recovers_slot n e x) g z p a d s = grind (arith, nat_tests, a.pendings.since_young d s)
since_young w v (ways.ends_recovery n r x) g z p a d s = grind (arith, nat_tests, a.pendings.since_young d s)
since_young w v x g z p a d s = a.pendings.since_young d s
