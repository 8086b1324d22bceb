-- Each way keeps that the keeper of an open write needs its chunk, or has the write.
use Rattle.std.proofs.Common.{◌≡◌, ℕ, ◌==◌, ◌&&◌, ◌||◌, not, if◌then◌else◌, Bool, true, false, Option, Some, None, List, [], ◌∷◌, ◌++◌, refl, ap, subst, ◌∙◌, arith}
use Rattle.std.proofs.lemmas.Bool.Decides.{nat_tests}
use Rattle.dlm_modes.specs.Points.{with_at}
use Rattle.mdc_types.specs.declared.numbers.Sector.{Sector}
use Rattle.mirror_io.specs.declared.live.LiveWrite.{LiveWrite}
use Rattle.mirror_io.specs.Flight.{write_in, without_write, start_in, done_in, started, done_on}
use Rattle.node_bitmaps.specs.Bitmap.{exited, with_need, found_page}
use Rattle.storage_ways.proofs.Parts.{Part, chunk_in, writes_at, has_started}
use Rattle.storage_ways.proofs.Sound.{Sound}
use Rattle.storage_ways.proofs.Ways.{Way, Finds}
use Rattle.storage_ways.proofs.Ways as ways
use Rattle.laws_writes.proofs.Ghosts.{Ghost, undecided, is_open, with_try, with_value, ghost_after}
use Rattle.laws_writes.proofs.Bits.{Bits}
use Rattle.laws_writes.proofs.Contents.{Contents}
use Rattle.laws_writes.proofs.Pages.{Pages}
use Rattle.laws_writes.proofs.Intent.{Intents, KeeperNeed, KeeperRead}
use Rattle.laws_writes.proofs.Heirs.{heir_need}
use Rattle.laws_writes.proofs.Recoverers.{slot_down}
use Rattle.laws_writes.proofs.Settling.{need_when_settled}

-- A write that is tried stays, and has started.

abbrev is_begun : Option LiveWrite → ℕ → Bool
is_begun x t = writes_at x t && has_started x

begun_after : (old new : List LiveWrite) (k j t : ℕ) (x y : LiveWrite) → write_in k old ≡ Some x → Finds new old k (Some y) → y.sector ≡ x.sector → y.started ≡ true
    → is_begun (write_in j old) t ≡ true → is_begun (write_in j new) t ≡ true
begun_after old new k j t x y was finds same start e = grind (arith, nat_tests, finds j)

begun_first : (old new : List LiveWrite) (k t : ℕ) (y : LiveWrite) → Finds new old k (Some y) → y.started ≡ true → (t == y.sector) ≡ true → is_begun (write_in k new) t ≡ true
begun_first old new k t y finds start e = grind (arith, nat_tests, finds k)

need_tried : (w : Part) (g : Ghost) (n k t : ℕ) (new : List LiveWrite) (x y : LiveWrite) → write_in k (w.writes n) ≡ Some x → Finds new (w.writes n) k (Some y)
    → y.sector ≡ x.sector → y.started ≡ true → KeeperNeed w g → undecided (with_try g n k x) t ≡ true → w.live ((with_try g n k x).keeper t) ≡ true
    → let m = (with_try g n k x).keeper t in let j = (with_try g n k x).number t in
    ((w.bitmap m).need (chunk_in w t) || (writes_at (write_in j (with_at w.writes n new m)) t && has_started (write_in j (with_at w.writes n new m)))) ≡ true
need_tried w g n k t new x y was finds same start need = by ((t == x.sector) && not x.started) refl
  where
    or_right : (a b : Bool) → b ≡ true → (a || b) ≡ true
    or_right a b e = grind arith

    or_more : (a b c : Bool) → (b ≡ true → c ≡ true) → (a || b) ≡ true → (a || c) ≡ true
    or_more a b c h e = grind arith

    first : ((t == x.sector) && not x.started) ≡ true → (t == y.sector) ≡ true
    first e = grind (arith, nat_tests)

    at_point : (m : ℕ) → (b : Bool) → (m == n) ≡ b → is_begun (write_in (g.number t) (w.writes m)) t ≡ true
        → is_begun (write_in (g.number t) (if b then new else w.writes m)) t ≡ true
    at_point m true e h =
        let here : m ≡ n = grind (arith, nat_tests) in
        begun_after (w.writes n) new k (g.number t) t x y was finds same start (subst (λ z. is_begun (write_in (g.number t) (w.writes z)) t ≡ true) here h)
    at_point m false e h = h

    at_self : (b : Bool) → (n == n) ≡ b → is_begun (write_in k new) t ≡ true → is_begun (write_in k (if b then new else w.writes n)) t ≡ true
    at_self true e h = h
    at_self false e h = absurd (grind (arith, nat_tests))

    by : (b : Bool) → ((t == x.sector) && not x.started) ≡ b
        → is_open (if b then g.values t ++ x.value ∷ [] else g.values t) ≡ true → w.live (if b then n else g.keeper t) ≡ true
        → let m = if b then n else g.keeper t in let j = if b then k else g.number t in
        ((w.bitmap m).need (chunk_in w t) || (writes_at (write_in j (with_at w.writes n new m)) t && has_started (write_in j (with_at w.writes n new m)))) ≡ true
    by true e two live = or_right ((w.bitmap n).need (chunk_in w t)) (is_begun (write_in k (with_at w.writes n new n)) t) (at_self (n == n) refl (begun_first (w.writes n) new k t y finds start (first e)))
    by false e two live =
        let m = g.keeper t in
        or_more ((w.bitmap m).need (chunk_in w t)) (is_begun (write_in (g.number t) (w.writes m)) t) (is_begun (write_in (g.number t) (with_at w.writes n new m)) t) (λ h. at_point m (m == n) refl h) (need t two live)

-- A write that ends or is broken is of its sector alone.

begun_left : (old new : List LiveWrite) (k j t : ℕ) (x : LiveWrite) → write_in k old ≡ Some x → Finds new old k None → (t == x.sector) ≡ false
    → is_begun (write_in j old) t ≡ true → is_begun (write_in j new) t ≡ true
begun_left old new k j t x was finds other e = grind (arith, nat_tests, finds j)

left_at : (w : Part) (g : Ghost) (n k t : ℕ) (new : List LiveWrite) (x : LiveWrite) → write_in k (w.writes n) ≡ Some x → Finds new (w.writes n) k None → (t == x.sector) ≡ false
    → (m : ℕ) → is_begun (write_in (g.number t) (w.writes m)) t ≡ true → is_begun (write_in (g.number t) (with_at w.writes n new m)) t ≡ true
left_at w g n k t new x was finds other m e = by (m == n) refl
  where
    by : (b : Bool) → (m == n) ≡ b → is_begun (write_in (g.number t) (if b then new else w.writes m)) t ≡ true
    by true is =
        let here : m ≡ n = grind (arith, nat_tests) in
        begun_left (w.writes n) new k (g.number t) t x was finds other (subst (λ z. is_begun (write_in (g.number t) (w.writes z)) t ≡ true) here e)
    by false is = e

or_more : (a b c : Bool) → (b ≡ true → c ≡ true) → (a || b) ≡ true → (a || c) ≡ true
or_more a b c h e = grind arith

need_ended : (w : Part) (g : Ghost) (n k t : ℕ) (new : List LiveWrite) (x : LiveWrite) (v : Sector) → write_in k (w.writes n) ≡ Some x → Finds new (w.writes n) k None
    → KeeperNeed w g → undecided (with_value g x.sector v) t ≡ true → w.live (g.keeper t) ≡ true
    → ((w.bitmap (g.keeper t)).need (chunk_in w t) || is_begun (write_in (g.number t) (with_at w.writes n new (g.keeper t))) t) ≡ true
need_ended w g n k t new x v was finds need = by (t == x.sector) refl
  where
    by : (b : Bool) → (t == x.sector) ≡ b → is_open (if b then v ∷ [] else g.values t) ≡ true → w.live (g.keeper t) ≡ true
        → ((w.bitmap (g.keeper t)).need (chunk_in w t) || is_begun (write_in (g.number t) (with_at w.writes n new (g.keeper t))) t) ≡ true
    by true e two live = cc
    by false e two live =
        or_more ((w.bitmap (g.keeper t)).need (chunk_in w t)) (is_begun (write_in (g.number t) (w.writes (g.keeper t))) t) (is_begun (write_in (g.number t) (with_at w.writes n new (g.keeper t))) t)
        (left_at w g n k t new x was finds e (g.keeper t)) (need t two live)

exited_need : (w : Part) (n c m d : ℕ) → (with_at w.bitmap n (exited (w.bitmap n) c) m).need d ≡ (w.bitmap m).need d
exited_need w n c m d = grind (arith, nat_tests)

need_broken : (w : Part) (n k t j m : ℕ) (new : List LiveWrite) (x : LiveWrite) → write_in k (w.writes n) ≡ Some x → Finds new (w.writes n) k None
    → ((w.bitmap m).need (chunk_in w t) || is_begun (write_in j (w.writes m)) t) ≡ true
    → ((with_at w.bitmap n (with_need (exited (w.bitmap n) (chunk_in w x.sector)) (chunk_in w x.sector) true) m).need (chunk_in w t) || is_begun (write_in j (with_at w.writes n new m)) t) ≡ true
need_broken w n k t j m new x was finds need = by (m == n) refl
  where
    more : (a b c d : Bool) → (a ≡ true → c ≡ true) → (b ≡ true → d ≡ true) → (a || b) ≡ true → (c || d) ≡ true
    more a b c d f h e = grind arith

    grows : (d : ℕ) → (w.bitmap n).need d ≡ true → with_at (w.bitmap n).need (chunk_in w x.sector) true d ≡ true
    grows d e = grind arith

    here : (t == x.sector) ≡ true → with_at (w.bitmap n).need (chunk_in w x.sector) true (chunk_in w t) ≡ true
    here e = let same : t ≡ x.sector = grind (arith, nat_tests) in let chunk : (chunk_in w t == chunk_in w x.sector) ≡ true = ap (λ z. chunk_in w z == chunk_in w x.sector) same ∙ grind (arith, nat_tests) in grind arith

    at_sector : (b : Bool) → (t == x.sector) ≡ b → m ≡ n → (with_at (w.bitmap n).need (chunk_in w x.sector) true (chunk_in w t) || is_begun (write_in j new) t) ≡ true
    at_sector true e same = ap (λ z. z || is_begun (write_in j new) t) (here e)
    at_sector false e same =
        more ((w.bitmap n).need (chunk_in w t)) (is_begun (write_in j (w.writes n)) t) (with_at (w.bitmap n).need (chunk_in w x.sector) true (chunk_in w t)) (is_begun (write_in j new) t)
        (grows (chunk_in w t)) (begun_left (w.writes n) new k j t x was finds e) (subst (λ z. ((w.bitmap z).need (chunk_in w t) || is_begun (write_in j (w.writes z)) t) ≡ true) same need)

    by : (b : Bool) → (m == n) ≡ b
        → ((if b then with_need (exited (w.bitmap n) (chunk_in w x.sector)) (chunk_in w x.sector) true else w.bitmap m).need (chunk_in w t) || is_begun (write_in j (if b then new else w.writes m)) t) ≡ true
    by true e = at_sector (t == x.sector) refl (grind (arith, nat_tests))
    by false e = need

-- what was found is needed too
found_need : (w : Part) (n p m d : ℕ) (has : ℕ → Bool) → (w.bitmap m).need d ≡ true → (with_at w.bitmap n (found_page w.geometry (w.bitmap n) p has) m).need d ≡ true
found_need w n p m d has e = grind (arith, nat_tests)

or_less : (a b c : Bool) → (a ≡ true → c ≡ true) → (a || b) ≡ true → (c || b) ≡ true
or_less a b c h e = grind arith

pub keeper_need : (w v : Part) (x : Way w v) (g : Ghost) → Sound w → Bits w → Contents w g → Pages w → Intents w g → KeeperNeed v (ghost_after x g)
keeper_need w v (ways.finishes n o x e) g s b c p i t = grind (arith, nat_tests, i.keeper_need t)
keeper_need w v (ways.hears_roles n roles size o x m e) g s b c p i t = grind (arith, nat_tests, i.keeper_need t)
keeper_need w v (ways.comes n k says lost ranges x) g s b c p i t = grind (arith, nat_tests, i.keeper_need t)
keeper_need w v (ways.joins n x) g s b c p i t = grind (arith, nat_tests, i.keeper_need t, i.keeper t, x.dead, x.recovered)
keeper_need w v (ways.leaves n x) g s b c p i t = grind (arith, nat_tests, i.keeper_need t)
keeper_need w v (ways.quits n x) g s b c p i t = grind (arith, nat_tests, i.keeper_need t)
keeper_need w v (ways.parts n o x) g s b c p i t = grind (arith, nat_tests, i.keeper_need t)
keeper_need w v (ways.dies n told x) g s b c p i t = grind (arith, nat_tests, i.keeper_need t)
keeper_need w v (ways.asks n q k u new x) g s b c p i t = grind (arith, nat_tests, i.keeper_need t, x.finds (g.number t), x.number)
keeper_need w v (ways.outs n k l x e) g s b c p i t = need_tried w g n k t (done_in k l (start_in k (w.writes n))) x (done_on l (started x)) e.write e.does refl refl i.keeper_need
keeper_need w v (ways.misses n k l x left e) g s b c p i t = need_tried w g n k t (start_in k (w.writes n)) x (started x) e.write e.starts refl refl i.keeper_need
keeper_need w v (ways.ends n k x e) g s b c p i t = λ two live. ap (λ z. z || is_begun (write_in (g.number t) (with_at w.writes n (without_write k (w.writes n)) (g.keeper t))) t) (exited_need w n (chunk_in w x.sector) (g.keeper t) (chunk_in w t)) ∙ need_ended w g n k t (without_write k (w.writes n)) x x.value e.ending.write e.ending.finds i.keeper_need two live
keeper_need w v (ways.breaks n k x e) g s b c p i t = λ two live. need_broken w n k t (g.number t) (g.keeper t) (without_write k (w.writes n)) x e.write e.finds (i.keeper_need t two live)
keeper_need w v (ways.marks n q l x) g s b c p i t = grind (arith, nat_tests, i.keeper_need t)
keeper_need w v (ways.misses_page n q l left x) g s b c p i t = grind (arith, nat_tests, i.keeper_need t)
keeper_need w v (ways.clears n q x) g s b c p i t = grind (arith, nat_tests, i.keeper_need t)
keeper_need w v (ways.settles n q y e) g s b c p i t = grind (arith, nat_tests, i.keeper_need t, need_when_settled w g s c n q y e t)
keeper_need w v (ways.slot_reads n q l r has x) g s b c p i t = λ two live. or_less ((w.bitmap (g.keeper t)).need (chunk_in w t)) (is_begun (write_in (g.number t) (w.writes (g.keeper t))) t) ((with_at w.bitmap n (found_page w.geometry (w.bitmap n) q has) (g.keeper t)).need (chunk_in w t)) (found_need w n q (g.keeper t) (chunk_in w t) has) (i.keeper_need t two live)
keeper_need w v (ways.slot_clears n q l r x) g s b c p i t = grind (arith, nat_tests, i.keeper_need t, heir_need w g s p i n t r x.all, x.all.opened.other)
keeper_need w v (ways.misses_slot n q l r left x) g s b c p i t = grind (arith, nat_tests, i.keeper_need t, heir_need w g s p i n t r x.all, x.all.opened.other)
keeper_need w v x g s b c p i t = i.keeper_need t

pub keeper_read : (w v : Part) (x : Way w v) (g : Ghost) → Sound w → Bits w → Contents w g → Pages w → Intents w g → KeeperRead v (ghost_after x g)
keeper_read w v (ways.finishes n o x e) g s b c p i t m = grind (arith, nat_tests, i.keeper_read t m)
keeper_read w v (ways.hears_roles n roles size o x q e) g s b c p i t m = grind (arith, nat_tests, i.keeper_read t m)
keeper_read w v (ways.comes n k says lost ranges x) g s b c p i t m = grind (arith, nat_tests, i.keeper_read t m)
keeper_read w v (ways.leaves n x) g s b c p i t m = grind (arith, nat_tests, i.keeper_read t m)
keeper_read w v (ways.quits n x) g s b c p i t m = grind (arith, nat_tests, i.keeper_read t m)
keeper_read w v (ways.parts n o x) g s b c p i t m = grind (arith, nat_tests, i.keeper_read t m)
keeper_read w v (ways.dies n told x) g s b c p i t m = grind (arith, nat_tests, i.keeper_read t m)
keeper_read w v (ways.asks n q k u new x) g s b c p i t m = grind (arith, nat_tests, i.keeper_read t m)
keeper_read w v (ways.outs n k l x e) g s b c p i t m = grind (arith, nat_tests, i.keeper_read t m, slot_down w s m n, e.up)
keeper_read w v (ways.misses n k l x left e) g s b c p i t m = grind (arith, nat_tests, i.keeper_read t m, slot_down w s m n, e.up)
keeper_read w v (ways.ends n k x e) g s b c p i t m = grind (arith, nat_tests, i.keeper_read t m)
keeper_read w v (ways.breaks n k x e) g s b c p i t m = grind (arith, nat_tests, i.keeper_read t m)
keeper_read w v (ways.marks n q l x) g s b c p i t m = grind (arith, nat_tests, i.keeper_read t m)
keeper_read w v (ways.misses_page n q l left x) g s b c p i t m = grind (arith, nat_tests, i.keeper_read t m)
keeper_read w v (ways.clears n q x) g s b c p i t m = grind (arith, nat_tests, i.keeper_read t m)
keeper_read w v (ways.settles n q y e) g s b c p i t m = grind (arith, nat_tests, i.keeper_read t m, need_when_settled w g s c n q y e t)
keeper_read w v (ways.recovers_slot n d x) g s b c p i t m = grind (arith, nat_tests, i.keeper_read t m)
keeper_read w v (ways.slot_reads n q l r has x) g s b c p i t m = grind (arith, nat_tests, i.keeper_read t m, x.opened.recovery)
keeper_read w v (ways.slot_clears n q l r x) g s b c p i t m = grind (arith, nat_tests, i.keeper_read t m, slot_down w s m n, x.all.opened.up, x.all.opened.recovery, x.all.opened.other)
keeper_read w v (ways.misses_slot n q l r left x) g s b c p i t m = grind (arith, nat_tests, i.keeper_read t m, slot_down w s m n, x.all.opened.up)
keeper_read w v (ways.ends_recovery n r x) g s b c p i t m = grind (arith, nat_tests, i.keeper_read t m)
keeper_read w v x g s b c p i t m = i.keeper_read t m
