-- Each way keeps that the keeper's bit stands on good legs.
use Rattle.std.proofs.Common.{◌≡◌, ℕ, ◌==◌, ◌&&◌, if◌then◌else◌, Bool, true, false, Option, Some, None, refl, ap, subst, ◌∙◌, arith}
use Rattle.std.proofs.lemmas.Bool.Decides.{nat_tests}
use Rattle.mdc_types.specs.Geometry.{page_of}
use Rattle.leg_failure.specs.Views.{is_target}
use Rattle.mirror_io.specs.declared.live.LiveWrite.{LiveWrite}
use Rattle.resync_worker.specs.Copying.{Passing}
use Rattle.cluster_model.specs.State.{Offer}
use Rattle.laws_roles.proofs.Parts.{promotes}
use Rattle.storage_ways.proofs.Parts.{Part, chunk_in, todo_in, with_page}
use Rattle.storage_ways.proofs.Sound.{Sound}
use Rattle.storage_ways.proofs.Ways.{Way, Trying, Offering}
use Rattle.storage_ways.proofs.Ways as ways
use Rattle.storage_ways.proofs.Roled.{good_target}
use Rattle.laws_writes.proofs.Ghosts.{Ghost, undecided, ghost_after}
use Rattle.laws_writes.proofs.Bits.{Bits}
use Rattle.laws_writes.proofs.Contents.{Contents}
use Rattle.laws_writes.proofs.Pages.{Pages}
use Rattle.laws_writes.proofs.Intent.{Intents, KeeperBit, CoveredIntent}
use Rattle.laws_writes.proofs.Heirs.{heir_bit}
use Rattle.laws_writes.proofs.KeeperSteps.{keeper_set, live_up}

-- the chunk of a write that is tried is marked on all targets
pub tried_bit : (w : Part) (n k l : ℕ) (x : LiveWrite) → Bits w → Trying w n k l x → (t j : ℕ) → (t == x.sector) ≡ true → is_target (w.view n) j ≡ true → w.bit n (chunk_in w t) j ≡ true
tried_bit w n k l x b e t j same target =
    let is : x.sector ≡ t = grind (arith, nat_tests) in
    subst (λ z. w.bit n (chunk_in w z) j ≡ true) is (b.mark_bit n (chunk_in w x.sector) j (e.marked j target))

none_left : (p : Option Passing) (c : ℕ) → ((q : Passing) → p ≡ Some q → q.todo c ≡ false) → todo_in p c ≡ false
none_left None c h = refl
none_left (Some q) c h = h q refl

-- a leg that is to work is covered, with nothing left to copy
promoted_bit : (w : Part) (g : Ghost) (n l t : ℕ) (o : Offer) → Offering w n o → CoveredIntent w g → promotes o.wish l ≡ true → undecided g t ≡ true → w.bit (g.keeper t) (chunk_in w t) l ≡ true
promoted_bit w g n l t o x i p two = i n l t (x.covered l p) (none_left (w.copy n).pass (chunk_in w t) (λ q is. x.nothing_left l (chunk_in w t) q p is)) two

-- a page of the keeper that is written has its chunk
pub written_bit : (w : Part) (g : Ghost) (n p l t j : ℕ) → Sound w → Bits w → Intents w g → undecided g t ≡ true → w.live n ≡ true → w.bit (g.keeper t) (chunk_in w t) j ≡ true
    → with_page w.bit n p l (w.bitmap n).set (g.keeper t) (chunk_in w t) j ≡ true
written_bit w g n p l t j s b i two live old = by (g.keeper t == n) refl
  where
    or_set : (x set bit : Bool) → set ≡ true → bit ≡ true → (if x then set else bit) ≡ true
    or_set true set bit e f = e
    or_set false set bit e f = f

    by : (x : Bool) → (g.keeper t == n) ≡ x → with_page w.bit n p l (w.bitmap n).set (g.keeper t) (chunk_in w t) j ≡ true
    by true e =
        let same : g.keeper t ≡ n = grind (arith, nat_tests) in
        let set : (w.bitmap n).set (chunk_in w t) ≡ true = subst (λ k. (w.bitmap k).set (chunk_in w t) ≡ true) same (keeper_set w g b i t two (ap w.live same ∙ live)) in
        or_set ((g.keeper t == n) && (page_of (chunk_in w t) == p) && (j == l)) ((w.bitmap n).set (chunk_in w t)) (w.bit (g.keeper t) (chunk_in w t) j) set old
    by false e = grind arith

pub keeper_bit : (w v : Part) (x : Way w v) (g : Ghost) → Sound w → Bits w → Contents w g → Pages w → Intents w g → KeeperBit v (ghost_after x g)
keeper_bit w v (ways.offers n o x) g s b c p i t l = grind (arith, i.keeper_bit t l, promoted_bit w g n l t o x i.covered_intent)
keeper_bit w v (ways.finishes n o x e) g s b c p i t l = grind (arith, i.keeper_bit t l, s.roles.offer_good n l, x.offer, e)
keeper_bit w v (ways.outs n k q x e) g s b c p i t l = grind (arith, nat_tests, i.keeper_bit t l, tried_bit w n k q x b e t l, good_target w s n l e.up e.acked)
keeper_bit w v (ways.misses n k q x left e) g s b c p i t l = grind (arith, nat_tests, i.keeper_bit t l, tried_bit w n k q x b e t l, good_target w s n l e.up e.acked)
keeper_bit w v (ways.ends n k x e) g s b c p i t l = grind (arith, nat_tests, i.keeper_bit t l)
keeper_bit w v (ways.settles n q y e) g s b c p i t l = grind (arith, nat_tests, i.keeper_bit t l)
keeper_bit w v (ways.marks n q j x) g s b c p i t l = λ two good. written_bit w g n q j t l s b i two (live_up w s n x.up) (i.keeper_bit t l two good)
keeper_bit w v (ways.misses_page n q j left x) g s b c p i t l = λ two good. grind (arith, i.keeper_bit t l two good, written_bit w g n q j t l s b i two (live_up w s n x.up) (i.keeper_bit t l two good))
keeper_bit w v (ways.slot_clears n q j r x) g s b c p i t l = grind (arith, nat_tests, i.keeper_bit t l, heir_bit w g s p i b n t q j l r x, good_target w s n l x.all.opened.up x.all.acked, x.all.opened.other)
keeper_bit w v (ways.misses_slot n q j r left x) g s b c p i t l = grind (arith, nat_tests, i.keeper_bit t l, heir_bit w g s p i b n t q j l r x, good_target w s n l x.all.opened.up x.all.acked, x.all.opened.other)
keeper_bit w v x g s b c p i t l = i.keeper_bit t l
