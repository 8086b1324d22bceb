-- What a recovery moved from a pending slot, and what is equal where its recovery ends.
use Rattle.std.proofs.Common.{◌≡◌, ◌⊎◌, inl, inr, ℕ, zero, suc, ◌+◌, ◌<◌, ◌||◌, Bool, true, false, List, [], ◌∷◌, Option, Some, None, refl, sym, ap, ◌∙◌, arith}
use Rattle.std.specs.Prelude.{is_some}
use Rattle.mdc_types.specs.declared.numbers.Sector.{Sector}
use Rattle.node_recovery.specs.Progress.{Recovering}
use Rattle.leg_failure.specs.Views.{works}
use Rattle.storage_ways.proofs.Parts.{Part, chunk_in, recovers, found_in}
use Rattle.storage_ways.proofs.Roled.{up_served_good}
use Rattle.storage_ways.proofs.Ways.{EndsRecovery}
use Rattle.laws_writes.proofs.Ghosts.{Ghost, undecided, is_among, is_open, same_sector}
use Rattle.laws_writes.proofs.Settled.{Since}
use Rattle.laws_writes.proofs.Values.{same_bytes}
use Rattle.laws_pending.proofs.Found.{up_settled, heir_there, same_slot}
use Rattle.laws_pending.proofs.Ghosts.{Pend}
use Rattle.laws_pending.proofs.Gone.{owed_found}
use Rattle.laws_pending.proofs.Known.{Known}
use Rattle.laws_pending.proofs.MovedSteps.{Moved, fresh, not_since}
use Rattle.laws_pending.proofs.Points.{clash, by_test}

-- a slot of the line of heirs of slot d
pub data InLine (heir : ℕ → Option ℕ) : ℕ → ℕ → Type 0 where
  next : {d h : ℕ} → heir d ≡ Some h → InLine heir d h
  later : {d e h : ℕ} → heir d ≡ Some e → InLine heir e h → InLine heir d h

-- some slot of the line marks the chunk on each good leg that there is
pub record Marks (w : Part) (d c : ℕ) : Type 0 where
  pub slot : ℕ
  pub line : InLine w.heir d slot
  pub marks : (l : ℕ) → w.ghost.good l ≡ true → l < w.geometry.legs → w.bit slot c l ≡ true

further : (w : Part) (d h c : ℕ) → w.heir d ≡ Some h → Marks w h c → Marks w d c
further w d h c e m = record { slot = m.slot; line = later e m.line; marks = m.marks }

alone : (vs : List Sector) (a b : Sector) → is_open vs ≡ false → is_among a vs ≡ true → is_among b vs ≡ true → a ≡ b
alone [] a b e f g = cc
alone (v ∷ []) a b e f g = same_bytes a v (or_left (same_sector a v) f) ∙ sym (same_bytes b v (or_left (same_sector b v) g))
  where
    or_left : (x : Bool) → (x || false) ≡ true → x ≡ true
    or_left x t = grind arith
alone (v ∷ u ∷ us) a b e f g = cc

or_left : (a b : Bool) → a ≡ true → (a || b) ≡ true
or_left a b e = grind arith

module _ (w : Part) (g : Ghost) (z : Since) (p : Pend) (a : Known w g z p) where
  -- an heir that is pending marks it, or has moved it on
  pending_heir : (d h s : ℕ) → Moved w z p d s → w.heir d ≡ Some h → w.pending h ≡ true → (Moved w z p h s → Marks w h (chunk_in w s)) → Marks w d (chunk_in w s)
  pending_heir d h s m e pend rest =
      let all = a.pendings.moved_full d h s m.pending m.within m.moved m.unsettled e pend in
      let first = not_since (z.since h s) (z.since d s) (a.pendings.since_line d h s m.pending e (or_left (w.pending h) (recovers (w.recovery h) d) pend)) m.unsettled in
      by_test (p.moved h (chunk_in w s))
      (λ t. further w d h (chunk_in w s) e (rest (record { pending = pend; within = m.within; moved = t; unsettled = first })))
      (λ f. record { slot = h; line = next e; marks = λ l good lt. a.pendings.full h (chunk_in w s) l pend all f good lt })

  heir_marks : (d s : ℕ) → Moved w z p d s → ((h : ℕ) → p.born d < p.born h → Moved w z p h s → Marks w h (chunk_in w s)) → Marks w d (chunk_in w s)
  heir_marks d s m rest = by (w.heir d) refl
    where
      by : (x : Option ℕ) → w.heir d ≡ x → Marks w d (chunk_in w s)
      by None e = absurd (clash (is_some (w.heir d)) (a.pendings.moved_heir d s m.pending m.within m.moved m.unsettled) (ap is_some e))
      by (Some h) e = by_test (w.pending h) (λ t. pending_heir d h s m e t (rest h (a.pendings.line d h m.pending e t)))
          (λ f. record { slot = h; line = next e; marks = λ l good lt. a.pendings.moved_bit d h s l m.pending m.within m.moved m.unsettled e f good })

  -- along the line slots became pending later and later, and none later than now
  line_from : (fuel d s : ℕ) → p.count < p.born d + fuel → Moved w z p d s → Marks w d (chunk_in w s)
  line_from zero d s far m = let now = a.pendings.born_now d m.pending in absurd (omega (arith, far, now))
  line_from (suc fuel) d s far m = heir_marks d s m (λ h above. line_from fuel h s (omega (arith, far, above)))

  -- what was moved, and isn't settled since, some slot of the line marks
  pub line_marks : (d s : ℕ) → Moved w z p d s → Marks w d (chunk_in w s)
  line_marks d s m = line_from (suc p.count) d s (past p.count (p.born d)) m
    where
      past : (i j : ℕ) → i < j + suc i
      past i j = omega arith

  -- a dead recoverer is the heir
  pub dead_recoverer : (n d : ℕ) → w.pending n ≡ true → p.was n ≡ Some d → w.heir d ≡ Some n
  dead_recoverer n d = a.pendings.was_heir n d

  module _ (n : ℕ) (r : Recovering) (x : EndsRecovery w n r) where
    -- where a recovery ends, what it found was settled since the slot is pending
    found_settled : (s : ℕ) → s < w.geometry.room → r.found (chunk_in w s) ≡ true → z.since r.slot s ≡ false → ⊥
    found_settled s lt found unsettled =
        let rec = x.all.opened.recovery in
        let begun = fresh w g z p a r.slot n s x.all.opened.pending (heir_there w g z p a n r rec) (ap (λ y. recovers y r.slot) rec ∙ same_slot r) unsettled in
        let need = a.settled.read_need n s lt (ap (λ y. found_in y (chunk_in w s)) rec ∙ found) begun in
        clash ((w.bitmap n).need (chunk_in w s)) need (x.met (chunk_in w s) found)

    good_of : (l : ℕ) → works (w.view n) l ≡ true → w.ghost.good l ≡ true
    good_of l e = up_served_good w a.sound n l x.all.opened.up e

    -- what the slot owed, and isn't settled since, its node reads from one leg alone, the one that was
    -- to work
    owed_one : (s l : ℕ) → s < w.geometry.room → p.owed r.slot (chunk_in w s) ≡ true → z.since r.slot s ≡ false → works (w.view n) l ≡ true → p.promoted r.slot l ≡ true
    owed_one s l lt owed unsettled works_there = by_test (p.promoted r.slot l) (λ t. t) (λ f. absurd (found_settled s lt (found f) unsettled))
      where
        rec : w.recovery n ≡ Some r
        rec = x.all.opened.recovery

        found : p.promoted r.slot l ≡ false → r.found (chunk_in w s) ≡ true
        found f = by_test (p.moved r.slot (chunk_in w s))
            (λ t. sym (ap (λ y. found_in y (chunk_in w s)) rec)
            ∙ a.pendings.moved_kept r.slot n s x.all.opened.pending lt t unsettled (heir_there w g z p a n r rec) (up_settled w g z p a n x.all.opened.up))
            (λ stays. owed_found w g z p a n r x.all (chunk_in w s) l owed stays works_there f)

    -- so it reads from one leg
    pub owed_same : (s l k : ℕ) → s < w.geometry.room → p.owed r.slot (chunk_in w s) ≡ true → z.since r.slot s ≡ false → works (w.view n) l ≡ true → works (w.view n) k ≡ true → l ≡ k
    owed_same s l k lt owed f el ek = a.pendings.one_promoted r.slot l k x.all.opened.pending (owed_one s l lt owed f el) (owed_one s k lt owed f ek)

    module _ (fits : (l s : ℕ) → w.ghost.good l ≡ true → s < w.geometry.room → is_among (w.stored l s) (g.values s) ≡ true) where
      -- all legs that the node reads from are equal at each sector of a chunk that was found or owed,
      -- unless a write of it started since the slot is pending
      pub are_equal : (s l k : ℕ) → s < w.geometry.room → (r.found (chunk_in w s) ≡ true) ⊎ (p.owed r.slot (chunk_in w s) ≡ true) → works (w.view n) l ≡ true → works (w.view n) k ≡ true
          → (w.stored l s ≡ w.stored k s) ⊎ (p.young r.slot s ≡ true)
      are_equal s l k lt why el ek = by_test (z.since r.slot s) settled (λ f. unsettled f why)
        where
          settled : z.since r.slot s ≡ true → (w.stored l s ≡ w.stored k s) ⊎ (p.young r.slot s ≡ true)
          settled t = by_test (undecided g s)
              (λ two. inr (a.pendings.since_young r.slot s x.all.opened.pending t two))
              (λ one. inl (alone (g.values s) (w.stored l s) (w.stored k s) one (fits l s (good_of l el) lt) (fits k s (good_of k ek) lt)))

          unsettled : z.since r.slot s ≡ false → (r.found (chunk_in w s) ≡ true) ⊎ (p.owed r.slot (chunk_in w s) ≡ true) → (w.stored l s ≡ w.stored k s) ⊎ (p.young r.slot s ≡ true)
          unsettled f (inl found) = absurd (found_settled s lt found f)
          unsettled f (inr owed) = inl (ap (λ j. w.stored j s) (owed_same s l k lt owed f el ek))
