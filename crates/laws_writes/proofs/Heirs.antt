-- What a dead slot answers for is found by its recoverer, needed there and marked by it on all its
-- targets, before anything is cleared.
use Rattle.std.proofs.Common.{◌≡◌, ℕ, true, Some, refl, sym, ap, subst, ◌∙◌, arith}
use Rattle.std.proofs.lemmas.Bool.Decides.{nat_tests}
use Rattle.mdc_types.specs.Geometry.{page_of}
use Rattle.leg_failure.specs.Views.{is_target}
use Rattle.node_recovery.specs.Progress.{Recovering}
use Rattle.cluster_model.specs.Phases.{is_in, is_up}
use Rattle.storage_ways.proofs.Parts.{Part, chunk_in, read_leg, recovers, found_in, read_in}
use Rattle.storage_ways.proofs.Sound.{Sound}
use Rattle.storage_ways.proofs.Ways.{AllRead, SlotClears}
use Rattle.storage_ways.proofs.Roled.{read_good}
use Rattle.mdc_types.specs.declared.roles.NodeState.{NodeState}
use Rattle.mdc_types.specs.declared.roles.NodeState.TheVariants as states
use Rattle.laws_writes.proofs.Ghosts.{Ghost, undecided}
use Rattle.laws_writes.proofs.Bits.{Bits}
use Rattle.laws_writes.proofs.Pages.{Pages}
use Rattle.laws_writes.proofs.Intent.{Intents}
use Rattle.laws_writes.proofs.Places.{page_lt}

pub up_inside : (x : NodeState) → is_up x ≡ true → is_in x ≡ true
up_inside states.Up e = refl
up_inside x e = cc

same_slot : (r : Recovering) → recovers (Some r) r.slot ≡ true
same_slot r = grind (arith, nat_tests)

module _ (w : Part) (g : Ghost) (s : Sound w) (p : Pages w) (i : Intents w g) where
  pub heir_found : (n t : ℕ) (r : Recovering) → AllRead w n r → undecided g t ≡ true → g.keeper t ≡ r.slot → r.found (chunk_in w t) ≡ true
  heir_found n t r a two is =
      let inside = up_inside (w.state n) a.opened.up in
      let x = read_leg w n in
      let bit : w.bit r.slot (chunk_in w t) x ≡ true = subst (λ k. w.bit k (chunk_in w t) x ≡ true) is (i.keeper_bit t x two (read_good w s n inside)) in
      let read = a.read (page_of (chunk_in w t)) x (page_lt w.geometry (chunk_in w t) (s.within.bits r.slot (chunk_in w t) x bit)) (s.serves n inside) in
      let rec = a.opened.recovery in
      sym (ap (λ y. found_in y (chunk_in w t)) rec)
      ∙ p.read_found n r.slot (chunk_in w t) x (ap (λ y. recovers y r.slot) rec ∙ same_slot r) (ap (λ y. read_in y (page_of (chunk_in w t)) x) rec ∙ read) bit

  pub heir_need : (n t : ℕ) (r : Recovering) → AllRead w n r → undecided g t ≡ true → g.keeper t ≡ r.slot → (w.bitmap n).need (chunk_in w t) ≡ true
  heir_need n t r a two is =
      let rec = a.opened.recovery in
      i.keeper_read t n two (ap (λ y. recovers y (g.keeper t)) rec ∙ ap (λ k. recovers (Some r) k) is ∙ same_slot r)
      (ap (λ y. found_in y (chunk_in w t)) rec ∙ heir_found n t r a two is)

  pub heir_bit : (b : Bits w) (n t q l j : ℕ) (r : Recovering) → SlotClears w n q l r → undecided g t ≡ true → g.keeper t ≡ r.slot → is_target (w.view n) j ≡ true → w.bit n (chunk_in w t) j ≡ true
  heir_bit b n t q l j r x two is target =
      let set = b.need_set n (chunk_in w t) (heir_need n t r x.all two is) in
      b.mark_bit n (chunk_in w t) j (x.marked (chunk_in w t) j (heir_found n t r x.all two is) set target)
