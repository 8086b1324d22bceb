-- What a recovery has read and found, and that its node is up and no other recovers.
use Rattle.std.proofs.Common.{◌≡◌, ℕ, not, Bool, true, false, Option, Some, None, refl, sym, ap, ◌∙◌, arith}
use Rattle.std.proofs.lemmas.Bool.Decides.{nat_tests}
use Rattle.mdc_types.specs.Geometry.{page_of}
use Rattle.mdc_types.specs.declared.roles.NodeState.{NodeState}
use Rattle.mdc_types.specs.declared.roles.NodeState.TheVariants as states
use Rattle.leg_failure.specs.Views.{works}
use Rattle.node_recovery.specs.Progress.{Recovering}
use Rattle.cluster_model.specs.Guards.{is_out}
use Rattle.cluster_model.specs.Phases.{is_in, is_up}
use Rattle.storage_ways.proofs.Parts.{Part, read_leg, recovers, found_in, read_in, is_heir}
use Rattle.storage_ways.proofs.Roled.{read_good}
use Rattle.storage_ways.proofs.Ways.{AllRead}
use Rattle.laws_writes.proofs.Ghosts.{Ghost}
use Rattle.laws_writes.proofs.Places.{page_lt}
use Rattle.laws_writes.proofs.Recoverers.{turn_held}
use Rattle.laws_writes.proofs.Settled.{Since}
use Rattle.laws_pending.proofs.Ghosts.{Pend}
use Rattle.laws_pending.proofs.Known.{Known}
use Rattle.laws_pending.proofs.Points.{clash, same_point}

pub up_inside : (x : NodeState) → is_up x ≡ true → is_in x ≡ true
up_inside states.Up e = refl
up_inside x e = cc

pub same_slot : (r : Recovering) → recovers (Some r) r.slot ≡ true
same_slot r = grind (arith, nat_tests)

pub heir_is : (x : Option ℕ) (n : ℕ) → is_heir x n ≡ true → x ≡ Some n
heir_is None n e = cc
heir_is (Some h) n e = ap Some (same_point h n e)

out_down : (x : NodeState) → x ≡ states.Out → is_up x ≡ false
out_down x e = ap is_up e

not_pending : (b : Bool) → (b ≡ true → ⊥) → b ≡ false
not_pending true f = absurd (f refl)
not_pending false f = refl

not_out : (x : NodeState) (b : Bool) → b ≡ true → b ≡ not (is_out x) → x ≡ states.Out → ⊥
not_out x b t e out = grind (arith, ap is_out out)

module _ (w : Part) (g : Ghost) (z : Since) (p : Pend) (a : Known w g z p) where
  pub up_settled : (n : ℕ) → is_up (w.state n) ≡ true → w.pending n ≡ false
  up_settled n up = not_pending (w.pending n) (λ e. clash (is_up (w.state n)) up (out_down (w.state n) (a.sound.phases.pending n e)))

  pub live_settled : (n : ℕ) → w.live n ≡ true → w.pending n ≡ false
  live_settled n live = not_pending (w.pending n) (λ e. not_out (w.state n) (w.live n) live (a.sound.phases.live n) (a.sound.phases.pending n e))

  -- the heir of a slot that is recovered is its recoverer
  pub heir_there : (n : ℕ) (r : Recovering) → w.recovery n ≡ Some r → w.heir r.slot ≡ Some n
  heir_there n r rec = heir_is (w.heir r.slot) n (a.pages.recovery_heir n r.slot (ap (λ y. recovers y r.slot) rec ∙ same_slot r))

  pub one_recovers : (n m d : ℕ) → recovers (w.recovery m) d ≡ true → (w.copy n).turn ≡ (w.copy m).turn → n ≡ m
  one_recovers n m d e same = let held = turn_held w a.sound m d e in a.sound.turns.one n m (same ∙ held) held

  module _ (n : ℕ) (r : Recovering) (x : AllRead w n r) where
    -- the legs that the recoverer reads from were all read
    pub read_there : (c l : ℕ) → works (w.view n) l ≡ true → w.bit r.slot c l ≡ true → r.found c ≡ true
    read_there c l reads bit =
        let rec = x.opened.recovery in
        let read = x.read (page_of c) l (page_lt w.geometry c (a.sound.within.bits r.slot c l bit)) reads in
        sym (ap (λ y. found_in y c) rec)
        ∙ a.pages.read_found n r.slot c l (ap (λ y. recovers y r.slot) rec ∙ same_slot r) (ap (λ y. read_in y (page_of c) l) rec ∙ read) bit

    pub reads_good : w.ghost.good (read_leg w n) ≡ true
    reads_good = read_good w a.sound n (up_inside (w.state n) x.opened.up)

    pub reads_from : works (w.view n) (read_leg w n) ≡ true
    reads_from = a.sound.serves n (up_inside (w.state n) x.opened.up)
