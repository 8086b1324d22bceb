-- What follows of roles from what is known of a part.
use Rattle.std.proofs.Common.{◌≡◌, ℕ, not, ◌&&◌, ◌||◌, Bool, true, false, ap, ◌∙◌, arith}
use Rattle.mdc_types.specs.Roles.{is_working, is_rebuilding, is_faulty, is_written}
use Rattle.mdc_types.specs.declared.roles.Role.{Role}
use Rattle.leg_failure.specs.Views.{works, is_target}
use Rattle.cluster_model.specs.Bits.{is_degraded}
use Rattle.cluster_model.specs.Gathering.{is_again_of}
use Rattle.cluster_model.specs.Phases.{is_in, is_up}
use Rattle.laws_roles.proofs.InState.{works_role, rebuilding_written}
use Rattle.laws_roles.proofs.Legwise.{legwise, not_lost}
use Rattle.storage_ways.proofs.Parts.{Part, roles_of, read_leg, covers}
use Rattle.storage_ways.proofs.Sound.{Sound}
use Rattle.storage_ways.proofs.Ways.{Acked}

up_is_in : (w : Part) (n : ℕ) → is_up (w.state n) ≡ true → is_in (w.state n) ≡ true
up_is_in w n up = grind arith

kept : (a lost : Bool) → lost ≡ false → (a && not lost) ≡ a
kept a lost e = grind arith

same_tests : (r s : Role) → r ≡ s → (is_faulty r || is_rebuilding r) ≡ (is_faulty s || is_rebuilding s)
same_tests r s e = ap (λ x. is_faulty x || is_rebuilding x) e

module _ (w : Part) (s : Sound w) where
  -- an up node that knows of nothing unacked has the roles that were agreed on, and lost nothing
  pub acked_role : (n l : ℕ) → is_up (w.state n) ≡ true → Acked w n → (w.view n).role l ≡ w.ghost.agreed.role l
  acked_role n l up acked = legwise (roles_of w) s.roles n l up (acked l)

  pub acked_lost : (n l : ℕ) → Acked w n → (w.view n).lost l ≡ false
  acked_lost n l acked = not_lost (roles_of w) n l (acked l)

  pub acked_target : (n l : ℕ) → is_up (w.state n) ≡ true → Acked w n → is_target (w.view n) l ≡ is_written (w.ghost.agreed.role l)
  acked_target n l up acked = kept (is_written ((w.view n).role l)) ((w.view n).lost l) (acked_lost n l acked) ∙ ap is_written (acked_role n l up acked)

  pub acked_works : (n l : ℕ) → is_up (w.state n) ≡ true → Acked w n → works (w.view n) l ≡ is_working (w.ghost.agreed.role l)
  acked_works n l up acked = kept (is_working ((w.view n).role l)) ((w.view n).lost l) (acked_lost n l acked) ∙ ap is_working (acked_role n l up acked)

  pub acked_degraded : (n l : ℕ) → is_up (w.state n) ≡ true → Acked w n → is_degraded (w.view n) l ≡ (is_faulty (w.ghost.agreed.role l) || is_rebuilding (w.ghost.agreed.role l))
  acked_degraded n l up acked = same_tests ((w.view n).role l) (w.ghost.agreed.role l) (acked_role n l up acked)

  -- a good leg is one that is agreed to be written, and who is in reads good legs alone
  pub good_written : (l : ℕ) → w.ghost.good l ≡ true → is_written (w.ghost.agreed.role l) ≡ true
  good_written l good = s.roles.good_written l good

  pub good_target : (n l : ℕ) → is_up (w.state n) ≡ true → Acked w n → w.ghost.good l ≡ true → is_target (w.view n) l ≡ true
  good_target n l up acked good = acked_target n l up acked ∙ good_written l good

  pub served_good : (n l : ℕ) → is_in (w.state n) ≡ true → works (w.view n) l ≡ true → w.ghost.good l ≡ true
  served_good n l inside works_there = s.roles.view_good n l inside (works_role (is_working ((w.view n).role l)) ((w.view n).lost l) works_there)

  pub up_served_good : (n l : ℕ) → is_up (w.state n) ≡ true → works (w.view n) l ≡ true → w.ghost.good l ≡ true
  up_served_good n l up works_there = served_good n l (up_is_in w n up) works_there

  pub read_good : (n : ℕ) → is_in (w.state n) ≡ true → w.ghost.good (read_leg w n) ≡ true
  read_good n inside = served_good n (read_leg w n) inside (s.serves n inside)

  -- a leg that is agreed to be faulty or to rebuild is missed, or rebuilds; an agreed working leg
  -- is a target of who knows of nothing unacked
  pub written_target : (n l : ℕ) → is_up (w.state n) ≡ true → Acked w n → is_written (w.ghost.agreed.role l) ≡ true → is_target (w.view n) l ≡ true
  written_target n l up acked written = acked_target n l up acked ∙ written

  pub target_written : (n l : ℕ) → is_up (w.state n) ≡ true → Acked w n → is_target (w.view n) l ≡ true → is_written (w.ghost.agreed.role l) ≡ true
  target_written n l up acked target = let e = acked_target n l up acked in grind arith

  -- a leg that a pass covers, or that is added again, rebuilds, and is written
  pub covers_rebuilding : (n l : ℕ) → covers w n l ≡ true → is_rebuilding (w.ghost.agreed.role l) ≡ true
  covers_rebuilding n l e = s.additions.covers_agreed n l e

  pub covers_written : (n l : ℕ) → covers w n l ≡ true → is_written (w.ghost.agreed.role l) ≡ true
  covers_written n l e = rebuilding_written (w.ghost.agreed.role l) (covers_rebuilding n l e)

  pub covers_target : (n m l : ℕ) → covers w n l ≡ true → is_up (w.state m) ≡ true → Acked w m → is_target (w.view m) l ≡ true
  covers_target n m l e up acked = acked_target m l up acked ∙ covers_written n l e

  pub again_rebuilding : (n l : ℕ) → is_again_of (w.adding n).addition l ≡ true → is_rebuilding (w.ghost.agreed.role l) ≡ true
  again_rebuilding n l e = s.additions.again_rebuilding n l e

  pub again_written : (n l : ℕ) → is_again_of (w.adding n).addition l ≡ true → is_written (w.ghost.agreed.role l) ≡ true
  again_written n l e = rebuilding_written (w.ghost.agreed.role l) (again_rebuilding n l e)

  pub again_target : (n m l : ℕ) → is_again_of (w.adding n).addition l ≡ true → is_up (w.state m) ≡ true → Acked w m → is_target (w.view m) l ≡ true
  again_target n m l e up acked = acked_target m l up acked ∙ again_written n l e
