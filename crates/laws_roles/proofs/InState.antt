-- What follows in one state.
use Rattle.std.proofs.Common.{◌≡◌, ◌≢◌, ◌==◌, ◌⊎◌, inl, inr, ℕ, ◌&&◌, not, Bool, true, false, refl, ap, ◌∙◌, arith}
use Rattle.std.proofs.lemmas.Bool.Decides.{nat_tests}
use Rattle.mdc_types.specs.Roles.{is_working, is_rebuilding, is_faulty, is_spare, is_written}
use Rattle.mdc_types.specs.declared.roles.Role.{Role}
use Rattle.mdc_types.specs.declared.roles.Role.TheVariants.{Working, Rebuilding, Faulty, Spare}
use Rattle.mdc_types.specs.declared.roles.NodeState.{NodeState}
use Rattle.mdc_types.specs.declared.roles.NodeState.TheVariants as states
use Rattle.leg_failure.specs.Views.{works, is_target, is_unacked}
use Rattle.disk_addition.specs.declared.addition.Addition.{Addition}
use Rattle.disk_addition.specs.declared.addition.Addition.TheVariants.{Nothing}
use Rattle.cluster_model.specs.Phases.{is_in, is_up}
use Rattle.laws_roles.proofs.Parts.{is_nothing, Part}
use Rattle.laws_roles.proofs.Numbers.{Numbers}
use Rattle.laws_roles.proofs.Roles.{Roles}
use Rattle.laws_roles.proofs.Legwise.{legwise, not_lost}
use Rattle.laws_roles.proofs.Known.{known}

pub up_is : (s : NodeState) → s ≡ states.Up → is_up s ≡ true
up_is s e = ap is_up e

pub up_in : (s : NodeState) → s ≡ states.Up → is_in s ≡ true
up_in s e = ap is_in e

pub works_role : (w lost : Bool) → (w && not lost) ≡ true → w ≡ true
works_role w lost e = grind arith

pub working_is : (r : Role) → r ≡ Working → is_working r ≡ true
working_is r e = ap is_working e

pub targeted : (written lost unacked : Bool) → written ≡ true → lost ≡ false → (written && not lost) ≡ true
targeted written lost unacked w l = grind arith

module _ (w : Part) (e : Numbers w) (r : Roles w) where
  -- a leg that is agreed to be written is a target of each up node, or unacked there
  pub agreed_target : (n l : ℕ) → w.state n ≡ states.Up → is_written (w.ghost.agreed.role l) ≡ true → (is_target (w.view n) l ≡ true) ⊎ (is_unacked (w.view n) l ≡ true)
  agreed_target n l up written = by (is_unacked (w.view n) l) refl
    where
      by : (b : Bool) → is_unacked (w.view n) l ≡ b → (is_target (w.view n) l ≡ true) ⊎ (is_unacked (w.view n) l ≡ true)
      by true known = inr known
      by false known =
          let role = legwise w r n l (up_is (w.state n) up) known in
          inl (targeted (is_written ((w.view n).role l)) ((w.view n).lost l) false (ap is_written role ∙ written) (not_lost w n l known))

  pub good_target : (n l : ℕ) → w.state n ≡ states.Up → w.ghost.good l ≡ true → (is_target (w.view n) l ≡ true) ⊎ (is_unacked (w.view n) l ≡ true)
  good_target n l up good = agreed_target n l up (r.good_written l good)

  pub served_good : (n l : ℕ) → w.state n ≡ states.Up → works (w.view n) l ≡ true → w.ghost.good l ≡ true
  served_good n l up works_there = r.view_good n l (up_in (w.state n) up) (works_role (is_working ((w.view n).role l)) ((w.view n).lost l) works_there)

pub rebuilding_written : (r : Role) → is_rebuilding r ≡ true → is_written r ≡ true
rebuilding_written r e = grind arith

pub working_role : (r : Role) → is_working r ≡ true → r ≡ Working
working_role Working e = refl
working_role r e = cc

pub rebuilding_role : (r : Role) → is_rebuilding r ≡ true → r ≡ Rebuilding
rebuilding_role Rebuilding e = refl
rebuilding_role r e = cc

pub faulty_role : (r : Role) → is_faulty r ≡ true → r ≡ Faulty
faulty_role Faulty e = refl
faulty_role r e = cc

pub spare_role : (r : Role) → is_spare r ≡ true → r ≡ Spare
spare_role Spare e = refl
spare_role r e = cc

pub up_role : (s : NodeState) → is_up s ≡ true → s ≡ states.Up
up_role states.Up e = refl
up_role s e = cc

pub something : (a : Addition) → a ≢ Nothing → is_nothing a ≡ false
something Nothing some = absurd (some refl)
something a some = refl

pub same_leg : (l : ℕ) → (l == l) ≡ true
same_leg l = grind (arith, nat_tests)

pub not_both : (b : Bool) → b ≡ false → b ≡ true → ⊥
not_both b f t = cc
