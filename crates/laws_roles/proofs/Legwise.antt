-- An up node gives each leg that isn't unacked there the role that was agreed on.
use Rattle.std.proofs.Common.{◌≡◌, ℕ, ◌||◌, not, Bool, true, false, refl, ◌∙◌, arith}
use Rattle.mdc_types.specs.declared.roles.Role.{Role}
use Rattle.leg_failure.specs.Sets.{is_same}
use Rattle.leg_failure.specs.Views.{is_unacked}
use Rattle.cluster_model.specs.Phases.{is_up}
use Rattle.laws_roles.proofs.Parts.{Part, is_late}
use Rattle.laws_roles.proofs.Roles.{Roles}

same_role : (r s : Role) → is_same r s ≡ true → r ≡ s
same_role r s e = grind arith

acked : (lost same : Bool) → (lost || not same) ≡ false → (lost ≡ false) × (same ≡ true)
acked lost same e = grind arith

pub not_lost : (w : Part) (n l : ℕ) → is_unacked (w.view n) l ≡ false → (w.view n).lost l ≡ false
not_lost w n l known = (acked ((w.view n).lost l) (is_same ((w.view n).role l) ((w.view n).sure_role l)) known).0

-- who is late has the roles already, and else the roles that it is sure of are those
pub legwise : (w : Part) → Roles w → (n l : ℕ) → is_up (w.state n) ≡ true → is_unacked (w.view n) l ≡ false → (w.view n).role l ≡ w.ghost.agreed.role l
legwise w r n l up known = by (is_late w n) refl (same_role ((w.view n).role l) ((w.view n).sure_role l) (acked ((w.view n).lost l) (is_same ((w.view n).role l) ((w.view n).sure_role l)) known).1)
  where
    by : (b : Bool) → is_late w n ≡ b → (w.view n).role l ≡ (w.view n).sure_role l → (w.view n).role l ≡ w.ghost.agreed.role l
    by true late same = r.late_roles n l late
    by false late same = same ∙ r.sure_roles n l up late
