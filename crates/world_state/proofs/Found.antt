-- The first leg of a set.
use Rattle.std.proofs.Common.{◌≡◌, ℕ, Bool, true, false, if◌then◌else◌, ap, refl}
use Rattle.std.proofs.Math.Path.{fun_ext}
use Rattle.dlm_modes.specs.First.{first_such}
use Rattle.leg_failure.specs.declared.view.Lose.TheVariants.{Lost, LastLeg}

-- tests that agree find the same leg
pub same_first : (p q : ℕ → Bool) → ((l : ℕ) → p l ≡ q l) → first_such p 0 8 ≡ first_such q 0 8
same_first p q same = ap (λ r. first_such r 0 8) (fun_ext same)

-- what a loss answers tells whether the leg was the last
pub is_last_leg : (b : Bool) → (if b then LastLeg else Lost) ≡ LastLeg → b ≡ true
is_last_leg true e = refl
is_last_leg false e = cc

pub is_other_leg : (b : Bool) → (if b then LastLeg else Lost) ≡ Lost → b ≡ false
is_other_leg true e = cc
is_other_leg false e = refl
