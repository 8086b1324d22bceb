use Rattle.std.proofs.Common.{◌≡◌, ◌-◌}
use Rattle.dlm_modes.specs.First.{first_such}
use Rattle.std.proofs.Common.{not}
use Rattle.image_array.specs.Agreement.{same_role_at}
use Rattle.image_array.proofs.agreement.same_roles.Given as goal

abbrev pub invariant-loop-l : goal.invariant-loop-l
invariant-loop-l i = first_such (λ k. not (same_role_at i.a i.b k)) 0 (8) ≡ first_such (λ k. not (same_role_at i.a i.b k)) i.l (8 - i.l)
