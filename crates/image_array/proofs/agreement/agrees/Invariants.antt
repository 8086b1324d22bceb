use Rattle.std.proofs.Common.{◌≡◌, ◌-◌}
use Rattle.dlm_modes.specs.First.{first_such}
use Rattle.std.proofs.Common.{length}
use Rattle.image_array.specs.Agreement.{contradicts}
use Rattle.image_array.specs.Legs.{super_at}
use Rattle.image_array.proofs.agreement.agrees.Given as goal

abbrev pub invariant-loop-k : goal.invariant-loop-k
invariant-loop-k i = first_such (λ k. contradicts i.s (super_at i.images k)) 0 (length i.images) ≡ first_such (λ k. contradicts i.s (super_at i.images k)) i.k (length i.images - i.k)
