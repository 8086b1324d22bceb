use Rattle.std.proofs.Common.{◌≡◌, ◌-◌}
use Rattle.dlm_modes.specs.First.{first_such}
use Rattle.std.proofs.Common.{◌&&◌}
use Rattle.image_array.specs.Heads.{works, has_marks}
use Rattle.image_array.proofs.marks.is_pending.Given as goal

abbrev pub invariant-loop-l : goal.invariant-loop-l
invariant-loop-l i = first_such (λ l. works i.roles l && has_marks i.images i.k l) 0 (8) ≡ first_such (λ l. works i.roles l && has_marks i.images i.k l) i.l (8 - i.l)
