use Rattle.std.proofs.Common.{◌≡◌, ◌-◌}
use Rattle.dlm_modes.specs.First.{first_such}
use Rattle.std.proofs.Common.{◌&&◌}
use Rattle.image_array.specs.Heads.{works}
use Rattle.image_array.specs.Values.{marks_on}
use Rattle.image_array.proofs.marks.is_marked.Given as goal

abbrev pub invariant-loop-l : goal.invariant-loop-l
invariant-loop-l i = first_such (λ l. works i.roles l && marks_on i.images i.c l) 0 (8) ≡ first_such (λ l. works i.roles l && marks_on i.images i.c l) i.l (8 - i.l)
