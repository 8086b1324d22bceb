use Rattle.std.proofs.Common.{◌≡◌, ◌-◌}
use Rattle.dlm_modes.specs.First.{first_such}
use Rattle.image_array.specs.Heads.{works}
use Rattle.image_array.proofs.values.first_working.Given as goal

abbrev pub invariant-loop-l : goal.invariant-loop-l
invariant-loop-l i = first_such (works i.roles) 0 (8) ≡ first_such (works i.roles) i.l (8 - i.l)
