use Rattle.std.proofs.Common.{◌≡◌, ◌-◌, length}
use Rattle.dlm_modes.specs.First.{first_such}
use Rattle.image_faults.specs.Compare.{differs_at, first_difference}
use Rattle.image_faults.proofs.comparing.compare.Given as goal

abbrev pub invariant-loop-i : goal.invariant-loop-i
invariant-loop-i l = first_difference l.a l.b ≡ first_such (differs_at l.a l.b) l.i (length l.a - l.i)
