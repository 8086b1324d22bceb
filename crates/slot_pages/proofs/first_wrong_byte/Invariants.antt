use Rattle.std.proofs.Common.{◌≡◌, ◌-◌}
use Rattle.dlm_modes.specs.First.{first_such}
use Rattle.slot_pages.specs.Faults.{differs}
use Rattle.slot_pages.proofs.first_wrong_byte.Given as goal

abbrev pub invariant-loop-i : goal.invariant-loop-i
invariant-loop-i l = first_such (differs l.g l.uuid l.page.bytes) 0 256 ≡ first_such (differs l.g l.uuid l.page.bytes) l.i (256 - l.i)
