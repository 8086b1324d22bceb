use Rattle.std.proofs.Common.{◌≡◌, ◌-◌}
use Rattle.dlm_modes.specs.First.{first_such}
use Rattle.md_superblock.specs.Faults.{is_working_at}
use Rattle.md_superblock.proofs.roles.has_working.Given as goal

abbrev pub invariant-loop-l : goal.invariant-loop-l
invariant-loop-l l = first_such (is_working_at l.bytes) 0 8 ≡ first_such (is_working_at l.bytes) l.l (8 - l.l)
