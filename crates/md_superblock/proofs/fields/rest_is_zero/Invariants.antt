use Rattle.std.proofs.Common.{◌≡◌, ◌-◌}
use Rattle.dlm_modes.specs.First.{first_such}
use Rattle.md_superblock.specs.Faults.{is_stray}
use Rattle.md_superblock.proofs.fields.rest_is_zero.Given as goal

abbrev pub invariant-loop-i : goal.invariant-loop-i
invariant-loop-i l = first_such (is_stray l.bytes) 0 512 ≡ first_such (is_stray l.bytes) l.i (512 - l.i)
