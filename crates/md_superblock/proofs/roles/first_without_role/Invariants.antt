use Rattle.std.proofs.Common.{◌≡◌, ◌-◌, not}
use Rattle.dlm_modes.specs.First.{first_such}
use Rattle.md_superblock.specs.Faults.{has_role}
use Rattle.md_superblock.proofs.roles.first_without_role.Given as goal

abbrev pub invariant-loop-l : goal.invariant-loop-l
invariant-loop-l l = first_such (λ k. not (has_role l.bytes k)) 0 8 ≡ first_such (λ k. not (has_role l.bytes k)) l.l (8 - l.l)
