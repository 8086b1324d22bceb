use Rattle.std.proofs.Common.{◌≡◌, ℕ, nat_lt, if◌then◌else◌}
use Rattle.dlm_space.specs.Locks.{died}
use Rattle.dlm_space.specs.Parts.{locks_of}
use Rattle.dlm_space.proofs.space.leave_all.Given as goal

abbrev pub invariant-loop-resource : goal.invariant-loop-resource
invariant-loop-resource l =
    (r : ℕ) → locks_of l.resource-items r ≡ (if nat_lt r l.resource-index then died (locks_of l.initial.resource-items r) l.node else locks_of l.initial.resource-items r)
