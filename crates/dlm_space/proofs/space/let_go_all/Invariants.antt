use Rattle.std.proofs.Common.{◌≡◌, ℕ, nat_lt, if◌then◌else◌}
use Rattle.dlm_space.specs.Locks.{let_go}
use Rattle.dlm_space.specs.Parts.{locks_of}
use Rattle.dlm_space.proofs.space.let_go_all.Given as goal

abbrev pub invariant-loop-resource : goal.invariant-loop-resource
invariant-loop-resource l =
    (r : ℕ) → locks_of l.resource-items r ≡ (if nat_lt r l.resource-index then let_go (locks_of l.initial.resource-items r) l.node else locks_of l.initial.resource-items r)
