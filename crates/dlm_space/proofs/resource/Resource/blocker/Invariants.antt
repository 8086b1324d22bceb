use Rattle.std.proofs.Common.{◌≡◌, ◌-◌}
use Rattle.dlm_modes.specs.First.{first_such}
use Rattle.dlm_space.specs.Locks.{blocker, is_against}
use Rattle.dlm_space.specs.Parts.{lock_of}
use Rattle.dlm_space.proofs.resource.Resource.blocker.Given as goal

abbrev pub invariant-loop-m : goal.invariant-loop-m
invariant-loop-m l =
    blocker (lock_of l.self) l.node l.mode ≡ first_such (is_against (lock_of l.self) l.node l.mode) l.m (16 - l.m)
