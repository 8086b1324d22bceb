use Rattle.std.proofs.Common.{◌≡◌, ◌-◌}
use Rattle.dlm_modes.specs.First.{first_such}
use Rattle.cluster_model.specs.Joining.{is_newest}
use Rattle.world_members.specs.Tries.{tries_of}
use Rattle.world_members.proofs.newest.newest_leg.Given as goal

abbrev pub invariant-loop-l : goal.invariant-loop-l
invariant-loop-l l = first_such (is_newest (tries_of l.tried)) 0 8 ≡ first_such (is_newest (tries_of l.tried)) l.l (8 - l.l)
