use Rattle.std.proofs.Common.{◌≡◌, ◌-◌}
use Rattle.dlm_modes.specs.First.{first_such}
use Rattle.cluster_model.specs.Joining.{was_read}
use Rattle.world_members.specs.Tries.{tries_of}
use Rattle.world_members.proofs.newest.first_read.Given as goal

abbrev pub invariant-loop-l : goal.invariant-loop-l
invariant-loop-l l = first_such (was_read (tries_of l.tried) l.roles) 0 8 ≡ first_such (was_read (tries_of l.tried) l.roles) l.l (8 - l.l)
