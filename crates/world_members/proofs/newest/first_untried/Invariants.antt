use Rattle.std.proofs.Common.{◌≡◌, ◌-◌}
use Rattle.dlm_modes.specs.First.{first_such}
use Rattle.cluster_model.specs.Joining.{is_untried}
use Rattle.world_members.specs.Tries.{tries_of}
use Rattle.world_members.proofs.newest.first_untried.Given as goal

abbrev pub invariant-loop-l : goal.invariant-loop-l
invariant-loop-l l = first_such (λ j. is_untried (tries_of l.tried j)) 0 l.legs ≡ first_such (λ j. is_untried (tries_of l.tried j)) l.l (l.legs - l.l)
