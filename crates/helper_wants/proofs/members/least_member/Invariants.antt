use Rattle.std.proofs.Common.{◌≡◌, ◌-◌}
use Rattle.dlm_modes.specs.First.{first_such}
use Rattle.cluster_model.specs.Phases.{is_up}
use Rattle.world_state.specs.Kept.{core_of}
use Rattle.helper_wants.proofs.members.least_member.Given as goal

abbrev pub invariant-loop-m : goal.invariant-loop-m
invariant-loop-m l =
    first_such (λ k. is_up ((core_of l.core).state k)) 0 l.nodes
    ≡ first_such (λ k. is_up ((core_of l.core).state k)) l.m (l.nodes - l.m)
