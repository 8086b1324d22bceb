use Rattle.std.proofs.Common.{◌≡◌, ◌-◌}
use Rattle.dlm_modes.specs.First.{first_such}
use Rattle.driver_rules.specs.Helpers.{has_help}
use Rattle.world_state.specs.Kept.{core_of}
use Rattle.helper_list.proofs.helped.next_help.Given as goal

abbrev pub invariant-loop-n : goal.invariant-loop-n
invariant-loop-n l = first_such (has_help (core_of l.core)) 0 l.nodes ≡ first_such (has_help (core_of l.core)) l.n (l.nodes - l.n)
