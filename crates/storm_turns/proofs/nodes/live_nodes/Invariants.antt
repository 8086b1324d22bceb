use Rattle.std.proofs.Common.{◌≡◌}
use Rattle.driver_rules.specs.Helpers.{is_live}
use Rattle.driver_rules.specs.Storms.{those_below}
use Rattle.world_state.specs.Kept.{core_of}
use Rattle.storm_turns.proofs.nodes.live_nodes.Given as goal

abbrev pub invariant-loop-n : goal.invariant-loop-n
invariant-loop-n l = l.nodes.items ≡ those_below (is_live (core_of l.core)) l.n
