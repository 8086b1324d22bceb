use Rattle.std.proofs.Common.{◌≡◌}
use Rattle.leg_failure.specs.Views.{works}
use Rattle.driver_rules.specs.Storms.{those_below}
use Rattle.world_state.specs.Kept.{core_of}
use Rattle.storm_turns.proofs.nodes.working_legs.Given as goal

abbrev pub invariant-loop-l : goal.invariant-loop-l
invariant-loop-l l = l.legs.items ≡ those_below (works ((core_of l.core).view l.n)) l.l
