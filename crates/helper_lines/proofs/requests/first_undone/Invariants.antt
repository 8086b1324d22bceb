use Rattle.std.proofs.Common.{◌≡◌, ◌-◌}
use Rattle.leg_failure.specs.Views.{is_target}
use Rattle.driver_rules.specs.Lines.{first_undone}
use Rattle.helper_lines.specs.Flights.{writes_from}
use Rattle.world_state.specs.Kept.{core_of}
use Rattle.helper_lines.proofs.requests.first_undone.Given as goal

abbrev pub invariant-loop-k : goal.invariant-loop-k
invariant-loop-k l =
    first_undone (is_target ((core_of l.core).view l.n)) ((core_of l.core).writes l.n)
    ≡ first_undone (is_target ((core_of l.core).view l.n)) (writes_from l.from ((core_of l.core).writes l.n))

abbrev pub decreases-loop-k : goal.decreases-loop-k
decreases-loop-k l = (core_of l.core).writes_made l.n - l.from
