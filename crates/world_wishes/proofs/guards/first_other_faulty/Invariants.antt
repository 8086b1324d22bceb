use Rattle.std.proofs.Common.{◌≡◌, ◌-◌, ◌==◌, not, ◌&&◌}
use Rattle.dlm_modes.specs.First.{first_such}
use Rattle.mdc_types.specs.Roles.{is_faulty}
use Rattle.leg_failure.specs.Views.{view_of}
use Rattle.world_wishes.proofs.guards.first_other_faulty.Given as goal

abbrev pub invariant-loop-j : goal.invariant-loop-j
invariant-loop-j l =
    first_such (λ k. is_faulty ((view_of l.view).role k) && not (k == l.l)) 0 8
    ≡ first_such (λ k. is_faulty ((view_of l.view).role k) && not (k == l.l)) l.j (8 - l.j)
