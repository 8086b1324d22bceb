use Rattle.std.proofs.Common.{◌≡◌, ◌-◌}
use Rattle.dlm_modes.specs.First.{first_such}
use Rattle.suspend_ranges.specs.Suspended.{ranges_of, suspends, covering}
use Rattle.suspend_ranges.proofs.SuspendList.covers.Given as goal

abbrev pub invariant-loop-owner : goal.invariant-loop-owner
invariant-loop-owner l =
    covering (ranges_of l.self) l.s ≡ first_such (λ owner. suspends l.s (ranges_of l.self owner)) l.owner (16 - l.owner)
