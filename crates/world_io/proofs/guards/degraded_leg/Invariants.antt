use Rattle.std.proofs.Common.{◌≡◌, ◌-◌}
use Rattle.dlm_modes.specs.First.{first_such}
use Rattle.world_io.proofs.Judging.{lacks}
use Rattle.world_io.proofs.guards.degraded_leg.Given as goal

abbrev pub invariant-loop-l : goal.invariant-loop-l
invariant-loop-l l = first_such (lacks l.roles) 0 8 ≡ first_such (lacks l.roles) l.l (8 - l.l)
