use Rattle.std.proofs.Common.{◌≡◌, ◌-◌}
use Rattle.dlm_modes.specs.First.{first_such}
use Rattle.mdc_types.specs.Roles.{role_of, is_working}
use Rattle.world_members.proofs.newest.first_working.Given as goal

abbrev pub invariant-loop-l : goal.invariant-loop-l
invariant-loop-l l = first_such (λ j. is_working (role_of l.roles j)) 0 8 ≡ first_such (λ j. is_working (role_of l.roles j)) l.l (8 - l.l)
