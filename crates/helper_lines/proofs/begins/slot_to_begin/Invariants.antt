use Rattle.std.proofs.Common.{◌≡◌, ◌-◌}
use Rattle.dlm_modes.specs.First.{first_such}
use Rattle.driver_rules.specs.Lines.{may_begin}
use Rattle.world_state.specs.Kept.{core_of}
use Rattle.helper_lines.proofs.begins.slot_to_begin.Given as goal

abbrev pub invariant-loop-d : goal.invariant-loop-d
invariant-loop-d l = first_such (may_begin (core_of l.core)) 0 l.nodes ≡ first_such (may_begin (core_of l.core)) l.d (l.nodes - l.d)
