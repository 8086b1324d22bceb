use Rattle.std.proofs.Common.{◌≡◌}
use Rattle.mdc_types.specs.Bits.{has_bit}
use Rattle.report_text.specs.Sets.{members}
use Rattle.report_text.proofs.sets.legs_of.Given as goal

abbrev pub invariant-loop-l : goal.invariant-loop-l
invariant-loop-l l = l.legs.items ≡ members (has_bit l.set) l.l
