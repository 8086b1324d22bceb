use Rattle.mdc.specs.Opened.{AreNewLegs}
use Rattle.mdc.proofs.array.new_legs.Given as goal

abbrev pub invariant-loop-l : goal.invariant-loop-l
invariant-loop-l l = AreNewLegs l.opening l.faults l.l l.legs.items
