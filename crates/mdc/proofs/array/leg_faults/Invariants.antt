use Rattle.std.proofs.Common.{◌≡◌, take}
use Rattle.mdc.specs.Opened.{faults_of}
use Rattle.mdc.proofs.array.leg_faults.Given as goal

abbrev pub invariant-loop-f : goal.invariant-loop-f
invariant-loop-f l = l.list.items ≡ faults_of (take l.f-index l.faults) l.l
