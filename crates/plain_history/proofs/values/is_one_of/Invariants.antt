use Rattle.std.proofs.Common.{drop}
use Rattle.plain_history.specs.History.{IsIn}
use Rattle.plain_history.proofs.values.is_one_of.Given as goal

abbrev pub invariant-loop-u : goal.invariant-loop-u
invariant-loop-u l = IsIn l.v l.list → IsIn l.v (drop l.u-index l.list)
