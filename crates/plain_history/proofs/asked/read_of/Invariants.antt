use Rattle.std.proofs.Common.{◌≡◌, drop}
use Rattle.plain_history.specs.Asked.{read_in}
use Rattle.plain_history.proofs.asked.read_of.Given as goal

abbrev pub invariant-loop-r : goal.invariant-loop-r
invariant-loop-r l = read_in l.n l.k l.reads ≡ read_in l.n l.k (drop l.r-index l.reads)
