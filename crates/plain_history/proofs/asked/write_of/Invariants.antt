use Rattle.std.proofs.Common.{◌≡◌, drop}
use Rattle.plain_history.specs.Asked.{write_in}
use Rattle.plain_history.proofs.asked.write_of.Given as goal

abbrev pub invariant-loop-w : goal.invariant-loop-w
invariant-loop-w l = write_in l.n l.k l.writes ≡ write_in l.n l.k (drop l.w-index l.writes)
