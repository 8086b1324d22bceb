use Rattle.std.proofs.Common.{◌≡◌, drop}
use Rattle.plain_history.specs.Asked.{any_of_sector}
use Rattle.plain_history.proofs.asked.any_of_sector.Given as goal

abbrev pub invariant-loop-w : goal.invariant-loop-w
invariant-loop-w l = any_of_sector l.s l.writes ≡ any_of_sector l.s (drop l.w-index l.writes)
