use Rattle.std.proofs.Common.{◌≡◌, ◌≤◌, take, length}
use Rattle.driver_rules.specs.Helpers.{found}
use Rattle.helper_list.proofs.listed.found.Given as goal

abbrev pub invariant-loop-line : goal.invariant-loop-line
invariant-loop-line l = (l.events.items ≡ found (take l.line-index l.lines)) × (length l.events.items ≤ l.line-index)
