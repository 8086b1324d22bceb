use Rattle.std.proofs.Common.{◌≡◌, map, take}
use Rattle.plain_history.proofs.checks.copy_lists.Given as goal

abbrev pub invariant-loop-list : goal.invariant-loop-list
invariant-loop-list l = map (λ list. list.items) l.copy.items ≡ take l.list-index (map (λ list. list.items) l.lists)
