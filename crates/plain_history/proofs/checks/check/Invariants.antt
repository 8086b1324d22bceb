use Rattle.std.proofs.Common.{◌≡◌, length, map, reverse, take}
use Rattle.plain_history.specs.History.{values_at, Legal}
use Rattle.plain_history.specs.Tables.{Follows}
use Rattle.plain_history.proofs.checks.check.Given as goal

abbrev pub invariant-loop-i : goal.invariant-loop-i
invariant-loop-i l = record {
  follows : Follows (values_at (map (λ list. list.items) l.opening)) (reverse (take l.i l.trace)) l.plain;
  legal : Legal (values_at (map (λ list. list.items) l.opening)) (reverse (take l.i l.trace));
  lists : length l.plain.values ≡ length l.opening;
}
