use Rattle.std.proofs.Common.{◌-◌, length, drop}
use Rattle.std.specs.Ordering.{nat_cmp}
use Rattle.std.specs.BTreeMap.{get}
use Rattle.faulty_leg.specs.Table.{HasFirsts}
use Rattle.faulty_leg.proofs.faulty.table_of.Given as goal

-- what is listed from there on is in the table
abbrev pub invariant-loop-later : goal.invariant-loop-later
invariant-loop-later l = HasFirsts (get nat_cmp l.table) (drop (length l.listed - l.later) l.listed)
