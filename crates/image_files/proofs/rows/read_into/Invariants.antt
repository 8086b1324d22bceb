use Rattle.std.proofs.Common.{◌≡◌, ◌≤◌, length, vec_capacity}
use Rattle.image_files.specs.Rows.{GivesRow}
use Rattle.image_files.proofs.rows.read_into.Given as goal

abbrev pub invariant-loop-i : goal.invariant-loop-i
invariant-loop-i g l = record {
  many : length l.row.items ≡ l.i;
  room : vec_capacity l.row ≡ vec_capacity l.initial.row;
  row : GivesRow (g.L.LegDev.contents l.initial.leg) l.at l.row.items;
  contents : g.L.LegDev.contents l.leg ≡ g.L.LegDev.contents l.initial.leg;
  size : g.L.LegDev.size l.leg ≡ g.L.LegDev.size l.initial.leg;
  later : g.L.LegDev.faults l.initial.leg ≤ g.L.LegDev.faults l.leg;
}
