use Rattle.std.proofs.Common.{◌≡◌, ◌≤◌}
use Rattle.image_second.specs.Second.{MadeTo, read_of}
use Rattle.image_second.proofs.image.second_image.Given as goal

abbrev pub invariant-loop-at : goal.invariant-loop-at
invariant-loop-at g i = record {
  made : MadeTo (read_of i.image) (g.L.LegDev.contents i.initial.leg) i.at i.bytes.items;
  contents : g.L.LegDev.contents i.leg ≡ g.L.LegDev.contents i.initial.leg;
  size : g.L.LegDev.size i.leg ≡ g.L.LegDev.size i.initial.leg;
  later : g.L.LegDev.faults i.initial.leg ≤ g.L.LegDev.faults i.leg;
}
