use Rattle.std.proofs.Common.{◌≡◌}
use Rattle.world_state.specs.Kept.{core_of}
use Rattle.leg_comparison.specs.Reads.{HoldSame}
use Rattle.leg_comparison.proofs.LegRows.{IsBelow}
use Rattle.leg_comparison.proofs.comparing.compare_legs.Given as goal

abbrev pub invariant-loop-l : goal.invariant-loop-l
invariant-loop-l g l = record {
  below : IsBelow (core_of l.fn.world.kept) l.n l.l l.fn.world.legs l.world.legs l.rows;
  holds : HoldSame l.fn.world.legs l.world.legs;
  same : l.world ≡ record l.fn.world { legs = l.world.legs };
}
