use Rattle.std.proofs.Common.{◌≡◌, ◌≤◌, length}
use Rattle.std.specs.Prelude.{reverse, vec_len, vec_capacity}
use Rattle.leg_comparison.specs.Reads.{Gave, HoldSame}
use Rattle.leg_comparison.proofs.reading.read_whole.Given as goal

abbrev pub invariant-loop-s : goal.invariant-loop-s
invariant-loop-s g l = record {
  gave : Gave l.fn.world.kept.identity.geometry l.fn.l l.fn.world.legs (reverse l.sectors.items) l.world.legs;
  holds : HoldSame l.fn.world.legs l.world.legs;
  same : l.world ≡ record l.fn.world { legs = l.world.legs };
  long : length l.sectors.items ≡ l.s;
  count : vec_len l.sectors ≡ l.s;
  room : l.room ≤ vec_capacity l.sectors;
}
