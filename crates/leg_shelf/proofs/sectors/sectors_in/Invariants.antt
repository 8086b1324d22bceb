use Rattle.std.proofs.Common.{◌≡◌, map, vec_len}
use Rattle.std.specs.List.{range_with_len}
use Rattle.leg_shelf.specs.Images.{sector_at}
use Rattle.leg_shelf.proofs.sectors.sectors_in.Given as goal

abbrev pub invariant-loop-k : goal.invariant-loop-k
invariant-loop-k l =
    (l.sectors.items ≡ map (sector_at l.bytes) (range_with_len 0 l.k)) × (vec_len l.sectors ≡ l.k)
