use Rattle.std.proofs.Common.{◌-◌, ◌≤◌}
use Rattle.mdc_types.specs.Bits.{has_bit}
use Rattle.mdc_types.specs.Geometry.{page_of}
use Rattle.node_bitmaps.specs.Map.{bitmap_of, chunks_in}
use Rattle.map_index.proofs.Unmarked.{IsLeast}
use Rattle.map_index.proofs.indexed_map.IndexedMap.least_lacking.Given as goal

abbrev pub invariant-loop-k : goal.invariant-loop-k
invariant-loop-k l = IsLeast (bitmap_of l.self) (has_bit l.targets) (chunks_in l.self) (page_of l.c) l.from l.least
    × (l.c ≤ l.from)

abbrev pub decreases-loop-k : goal.decreases-loop-k
decreases-loop-k l = chunks_in l.self - l.from
