use Rattle.std.proofs.Common.{◌≡◌, length}
use Rattle.node_bitmaps.specs.Map.{bitmap_of, chunks_in}
use Rattle.map_index.specs.Index.{is_sought}
use Rattle.map_index.proofs.Blocks.{MarkedBelow}
use Rattle.map_index.proofs.search.mark_blocks.Given as goal

abbrev pub invariant-loop-b : goal.invariant-loop-b
invariant-loop-b l = record {
  same : length l.blocks ≡ length l.fn.blocks;
  marked : MarkedBelow (is_sought l.sought (bitmap_of l.map)) (chunks_in l.map) l.blocks l.b;
}
