use Rattle.std.proofs.Common.{◌∙◌, arith}
use Rattle.std.proofs.lemmas.List.{length-set}
use Rattle.node_bitmaps.specs.Map.{bitmap_of, chunks_in}
use Rattle.map_index.specs.Index.{is_sought}
use Rattle.map_index.proofs.Blocks.{marked_next}
use Rattle.map_index.proofs.search.mark_blocks.Goals as goal

pub loop-b-preserved : goal.loop-b-preserved
loop-b-preserved c = record {
  same = length-set c.loop-b.blocks c.loop-b.b c.has_one.result ∙ c.loop-b.invariant.same;
  marked = marked_next (is_sought c.args.sought (bitmap_of c.args.map.now)) (chunks_in c.args.map.now) c.loop-b.blocks c.loop-b.b c.has_one.result (omega (arith, c.loop-b.invariant.same, c.loop-b-test.true)) c.loop-b.invariant.marked c.has_one.ensures;
}
