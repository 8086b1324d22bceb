use Rattle.std.proofs.Common.{sym}
use Rattle.node_bitmaps.specs.Map.{bitmap_of, chunks_in}
use Rattle.map_index.specs.Index.{is_sought}
use Rattle.map_index.proofs.Blocks.{unmarked_block}
use Rattle.map_index.proofs.search.first_in_block.Goals as goal

pub returns-then-not-blocks-b : goal.returns-then-not-blocks-b
returns-then-not-blocks-b c = sym (unmarked_block (is_sought c.args.sought (bitmap_of c.args.map.now)) (chunks_in c.args.map.now) c.args.b c.args.from c.args.blocks.now c.requires.covers c.if-not-blocks-b.true)
