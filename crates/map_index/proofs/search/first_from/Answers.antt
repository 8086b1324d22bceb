use Rattle.std.proofs.Common.{sym, ◌∙◌, arith}
use Rattle.dlm_modes.proofs.FirstLaws.{first_such_end}
use Rattle.node_bitmaps.specs.Map.{bitmap_of, chunks_in}
use Rattle.map_index.specs.Index.{is_sought}
use Rattle.mdc_types.proofs.Blocks.{next_block, found_block}
use Rattle.map_index.proofs.search.first_from.Goals as goal

pub returns-in-Some : goal.returns-in-Some
returns-in-Some c = sym (c.loop-b.invariant ∙ found_block (is_sought c.args.sought (bitmap_of c.args.map.now)) (chunks_in c.args.map.now) c.loop-b.b c.args.from c.in-Some.c (sym c.first_in_block.ensures ∙ c.in-Some.is))

pub loop-b-preserved : goal.loop-b-preserved
loop-b-preserved c = c.loop-b.invariant ∙ next_block (is_sought c.args.sought (bitmap_of c.args.map.now)) (chunks_in c.args.map.now) c.loop-b.b c.args.from c.loop-b.auto.b (sym c.first_in_block.ensures ∙ c.in_default.is)

pub returns : goal.returns
returns c = sym (c.loop-b.invariant ∙ first_such_end (is_sought c.args.sought (bitmap_of c.args.map.now)) _ (chunks_in c.args.map.now) (omega (arith, c.requires.enough, c.loop-b-test.false)))
