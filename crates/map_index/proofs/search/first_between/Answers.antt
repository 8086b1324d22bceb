use Rattle.std.proofs.Common.{sym, ◌∙◌, arith}
use Rattle.dlm_modes.proofs.FirstLaws.{first_such_more, first_such_found, first_such_end}
use Rattle.node_bitmaps.specs.Map.{bitmap_of}
use Rattle.map_index.specs.Index.{is_sought}
use Rattle.map_index.proofs.search.first_between.Goals as goal

pub loop-c-preserved : goal.loop-c-preserved
loop-c-preserved c =
    c.loop-c.invariant ∙ first_such_more (is_sought c.args.sought (bitmap_of c.args.map.now)) c.loop-c.c c.args.to (omega arith)
    (sym c.is_sought.ensures ∙ c.if-is_sought.false)

pub returns-then-is_sought : goal.returns-then-is_sought
returns-then-is_sought c =
    sym (c.loop-c.invariant ∙ first_such_found (is_sought c.args.sought (bitmap_of c.args.map.now)) c.loop-c.c c.args.to (omega arith)
    (sym c.is_sought.ensures ∙ c.if-is_sought.true))

pub returns : goal.returns
returns c = sym (c.loop-c.invariant ∙ first_such_end (is_sought c.args.sought (bitmap_of c.args.map.now)) c.loop-c.c c.args.to (omega arith))
