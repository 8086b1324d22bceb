use Rattle.std.proofs.Common.{sym, ◌∙◌, length, arith}
use Rattle.dlm_modes.proofs.FirstLaws.{first_such_more, first_such_found, first_such_end}
use Rattle.node_bitmaps.specs.Cells.{cell_at}
use Rattle.node_bitmaps.proofs.cells.first_set.Goals as goal

pub loop-c-preserved : goal.loop-c-preserved
loop-c-preserved c = c.loop-c.invariant ∙ first_such_more (λ k. (cell_at c.args.cells.now k).set) c.loop-c.c (length c.args.cells.now) (omega arith) c.if-cells-c.false

pub returns-then-cells-c : goal.returns-then-cells-c
returns-then-cells-c c = sym (c.loop-c.invariant ∙ first_such_found (λ k. (cell_at c.args.cells.now k).set) c.loop-c.c (length c.args.cells.now) (omega arith) c.if-cells-c.true)

pub returns : goal.returns
returns c = sym (c.loop-c.invariant ∙ first_such_end (λ k. (cell_at c.args.cells.now k).set) c.loop-c.c (length c.args.cells.now) (omega arith))
