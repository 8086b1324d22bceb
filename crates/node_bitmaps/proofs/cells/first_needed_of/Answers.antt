use Rattle.std.proofs.Common.{◌≡◌, sym, ◌∙◌, ℕ, Bool, true, false, ◌&&◌, get_or, length, arith}
use Rattle.dlm_modes.proofs.FirstLaws.{first_such_more, first_such_found, first_such_end}
use Rattle.node_bitmaps.specs.Cells.{cell_at}
use Rattle.node_bitmaps.proofs.cells.first_needed_of.Goals as goal
use Rattle.node_bitmaps.proofs.cells.first_needed_of.Goals.{else-has-via-then-has+else-cells-c, else-has-via-else-has}

pub loop-c-preserved : goal.loop-c-preserved
loop-c-preserved c =
    let test : ℕ → Bool = λ k. get_or c.args.chunks.now k false &&
    (cell_at c.args.cells.now k).needed in
    let fails : test c.loop-c.c ≡ false = elim c.else-has.branch [
      | else-has-via-then-has+else-cells-c w ↦ grind arith
      | else-has-via-else-has w ↦ grind arith
    ] in
    c.loop-c.invariant ∙ first_such_more test c.loop-c.c (length c.args.cells.now) (omega arith)
    fails

pub returns-then-cells-c : goal.returns-then-cells-c
returns-then-cells-c c =
    let test : ℕ → Bool = λ k. get_or c.args.chunks.now k false &&
    (cell_at c.args.cells.now k).needed in
    let passes : test c.loop-c.c ≡ true = grind arith in
    sym (c.loop-c.invariant ∙ first_such_found test c.loop-c.c (length c.args.cells.now)
    (omega arith) passes)

pub returns : goal.returns
returns c =
    let test : ℕ → Bool = λ k. get_or c.args.chunks.now k false &&
    (cell_at c.args.cells.now k).needed in
    sym (c.loop-c.invariant ∙ first_such_end test c.loop-c.c (length c.args.cells.now)
    (omega arith))
