use Rattle.std.proofs.Common.{◌≡◌, sym, ap, ◌∙◌, ℕ, ◌==◌, ◌<◌, Bool, true, false, not, ◌&&◌, List, length, arith}
use Rattle.std.specs.Prelude.{is_some}
use Rattle.std.proofs.lemmas.Bool.Decides.{nat_tests}
use Rattle.dlm_modes.proofs.FirstLaws.{first_such_more, first_such_found}
use Rattle.mdc_types.specs.Geometry.{page_of}
use Rattle.slot_pages.specs.Slot.{chunk_bit}
use Rattle.node_bitmaps.specs.Cells.{cell_at, page_chunk}
use Rattle.node_bitmaps.specs.declared.cells.Cell.{Cell}
use Rattle.node_bitmaps.proofs.PageLaws.{starts, ends, on_page}
use Rattle.node_bitmaps.proofs.cells.brings_new.Goals as goal
use Rattle.node_bitmaps.proofs.cells.brings_new.Goals.{else-has_chunk-via-then-has_chunk+else-not-cells-c, else-has_chunk-via-else-has_chunk}

-- a chunk that the page has and that isn't in the set
abbrev brought : List Cell → ℕ → List ℕ → ℕ → Bool
brought cells p page k = page_chunk (length cells) p page k && not (cell_at cells k).set

off : (cells : List Cell) (p : ℕ) (page : List ℕ) (k : ℕ) → (page_of k == p) ≡ false
    → brought cells p page k ≡ false
off cells p page k outside = grind arith

here : (cells : List Cell) (p : ℕ) (page : List ℕ) (k : ℕ) → k < length cells → (page_of k == p)
    ≡ true → brought cells p page k ≡ (chunk_bit page k && not (cell_at cells k).set)
here cells p page k lt inside = grind (arith, nat_tests)

pub loop-c-init : goal.loop-c-init
loop-c-init c = record {
  upto = omega arith;
  rest = starts (brought c.args.cells.now c.args.p c.args.page.now.bytes) c.args.p
      c.first_chunk-c.result (length c.args.cells.now) c.first_chunk-c.ensures
      (off c.args.cells.now c.args.p c.args.page.now.bytes);
}

pub returns-then-not-cells-c : goal.returns-then-not-cells-c
returns-then-not-cells-c c =
    let inside = on_page c.args.p c.loop-c.c c.min-c-end.result (length c.args.cells.now)
    (omega arith) (omega arith) (omega arith) in
    let is = here c.args.cells.now c.args.p c.args.page.now.bytes c.loop-c.c (omega arith) inside
    in
    let passes : brought c.args.cells.now c.args.p c.args.page.now.bytes c.loop-c.c ≡ true = is
    ∙ (grind arith) in
    sym (c.loop-c.invariant.rest ∙ ap is_some (first_such_found
    (brought c.args.cells.now c.args.p c.args.page.now.bytes) c.loop-c.c
    (length c.args.cells.now) (omega arith) passes))

pub loop-c-preserved : goal.loop-c-preserved
loop-c-preserved c =
    let inside = on_page c.args.p c.loop-c.c c.min-c-end.result (length c.args.cells.now)
    (omega arith) (omega arith) (omega arith) in
    let is = here c.args.cells.now c.args.p c.args.page.now.bytes c.loop-c.c (omega arith) inside
    in
    let outside : (chunk_bit c.args.page.now.bytes c.loop-c.c && not
    (cell_at c.args.cells.now c.loop-c.c).set) ≡ false = elim c.else-has_chunk.branch [
      | else-has_chunk-via-then-has_chunk+else-not-cells-c w ↦ grind arith
      | else-has_chunk-via-else-has_chunk w ↦ grind arith
    ] in
    record {
      upto = omega arith;
      rest = c.loop-c.invariant.rest ∙ ap is_some (first_such_more
          (brought c.args.cells.now c.args.p c.args.page.now.bytes) c.loop-c.c
          (length c.args.cells.now) (omega arith) (is ∙ outside));
    }

pub returns : goal.returns
returns c = sym (c.loop-c.invariant.rest ∙ ends
    (brought c.args.cells.now c.args.p c.args.page.now.bytes) c.args.p c.loop-c.c
    (length c.args.cells.now) (omega arith) (off c.args.cells.now c.args.p c.args.page.now.bytes))
