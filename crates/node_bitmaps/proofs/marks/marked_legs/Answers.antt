use Rattle.std.proofs.Common.{◌≡◌, ap, ℕ, ◌==◌, Bool, true, false, not, ◌&&◌, List, length, arith}
use Rattle.mdc_types.specs.Bits.{has_bit}
use Rattle.mdc_types.specs.Geometry.{page_of}
use Rattle.node_bitmaps.specs.Cells.{cell_at}
use Rattle.node_bitmaps.specs.declared.cells.Cell.{Cell}
use Rattle.node_bitmaps.proofs.PageLaws.{starts, ends, on_page, all_left, fewer_left, none_left}
use Rattle.node_bitmaps.proofs.marks.marked_legs.Goals as goal

-- a chunk of the page that is in the set, and has outside mark on the leg
abbrev missing : List Cell → ℕ → ℕ → ℕ → Bool
missing cells p l k = (page_of k == p) && ((cell_at cells k).set && not
    (has_bit (cell_at cells k).marks l))

off : (cells : List Cell) (p l k : ℕ) → (page_of k == p) ≡ false → missing cells p l k ≡ false
off cells p l k outside = grind arith

here : (cells : List Cell) (p l k : ℕ) → (page_of k == p) ≡ true → missing cells p l k
    ≡ ((cell_at cells k).set && not (has_bit (cell_at cells k).marks l))
here cells p l k inside = grind arith

pub loop-c-init : goal.loop-c-init
loop-c-init c = record {
  upto = omega arith;
  rest = λ k lt. all_left _ (missing c.args.cells.now c.args.p k) c.first_chunk-c.result
      (length c.args.cells.now) k lt
      (ap not (starts (missing c.args.cells.now c.args.p k) c.args.p c.first_chunk-c.result
      (length c.args.cells.now) c.first_chunk-c.ensures (off c.args.cells.now c.args.p k)));
}

pub loop-c-preserved : goal.loop-c-preserved
loop-c-preserved c =
    let inside = on_page c.args.p c.loop-c.c c.min-c-end.result (length c.args.cells.now)
    (omega arith) (omega arith) (omega arith) in
    record {
      upto = omega arith;
      rest = λ k lt. fewer_left _ (missing c.args.cells.now c.args.p k) c.loop-c.c
          (length c.args.cells.now) k c.loop-c.legs _ _ (omega arith)
          (c.marked-legs.ensures k) (here c.args.cells.now c.args.p k c.loop-c.c inside)
          (c.loop-c.invariant.rest k lt);
    }

pub returns : goal.returns
returns c = λ l lt. none_left _ _ _ (c.loop-c.invariant.rest l lt)
    (ends (missing c.args.cells.now c.args.p l) c.args.p c.loop-c.c (length c.args.cells.now)
    (omega arith) (off c.args.cells.now c.args.p l))
