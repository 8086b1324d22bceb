use Rattle.std.proofs.Common.{◌≡◌, ap, ◌∙◌, ℕ, Bool, false, not, ◌&&◌, List, length, get_or, arith}
use Rattle.std.specs.Prelude.{is_some}
use Rattle.dlm_modes.proofs.FirstLaws.{first_such_start, first_such_end}
use Rattle.mdc_types.specs.Bits.{has_bit}
use Rattle.node_bitmaps.specs.Cells.{cell_at}
use Rattle.node_bitmaps.specs.declared.cells.Cell.{Cell}
use Rattle.node_bitmaps.proofs.PageLaws.{all_left, fewer_left, none_left}
use Rattle.node_bitmaps.proofs.marks.marked_legs_of.Goals as goal
use Rattle.node_bitmaps.proofs.marks.marked_legs_of.Goals.{then-has, else-has}

-- one of the chunks, in the set, and has no mark on the leg
abbrev missing : List Cell → List Bool → ℕ → ℕ → Bool
missing cells chunks l k = get_or chunks k false &&
    ((cell_at cells k).set && not (has_bit (cell_at cells k).marks l))

kept : (a : Bool) → a ≡ (a && not false)
kept a = grind arith

pub loop-c-init : goal.loop-c-init
loop-c-init c = λ k lt. all_left _ (missing c.args.cells.now c.args.chunks.now k) 0
    (length c.args.cells.now) k lt
    (ap not (ap is_some (first_such_start (missing c.args.cells.now c.args.chunks.now k)
    (length c.args.cells.now))))

pub loop-c-preserved : goal.loop-c-preserved
loop-c-preserved c = λ k lt. elim c.if-has.branch [
  | then-has w ↦ fewer_left _ (missing c.args.cells.now c.args.chunks.now k) c.loop-c.c
      (length c.args.cells.now) k c.loop-c.legs _ _ (omega arith)
      (ap (λ (x : ℕ). has_bit x k) w.legs-is ∙ w.marked-legs.ensures k) (grind arith)
      (c.loop-c.invariant k lt)
  | else-has w ↦ fewer_left _ (missing c.args.cells.now c.args.chunks.now k) c.loop-c.c
      (length c.args.cells.now) k c.loop-c.legs _ false (omega arith)
      (ap (λ (x : ℕ). has_bit x k) w.legs-is ∙ kept (has_bit c.loop-c.legs k)) (grind arith)
      (c.loop-c.invariant k lt)
]

pub returns : goal.returns
returns c = λ l lt. none_left _ _ _ (c.loop-c.invariant l lt)
    (ap is_some (first_such_end (missing c.args.cells.now c.args.chunks.now l) c.loop-c.c
    (length c.args.cells.now) (omega arith)))
