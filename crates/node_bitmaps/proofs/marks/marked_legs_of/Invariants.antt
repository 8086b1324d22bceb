use Rattle.std.proofs.Common.{◌≡◌, ℕ, ◌-◌, ◌<◌, not, ◌&&◌, false, length, get_or}
use Rattle.std.specs.Prelude.{is_some}
use Rattle.dlm_modes.specs.First.{first_such}
use Rattle.mdc_types.specs.Bits.{has_bit}
use Rattle.node_bitmaps.specs.Cells.{cell_at, lacks}
use Rattle.node_bitmaps.proofs.marks.marked_legs_of.Given as goal

abbrev pub invariant-loop-c : goal.invariant-loop-c
invariant-loop-c l = (k : ℕ) → k < 8 → not (lacks l.cells (λ c. get_or l.chunks c false) k)
    ≡ (has_bit l.legs k && not (is_some (first_such
    (λ c. get_or l.chunks c false && ((cell_at l.cells c).set && not
    (has_bit (cell_at l.cells c).marks k))) l.c (length l.cells - l.c))))
