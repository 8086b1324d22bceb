use Rattle.std.proofs.Common.{◌≡◌, ◌-◌, ◌==◌, not}
use Rattle.std.specs.Prelude.{is_some}
use Rattle.dlm_modes.specs.First.{first_such}
use Rattle.mdc_types.specs.Bits.{has_bit}
use Rattle.mdc_types.specs.Geometry.{page_of}
use Rattle.mdc_types.specs.Pages.{leg_without}
use Rattle.node_bitmaps.specs.Cells.{lacks}
use Rattle.node_bitmaps.proofs.marks.first_unmarked.Given as goal

abbrev pub invariant-loop-p : goal.invariant-loop-p
invariant-loop-p l =
    first_such (λ p. is_some (leg_without (λ q k. not (lacks l.cells (λ c. page_of c == q) k))
    (has_bit l.legs) p)) 0 l.pages
    ≡ first_such (λ p. is_some (leg_without (λ q k. not (lacks l.cells (λ c. page_of c == q) k))
    (has_bit l.legs) p)) l.p (l.pages - l.p)
