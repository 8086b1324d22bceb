use Rattle.std.proofs.Common.{◌≡◌, ℕ, nat_lt, not, ◌&&◌, get_or}
use Rattle.mdc_types.specs.Bits.{has_bit}
use Rattle.node_bitmaps.proofs.cells.clear_pages.Given as goal

abbrev pub invariant-loop-p : goal.invariant-loop-p
invariant-loop-p l = (p k : ℕ) → has_bit (get_or l.fresh p 0) k ≡ (has_bit (get_or l.fn.fresh p 0) k && not (nat_lt p l.p && has_bit l.legs k))
