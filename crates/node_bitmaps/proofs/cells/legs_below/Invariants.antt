use Rattle.std.proofs.Common.{◌≡◌, ℕ, nat_lt}
use Rattle.mdc_types.specs.Bits.{has_bit}
use Rattle.node_bitmaps.proofs.cells.legs_below.Given as goal

abbrev pub invariant-loop-l : goal.invariant-loop-l
invariant-loop-l l = (k : ℕ) → has_bit l.legs k ≡ nat_lt k l.l
