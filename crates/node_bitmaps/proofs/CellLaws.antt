-- A cell after a change of one.
use Rattle.std.proofs.Common.{inl, inr, ◌≡◌, ℕ, ◌==◌, ◌<◌, if◌then◌else◌, List, length, arith}
use Rattle.std.proofs.Math.ListN.{set}
use Rattle.std.proofs.lemmas.Bool.Decides.{nat_tests}
use Rattle.std.proofs.lemmas.Bool.{cases_eq}
use Rattle.std.proofs.lemmas.List.{get_or-set_same, get_or-set_other}
use Rattle.node_bitmaps.specs.Cells.{cell_at}
use Rattle.node_bitmaps.specs.declared.cells.Cell.{Cell}

pub cell_at-set : (cells : List Cell) (c : ℕ) (x : Cell) (k : ℕ) → c < length cells → cell_at (set cells c x) k ≡ (if k == c then x else cell_at cells k)
cell_at-set cells c x k lt = elim (cases_eq k c) [
  | inl same ↦ grind (arith, nat_tests, get_or-set_same)
  | inr other ↦ grind (arith, nat_tests, get_or-set_other)
]
