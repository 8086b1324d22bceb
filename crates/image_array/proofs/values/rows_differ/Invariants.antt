use Rattle.std.proofs.Common.{ℕ, ◌<◌, map}
use Rattle.image_array.specs.Values.{HasFirstRow}
use Rattle.image_array.proofs.values.rows_differ.Given as goal

abbrev pub invariant-loop-l : goal.invariant-loop-l
invariant-loop-l g i = (k : ℕ) → k < i.l → HasFirstRow i.roles (map (λ row. row.items) i.rows) k
