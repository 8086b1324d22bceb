use Rattle.std.proofs.Common.{◌≡◌, map}
use Rattle.image_array.specs.Values.{values_of, in_rows}
use Rattle.image_array.proofs.values.values_at.Given as goal

abbrev pub invariant-loop-l : goal.invariant-loop-l
invariant-loop-l i = i.values.items ≡ values_of i.roles (λ k. in_rows (map (λ row. row.items) i.rows) i.from k i.s) i.l
