use Rattle.std.proofs.Common.{map}
use Rattle.image_array.specs.Values.{in_rows}
use Rattle.image_array.proofs.Blocks.{AddedTo}
use Rattle.image_array.proofs.values.add_values.Given as goal

abbrev pub invariant-loop-s : goal.invariant-loop-s
invariant-loop-s g r = AddedTo r.head r.images (in_rows (map (λ row. row.items) r.rows) r.from) r.from r.count r.s
    (map (λ values. values.items) r.initial.base.items) (map (λ values. values.items) r.base.items)
