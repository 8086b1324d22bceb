use Rattle.std.proofs.Common.{◌≡◌, ◌-◌, map}
use Rattle.dlm_modes.specs.First.{first_such}
use Rattle.image_array.specs.Values.{differs, in_rows}
use Rattle.image_array.proofs.values.differing_leg.Given as goal

abbrev pub invariant-loop-l : goal.invariant-loop-l
invariant-loop-l i =
    let p = differs i.roles (λ k. in_rows (map (λ row. row.items) i.rows) i.from k i.s) in
    first_such p 0 8 ≡ first_such p i.l (8 - i.l)
