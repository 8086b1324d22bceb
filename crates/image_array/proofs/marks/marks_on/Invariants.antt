use Rattle.std.proofs.Common.{◌≡◌, ◌-◌}
use Rattle.dlm_modes.specs.First.{first_such}
use Rattle.mdc_types.specs.Geometry.{nodes_of}
use Rattle.image_array.specs.Legs.{mark_at, sizes_at}
use Rattle.image_array.proofs.marks.marks_on.Given as goal

abbrev pub invariant-loop-k : goal.invariant-loop-k
invariant-loop-k i = first_such (λ k. mark_at i.images i.l k i.c) 0 (nodes_of (sizes_at i.images i.l)) ≡ first_such (λ k. mark_at i.images i.l k i.c) i.k (nodes_of (sizes_at i.images i.l) - i.k)
