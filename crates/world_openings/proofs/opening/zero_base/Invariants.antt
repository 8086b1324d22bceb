use Rattle.std.proofs.Common.{◌≡◌, [], ◌∷◌, map}
use Rattle.std.specs.Prelude.{replicate}
use Rattle.mdc_types.specs.Sectors.{zero_sector}
use Rattle.world_openings.proofs.opening.zero_base.Given as goal

abbrev pub invariant-loop-s : goal.invariant-loop-s
invariant-loop-s l = map (λ values. values.items) l.base.items ≡ replicate l.s (zero_sector ∷ [])
