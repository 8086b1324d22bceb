use Rattle.std.proofs.Common.{◌≡◌, ◌-◌}
use Rattle.std.specs.Prelude.{get_or, false}
use Rattle.dlm_modes.specs.First.{first_such}
use Rattle.mdc_types.proofs.chunks.first_between.Given as goal

abbrev pub invariant-loop-k : goal.invariant-loop-k
invariant-loop-k l =
    first_such (λ k. get_or l.flags k false) l.from (l.to - l.from)
    ≡ first_such (λ k. get_or l.flags k false) l.k (l.to - l.k)
