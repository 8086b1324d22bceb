use Rattle.std.proofs.Common.{◌≡◌, ◌-◌, ◌*◌}
use Rattle.std.specs.Prelude.{max, get_or, false, length}
use Rattle.dlm_modes.specs.First.{first_such}
use Rattle.mdc_types.proofs.chunks.first_of.Given as goal

abbrev pub invariant-loop-b : goal.invariant-loop-b
invariant-loop-b l =
    first_such (λ k. get_or l.flags k false) l.from (length l.flags - l.from)
    ≡ first_such (λ k. get_or l.flags k false) (max (128 * l.b) l.from) (length l.flags - max (128 * l.b) l.from)
