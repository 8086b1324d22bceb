use Rattle.std.proofs.Common.{◌≡◌, ◌-◌, length, not}
use Rattle.dlm_modes.specs.First.{first_such}
use Rattle.mdc_types.specs.Pages.{bits_of}
use Rattle.mdc_types.proofs.pages.is_whole.Given as goal

abbrev pub invariant-loop-bits : goal.invariant-loop-bits
invariant-loop-bits l =
    first_such (λ p. not (bits_of l.done p l.l)) 0 (length l.done) ≡ first_such (λ p. not (bits_of l.done p l.l)) l.bits-index (length l.done - l.bits-index)
