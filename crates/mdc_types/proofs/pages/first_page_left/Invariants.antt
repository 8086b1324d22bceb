use Rattle.std.proofs.Common.{◌≡◌, ◌-◌, length}
use Rattle.std.specs.Prelude.{is_some}
use Rattle.dlm_modes.specs.First.{first_such}
use Rattle.mdc_types.specs.Bits.{has_bit}
use Rattle.mdc_types.specs.Pages.{leg_without, bits_of}
use Rattle.mdc_types.proofs.pages.first_page_left.Given as goal

abbrev pub invariant-loop-p : goal.invariant-loop-p
invariant-loop-p l =
    first_such (λ p. is_some (leg_without (bits_of l.done) (has_bit l.legs) p)) 0 (length l.done) ≡ first_such (λ p. is_some (leg_without (bits_of l.done) (has_bit l.legs) p)) l.p (length l.done - l.p)
