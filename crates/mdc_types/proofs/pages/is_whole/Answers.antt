use Rattle.std.proofs.Common.{◌≡◌, ◌∙◌, ap, sym, length, true, false, not, arith}
use Rattle.std.specs.Prelude.{is_none}
use Rattle.dlm_modes.proofs.FirstLaws.{first_such_more, first_such_found, first_such_end}
use Rattle.mdc_types.specs.Pages.{bits_of}
use Rattle.mdc_types.proofs.pages.is_whole.Goals as goal

pub returns-then-not-has_leg : goal.returns-then-not-has_leg
returns-then-not-has_leg c =
    let passes : not (bits_of c.args.done.now c.loop-bits.bits-index c.args.l) ≡ true = grind arith in
    sym (ap is_none (c.loop-bits.invariant ∙ first_such_found (λ p. not (bits_of c.args.done.now p c.args.l)) c.loop-bits.bits-index (length c.args.done.now) (omega arith) passes))

pub loop-bits-preserved : goal.loop-bits-preserved
loop-bits-preserved c =
    let fails : not (bits_of c.args.done.now c.loop-bits.bits-index c.args.l) ≡ false = grind arith in
    c.loop-bits.invariant ∙ first_such_more (λ p. not (bits_of c.args.done.now p c.args.l)) c.loop-bits.bits-index (length c.args.done.now) (omega arith) fails

pub returns : goal.returns
returns c = sym (ap is_none (c.loop-bits.invariant ∙ first_such_end (λ p. not (bits_of c.args.done.now p c.args.l)) c.loop-bits.bits-index (length c.args.done.now) (omega arith)))
