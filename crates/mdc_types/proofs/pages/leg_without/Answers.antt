use Rattle.std.proofs.Common.{sym, ◌∙◌, ◌≡◌, arith, true, false, not, ◌&&◌}
use Rattle.dlm_modes.proofs.FirstLaws.{first_such_more, first_such_found, first_such_end}
use Rattle.mdc_types.specs.Bits.{has_bit}
use Rattle.mdc_types.proofs.pages.leg_without.Goals as goal
use Rattle.mdc_types.proofs.pages.leg_without.Goals.{else-has_leg-via-then-has_leg+else-not-has_leg, else-has_leg-via-else-has_leg}

pub loop-l-preserved : goal.loop-l-preserved
loop-l-preserved c =
    let fails : (has_bit c.args.legs c.loop-l.l && not (has_bit c.args.done c.loop-l.l)) ≡ false = elim c.else-has_leg.branch [
      | else-has_leg-via-then-has_leg+else-not-has_leg w ↦ grind arith
      | else-has_leg-via-else-has_leg w ↦ grind arith
    ] in
    c.loop-l.invariant ∙ first_such_more (λ k. has_bit c.args.legs k && not (has_bit c.args.done k)) c.loop-l.l 8 (omega arith) fails

pub returns-then-not-has_leg : goal.returns-then-not-has_leg
returns-then-not-has_leg c =
    let passes : (has_bit c.args.legs c.loop-l.l && not (has_bit c.args.done c.loop-l.l)) ≡ true = grind arith in
    sym (c.loop-l.invariant ∙ first_such_found (λ k. has_bit c.args.legs k && not (has_bit c.args.done k)) c.loop-l.l 8 (omega arith) passes)

pub returns : goal.returns
returns c = sym (c.loop-l.invariant ∙ first_such_end (λ k. has_bit c.args.legs k && not (has_bit c.args.done k)) c.loop-l.l 8 (omega arith))
