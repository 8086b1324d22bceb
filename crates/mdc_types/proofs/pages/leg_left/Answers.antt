use Rattle.std.proofs.Common.{sym, ◌∙◌, ◌≡◌, arith, true, false, not, ◌&&◌, length}
use Rattle.dlm_modes.proofs.FirstLaws.{first_such_more, first_such_found, first_such_end}
use Rattle.mdc_types.specs.Bits.{has_bit}
use Rattle.mdc_types.specs.Pages.{is_whole, bits_of}
use Rattle.mdc_types.proofs.pages.leg_left.Goals as goal
use Rattle.mdc_types.proofs.pages.leg_left.Goals.{else-has_leg-via-then-has_leg+else-not-is_whole, else-has_leg-via-else-has_leg}

pub loop-l-preserved : goal.loop-l-preserved
loop-l-preserved c =
    let fails : (has_bit c.args.legs c.loop-l.l && not (is_whole (bits_of c.args.done.now) (length c.args.done.now) c.loop-l.l)) ≡ false = elim c.else-has_leg.branch [
      | else-has_leg-via-then-has_leg+else-not-is_whole w ↦ grind arith
      | else-has_leg-via-else-has_leg w ↦ grind arith
    ] in
    c.loop-l.invariant ∙ first_such_more (λ k. has_bit c.args.legs k && not (is_whole (bits_of c.args.done.now) (length c.args.done.now) k)) c.loop-l.l 8 (omega arith) fails

pub returns-then-not-is_whole : goal.returns-then-not-is_whole
returns-then-not-is_whole c =
    let passes : (has_bit c.args.legs c.loop-l.l && not (is_whole (bits_of c.args.done.now) (length c.args.done.now) c.loop-l.l)) ≡ true = grind arith in
    sym (c.loop-l.invariant ∙ first_such_found (λ k. has_bit c.args.legs k && not (is_whole (bits_of c.args.done.now) (length c.args.done.now) k)) c.loop-l.l 8 (omega arith) passes)

pub returns : goal.returns
returns c = sym (c.loop-l.invariant ∙ first_such_end (λ k. has_bit c.args.legs k && not (is_whole (bits_of c.args.done.now) (length c.args.done.now) k)) c.loop-l.l 8 (omega arith))
