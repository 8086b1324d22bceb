use Rattle.std.proofs.Common.{sym, ◌∙◌, arith}
use Rattle.dlm_modes.proofs.FirstLaws.{first_such_more, first_such_found, first_such_end, first_such_start}
use Rattle.mdc_types.specs.Bits.{has_bit}
use Rattle.helper_wants.proofs.devices.first_in.Goals as goal

pub loop-l-init : goal.loop-l-init
loop-l-init c = first_such_start (has_bit c.args.set) c.args.legs

pub loop-l-preserved : goal.loop-l-preserved
loop-l-preserved c = c.loop-l.invariant ∙ first_such_more (has_bit c.args.set) c.loop-l.l c.args.legs (omega arith) (sym c.has_leg.ensures ∙ c.if-has_leg.false)

pub returns-then-has_leg : goal.returns-then-has_leg
returns-then-has_leg c = sym (c.loop-l.invariant ∙ first_such_found (has_bit c.args.set) c.loop-l.l c.args.legs (omega arith) (sym c.has_leg.ensures ∙ c.if-has_leg.true))

pub returns : goal.returns
returns c = sym (c.loop-l.invariant ∙ first_such_end (has_bit c.args.set) c.loop-l.l c.args.legs (omega arith))
