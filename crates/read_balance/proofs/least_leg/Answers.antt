use Rattle.std.proofs.Common.{sym, ◌∙◌, arith}
use Rattle.dlm_modes.proofs.FirstLaws.{first_such_more, first_such_found, first_such_end}
use Rattle.mdc_types.specs.Bits.{has_bit}
use Rattle.read_balance.proofs.least_leg.Goals as goal

pub loop-l-preserved : goal.loop-l-preserved
loop-l-preserved c = c.loop-l.invariant ∙ first_such_more (has_bit c.args.working) c.loop-l.l 8 (omega arith) (sym c.has_leg.ensures ∙ c.if-has_leg.false)

pub returns-then-has_leg : goal.returns-then-has_leg
returns-then-has_leg c = sym (c.loop-l.invariant ∙ first_such_found (has_bit c.args.working) c.loop-l.l 8 (omega arith) (sym c.has_leg.ensures ∙ c.if-has_leg.true))

pub returns : goal.returns
returns c = sym (c.loop-l.invariant ∙ first_such_end (has_bit c.args.working) c.loop-l.l 8 (omega arith))
