use Rattle.std.proofs.Common.{sym, ◌∙◌, arith}
use Rattle.dlm_modes.proofs.FirstLaws.{first_such_more, first_such_found, first_such_end}
use Rattle.suspend_ranges.specs.Suspended.{ranges_of, suspends}
use Rattle.suspend_ranges.proofs.SuspendList.covers.Goals as goal

pub loop-owner-preserved : goal.loop-owner-preserved
loop-owner-preserved c =
    c.loop-owner.invariant ∙ first_such_more (λ owner. suspends c.args.s (ranges_of c.args.self.now owner)) c.loop-owner.owner 16 (omega arith) (sym c.suspends.ensures ∙ c.if-suspends.false)

pub returns-then-suspends-clause-least : goal.returns-then-suspends-clause-least
returns-then-suspends-clause-least c =
    sym (c.loop-owner.invariant ∙ first_such_found (λ owner. suspends c.args.s (ranges_of c.args.self.now owner)) c.loop-owner.owner 16 (omega arith) (sym c.suspends.ensures ∙ c.if-suspends.true))

pub returns-clause-least : goal.returns-clause-least
returns-clause-least c =
    sym (c.loop-owner.invariant ∙ first_such_end (λ owner. suspends c.args.s (ranges_of c.args.self.now owner)) c.loop-owner.owner 16 (omega arith))
