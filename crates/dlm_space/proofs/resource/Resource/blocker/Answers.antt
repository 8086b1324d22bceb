use Rattle.std.proofs.Common.{sym, ◌∙◌, arith}
use Rattle.dlm_modes.proofs.FirstLaws.{first_such_more, first_such_found, first_such_end}
use Rattle.dlm_space.specs.Locks.{is_against}
use Rattle.dlm_space.specs.Parts.{lock_of}
use Rattle.dlm_space.proofs.resource.Resource.blocker.Goals as goal

pub loop-m-preserved : goal.loop-m-preserved
loop-m-preserved c =
    c.loop-m.invariant ∙ first_such_more (is_against (lock_of c.args.self.now) c.args.node c.args.mode) c.loop-m.m 16 (omega arith) (sym c.is_against.ensures ∙ c.if-is_against.false)

pub returns-then-is_against-clause-least : goal.returns-then-is_against-clause-least
returns-then-is_against-clause-least c =
    sym (c.loop-m.invariant ∙ first_such_found (is_against (lock_of c.args.self.now) c.args.node c.args.mode) c.loop-m.m 16 (omega arith) (sym c.is_against.ensures ∙ c.if-is_against.true))

pub returns-clause-least : goal.returns-clause-least
returns-clause-least c =
    sym (c.loop-m.invariant ∙ first_such_end (is_against (lock_of c.args.self.now) c.args.node c.args.mode) c.loop-m.m 16 (omega arith))
