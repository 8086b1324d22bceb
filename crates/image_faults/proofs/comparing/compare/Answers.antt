use Rattle.std.proofs.Common.{sym, ◌∙◌, arith, length}
use Rattle.dlm_modes.proofs.FirstLaws.{first_such_more, first_such_found, first_such_end}
use Rattle.image_faults.specs.Compare.{differs_at}
use Rattle.image_faults.proofs.comparing.compare.Goals as goal

pub loop-i-preserved : goal.loop-i-preserved
loop-i-preserved c = c.loop-i.invariant ∙ first_such_more (differs_at c.args.a.now c.args.b.now) c.loop-i.i (length c.args.a.now) (omega arith) (sym c.differs_at.ensures ∙ c.if-differs_at.false)

pub returns-then-differs_at : goal.returns-then-differs_at
returns-then-differs_at c = sym (c.loop-i.invariant ∙ first_such_found (differs_at c.args.a.now c.args.b.now) c.loop-i.i (length c.args.a.now) (omega arith) (sym c.differs_at.ensures ∙ c.if-differs_at.true))

pub returns : goal.returns
returns c = sym (c.loop-i.invariant ∙ first_such_end (differs_at c.args.a.now c.args.b.now) c.loop-i.i (length c.args.a.now) (omega arith))
