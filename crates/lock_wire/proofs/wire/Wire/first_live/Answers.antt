use Rattle.std.proofs.Common.{sym, ◌∙◌, arith}
use Rattle.dlm_modes.proofs.FirstLaws.{first_such_more, first_such_found, first_such_end}
use Rattle.lock_wire.specs.Parts.{live_of}
use Rattle.lock_wire.proofs.wire.Wire.first_live.Goals as goal

pub loop-n-preserved : goal.loop-n-preserved
loop-n-preserved c =
    c.loop-n.invariant ∙ first_such_more (live_of c.args.self.now.live) c.loop-n.n 16 (omega arith) (sym c.is_live.ensures ∙ c.if-is_live.false)

pub returns-then-is_live-clause-least : goal.returns-then-is_live-clause-least
returns-then-is_live-clause-least c =
    sym (c.loop-n.invariant ∙ first_such_found (live_of c.args.self.now.live) c.loop-n.n 16 (omega arith) (sym c.is_live.ensures ∙ c.if-is_live.true))

pub returns-clause-least : goal.returns-clause-least
returns-clause-least c =
    sym (c.loop-n.invariant ∙ first_such_end (live_of c.args.self.now.live) c.loop-n.n 16 (omega arith))
