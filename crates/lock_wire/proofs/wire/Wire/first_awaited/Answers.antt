use Rattle.std.proofs.Common.{sym, ◌∙◌, arith}
use Rattle.dlm_modes.proofs.FirstLaws.{first_such_more, first_such_found, first_such_end}
use Rattle.lock_wire.specs.Machine.{is_awaited}
use Rattle.lock_wire.specs.Parts.{wire_of}
use Rattle.lock_wire.proofs.wire.Wire.first_awaited.Goals as goal

pub loop-n-preserved : goal.loop-n-preserved
loop-n-preserved c =
    c.loop-n.invariant ∙ first_such_more (is_awaited (wire_of c.args.self.now) c.args.res) c.loop-n.n 16 (omega arith) (sym c.is_awaited.ensures ∙ c.if-is_awaited.false)

pub returns-then-is_awaited : goal.returns-then-is_awaited
returns-then-is_awaited c =
    sym (c.loop-n.invariant ∙ first_such_found (is_awaited (wire_of c.args.self.now) c.args.res) c.loop-n.n 16 (omega arith) (sym c.is_awaited.ensures ∙ c.if-is_awaited.true))

pub returns : goal.returns
returns c =
    sym (c.loop-n.invariant ∙ first_such_end (is_awaited (wire_of c.args.self.now) c.args.res) c.loop-n.n 16 (omega arith))
