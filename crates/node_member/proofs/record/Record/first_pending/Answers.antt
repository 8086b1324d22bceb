use Rattle.std.proofs.Common.{sym, ◌∙◌, arith}
use Rattle.dlm_modes.proofs.FirstLaws.{first_such_more, first_such_found, first_such_end}
use Rattle.node_member.specs.Parts.{members_of}
use Rattle.node_member.proofs.record.Record.first_pending.Goals as goal

pub loop-d-preserved : goal.loop-d-preserved
loop-d-preserved c = c.loop-d.invariant ∙ first_such_more (members_of c.args.self.now).pending c.loop-d.d 16 (omega arith) (sym c.pending.ensures ∙ c.if-pending.false)

pub returns-then-pending-clause-slot : goal.returns-then-pending-clause-slot
returns-then-pending-clause-slot c = sym (c.loop-d.invariant ∙ first_such_found (members_of c.args.self.now).pending c.loop-d.d 16 (omega arith) (sym c.pending.ensures ∙ c.if-pending.true))

pub returns-clause-slot : goal.returns-clause-slot
returns-clause-slot c = sym (c.loop-d.invariant ∙ first_such_end (members_of c.args.self.now).pending c.loop-d.d 16 (omega arith))
