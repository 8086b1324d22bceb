use Rattle.std.proofs.Common.{sym, ◌∙◌, arith, is_none}
use Rattle.dlm_modes.proofs.FirstLaws.{first_such_more, first_such_found, first_such_end}
use Rattle.node_member.specs.Members.{begin_refusal}
use Rattle.node_member.specs.Parts.{members_of}
use Rattle.node_member.proofs.record.Record.first_to_begin.Goals as goal

pub loop-d-preserved : goal.loop-d-preserved
loop-d-preserved c = c.loop-d.invariant ∙ first_such_more (λ d. is_none (begin_refusal (members_of c.args.self.now) d)) c.loop-d.d 16 (omega arith) (sym c.can_begin.ensures ∙ c.if-can_begin.false)

pub returns-then-can_begin-clause-slot : goal.returns-then-can_begin-clause-slot
returns-then-can_begin-clause-slot c = sym (c.loop-d.invariant ∙ first_such_found (λ d. is_none (begin_refusal (members_of c.args.self.now) d)) c.loop-d.d 16 (omega arith) (sym c.can_begin.ensures ∙ c.if-can_begin.true))

pub returns-clause-slot : goal.returns-clause-slot
returns-clause-slot c = sym (c.loop-d.invariant ∙ first_such_end (λ d. is_none (begin_refusal (members_of c.args.self.now) d)) c.loop-d.d 16 (omega arith))
