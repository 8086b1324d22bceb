use Rattle.std.proofs.Common.{sym, ap, ◌∙◌, arith}
use Rattle.std.specs.Prelude.{is_some}
use Rattle.dlm_modes.proofs.FirstLaws.{first_such_more, first_such_found, first_such_end}
use Rattle.mdc_types.specs.Roles.{role_of, is_working}
use Rattle.cluster_msgs.proofs.msg.has_working.Goals as goal

pub loop-l-preserved : goal.loop-l-preserved
loop-l-preserved c = c.loop-l.invariant ∙ first_such_more (λ k. is_working (role_of c.args.roles.now k)) c.loop-l.l 8 (omega arith) (sym c.is_working.ensures ∙ c.if-is_working.false)

pub returns-then-is_working : goal.returns-then-is_working
returns-then-is_working c = sym (ap is_some (c.loop-l.invariant ∙ first_such_found (λ k. is_working (role_of c.args.roles.now k)) c.loop-l.l 8 (omega arith) (sym c.is_working.ensures ∙ c.if-is_working.true)))

pub returns : goal.returns
returns c = sym (ap is_some (c.loop-l.invariant ∙ first_such_end (λ k. is_working (role_of c.args.roles.now k)) c.loop-l.l 8 (omega arith)))
