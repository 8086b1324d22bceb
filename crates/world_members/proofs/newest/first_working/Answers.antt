use Rattle.std.proofs.Common.{sym, ◌∙◌, arith}
use Rattle.dlm_modes.proofs.FirstLaws.{first_such_more, first_such_found, first_such_end, first_such_start}
use Rattle.mdc_types.specs.Roles.{role_of, is_working}
use Rattle.world_members.proofs.newest.first_working.Goals as goal

pub loop-l-init : goal.loop-l-init
loop-l-init c = first_such_start (λ j. is_working (role_of c.args.roles.now j)) 8

pub loop-l-preserved : goal.loop-l-preserved
loop-l-preserved c =
    c.loop-l.invariant ∙ first_such_more (λ j. is_working (role_of c.args.roles.now j)) c.loop-l.l 8 (omega arith) (sym c.is_working.ensures ∙ c.if-is_working.false)

pub returns-then-is_working : goal.returns-then-is_working
returns-then-is_working c =
    sym (c.loop-l.invariant ∙ first_such_found (λ j. is_working (role_of c.args.roles.now j)) c.loop-l.l 8 (omega arith) (sym c.is_working.ensures ∙ c.if-is_working.true))

pub returns : goal.returns
returns c = sym (c.loop-l.invariant ∙ first_such_end (λ j. is_working (role_of c.args.roles.now j)) c.loop-l.l 8 (omega arith))
