use Rattle.std.proofs.Common.{sym, ◌∙◌, arith}
use Rattle.dlm_modes.proofs.FirstLaws.{first_such_more, first_such_found, first_such_end, first_such_start}
use Rattle.cluster_model.specs.Joining.{is_newest}
use Rattle.world_members.specs.Tries.{tries_of}
use Rattle.world_members.proofs.newest.newest_leg.Goals as goal

pub loop-l-init : goal.loop-l-init
loop-l-init c = first_such_start (is_newest (tries_of c.args.tried.now)) 8

pub loop-l-preserved : goal.loop-l-preserved
loop-l-preserved c =
    c.loop-l.invariant ∙ first_such_more (is_newest (tries_of c.args.tried.now)) c.loop-l.l 8 (omega arith) (sym c.is_newest.ensures ∙ c.if-is_newest.false)

pub returns-then-is_newest-clause-leg : goal.returns-then-is_newest-clause-leg
returns-then-is_newest-clause-leg c =
    sym (c.loop-l.invariant ∙ first_such_found (is_newest (tries_of c.args.tried.now)) c.loop-l.l 8 (omega arith) (sym c.is_newest.ensures ∙ c.if-is_newest.true))

pub returns-clause-leg : goal.returns-clause-leg
returns-clause-leg c = sym (c.loop-l.invariant ∙ first_such_end (is_newest (tries_of c.args.tried.now)) c.loop-l.l 8 (omega arith))
