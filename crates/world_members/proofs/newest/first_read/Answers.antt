use Rattle.std.proofs.Common.{sym, ◌∙◌, arith}
use Rattle.dlm_modes.proofs.FirstLaws.{first_such_more, first_such_found, first_such_end, first_such_start}
use Rattle.cluster_model.specs.Joining.{was_read}
use Rattle.world_members.specs.Tries.{tries_of}
use Rattle.world_members.proofs.newest.first_read.Goals as goal

pub loop-l-init : goal.loop-l-init
loop-l-init c = first_such_start (was_read (tries_of c.args.tried.now) c.args.roles.now) 8

pub loop-l-preserved : goal.loop-l-preserved
loop-l-preserved c =
    c.loop-l.invariant ∙ first_such_more (was_read (tries_of c.args.tried.now) c.args.roles.now) c.loop-l.l 8 (omega arith) (sym c.was_read.ensures ∙ c.if-was_read.false)

pub returns-then-was_read : goal.returns-then-was_read
returns-then-was_read c =
    sym (c.loop-l.invariant ∙ first_such_found (was_read (tries_of c.args.tried.now) c.args.roles.now) c.loop-l.l 8 (omega arith) (sym c.was_read.ensures ∙ c.if-was_read.true))

pub returns : goal.returns
returns c = sym (c.loop-l.invariant ∙ first_such_end (was_read (tries_of c.args.tried.now) c.args.roles.now) c.loop-l.l 8 (omega arith))
