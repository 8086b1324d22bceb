use Rattle.std.proofs.Common.{sym, ◌∙◌, arith}
use Rattle.dlm_modes.proofs.FirstLaws.{first_such_more, first_such_found, first_such_end, first_such_start}
use Rattle.cluster_model.specs.Joining.{is_untried}
use Rattle.world_members.specs.Tries.{tries_of}
use Rattle.world_members.proofs.newest.first_untried.Goals as goal

pub loop-l-init : goal.loop-l-init
loop-l-init c = first_such_start (λ j. is_untried (tries_of c.args.tried.now j)) c.args.legs

pub loop-l-preserved : goal.loop-l-preserved
loop-l-preserved c =
    c.loop-l.invariant ∙ first_such_more (λ j. is_untried (tries_of c.args.tried.now j)) c.loop-l.l c.args.legs (omega arith) (sym c.is_untried.ensures ∙ c.if-is_untried.false)

pub returns-then-is_untried : goal.returns-then-is_untried
returns-then-is_untried c =
    sym (c.loop-l.invariant ∙ first_such_found (λ j. is_untried (tries_of c.args.tried.now j)) c.loop-l.l c.args.legs (omega arith) (sym c.is_untried.ensures ∙ c.if-is_untried.true))

pub returns : goal.returns
returns c = sym (c.loop-l.invariant ∙ first_such_end (λ j. is_untried (tries_of c.args.tried.now j)) c.loop-l.l c.args.legs (omega arith))
