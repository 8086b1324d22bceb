use Rattle.std.proofs.Common.{sym, ◌∙◌, ◌==◌, arith, not, ◌&&◌}
use Rattle.dlm_modes.proofs.FirstLaws.{first_such_more, first_such_found, first_such_end}
use Rattle.mdc_types.specs.Roles.{is_faulty}
use Rattle.leg_failure.specs.Views.{view_of}
use Rattle.world_wishes.proofs.guards.first_other_faulty.Goals as goal

pub loop-j-preserved : goal.loop-j-preserved
loop-j-preserved c = c.loop-j.invariant ∙ first_such_more (λ k. is_faulty ((view_of c.args.view.now).role k) && not (k == c.args.l)) c.loop-j.j 8 (omega arith) (sym c.is_other_faulty.ensures ∙ c.if-is_other_faulty.false)

pub returns-then-is_other_faulty : goal.returns-then-is_other_faulty
returns-then-is_other_faulty c = sym (c.loop-j.invariant ∙ first_such_found (λ k. is_faulty ((view_of c.args.view.now).role k) && not (k == c.args.l)) c.loop-j.j 8 (omega arith) (sym c.is_other_faulty.ensures ∙ c.if-is_other_faulty.true))

pub returns : goal.returns
returns c = sym (c.loop-j.invariant ∙ first_such_end (λ k. is_faulty ((view_of c.args.view.now).role k) && not (k == c.args.l)) c.loop-j.j 8 (omega arith))
