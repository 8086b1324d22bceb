use Rattle.std.proofs.Common.{◌≡◌, ◌==◌, true, false, ◌∙◌, arith}
use Rattle.std.proofs.lemmas.Bool.Decides.{nat_tests}
use Rattle.mdc_types.specs.Bits.{with_bit}
use Rattle.leg_failure.specs.Views.{view_of}
use Rattle.leg_failure.proofs.ViewLaws.{lost_same, last_single, answers_last, answers_lost, lost_more}
use Rattle.leg_failure.proofs.view.View.lose.Goals as goal

pub returns-then-working-bits-clause-answer : goal.returns-then-working-bits-clause-answer
returns-then-working-bits-clause-answer c =
    let leg : c.bits.result ≡ with_bit 0 c.args.l = c.bits.ensures tt ∙ c.of-leg.ensures in
    let is : (c.working.result == with_bit 0 c.args.l) ≡ true = grind (arith, nat_tests) in
    answers_last (view_of c.args.self.now) c.args.l (last_single (view_of c.args.self.now) c.working.result c.args.l (omega arith) c.requires c.working.ensures ∙ is)

pub returns-clause-answer : goal.returns-clause-answer
returns-clause-answer c =
    let leg : c.bits.result ≡ with_bit 0 c.args.l = c.bits.ensures tt ∙ c.of-leg.ensures in
    let is : (c.working.result == with_bit 0 c.args.l) ≡ false = grind (arith, nat_tests) in
    answers_lost (view_of c.args.self.now) c.args.l (last_single (view_of c.args.self.now) c.working.result c.args.l (omega arith) c.requires c.working.ensures ∙ is)

pub returns-clause-lost : goal.returns-clause-lost
returns-clause-lost c = λ _. rw (← c.self.view_is) (lost_same _ _ (lost_more c.self.inside.lost.0 c.of-leg.result.0 c.either-self-inside.result.0 c.args.l c.of-leg.ensures c.either-self-inside.ensures))
