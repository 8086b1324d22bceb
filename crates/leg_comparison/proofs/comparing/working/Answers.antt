use Rattle.std.proofs.Common.{ap, ◌∙◌}
use Rattle.leg_failure.specs.Views.{NodeView, works}
use Rattle.leg_comparison.proofs.comparing.working.Goals as goal

pub returns : goal.returns
returns c = λ l. c.working.ensures l ∙ ap (λ (v : NodeView). works v l) c.view.ensures
