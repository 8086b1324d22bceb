use Rattle.std.proofs.Common.{◌≡◌, ap, ◌∙◌}
use Rattle.leg_failure.specs.Views.{NodeView, works}
use Rattle.storm_turns.proofs.nodes.works.Goals as goal

pub returns : goal.returns
returns c = c.has_leg.ensures ∙ c.working.ensures c.args.l ∙ ap (λ (v : NodeView). works v c.args.l) c.view.ensures
