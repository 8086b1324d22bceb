use Rattle.std.proofs.Common.{◌∙◌, ap}
use Rattle.leg_failure.specs.Views.{NodeView}
use Rattle.cluster_model.specs.Wishes.{other_faulty}
use Rattle.world_wishes.proofs.guards.other_faulty.Goals as goal

pub returns : goal.returns
returns c = c.first_other_faulty.ensures ∙ ap (λ (v : NodeView). other_faulty v c.args.l) c.view.ensures
