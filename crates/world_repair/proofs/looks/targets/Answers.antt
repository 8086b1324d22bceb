use Rattle.std.proofs.Common.{ap, ◌∙◌}
use Rattle.std.proofs.Math.Path.{fun_ext}
use Rattle.leg_failure.specs.Views.{NodeView, is_target}
use Rattle.world_repair.proofs.looks.targets.Goals as goal

pub returns : goal.returns
returns c = fun_ext (λ l. c.targets.ensures l ∙ ap (λ (v : NodeView). is_target v l) c.view.ensures)
