use Rattle.std.proofs.Common.{ap, ◌∙◌}
use Rattle.std.proofs.Math.Path.{fun_ext}
use Rattle.leg_failure.specs.Views.{NodeView, works}
use Rattle.world_repair.proofs.looks.working.Goals as goal

pub returns : goal.returns
returns c = fun_ext (λ l. c.working.ensures l ∙ ap (λ (v : NodeView). works v l) c.view.ensures)
