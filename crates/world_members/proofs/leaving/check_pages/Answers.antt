use Rattle.std.proofs.Math.Path.{fun_ext}
use Rattle.std.proofs.Common.{ap, ◌∙◌}
use Rattle.leg_failure.specs.Views.{is_target}
use Rattle.world_members.proofs.leaving.check_pages.Goals as goal

pub old_target-requires-clause-targets : goal.old_target-requires-clause-targets
old_target-requires-clause-targets c = fun_ext c.targets.ensures ∙ ap is_target c.view.ensures
