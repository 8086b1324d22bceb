use Rattle.std.proofs.Common.{ap, ◌∙◌}
use Rattle.cluster_model.specs.Joining.{view_from}
use Rattle.world_state.specs.Kept.{core_of}
use Rattle.world_members.proofs.joining.newest_view.Goals as goal

pub returns-in-Some : goal.returns-in-Some
returns-in-Some c = c.view_from.ensures ∙ ap (view_from ((core_of c.args.core.now).tried c.args.n)) c.in-Some.ensures
