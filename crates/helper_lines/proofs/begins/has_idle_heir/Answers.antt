use Rattle.std.proofs.Common.{◌∙◌}
use Rattle.cluster_model.specs.State.{Core}
use Rattle.cluster_model.specs.Recovering.{pending_heir}
use Rattle.world_state.specs.Kept.{core_of}
use Rattle.helper_lines.proofs.Looking.{ok_is}
use Rattle.helper_lines.proofs.begins.has_idle_heir.Goals as goal

pub returns : goal.returns
returns c =
    let core : Core = core_of c.args.core.now in
    c.is_ok.ensures.value ∙ ok_is c.check_heir.result (pending_heir core.members (core.members.heir c.args.d)) c.check_heir.ensures
