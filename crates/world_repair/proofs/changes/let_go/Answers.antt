use Rattle.std.proofs.Common.{ap, ◌∙◌}
use Rattle.dlm_modes.specs.Points.{with_at}
use Rattle.dlm_space.specs.Locks.{Lock}
use Rattle.cluster_model.specs.State.{Core}
use Rattle.world_state.specs.Kept.{core_of}
use Rattle.world_repair.proofs.Changing.{released-none}
use Rattle.world_repair.proofs.changes.let_go.Goals as goal

pub returns : goal.returns
returns c =
    let with_lock : Lock → Core = λ lock. record (core_of c.args.core.now) { locks = with_at (core_of c.args.core.now).locks c.args.res lock } in
    c.release.ensures ∙ ap with_lock (released-none ((core_of c.args.core.now).locks c.args.res) c.args.n)
