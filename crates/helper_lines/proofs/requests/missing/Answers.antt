use Rattle.std.proofs.Common.{◌∙◌, ap}
use Rattle.mirror_io.specs.Flight.{write_in, missing_of}
use Rattle.leg_failure.specs.Views.{NodeView, is_target}
use Rattle.node_requests.specs.Requests.{writes_of}
use Rattle.world_state.specs.Kept.{Kept, core_of}
use Rattle.world_io.proofs.Judging.{missing_same}
use Rattle.helper_lines.proofs.requests.missing.Goals as goal

pub returns : goal.returns
returns c =
    c.missing.ensures ∙ ap (λ (k : Kept). missing_of c.targets.result (write_in c.args.k (writes_of k.requests c.args.n))) c.core.view_is
    ∙ missing_same (core_of c.args.core.now) c.args.n c.targets.result _ (λ l. c.targets.ensures l ∙ ap (λ (v : NodeView). is_target v l) c.view.ensures)
