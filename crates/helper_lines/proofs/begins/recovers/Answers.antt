use Rattle.std.proofs.Common.{ap, ◌∙◌}
use Rattle.std.specs.Prelude.{is_some}
use Rattle.node_recovery.specs.Progress.{Recovering}
use Rattle.world_state.specs.Kept.{core_of}
use Rattle.helper_lines.proofs.Looking.{some_map}
use Rattle.helper_lines.proofs.begins.recovers.Goals as goal

pub returns : goal.returns
returns c = c.is_some.ensures ∙ ap is_some c.slot.ensures.value ∙ some_map (λ (r : Recovering). r.slot) ((core_of c.args.core.now).recovery c.args.n)
