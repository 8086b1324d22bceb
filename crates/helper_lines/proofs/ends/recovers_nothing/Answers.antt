use Rattle.std.proofs.Common.{sym, ap, ◌∙◌}
use Rattle.std.specs.Prelude.{is_some}
use Rattle.node_recovery.specs.Progress.{Recovering}
use Rattle.world_state.specs.Kept.{core_of}
use Rattle.helper_lines.proofs.Looking.{some_map, none_is}
use Rattle.helper_lines.proofs.ends.recovers_nothing.Goals as goal

pub returns : goal.returns
returns c =
    let x = (core_of c.args.core.now).recovery c.args.n in
    none_is x c.is_none.result (sym (some_map (λ (r : Recovering). r.slot) x) ∙ ap is_some (sym c.slot.ensures.value) ∙ c.is_none.ensures)
