use Rattle.std.proofs.Common.{sym, ◌∙◌}
use Rattle.mdc_types.specs.declared.events.Event.TheVariants.{Clear}
use Rattle.cluster_model.specs.State.{Core}
use Rattle.driver_rules.specs.Lines.{chunk_to_clear}
use Rattle.world_state.specs.Kept.{core_of}
use Rattle.helper_lines.proofs.Alternatives.{at_none}
use Rattle.helper_lines.proofs.Clearing.{clear_allowed}
use Rattle.helper_lines.proofs.chunks.clearing.Goals as goal

pub returns-in_err-c : goal.returns-in_err-c
returns-in_err-c c =
    let core : Core = core_of c.args.core.now in
    c.from_residual.ensures ∙ sym (at_none core (Clear c.args.n) (chunk_to_clear core c.args.n) (sym c.in_err-c.ensures))

pub returns : goal.returns
returns c =
    let core : Core = core_of c.args.core.now in
    sym (clear_allowed core c.args.n c.in_ok-c.c (sym c.in_ok-c.ensures))
