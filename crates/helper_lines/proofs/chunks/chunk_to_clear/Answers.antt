use Rattle.std.proofs.Common.{sym, ◌∙◌}
use Rattle.cluster_model.specs.State.{Core}
use Rattle.world_state.specs.Kept.{core_of}
use Rattle.helper_lines.proofs.Clearing.{clear_none, clear_some, clear_refused}
use Rattle.helper_lines.proofs.chunks.chunk_to_clear.Goals as goal

pub returns-in_err-c : goal.returns-in_err-c
returns-in_err-c c =
    let core : Core = core_of c.args.core.now in
    c.from_residual.ensures ∙ sym (clear_none core c.args.n (sym c.in_err-c.ensures))

pub returns-in-Ok : goal.returns-in-Ok
returns-in-Ok c =
    let core : Core = core_of c.args.core.now in
    sym (clear_some core c.args.n c.in_ok-c.c (sym c.in_ok-c.ensures) c.in-Ok.ensures)

pub returns-in-Err : goal.returns-in-Err
returns-in-Err c =
    let core : Core = core_of c.args.core.now in
    sym (clear_refused core c.args.n c.in_ok-c.c c.in-Err.field-0 (sym c.in_ok-c.ensures) c.in-Err.ensures)
