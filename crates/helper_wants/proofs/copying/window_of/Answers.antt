use Rattle.std.proofs.Common.{◌<◌, sym, ◌∙◌, subst}
use Rattle.mdc_types.specs.Geometry.{chunks_of}
use Rattle.cluster_model.specs.State.{sizes}
use Rattle.world_state.specs.Kept.{Kept, core_of}
use Rattle.helper_wants.proofs.WantLaws.{left_below}
use Rattle.helper_wants.proofs.copying.window_of.Goals as goal

pub window_from-requires : goal.window_from-requires
window_from-requires c =
    let core = core_of c.args.core.now in
    let P : Kept → Type 0 = λ q. c.in_ok-c.c < chunks_of q.identity.geometry in
    subst P (sym c.core.view_is)
    (left_below (sizes core) (core.copy c.args.n).pass c.in_ok-c.c (sym c.todo_chunk.ensures ∙ c.in_ok-c.was))
