use Rattle.std.proofs.Common.{ap, ◌∙◌}
use Rattle.node_bitmaps.specs.Bitmap.{first_unmarked}
use Rattle.cluster_model.specs.State.{sizes}
use Rattle.world_state.specs.Kept.{core_of}
use Rattle.helper_lines.proofs.pages.unmarked.Goals as goal

pub returns : goal.returns
returns c = c.unmarked_on.ensures ∙ ap (first_unmarked (sizes (core_of c.args.core.now)) ((core_of c.args.core.now).bitmap c.args.n)) c.targets.ensures
