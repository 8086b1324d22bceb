use Rattle.std.proofs.Common.{ap, ◌∙◌}
use Rattle.node_bitmaps.specs.Bitmap.{first_old}
use Rattle.cluster_model.specs.State.{sizes}
use Rattle.world_state.specs.Kept.{core_of}
use Rattle.helper_lines.proofs.pages.old.Goals as goal

pub returns : goal.returns
returns c = c.old_on.ensures ∙ ap (first_old (sizes (core_of c.args.core.now)) ((core_of c.args.core.now).bitmap c.args.n)) c.targets.ensures
