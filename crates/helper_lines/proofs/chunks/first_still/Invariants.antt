use Rattle.std.proofs.Common.{◌≡◌, ◌-◌}
use Rattle.dlm_modes.specs.First.{first_such}
use Rattle.mdc_types.specs.Geometry.{chunks_of}
use Rattle.cluster_model.specs.State.{sizes}
use Rattle.world_state.specs.Kept.{core_of}
use Rattle.helper_lines.specs.Chunks.{is_still}
use Rattle.helper_lines.proofs.chunks.first_still.Given as goal

abbrev pub invariant-loop-c : goal.invariant-loop-c
invariant-loop-c l =
    first_such (is_still (core_of l.core) l.n) 0 (chunks_of (sizes (core_of l.core)))
    ≡ first_such (is_still (core_of l.core) l.n) l.from (chunks_of (sizes (core_of l.core)) - l.from)

abbrev pub decreases-loop-c : goal.decreases-loop-c
decreases-loop-c l = chunks_of (sizes (core_of l.core)) - l.from
