-- What is promised of a world.
use Rattle.std.specs.Prelude.{◌≢◌}
use Rattle.cluster_model.specs.State.{State}
use Rattle.cluster_model.specs.Contents.{Opens, AllTell}
use Rattle.cluster_model.specs.Run.{Run}
use Rattle.laws_promises.specs.Laws.{Guarantees, Promised}
use Rattle.cluster_core.specs.World.{Seen, Reachable, state}

-- There is a run that led the world from its opening to where it is, and each such run has what all
-- runs guarantee. Where the opening is that of a header, which has members, and the legs tell their
-- contents, the run is as promised.
pub record KeepsPromises (w : Seen) : Type 0 where
  pub reachable : Reachable w
  pub guarantees : (start : State) → Opens w.origin start → Run start w.past (state w)
      → Guarantees w.origin start w.past (state w)
  pub header : w.origin.members ≢ 0 → AllTell w.origin (state w).legs
      → Promised w.origin reachable.start w.past (state w)
