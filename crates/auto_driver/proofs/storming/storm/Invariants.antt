use Rattle.std.proofs.Common.{◌≡◌}
use Rattle.cluster_core.specs.Stands.{stand}
use Rattle.auto_driver.specs.Storming.{Storms}
use Rattle.auto_driver.proofs.storming.storm.Given as goal

abbrev pub invariant-loop-i : goal.invariant-loop-i
invariant-loop-i g l = record {
  storms : Storms l.k l.fn.seed l.i (stand l.fn.world) (record { at = stand l.world; seed = l.x; cut = l.cut; counts = l.counts });
  origin : l.world.origin ≡ l.fn.world.origin;
}
