use Rattle.std.proofs.Common.{◌≡◌}
use Rattle.cluster_core.specs.Stands.{stand}
use Rattle.auto_driver.specs.Helping.{Helped}
use Rattle.auto_driver.proofs.helping.auto.Given as goal

abbrev pub invariant-loop-made : goal.invariant-loop-made
invariant-loop-made g l = record {
  helped : Helped l.made (stand l.fn.world) (stand l.world);
  origin : l.world.origin ≡ l.fn.world.origin;
}
