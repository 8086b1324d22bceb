use Rattle.std.proofs.Common.{map, refl, arith}
use Rattle.world_state.specs.Kept.{core_of}
use Rattle.world_state.specs.Told.{legs_of}
use Rattle.cluster_core.proofs.world.World.open.Goals as goal

pub invariant_of-result : goal.invariant_of-result
invariant_of-result g c = record {
  start = record { core = core_of c.in-Ok.core; legs = legs_of (map g.L.LegDev.contents c.args.legs.items) };
  opens = record { origin = c.requires.origin; core = c.in-Ok.ensures; contents = c.requires.contents };
  fits = c.requires.fits;
  run = rw c.new.ensures.items refl;
  few = rw c.new.ensures.items (omega arith);
}
