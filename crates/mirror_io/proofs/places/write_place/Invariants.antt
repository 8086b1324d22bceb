use Rattle.std.proofs.Common.{◌≡◌, drop}
use Rattle.mirror_io.specs.Flight.{write_in}
use Rattle.mirror_io.proofs.places.write_place.Given as goal

abbrev pub invariant-loop-i : goal.invariant-loop-i
invariant-loop-i l = write_in l.k l.writes ≡ write_in l.k (drop l.i l.writes)
