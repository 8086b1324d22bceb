use Rattle.std.proofs.Common.{◌≡◌, drop}
use Rattle.mirror_io.specs.Flight.{write_within}
use Rattle.mirror_io.proofs.places.first_within.Given as goal

abbrev pub invariant-loop-i : goal.invariant-loop-i
invariant-loop-i l = write_within l.r.lo l.r.hi l.writes ≡ write_within l.r.lo l.r.hi (drop l.i l.writes)
