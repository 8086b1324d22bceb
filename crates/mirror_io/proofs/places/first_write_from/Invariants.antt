use Rattle.std.proofs.Common.{◌≡◌, drop}
use Rattle.mirror_io.specs.Flight.{write_from}
use Rattle.mirror_io.proofs.places.first_write_from.Given as goal

abbrev pub invariant-loop-i : goal.invariant-loop-i
invariant-loop-i l = write_from l.k l.writes ≡ write_from l.k (drop l.i l.writes)
