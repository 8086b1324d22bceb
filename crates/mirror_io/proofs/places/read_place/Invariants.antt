use Rattle.std.proofs.Common.{◌≡◌, drop}
use Rattle.mirror_io.specs.Flight.{read_in}
use Rattle.mirror_io.proofs.places.read_place.Given as goal

abbrev pub invariant-loop-i : goal.invariant-loop-i
invariant-loop-i l = read_in l.k l.reads ≡ read_in l.k (drop l.i l.reads)
