use Rattle.std.proofs.Common.{◌≡◌, drop}
use Rattle.mirror_io.specs.Flight.{read_from}
use Rattle.mirror_io.proofs.places.first_read_from.Given as goal

abbrev pub invariant-loop-i : goal.invariant-loop-i
invariant-loop-i l = read_from l.k l.reads ≡ read_from l.k (drop l.i l.reads)
