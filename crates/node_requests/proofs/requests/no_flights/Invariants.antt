use Rattle.std.proofs.Common.{◌≡◌}
use Rattle.std.specs.Prelude.{replicate}
use Rattle.mirror_io.specs.Flight.{no_flight}
use Rattle.node_requests.proofs.requests.no_flights.Given as goal

abbrev pub invariant-loop-n : goal.invariant-loop-n
invariant-loop-n l = l.flights.items ≡ replicate l._n no_flight
