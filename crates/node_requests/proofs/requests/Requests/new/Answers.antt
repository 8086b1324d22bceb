use Rattle.mirror_io.specs.Flight.{Flight}
use Rattle.node_requests.proofs.Guarded.{none_new}
use Rattle.node_requests.proofs.requests.Requests.new.Goals as goal

pub returns-clause-writes : goal.returns-clause-writes
returns-clause-writes c = none_new (λ (f : Flight). f.writes) _ c.in_ok-no_flights.ensures

pub returns-clause-reads : goal.returns-clause-reads
returns-clause-reads c = none_new (λ (f : Flight). f.reads) _ c.in_ok-no_flights.ensures

pub returns-clause-writes_made : goal.returns-clause-writes_made
returns-clause-writes_made c = none_new (λ (f : Flight). f.writes_made) _ c.in_ok-no_flights.ensures

pub returns-clause-reads_made : goal.returns-clause-reads_made
returns-clause-reads_made c = none_new (λ (f : Flight). f.reads_made) _ c.in_ok-no_flights.ensures
