use Rattle.std.proofs.Common.{◌≡◌, ◌+◌, length}
use Rattle.world_state.specs.Kept.{core_of}
use Rattle.storm_turns.proofs.Flights.{reads_left}
use Rattle.storm_turns.proofs.nodes.has_few_reads.Given as goal

abbrev pub invariant-loop-seen : goal.invariant-loop-seen
invariant-loop-seen l = length ((core_of l.core).reads l.n) ≡ l.seen + reads_left l.from ((core_of l.core).reads l.n)
