use Rattle.std.proofs.Common.{◌≡◌}
use Rattle.turn_table.specs.Seats.{seen, numbers}
use Rattle.turn_table.specs.Turns.{IsSeatOf}
use Rattle.turn_table.proofs.turns.Turn.act.Given as goal

abbrev pub invariant-loop : goal.invariant-loop
invariant-loop g l = record {
  goes_on : (goal.iterator-loop g).can_next l.iterator' × (goal.iterator-loop g).is_finite l.iterator';
  seat_of : IsSeatOf l.self l.seat;
  same_numbers : numbers l.seat ≡ numbers l.initial.seat;
  same_seen : seen l.seat ≡ seen l.initial.seat;
  same_act : l.act ≡ l.initial.act;
}
