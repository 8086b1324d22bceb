use Rattle.std.proofs.Common.{◌≡◌, ◌<◌, ◌++◌, List, length, vec_len}
use Rattle.turn_table.specs.Gathered.{Gathers}
use Rattle.turn_table.specs.declared.seats.Seat.{Seat}
use Rattle.turn_table.proofs.steps.take_in_all.Given as goal

-- the seats that are done stood behind those that are left
abbrev pub invariant-loop-seat : goal.invariant-loop-seat
invariant-loop-seat g l =
    (done : List (Seat g.row.T.Denot g.row.T-Item.Denot g.row.T-Origin.Denot g.T.Story)) × record {
      in_order : l.initial.seats.items ≡ l.seats.items ++ done;
      same_table : l.place.table_id ≡ l.initial.place.table_id;
      same_hand : l.place.me.1 ≡ l.initial.place.me.1;
      gathered : Gathers l.initial.place.me.0 done l.place.me.0;
    }

abbrev pub decreases-loop-seat : goal.decreases-loop-seat
decreases-loop-seat g l = vec_len l.seats
