-- Each way keeps what is known of contents.
use Rattle.storage_ways.proofs.Parts.{Part}
use Rattle.storage_ways.proofs.Sound.{Sound}
use Rattle.storage_ways.proofs.Ways.{Way}
use Rattle.laws_writes.proofs.Ghosts.{Ghost, ghost_after}
use Rattle.laws_writes.proofs.Bits.{Bits}
use Rattle.laws_writes.proofs.Windows.{Windows}
use Rattle.laws_writes.proofs.Contents.{Contents}
use Rattle.laws_writes.proofs.PlaceSteps.{buffer_place, reached_place, reached_within}
use Rattle.laws_writes.proofs.CopySteps.{settled_decided, covered_settled, buffer_done}
use Rattle.laws_writes.proofs.FlightSteps.{done_holds, done_started, started_value, started_undecided}
use Rattle.laws_writes.proofs.BrokeSteps.{broke_live, broke_need, broke_undecided, some_value}
use Rattle.laws_writes.proofs.UndecidedSteps.{undecided_within}

pub contents_step : (w v : Part) (x : Way w v) (g : Ghost) → Sound w → Bits w → Windows w → Contents w g → Contents v (ghost_after x g)
contents_step w v x g sound bits win con = record {
  buffer_place = buffer_place w v x g sound win con;
  reached_place = reached_place w v x g sound win con;
  reached_within = reached_within w v x g sound win con;
  settled_decided = settled_decided w v x g sound win con;
  buffer_done = buffer_done w v x g sound win con;
  done_holds = done_holds w v x g sound bits win con;
  done_started = done_started w v x g sound bits win con;
  started_value = started_value w v x g sound bits win con;
  started_undecided = started_undecided w v x g sound bits win con;
  covered_settled = covered_settled w v x g sound win con;
  broke_live = broke_live w v x g sound con;
  broke_need = broke_need w v x g sound con;
  broke_undecided = broke_undecided w v x g sound con;
  undecided_within = undecided_within w v x g con.undecided_within;
  some_value = some_value w v x g con;
}
