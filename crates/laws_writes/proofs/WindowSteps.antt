-- Each way keeps what is known of windows.
use Rattle.storage_ways.proofs.Parts.{Part}
use Rattle.storage_ways.proofs.Sound.{Sound}
use Rattle.storage_ways.proofs.Ways.{Way}
use Rattle.laws_writes.proofs.Windows.{Windows}
use Rattle.laws_writes.proofs.ListSteps.{list_own, loaded_own, own_up, no_list, block_own}
use Rattle.laws_writes.proofs.RangeSteps.{window_own, range_own, range_shut, own_why}
use Rattle.laws_writes.proofs.FormSteps.{range_form, own_form, own_some, window_pass, range_pass}
use Rattle.laws_writes.proofs.NoWriteSteps.{no_write_there}

pub windows_step : (w v : Part) → Way w v → Sound w → Windows w → Windows v
windows_step w v x sound win = record {
  list_own = list_own w v x sound win;
  window_own = window_own w v x sound win;
  range_own = range_own w v x sound win;
  range_shut = range_shut w v x sound win;
  no_write_there = no_write_there w v x sound win;
  loaded_own = loaded_own w v x sound win;
  block_own = block_own w v x sound win;
  own_why = own_why w v x sound win;
  own_up = own_up w v x sound win;
  no_list = no_list w v x sound win;
  range_form = range_form w v x sound win;
  own_form = own_form w v x sound win;
  own_some = own_some w v x sound win;
  window_pass = window_pass w v x sound win;
  range_pass = range_pass w v x sound win;
}
