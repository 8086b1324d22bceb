-- Each way keeps what is known of stale legs.
use Rattle.storage_ways.proofs.Parts.{Part}
use Rattle.storage_ways.proofs.Ways.{Way}
use Rattle.laws_writes.proofs.Ghosts.{Ghost, ghost_after}
use Rattle.laws_writes.proofs.Settled.{Since, since_after}
use Rattle.laws_recovery.proofs.AgainMarkSteps.{again_targets, again_fresh}
use Rattle.laws_recovery.proofs.AgainSteps.{again_arm}
use Rattle.laws_recovery.proofs.CoveredFreshSteps.{covered_fresh}
use Rattle.laws_recovery.proofs.CoveredGoodSteps.{covered_good}
use Rattle.laws_recovery.proofs.CoveredSteps.{covered_arm}
use Rattle.laws_recovery.proofs.Ghosts.{Hold, hold_after}
use Rattle.laws_recovery.proofs.HolderSetSteps.{holder_set, holder_read}
use Rattle.laws_recovery.proofs.HolderSteps.{holder, holder_working, holder_good}
use Rattle.laws_recovery.proofs.Known.{Known}
use Rattle.laws_recovery.proofs.Stale.{Stale}
use Rattle.laws_recovery.proofs.StaleSteps.{not_stale, buffer_value}

pub stale_step : (w v : Part) (x : Way w v) (g : Ghost) (h : Hold) (z : Since) → Known w g h z → Stale v (ghost_after x g) (hold_after x g h) (since_after x z)
stale_step w v x g h z a = record {
  not_stale = not_stale w v x g h z a;
  buffer_value = buffer_value w v x g h z a;
  holder = holder w v x g h z a;
  holder_working = holder_working w v x g h z a;
  holder_good = holder_good w v x g h z a;
  holder_set = holder_set w v x g h z a;
  holder_read = holder_read w v x g h z a;
  again_arm = again_arm w v x g h z a;
  again_targets = again_targets w v x g h z a;
  again_fresh = again_fresh w v x g h z a;
  covered_arm = covered_arm w v x g h z a;
  covered_good = covered_good w v x g h z a;
  covered_fresh = covered_fresh w v x g h z a;
}
