-- Each way keeps what is known of pending slots.
use Rattle.storage_ways.proofs.Parts.{Part}
use Rattle.storage_ways.proofs.Ways.{Way}
use Rattle.laws_writes.proofs.Ghosts.{Ghost, ghost_after}
use Rattle.laws_writes.proofs.Settled.{Since, since_after}
use Rattle.laws_pending.proofs.Ghosts.{Pend, pend_after}
use Rattle.laws_pending.proofs.HeirSteps.{read_leg_step, super_leg, born_now, line, since_line, was_heir, since_young}
use Rattle.laws_pending.proofs.Known.{Known}
use Rattle.laws_pending.proofs.MarkSteps.{full, owed_served, owed_called}
use Rattle.laws_pending.proofs.MovedMarks.{moved_kept, moved_bit, moved_heir, moved_full}
use Rattle.laws_pending.proofs.MovedSteps.{moved_found}
use Rattle.laws_pending.proofs.Pending.{Pendings}
use Rattle.laws_pending.proofs.WorkSteps.{work_pending, one_promoted, solo}

pub pendings_step : (w v : Part) (x : Way w v) (g : Ghost) (z : Since) (p : Pend) → Known w g z p → Pendings v (ghost_after x g) (since_after x z) (pend_after x p)
pendings_step w v x g z p a = record {
  read_leg = read_leg_step w v x g z p a;
  super_leg = super_leg w v x g z p a;
  born_now = born_now w v x g z p a;
  line = line w v x g z p a;
  since_line = since_line w v x g z p a;
  was_heir = was_heir w v x g z p a;
  since_young = since_young w v x g z p a;
  work_pending = work_pending w v x g z p a;
  one_promoted = one_promoted w v x g z p a;
  solo = solo w v x g z p a;
  full = full w v x g z p a;
  owed_served = owed_served w v x g z p a;
  owed_called = owed_called w v x g z p a;
  moved_found = moved_found w v x g z p a;
  moved_kept = moved_kept w v x g z p a;
  moved_bit = moved_bit w v x g z p a;
  moved_heir = moved_heir w v x g z p a;
  moved_full = moved_full w v x g z p a;
}
