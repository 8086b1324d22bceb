-- All that is known of a part where a way begins.
use Rattle.storage_ways.proofs.Parts.{Part}
use Rattle.storage_ways.proofs.Sound.{Sound}
use Rattle.laws_writes.proofs.Ghosts.{Ghost}
use Rattle.laws_writes.proofs.Bits.{Bits}
use Rattle.laws_writes.proofs.Pages.{Pages}
use Rattle.laws_writes.proofs.Settled.{Since, Settled}
use Rattle.laws_pending.proofs.Ghosts.{Pend}
use Rattle.laws_pending.proofs.Pending.{Pendings}

pub record Known (w : Part) (g : Ghost) (z : Since) (p : Pend) : Type 0 where
  pub sound : Sound w
  pub bits : Bits w
  pub pages : Pages w
  pub settled : Settled w z
  pub pendings : Pendings w g z p
