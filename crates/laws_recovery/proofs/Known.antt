-- All that is known of a part where a way begins.
use Rattle.storage_ways.proofs.Parts.{Part}
use Rattle.storage_ways.proofs.Sound.{Sound}
use Rattle.laws_writes.proofs.Ghosts.{Ghost}
use Rattle.laws_writes.proofs.Bits.{Bits}
use Rattle.laws_writes.proofs.Windows.{Windows}
use Rattle.laws_writes.proofs.Contents.{Contents}
use Rattle.laws_writes.proofs.Pages.{Pages}
use Rattle.laws_writes.proofs.Intent.{Intents}
use Rattle.laws_writes.proofs.Settled.{Since, Settled}
use Rattle.laws_recovery.proofs.Ghosts.{Hold}
use Rattle.laws_recovery.proofs.Stale.{Stale}

pub record Known (w : Part) (g : Ghost) (h : Hold) (z : Since) : Type 0 where
  pub sound : Sound w
  pub bits : Bits w
  pub windows : Windows w
  pub contents : Contents w g
  pub pages : Pages w
  pub intents : Intents w g
  pub settled : Settled w z
  pub stale : Stale w g h z
