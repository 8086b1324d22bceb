-- All that is known of writes, along some ways.
use Rattle.storage_ways.proofs.Parts.{Part}
use Rattle.storage_ways.proofs.Sound.{Sound}
use Rattle.storage_ways.proofs.Ways.{Way, Ways}
use Rattle.storage_ways.proofs.Ways as ways
use Rattle.laws_writes.proofs.Ghosts.{Ghost, ghost_after}
use Rattle.laws_writes.proofs.Bits.{Bits}
use Rattle.laws_writes.proofs.BitSteps.{bits_step}
use Rattle.laws_writes.proofs.Windows.{Windows}
use Rattle.laws_writes.proofs.WindowSteps.{windows_step}
use Rattle.laws_writes.proofs.Contents.{Contents}
use Rattle.laws_writes.proofs.ContentSteps.{contents_step}
use Rattle.laws_writes.proofs.Pages.{Pages}
use Rattle.laws_writes.proofs.PageSteps.{pages_step}
use Rattle.laws_writes.proofs.Intent.{Intents}
use Rattle.laws_writes.proofs.AgainSteps.{intents_step}
use Rattle.laws_writes.proofs.Values.{ValuesAre, BrokenAre, values_step, broken_step}

pub record Written (w : Part) (g : Ghost) : Type 0 where
  pub bits : Bits w
  pub windows : Windows w
  pub contents : Contents w g
  pub pages : Pages w
  pub intents : Intents w g
  pub values : ValuesAre w g
  pub broken : BrokenAre w g

pub written_way : (w v : Part) (x : Way w v) (g : Ghost) → Sound w → Written w g → Written v (ghost_after x g)
written_way w v x g s h = record {
  bits = bits_step w v x s h.bits;
  windows = windows_step w v x s h.windows;
  contents = contents_step w v x g s h.bits h.windows h.contents;
  pages = pages_step w v x s h.pages;
  intents = intents_step w v x g s h.bits h.contents h.pages h.intents;
  values = values_step w v x g h.values;
  broken = broken_step w v x g h.broken;
}

-- the ghosts after some ways
abbrev pub ghost_over : {w v : Part} → Ways w v → Ghost → Ghost
ghost_over ways.none g = g
ghost_over (ways.more xs s x) g = ghost_after x (ghost_over xs g)

pub written_ways : (w v : Part) (xs : Ways w v) (g : Ghost) → Written w g → Written v (ghost_over xs g)
written_ways w v ways.none g h = h
written_ways w v (ways.more {u = u} xs s x) g h = written_way u v x (ghost_over xs g) s (written_ways w u xs g h)
