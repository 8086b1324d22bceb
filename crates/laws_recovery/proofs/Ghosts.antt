-- The ghost of what legs missed: a function of the opening and the run.
use Rattle.std.specs.Prelude.{ℕ, ◌==◌, ◌&&◌, if◌then◌else◌}
use Rattle.storage_ways.proofs.Parts.{Part}
use Rattle.storage_ways.proofs.Ways as ways
use Rattle.storage_ways.proofs.Ways.{Way}
use Rattle.laws_writes.proofs.Ghosts.{Ghost, undecided}

pub record Hold : Type 0 where
  -- by leg and sector: the slot that answers for what the leg missed there
  pub hold : ℕ → ℕ → ℕ

-- the sector is decided: its keeper answers, if there were two values
abbrev pub with_keeper : Hold → Ghost → ℕ → Hold
with_keeper h g t = record {
  hold = λ l s. if (s == t) && undecided g t then g.keeper t else h.hold l s;
}

-- what slot d answered for goes to node n, which recovers it
abbrev pub with_heir : Hold → ℕ → ℕ → Hold
with_heir h n d = record { hold = λ l s. if h.hold l s == d then n else h.hold l s }

abbrev pub hold_after : {w v : Part} → Way w v → Ghost → Hold → Hold
hold_after (ways.ends n k x e) g h = with_keeper h g x.sector
hold_after (ways.settles n p b e) g h = with_keeper h g b.sector
hold_after (ways.slot_clears n p l r e) g h = with_heir h n r.slot
hold_after (ways.misses_slot n p l r left e) g h = with_heir h n r.slot
hold_after x g h = h
