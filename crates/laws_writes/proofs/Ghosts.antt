-- The ghosts of writes: functions of the opening and the run that name what answers for an open
-- write.
use Rattle.std.specs.Prelude.{ℕ, ◌==◌, Bool, true, false, not, ◌&&◌, ◌||◌, if◌then◌else◌, List, [], ◌∷◌, ◌++◌}
use Rattle.std.specs.Str.{bytes_eq}
use Rattle.mdc_types.specs.declared.numbers.Sector.{Sector}
use Rattle.mirror_io.specs.declared.live.LiveWrite.{LiveWrite}
use Rattle.storage_ways.proofs.Parts.{Part}
use Rattle.storage_ways.proofs.Ways as ways
use Rattle.storage_ways.proofs.Ways.{Way}

-- the sectors are the same
abbrev pub same_sector : Sector → Sector → Bool
same_sector v u = bytes_eq v.bytes u.bytes

-- v is one of the values
abbrev pub is_among : Sector → List Sector → Bool
is_among v [] = false
is_among v (u ∷ us) = same_sector v u || is_among v us

-- there is a value
abbrev pub has_value : List Sector → Bool
has_value [] = false
has_value (v ∷ us) = true

-- there are two values at least
abbrev pub is_open : List Sector → Bool
is_open [] = false
is_open (v ∷ []) = false
is_open (v ∷ u ∷ us) = true

pub record Ghost : Type 0 where
  -- by sector: the values that a read may give
  pub values : ℕ → List Sector
  -- by sector: the slot that answers for its open writes, where there are two values
  pub keeper : ℕ → ℕ
  -- by sector: the number of the write that started last
  pub number : ℕ → ℕ
  -- by node and sector: a started write of the node there was broken, and nothing decided since
  pub broke : ℕ → ℕ → Bool

-- the sector is undecided: a write of it is open
abbrev pub undecided : Ghost → ℕ → Bool
undecided g s = is_open (g.values s)

-- the first try of a write: its value may be read from now on, and its node's slot answers
abbrev pub with_try : Ghost → ℕ → ℕ → LiveWrite → Ghost
with_try g n k x = record g {
  values = λ s. if (s == x.sector) && not x.started then g.values s ++ x.value ∷ [] else g.values s;
  keeper = λ s. if (s == x.sector) && not x.started then n else g.keeper s;
  number = λ s. if (s == x.sector) && not x.started then k else g.number s;
}

-- the sector is decided
abbrev pub with_value : Ghost → ℕ → Sector → Ghost
with_value g t v = record g {
  values = λ s. if s == t then v ∷ [] else g.values s;
  broke = λ n s. if s == t then false else g.broke n s;
}

-- a started write is broken
abbrev pub with_break : Ghost → ℕ → LiveWrite → Ghost
with_break g n x = record g {
  broke = λ m s. if (m == n) && (s == x.sector) && x.started then true else g.broke m s;
}

-- the node goes
abbrev pub without_node : Ghost → ℕ → Ghost
without_node g n = record g { broke = λ m s. if m == n then false else g.broke m s }

-- what slot d answered for goes to node n, which recovers it
abbrev pub with_heir : Ghost → ℕ → ℕ → Ghost
with_heir g n d = record g { keeper = λ s. if g.keeper s == d then n else g.keeper s }

abbrev pub ghost_after : {w v : Part} → Way w v → Ghost → Ghost
ghost_after (ways.outs n k l x t) g = with_try g n k x
ghost_after (ways.misses n k l x left t) g = with_try g n k x
ghost_after (ways.ends n k x e) g = with_value g x.sector x.value
ghost_after (ways.breaks n k x e) g = with_break g n x
ghost_after (ways.settles n p b e) g = with_value g b.sector b.value
ghost_after (ways.leaves n e) g = without_node g n
ghost_after (ways.quits n e) g = without_node g n
ghost_after (ways.parts n o e) g = without_node g n
ghost_after (ways.dies n told e) g = without_node g n
ghost_after (ways.slot_clears n p l r e) g = with_heir g n r.slot
ghost_after (ways.misses_slot n p l r left e) g = with_heir g n r.slot
ghost_after x g = g
