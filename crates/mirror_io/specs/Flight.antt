-- Writes and reads in flight, in the order in which they were asked, which is that of their numbers.
use Rattle.std.specs.Prelude.{ℕ, ◌+◌, ◌<◌, ◌≤◌, ◌==◌, nat_le, Bool, true, false, not, ◌&&◌, if◌then◌else◌, List, [], ◌∷◌, Option, Some, None}
use Rattle.dlm_modes.specs.First.{first_such}
use Rattle.mdc_types.specs.Bits.{has_bit, with_bit}
use Rattle.mdc_types.specs.Ranges.{holds}
use Rattle.mdc_types.specs.declared.numbers.Sector.{Sector}
use Rattle.mirror_io.specs.declared.live.LiveWrite.{LiveWrite}
use Rattle.mirror_io.specs.declared.live.LiveRead.{LiveRead}

-- what one node has in flight, and how many of each it was asked
pub record Flight : Type 0 where
  pub writes : List LiveWrite
  pub reads : List LiveRead
  pub writes_made : ℕ
  pub reads_made : ℕ

abbrev pub no_flight : Flight
no_flight = record { writes = []; reads = []; writes_made = 0; reads_made = 0 }

-- the write of this number
abbrev pub write_in : ℕ → List LiveWrite → Option LiveWrite
write_in k [] = None
write_in k (w ∷ ws) = if w.number == k then Some w else write_in k ws

abbrev pub read_in : ℕ → List LiveRead → Option LiveRead
read_in k [] = None
read_in k (r ∷ rs) = if r.number == k then Some r else read_in k rs

abbrev pub without_write : ℕ → List LiveWrite → List LiveWrite
without_write k [] = []
without_write k (w ∷ ws) = if w.number == k then without_write k ws else w ∷ without_write k ws

abbrev pub without_read : ℕ → List LiveRead → List LiveRead
without_read k [] = []
without_read k (r ∷ rs) = if r.number == k then without_read k rs else r ∷ without_read k rs

-- a write that was asked, and has neither started nor is done on any leg
abbrev pub new_write : ℕ → ℕ → Sector → LiveWrite
new_write k s v = record { number = k; sector = s; value = v; started = false; done = 0 }

abbrev pub new_read : ℕ → ℕ → ℕ → LiveRead
new_read k s l = record { number = k; sector = s; chosen = l }

abbrev pub started : LiveWrite → LiveWrite
started w = record w { started = true }

abbrev pub done_on : ℕ → LiveWrite → LiveWrite
done_on l w = record w { done = with_bit w.done l }

-- the write of this number has started
abbrev pub start_in : ℕ → List LiveWrite → List LiveWrite
start_in k [] = []
start_in k (w ∷ ws) = (if w.number == k then started w else w) ∷ start_in k ws

-- the leg has the value of the write of this number
abbrev pub done_in : ℕ → ℕ → List LiveWrite → List LiveWrite
done_in k l [] = []
done_in k l (w ∷ ws) = (if w.number == k then done_on l w else w) ∷ done_in k l ws

abbrev pub is_done : LiveWrite → ℕ → Bool
is_done w l = has_bit w.done l

-- the least target that doesn't have the write's value
abbrev pub missing_leg : (ℕ → Bool) → LiveWrite → Option ℕ
missing_leg is_target w = first_such (λ l. is_target l && not (is_done w l)) 0 8

-- the first write of a sector in the range
abbrev pub write_within : ℕ → ℕ → List LiveWrite → Option ℕ
write_within lo hi [] = None
write_within lo hi (w ∷ ws) = if holds lo hi w.sector then Some w.number else write_within lo hi ws

-- the first write, or read, whose number is k or more
abbrev pub write_from : ℕ → List LiveWrite → Option ℕ
write_from k [] = None
write_from k (w ∷ ws) = if nat_le k w.number then Some w.number else write_from k ws

abbrev pub read_from : ℕ → List LiveRead → Option ℕ
read_from k [] = None
read_from k (r ∷ rs) = if nat_le k r.number then Some r.number else read_from k rs

-- the same for the write that was found, if there was one
abbrev pub missing_of : ℕ → Option LiveWrite → Option ℕ
missing_of targets None = None
missing_of targets (Some w) = missing_leg (has_bit targets) w

-- the numbers rise, from lo on and below hi
abbrev pub WritesRise : ℕ → ℕ → List LiveWrite → Type 0
WritesRise lo hi [] = Unit {0}
WritesRise lo hi (w ∷ ws) = (lo ≤ w.number) × (w.number < hi) × WritesRise (w.number + 1) hi ws

abbrev pub ReadsRise : ℕ → ℕ → List LiveRead → Type 0
ReadsRise lo hi [] = Unit {0}
ReadsRise lo hi (r ∷ rs) = (lo ≤ r.number) × (r.number < hi) × ReadsRise (r.number + 1) hi rs

-- writes and reads stand by number, below the counts
pub record IsInOrder (writes : List LiveWrite) (reads : List LiveRead) (writes_made reads_made : ℕ) : Type 0 where
  pub writes_rise : WritesRise 0 writes_made writes
  pub reads_rise : ReadsRise 0 reads_made reads
