-- The live writes and the asked reads of a history, as lists.
use Rattle.std.specs.Prelude.{ℕ, ◌==◌, Bool, true, false, ◌&&◌, ◌||◌, if◌then◌else◌, List, [], ◌∷◌, Option, Some, None}
use Rattle.mdc_types.specs.declared.numbers.Sector.{Sector}
use Rattle.plain_history.specs.declared.asked.AskedWrite.{AskedWrite}
use Rattle.plain_history.specs.declared.asked.AskedRead.{AskedRead}

abbrev pub new_write : ℕ → ℕ → ℕ → Sector → AskedWrite
new_write n k s v = record { node = n; number = k; sector = s; value = v; begun = false }

abbrev pub new_read : ℕ → ℕ → ℕ → AskedRead
new_read n k s = record { node = n; number = k; sector = s }

abbrev pub started : AskedWrite → AskedWrite
started w = record w { begun = true }

-- the write k of node n, if it is one of these
abbrev pub write_in : ℕ → ℕ → List AskedWrite → Option AskedWrite
write_in n k [] = None
write_in n k (w ∷ ws) = if w.node == n && w.number == k then Some w else write_in n k ws

-- the sector of read k of node n
abbrev pub read_in : ℕ → ℕ → List AskedRead → Option ℕ
read_in n k [] = None
read_in n k (r ∷ rs) = if r.node == n && r.number == k then Some r.sector else read_in n k rs

-- the rest
abbrev pub without_write : ℕ → ℕ → List AskedWrite → List AskedWrite
without_write n k [] = []
without_write n k (w ∷ ws) = if w.node == n && w.number == k then without_write n k ws else w ∷ without_write n k ws

abbrev pub without_read : ℕ → ℕ → List AskedRead → List AskedRead
without_read n k [] = []
without_read n k (r ∷ rs) = if r.node == n && r.number == k then without_read n k rs else r ∷ without_read n k rs

-- those of other nodes
abbrev pub without_writes_of : ℕ → List AskedWrite → List AskedWrite
without_writes_of n [] = []
without_writes_of n (w ∷ ws) = if w.node == n then without_writes_of n ws else w ∷ without_writes_of n ws

abbrev pub without_reads_of : ℕ → List AskedRead → List AskedRead
without_reads_of n [] = []
without_reads_of n (r ∷ rs) = if r.node == n then without_reads_of n rs else r ∷ without_reads_of n rs

-- the write k of node n has started
abbrev pub start_in : ℕ → ℕ → List AskedWrite → List AskedWrite
start_in n k [] = []
start_in n k (w ∷ ws) = (if w.node == n && w.number == k then started w else w) ∷ start_in n k ws

-- one of the writes is of sector s
abbrev pub any_of_sector : ℕ → List AskedWrite → Bool
any_of_sector s [] = false
any_of_sector s (w ∷ ws) = (w.sector == s) || any_of_sector s ws
