-- The requests in flight of all nodes, and the guard of the file system over their writes.
use Rattle.std.specs.Prelude.{◌≡◌, ◌≤◌, ℕ, ◌==◌, Bool, false, length, get_or}
use Rattle.std.specs.Prelude.{List, [], ◌∷◌, Option, Some, None}
use Rattle.mirror_io.specs.Flight.{Flight, no_flight, WritesRise}
use Rattle.mirror_io.specs.declared.live.LiveWrite.{LiveWrite}
use Rattle.mirror_io.specs.declared.live.LiveRead.{LiveRead}
use Rattle.fs_guard.specs.declared.Writer.{Writer}
use Rattle.fs_guard.specs.Writers.{holder, AreApart}
use Rattle.cluster_model.specs.Writes.{any_of_sector}

pub record AllRequests : Type 0 where
  -- by node
  pub flights : List Flight
  -- of the live writes of all nodes
  pub guard : List Writer

-- what a node has in flight
abbrev pub flight_of : List Flight → ℕ → Flight
flight_of flights n = get_or flights n no_flight

-- the same of all nodes
abbrev pub writes_of : AllRequests → ℕ → List LiveWrite
writes_of r n = (flight_of r.flights n).writes

abbrev pub reads_of : AllRequests → ℕ → List LiveRead
reads_of r n = (flight_of r.flights n).reads

abbrev pub writes_made_of : AllRequests → ℕ → ℕ
writes_made_of r n = (flight_of r.flights n).writes_made

abbrev pub reads_made_of : AllRequests → ℕ → ℕ
reads_made_of r n = (flight_of r.flights n).reads_made

-- no two of the writes are of one sector
abbrev pub SectorsApart : List LiveWrite → Type 0
SectorsApart [] = Unit {0}
SectorsApart (w ∷ ws) = (any_of_sector w.sector ws ≡ false) × SectorsApart ws

-- a node's writes: 16 at most, by number, of different sectors
pub record AreWrites (f : Flight) : Type 0 where
  pub few : length f.writes ≤ 16
  pub rise : WritesRise 0 f.writes_made f.writes
  pub apart : SectorsApart f.writes

-- the node is n, if there is one
abbrev pub is_node : ℕ → Option ℕ → Bool
is_node n None = false
is_node n (Some m) = m == n

-- the guard holds the sectors of the live writes, each for the node that writes it
pub record IsGuarded (flights : List Flight) (guard : List Writer) : Type 0 where
  pub sixteen : length flights ≡ 16
  pub writes : (n : ℕ) → AreWrites (flight_of flights n)
  pub apart : AreApart guard
  pub held : (n s : ℕ) → any_of_sector s (flight_of flights n).writes ≡ is_node n (holder s guard)
