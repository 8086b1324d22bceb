-- Requests in flight, and the bits of their chunks.
use Rattle.std.specs.Prelude.{◌≡◌, ℕ, ◌+◌, ◌<◌, ◌≤◌, ◌==◌, true, false, ◌&&◌, if◌then◌else◌, length, List, [], ◌∷◌, Some}
use Rattle.mdc_types.specs.Geometry.{Sizes, chunk_of, chunks_of}
use Rattle.msg_rounds.specs.Phases.{has_published}
use Rattle.mirror_io.specs.Flight.{read_in, write_in, IsInOrder}
use Rattle.mirror_io.specs.declared.live.LiveWrite.{LiveWrite}
use Rattle.mirror_io.specs.declared.live.LiveRead.{LiveRead}
use Rattle.node_bitmaps.specs.Bitmap.{Bitmap}
use Rattle.cluster_model.specs.State.{Core, sizes}
use Rattle.cluster_model.specs.Phases.{is_up, is_unclean, offers}

-- how many of the writes are in the chunk
abbrev pub writes_in : Sizes → ℕ → List LiveWrite → ℕ
writes_in g c [] = 0
writes_in g c (w ∷ ws) =
    if chunk_of g w.sector == c then 1 + writes_in g c ws else writes_in g c ws

-- what a node has in flight: sixteen writes and reads at most, by number, of sectors of the room
pub record RequestsFit (g : Sizes) (writes : List LiveWrite) (reads : List LiveRead)
    (writes_made reads_made : ℕ) : Type 0 where
  pub few : (length writes ≤ 16) × (length reads ≤ 16)
  pub order : IsInOrder writes reads writes_made reads_made
  pub write_sectors : (k : ℕ) (w : LiveWrite) → write_in k writes ≡ Some w → w.sector < g.room
  pub read_sectors : (k : ℕ) (r : LiveRead) → read_in k reads ≡ Some r
      → (r.sector < g.room) × (r.chosen < 8)

-- a node's bitmap: its chunks are the room's, and it counts the live writes of each
pub record BitmapFits (g : Sizes) (writes : List LiveWrite) (m : Bitmap) : Type 0 where
  pub set : (c : ℕ) → m.set c ≡ true → c < chunks_of g
  pub need : (c : ℕ) → m.need c ≡ true → c < chunks_of g
  pub counts : (c : ℕ) → m.writes c ≡ writes_in g c writes

-- nothing is in flight
abbrev pub Rests : List LiveWrite → List LiveRead → Type 0
Rests writes reads = (writes ≡ []) × (reads ≡ [])

pub record InFlight (core : Core) : Type 0 where
  pub requests : (n : ℕ)
      → RequestsFit (sizes core) (core.writes n) (core.reads n)
      (core.writes_made n) (core.reads_made n)
  pub bitmaps : (n : ℕ) → BitmapFits (sizes core) (core.writes n) (core.bitmap n)
  -- of a node that isn't up, and of one that has published that it leaves
  pub resting : (n : ℕ) → is_up (core.state n) ≡ false → Rests (core.writes n) (core.reads n)
  pub leaving : (n : ℕ) → (has_published (core.sender n) && offers is_unclean (core.offer n)) ≡ true
      → Rests (core.writes n) (core.reads n)

-- a node was asked no more writes and reads than there are entries
pub record Counted (core : Core) (entries : ℕ) : Type 0 where
  pub writes : (n : ℕ) → core.writes_made n ≤ entries
  pub reads : (n : ℕ) → core.reads_made n ≤ entries
