-- What legs hold of live writes, and where a pass stands in its window.
use Rattle.std.specs.Prelude.{◌≡◌, ℕ, ◌<◌, Bool, true, false, not, ◌&&◌, Option, Some, None}
use Rattle.mdc_types.specs.Bits.{has_bit}
use Rattle.mdc_types.specs.Geometry.{Sizes}
use Rattle.mdc_types.specs.declared.numbers.Range.{Range}
use Rattle.mirror_io.specs.Flight.{write_in, is_done}
use Rattle.mirror_io.specs.declared.live.LiveWrite.{LiveWrite}
use Rattle.resync_worker.specs.Copying.{Passing}
use Rattle.resync_worker.specs.Sectors.{first_chunk_in, is_behind}
use Rattle.resync_worker.specs.declared.buffer.Buffer.{Buffer}
use Rattle.cluster_model.specs.Copying.{next_for}
use Rattle.storage_ways.proofs.Parts.{Part, chunk_in, write_of, writes_at, has_started, done_there, reached_in, has_pass, covers}
use Rattle.laws_writes.proofs.Ghosts.{Ghost, undecided, is_among, has_value}

-- the first chunk to be copied in the open window
abbrev pub here_by : Sizes → Option Passing → Option Range → Option ℕ
here_by g (Some p) (Some r) = first_chunk_in g p.todo r.lo r.hi
here_by g p r = None

abbrev pub here : Part → ℕ → Option ℕ
here w n = here_by w.geometry (w.copy n).pass (w.copy n).window

-- the sector was settled in this window, and its chunk isn't completed
abbrev pub is_settled : Part → ℕ → ℕ → Bool
is_settled w n s = has_pass (w.copy n) && is_behind w.geometry (reached_in (w.copy n).pass) s

-- the leg has no value at the sector that a read may give
abbrev pub is_stale : Part → Ghost → ℕ → ℕ → Bool
is_stale w g l s = not (is_among (w.stored l s) (g.values s))

abbrev pub BufferPlace : Part → Type 0
BufferPlace w = (n : ℕ) (p : Passing) (b : Buffer) → (w.copy n).pass ≡ Some p → p.buffer ≡ Some b
    → next_for w.geometry (w.copy n).pass (w.copy n).window ≡ Some b.sector

-- what is reached lies in the first chunk to be copied in the window, past its first sector
abbrev pub ReachedPlace : Part → Type 0
ReachedPlace w = (n : ℕ) → 0 < reached_in (w.copy n).pass
    → here w n ≡ Some (chunk_in w (reached_in (w.copy n).pass))

-- and in the room
abbrev pub ReachedWithin : Part → Type 0
ReachedWithin w = (n : ℕ) → 0 < reached_in (w.copy n).pass
    → reached_in (w.copy n).pass < w.geometry.room

-- sectors that were settled in this window are decided
abbrev pub SettledDecided : Part → Ghost → Type 0
SettledDecided w g = (n s : ℕ) → is_settled w n s ≡ true → undecided g s ≡ false

abbrev pub BufferDone : Part → Type 0
BufferDone w = (n l : ℕ) (p : Passing) (b : Buffer) → (w.copy n).pass ≡ Some p → p.buffer ≡ Some b
    → has_bit b.done l ≡ true → w.stored l b.sector ≡ b.value

abbrev pub DoneHolds : Part → Type 0
DoneHolds w = (n k l : ℕ) (x : LiveWrite) → write_in k (w.writes n) ≡ Some x → is_done x l ≡ true
    → w.stored l x.sector ≡ x.value

abbrev pub DoneStarted : Part → Type 0
DoneStarted w = (n k l : ℕ) → done_there (write_of w n k) l ≡ true
    → has_started (write_of w n k) ≡ true

abbrev pub StartedValue : Part → Ghost → Type 0
StartedValue w g = (n k : ℕ) (x : LiveWrite) → write_in k (w.writes n) ≡ Some x → x.started ≡ true
    → is_among x.value (g.values x.sector) ≡ true

abbrev pub StartedUndecided : Part → Ghost → Type 0
StartedUndecided w g = (n k s : ℕ) → writes_at (write_of w n k) s ≡ true
    → has_started (write_of w n k) ≡ true → undecided g s ≡ true

-- on a covered leg what was settled in this window isn't stale
abbrev pub CoveredSettled : Part → Ghost → Type 0
CoveredSettled w g = (n l s : ℕ) → covers w n l ≡ true → is_settled w n s ≡ true
    → is_stale w g l s ≡ false

-- where a started write was broken its node is live, and has to copy the chunk
abbrev pub BrokeLive : Part → Ghost → Type 0
BrokeLive w g = (n s : ℕ) → g.broke n s ≡ true → w.live n ≡ true

abbrev pub BrokeNeed : Part → Ghost → Type 0
BrokeNeed w g = (n s : ℕ) → g.broke n s ≡ true → (w.bitmap n).need (chunk_in w s) ≡ true

abbrev pub BrokeUndecided : Part → Ghost → Type 0
BrokeUndecided w g = (n s : ℕ) → g.broke n s ≡ true → undecided g s ≡ true

-- sectors past the room have no two values
abbrev pub UndecidedWithin : Part → Ghost → Type 0
UndecidedWithin w g = (s : ℕ) → undecided g s ≡ true → s < w.geometry.room

-- there is a value that a read may give
abbrev pub SomeValue : Ghost → Type 0
SomeValue g = (s : ℕ) → has_value (g.values s) ≡ true

pub record Contents (w : Part) (g : Ghost) : Type 0 where
  pub buffer_place : BufferPlace w
  pub reached_place : ReachedPlace w
  pub reached_within : ReachedWithin w
  pub settled_decided : SettledDecided w g
  pub buffer_done : BufferDone w
  pub done_holds : DoneHolds w
  pub done_started : DoneStarted w
  pub started_value : StartedValue w g
  pub started_undecided : StartedUndecided w g
  pub covered_settled : CoveredSettled w g
  pub broke_live : BrokeLive w g
  pub broke_need : BrokeNeed w g
  pub broke_undecided : BrokeUndecided w g
  pub undecided_within : UndecidedWithin w g
  pub some_value : SomeValue g
