-- Writes, bitmaps and windows, and the intent of open writes, along each run over legs that tell
-- their contents.
use Rattle.std.specs.Prelude.{◌≡◌, ◌≢◌, ℕ, true, false, is_some, List, [], ◌∷◌, Some}
use Rattle.dlm_modes.specs.declared.mode.Mode.TheVariants.{EX}
use Rattle.mdc_types.specs.Geometry.{chunk_of}
use Rattle.mdc_types.specs.Ranges.{holds}
use Rattle.mdc_types.specs.declared.events.Event.{Event}
use Rattle.mdc_types.specs.declared.events.Event.TheVariants.{AskWrite, EndWrite}
use Rattle.mdc_types.specs.declared.events.Wish.TheVariants as wishes
use Rattle.mdc_types.specs.declared.numbers.Range.{Range}
use Rattle.mdc_types.specs.declared.numbers.Sector.{Sector}
use Rattle.mdc_types.specs.declared.outcomes.Entry.{Entry}
use Rattle.mdc_types.specs.declared.roles.NodeState.TheVariants.{Up}
use Rattle.msg_rounds.specs.declared.phases.SenderPhase.TheVariants.{Granted}
use Rattle.mirror_io.specs.Flight.{write_in, is_done}
use Rattle.mirror_io.specs.declared.live.LiveWrite.{LiveWrite}
use Rattle.suspend_ranges.specs.Suspended.{entry_of, suspends}
use Rattle.resync_worker.specs.declared.buffer.Buffer.{Buffer}
use Rattle.plain_history.specs.History.{candidates, values_at, LegalAfter}
use Rattle.cluster_model.specs.State.{State, Offer, sizes}
use Rattle.cluster_model.specs.Changes.{resync_res}
use Rattle.cluster_model.specs.Contents.{SoundOpening, Opens, IsHeader, AllTell}
use Rattle.cluster_model.specs.Copying.{buffer_of}
use Rattle.cluster_model.specs.Opening.{Origin}
use Rattle.cluster_model.specs.Run.{Run}
use Rattle.cluster_model.specs.Served.{Intent, Marked}
use Rattle.cluster_model.specs.Stored.{data_on}
use Rattle.laws_roles.specs.Laws.{Tells}
use Rattle.storage_ways.specs.Broken.{broken_in}

-- along each run from a sound opening, over legs that tell their contents
abbrev pub Always : (Origin → State → List Entry → State → Type 0) → Type 0
Always Holds = (o : Origin) (start end : State) (past : List Entry)
    → SoundOpening o start → Tells o start → Run start past end → Holds o start past end

-- the opening of a header is sound, where its legs tell their contents
abbrev pub HeadersAreSound : Type 0
HeadersAreSound = (o : Origin) (start : State)
    → Opens o start → IsHeader o start.legs → AllTell o start.legs → SoundOpening o start

-- one slot of a node that is live, or waits for its recovery, marks the chunk of each sector with
-- two candidates on each leg that may be read
abbrev pub RunsKeepTheIntent : Type 0
RunsKeepTheIntent = Always (λ o start past end. Intent end (candidates (values_at o.base) past))

-- Writes in flight.
pub record WritesHold (state : State) : Type 0 where
  -- a leg on which a write is done has its value
  pub done : (n k l : ℕ) (w : LiveWrite) → write_in k (state.core.writes n) ≡ Some w
      → is_done w l ≡ true → data_on (sizes state.core) state.legs l w.sector ≡ w.value
  -- no two are of one sector
  pub apart : (n m k j : ℕ) (w u : LiveWrite) → write_in k (state.core.writes n) ≡ Some w
      → write_in j (state.core.writes m) ≡ Some u → w.sector ≡ u.sector → (n ≡ m) × (k ≡ j)

abbrev pub RunsHoldWrites : Type 0
RunsHoldWrites = Always (λ o start past end. WritesHold end)

-- Bitmaps.
pub record BitsHold (past : List Entry) (state : State) : Type 0 where
  -- a bit that surely stands on a leg stands there
  pub marks : (n c l : ℕ) → (state.core.bitmap n).marks c l ≡ true → Marked state n c l
  -- the chunk of a write in flight is in its node's set, and so is each that is to be copied
  pub writes : (n k : ℕ) (w : LiveWrite) → write_in k (state.core.writes n) ≡ Some w
      → (state.core.bitmap n).set (chunk_of (sizes state.core) w.sector) ≡ true
  pub need : (n c : ℕ) → (state.core.bitmap n).need c ≡ true → (state.core.bitmap n).set c ≡ true
  -- a live node is to copy the chunk of a write that was broken there and is still open
  pub broken : (n s : ℕ) → state.core.members.live n ≡ true → broken_in past n s ≡ true
      → (state.core.bitmap n).need (chunk_of (sizes state.core) s) ≡ true

abbrev pub RunsHoldBits : Type 0
RunsHoldBits = Always (λ o start past end. BitsHold past end)

-- Windows. An open one is suspended at each node that is up, and no write in flight lies in it;
-- and so it is with a range whose round is granted, where it isn't empty.
pub record WindowsHold (state : State) : Type 0 where
  pub open_list : (n m : ℕ) (r : Range) → (state.core.copy n).window ≡ Some r
      → state.core.state m ≡ Up → state.core.suspended m n ≡ Some r
  pub open_free : (n m k : ℕ) (r : Range) (w : LiveWrite) → (state.core.copy n).window ≡ Some r
      → write_in k (state.core.writes m) ≡ Some w → holds r.lo r.hi w.sector ≡ false
  pub granted_list : (n m : ℕ) (o : Offer) (r : Range) → state.core.sender n ≡ Granted
      → state.core.offer n ≡ Some o → o.wish ≡ wishes.Range r
      → state.core.state m ≡ Up → state.core.suspended m n ≡ entry_of r
  pub granted_free : (n m k : ℕ) (o : Offer) (r : Range) (w : LiveWrite)
      → state.core.sender n ≡ Granted → state.core.offer n ≡ Some o → o.wish ≡ wishes.Range r
      → write_in k (state.core.writes m) ≡ Some w → holds r.lo r.hi w.sector ≡ false

abbrev pub RunsHoldWindows : Type 0
RunsHoldWindows = Always (λ o start past end. WindowsHold end)

-- One node at most holds `resync`, and without it a node has no pass, no open window, no buffer
-- and no open recovery.
pub record CopiesHold (state : State) : Type 0 where
  pub alone : (n m : ℕ) → (state.core.locks resync_res).held n ≡ Some EX
      → (state.core.locks resync_res).held m ≡ Some EX → n ≡ m
  pub pass : (n : ℕ) → is_some (state.core.copy n).pass ≡ true
      → (state.core.locks resync_res).held n ≡ Some EX
  pub window : (n : ℕ) → is_some (state.core.copy n).window ≡ true
      → (state.core.locks resync_res).held n ≡ Some EX
  pub buffer : (n : ℕ) → is_some (buffer_of state.core n) ≡ true
      → (state.core.locks resync_res).held n ≡ Some EX
  pub recovery : (n : ℕ) → is_some (state.core.recovery n) ≡ true
      → (state.core.locks resync_res).held n ≡ Some EX

abbrev pub RunsCopyAlone : Type 0
RunsCopyAlone = Always (λ o start past end. CopiesHold end)

-- Of a legal history: each write is asked where no other is live, and ends after its start while
-- it is live.
abbrev pub IsOfWrites : Event → Type 0
IsOfWrites (AskWrite n s v) = Unit {0}
IsOfWrites (EndWrite n k) = Unit {0}
IsOfWrites e = ⊥

abbrev pub WritesAreLegal : (ℕ → List Sector) → List Entry → Type 0
WritesAreLegal base [] = Unit {0}
WritesAreLegal base (x ∷ past) =
    (IsOfWrites x.event → LegalAfter base past x) × WritesAreLegal base past

abbrev pub RunsWriteLegally : Type 0
RunsWriteLegally = Always (λ o start past end. WritesAreLegal (values_at o.base) past)

-- Copying meets no write: the sector that is copied lies in the window that its node has open, and
-- no write in flight is of it.
pub record CopiesFreely (state : State) : Type 0 where
  pub within : (n : ℕ) (b : Buffer) → buffer_of state.core n ≡ Some b
      → suspends b.sector (state.core.copy n).window ≡ true
  pub free : (n m k : ℕ) (b : Buffer) (w : LiveWrite) → buffer_of state.core n ≡ Some b
      → write_in k (state.core.writes m) ≡ Some w → w.sector ≢ b.sector

abbrev pub RunsCopyFreely : Type 0
RunsCopyFreely = Always (λ o start past end. CopiesFreely end)
