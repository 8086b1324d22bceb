-- Stale legs: no good leg is stale, and a slot answers for what another missed, until it is copied.
use Rattle.std.specs.Prelude.{◌≡◌, ℕ, ◌<◌, nat_lt, Bool, true, false, ◌&&◌, ◌||◌, Some, is_some}
use Rattle.mdc_types.specs.Roles.{is_working, is_faulty, is_written}
use Rattle.resync_worker.specs.declared.buffer.Buffer.{Buffer}
use Rattle.cluster_model.specs.Gathering.{is_again_of}
use Rattle.storage_ways.proofs.Parts.{Part, chunk_in, buffer_in, todo, covers, recovers, found_in}
use Rattle.laws_writes.proofs.Ghosts.{Ghost, is_among}
use Rattle.laws_writes.proofs.Contents.{is_stale}
use Rattle.laws_writes.proofs.Intent.{is_gathered, IsPast}
use Rattle.laws_writes.proofs.Settled.{Since}
use Rattle.laws_recovery.proofs.Ghosts.{Hold}

-- the leg lacks the sector of the room: it is stale there
abbrev pub lacks : Part → Ghost → ℕ → ℕ → Bool
lacks w g l s = nat_lt s w.geometry.room && is_stale w g l s

-- the slot is pending, or an open recovery of its node found the chunk
abbrev pub arm : Part → ℕ → ℕ → Bool
arm w k c = w.pending k || found_in (w.recovery k) c

abbrev pub NotStale : Part → Ghost → Type 0
NotStale w g = (l s : ℕ) → w.ghost.good l ≡ true → lacks w g l s ≡ false

abbrev pub BufferValue : Part → Ghost → Type 0
BufferValue w g = (n : ℕ) (b : Buffer) → buffer_in (w.copy n).pass ≡ Some b
    → is_among b.value (g.values b.sector) ≡ true

-- What a leg missed: the slot that answers for it.

abbrev pub Holder : Part → Ghost → Hold → Type 0
Holder w g h = (l s : ℕ) → w.ghost.missed l ≡ true → lacks w g l s ≡ true
    → (w.live (h.hold l s) || w.pending (h.hold l s)) ≡ true

abbrev pub HolderWorking : Part → Ghost → Hold → Type 0
HolderWorking w g h = (l s x : ℕ) → w.ghost.missed l ≡ true → lacks w g l s ≡ true
    → is_working (w.ghost.agreed.role x) ≡ true → w.bit (h.hold l s) (chunk_in w s) x ≡ true

abbrev pub HolderGood : Part → Ghost → Hold → Type 0
HolderGood w g h = (l s x : ℕ) → is_faulty (w.ghost.agreed.role l) ≡ true → lacks w g l s ≡ true
    → w.ghost.good x ≡ true → w.bit (h.hold l s) (chunk_in w s) x ≡ true

abbrev pub HolderSet : Part → Ghost → Hold → Type 0
HolderSet w g h = (l s : ℕ) → w.ghost.missed l ≡ true → lacks w g l s ≡ true
    → w.live (h.hold l s) ≡ true → (w.bitmap (h.hold l s)).set (chunk_in w s) ≡ true

abbrev pub HolderRead : Part → Ghost → Hold → Type 0
HolderRead w g h = (l s m : ℕ) → w.ghost.missed l ≡ true → lacks w g l s ≡ true
    → recovers (w.recovery m) (h.hold l s) ≡ true → found_in (w.recovery m) (chunk_in w s) ≡ true
    → (w.bitmap m).set (chunk_in w s) ≡ true

-- A leg that is added again: what wasn't gathered from a page of the slot.

abbrev pub AgainArm : Part → Ghost → Hold → Type 0
AgainArm w g h = (n l s : ℕ) → is_again_of (w.adding n).addition l ≡ true → lacks w g l s ≡ true
    → is_gathered w n (chunk_in w s) ≡ false → IsPast w n (h.hold l s) (chunk_in w s)
    → arm w (h.hold l s) (chunk_in w s) ≡ true

abbrev pub AgainTargets : Part → Ghost → Hold → Type 0
AgainTargets w g h = (n l s x : ℕ) → is_again_of (w.adding n).addition l ≡ true → lacks w g l s ≡ true
    → is_gathered w n (chunk_in w s) ≡ false → IsPast w n (h.hold l s) (chunk_in w s)
    → is_written (w.ghost.agreed.role x) ≡ true → w.bit (h.hold l s) (chunk_in w s) x ≡ true

abbrev pub AgainFresh : Part → Ghost → Since → Type 0
AgainFresh w g z = (n l s m : ℕ) → is_again_of (w.adding n).addition l ≡ true → lacks w g l s ≡ true
    → 0 < (w.adding n).gathering.next → is_some (w.recovery m) ≡ true → z.since m s ≡ false

-- A leg that a pass covers: what isn't to be copied any more.

abbrev pub CoveredArm : Part → Ghost → Hold → Type 0
CoveredArm w g h = (n l s : ℕ) → covers w n l ≡ true → lacks w g l s ≡ true
    → todo w n (chunk_in w s) ≡ false → arm w (h.hold l s) (chunk_in w s) ≡ true

abbrev pub CoveredGood : Part → Ghost → Hold → Type 0
CoveredGood w g h = (n l s x : ℕ) → covers w n l ≡ true → lacks w g l s ≡ true
    → todo w n (chunk_in w s) ≡ false → w.ghost.good x ≡ true
    → w.bit (h.hold l s) (chunk_in w s) x ≡ true

abbrev pub CoveredFresh : Part → Ghost → Since → Type 0
CoveredFresh w g z = (n l s : ℕ) → covers w n l ≡ true → lacks w g l s ≡ true
    → is_some (w.recovery n) ≡ true → z.since n s ≡ false

pub record Stale (w : Part) (g : Ghost) (h : Hold) (z : Since) : Type 0 where
  pub not_stale : NotStale w g
  pub buffer_value : BufferValue w g
  pub holder : Holder w g h
  pub holder_working : HolderWorking w g h
  pub holder_good : HolderGood w g h
  pub holder_set : HolderSet w g h
  pub holder_read : HolderRead w g h
  pub again_arm : AgainArm w g h
  pub again_targets : AgainTargets w g h
  pub again_fresh : AgainFresh w g z
  pub covered_arm : CoveredArm w g h
  pub covered_good : CoveredGood w g h
  pub covered_fresh : CoveredFresh w g z
