-- Stale legs, what legs missed, rebuilding and recovery, along each run over legs that tell their
-- contents.
use Rattle.std.specs.Prelude.{◌≡◌, ◌⊎◌, ℕ, ◌+◌, ◌*◌, ◌<◌, ◌≤◌, true, false, List, Some}
use Rattle.mdc_types.specs.Geometry.{chunk_of, page_of, pages_of}
use Rattle.mdc_types.specs.Roles.{is_written}
use Rattle.mdc_types.specs.declared.events.Wish.TheVariants.{Work}
use Rattle.mdc_types.specs.declared.numbers.Sector.{Sector}
use Rattle.mdc_types.specs.declared.outcomes.Entry.{Entry}
use Rattle.mdc_types.specs.declared.roles.Role.TheVariants.{Working}
use Rattle.disk_addition.specs.declared.addition.Addition.TheVariants.{Again}
use Rattle.node_recovery.specs.Progress.{Recovering}
use Rattle.resync_worker.specs.Copying.{Passing}
use Rattle.resync_worker.specs.Sectors.{is_behind}
use Rattle.resync_worker.specs.declared.buffer.Buffer.{Buffer}
use Rattle.plain_history.specs.History.{IsIn, Legal, candidates, values_at}
use Rattle.cluster_model.specs.State.{State, Offer, sizes}
use Rattle.cluster_model.specs.Copying.{buffer_of}
use Rattle.cluster_model.specs.Served.{NoTrustedLegIsStale, Missed, Marked, MarkedOnTrusted, Stale}
use Rattle.cluster_model.specs.Stored.{data_on}
use Rattle.storage_ways.specs.Since.{since_in}
use Rattle.laws_roles.specs.Agreed.{Agreed, agreed_in}
use Rattle.laws_writes.specs.Laws.{Always}

-- no leg that may be read is stale at any sector
abbrev pub RunsServeNoStaleLeg : Type 0
RunsServeNoStaleLeg = Always
    (λ o start past end. NoTrustedLegIsStale end (candidates (values_at o.base) past))

-- what a faulty leg missed is marked in one slot on each leg that may be read
abbrev pub RunsMarkWhatIsMissed : Type 0
RunsMarkWhatIsMissed = Always (λ o start past end. Missed end (candidates (values_at o.base) past))

-- reads, settles and writes are a legal history
abbrev pub RunsAreLegal : Type 0
RunsAreLegal = Always (λ o start past end. Legal (values_at o.base) past)

-- Rebuilding.

-- the leg holds a candidate of the sector
abbrev pub Holds : State → (ℕ → List Sector) → ℕ → ℕ → Type 0
Holds state values l s = IsIn (data_on (sizes state.core) state.legs l s) (values s)

-- a slot that waits for its recovery marks the sector's chunk on each leg that may be read, or an
-- open recovery has found it
pub data IsLeft (state : State) (s : ℕ) : Type 0 where
  slot_left : (k : ℕ) → state.core.members.pending k ≡ true → MarkedOnTrusted state k s
      → IsLeft state s
  read_left : (n : ℕ) (r : Recovering) → state.core.recovery n ≡ Some r
      → r.found (chunk_of (sizes state.core) s) ≡ true → IsLeft state s

pub record RebuildHolds (values : ℕ → List Sector) (state : State) : Type 0 where
  -- a covered leg, at a sector of the chunk that is being copied which was settled
  pub settled : (n l s : ℕ) (p : Passing) → (state.core.copy n).pass ≡ Some p
      → p.covered l ≡ true → s < (sizes state.core).room
      → is_behind (sizes state.core) p.reached s ≡ true → Holds state values l s
  -- and at one of a chunk that isn't to be copied any more
  pub copied : (n l s : ℕ) (p : Passing) → (state.core.copy n).pass ≡ Some p
      → p.covered l ≡ true → s < (sizes state.core).room
      → p.todo (chunk_of (sizes state.core) s) ≡ false
      → Holds state values l s ⊎ IsLeft state s
  -- from the offer that a leg is to work until that round has ended
  pub promoted : (n l s : ℕ) (o : Offer) → state.core.offer n ≡ Some o → o.wish ≡ Work l
      → s < (sizes state.core).room → Holds state values l s
  -- what is copied is a candidate
  pub buffer : (n : ℕ) (b : Buffer) → buffer_of state.core n ≡ Some b
      → IsIn b.value (values b.sector)

abbrev pub RunsRebuild : Type 0
RunsRebuild = Always (λ o start past end. RebuildHolds (candidates (values_at o.base) past) end)

-- A leg that is added again, by the roles that were agreed on last.

-- how a chunk is found that the leg missed: it was gathered, or will be, or is copied otherwise
pub data IsFound (agreed : Agreed) (state : State) (n k c : ℕ) : Type 0 where
  was_gathered : (state.core.adding n).gathering.gathered c ≡ true → IsFound agreed state n k c
  will_be_gathered :
      (state.core.adding n).gathering.next ≤ k * pages_of (sizes state.core) + page_of c
      → IsFound agreed state n k c
  slot_found : state.core.members.pending k ≡ true
      → ((l : ℕ) → is_written (agreed.role l) ≡ true → Marked state k c l)
      → IsFound agreed state n k c
  read_found : (m : ℕ) (r : Recovering) → state.core.recovery m ≡ Some r → r.found c ≡ true
      → (state.core.bitmap m).need c ≡ true → IsFound agreed state n k c

-- one slot marks the chunk on each leg that works by these roles
pub record Answers (agreed : Agreed) (state : State) (n s : ℕ) : Type 0 where
  pub slot : ℕ
  pub marked : (l : ℕ) → agreed.role l ≡ Working
      → Marked state slot (chunk_of (sizes state.core) s) l
  pub found : IsFound agreed state n slot (chunk_of (sizes state.core) s)

abbrev pub AgainHolds : Agreed → (ℕ → List Sector) → State → Type 0
AgainHolds agreed values state = (n l s : ℕ) → (state.core.adding n).addition ≡ Again l
    → s < (sizes state.core).room → Stale state values l s → Answers agreed state n s

abbrev pub RunsAddAgain : Type 0
RunsAddAgain = Always
    (λ o start past end. AgainHolds (agreed_in o past) (candidates (values_at o.base) past) end)

-- An open recovery.

-- its slot is pending and its node the heir, and each chunk that it has read is in its node's set
-- and to be copied, or each sector of the chunk was settled since the recovery began
pub record RecoveryHolds (past : List Entry) (state : State) : Type 0 where
  pub slot : (n : ℕ) (r : Recovering) → state.core.recovery n ≡ Some r
      → state.core.members.pending r.slot ≡ true
  pub heir : (n : ℕ) (r : Recovering) → state.core.recovery n ≡ Some r
      → state.core.members.heir r.slot ≡ Some n
  pub found : (n c : ℕ) (r : Recovering) → state.core.recovery n ≡ Some r → r.found c ≡ true
      → (((state.core.bitmap n).set c ≡ true) × ((state.core.bitmap n).need c ≡ true))
      ⊎ ((s : ℕ) → s < (sizes state.core).room → chunk_of (sizes state.core) s ≡ c
      → since_in past n s ≡ true)

abbrev pub RunsRecover : Type 0
RunsRecover = Always (λ o start past end. RecoveryHolds past end)
