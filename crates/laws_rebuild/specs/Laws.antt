-- What a pass has settled stands on the legs that it covers, whether its chunk is completed or not,
-- along each run over legs that tell their contents.
use Rattle.std.specs.Prelude.{◌≡◌, ◌⊎◌, ℕ, ◌<◌, true, false, List, Some}
use Rattle.mdc_types.specs.Geometry.{chunk_of}
use Rattle.mdc_types.specs.declared.events.Wish.TheVariants.{Work}
use Rattle.mdc_types.specs.declared.outcomes.Entry.{Entry}
use Rattle.mdc_types.specs.declared.roles.NodeState.TheVariants.{Up}
use Rattle.resync_worker.specs.Copying.{Passing}
use Rattle.plain_history.specs.History.{candidates, values_at}
use Rattle.cluster_model.specs.Opening.{Origin}
use Rattle.cluster_model.specs.State.{State, Offer, sizes}
use Rattle.cluster_model.specs.Served.{Trusted}
use Rattle.cluster_model.specs.Stored.{data_on}
use Rattle.laws_roles.specs.Laws.{WrittenOrUnacked}
use Rattle.laws_writes.specs.Laws.{Always}
use Rattle.laws_recovery.specs.Laws.{Holds, IsLeft}
use Rattle.laws_rebuild.specs.Settled.{settled_in_pass, settled_in_window}

-- the leg holds a candidate of the sector, after these entries
abbrev pub HoldsNow : Origin → List Entry → State → ℕ → ℕ → Type 0
HoldsNow o past state l s = Holds state (candidates (values_at o.base) past) l s

pub record HoldsSettled (o : Origin) (past : List Entry) (state : State) : Type 0 where
  -- a covered leg holds a candidate at each sector that its pass has settled
  pub holds : (n l s : ℕ) (p : Passing) → (state.core.copy n).pass ≡ Some p
      → p.covered l ≡ true → settled_in_pass o past n s ≡ true → HoldsNow o past state l s
  -- and at one that was settled in the open window, the same as each leg that may be read
  pub alike : (n l k s : ℕ) (p : Passing) → (state.core.copy n).pass ≡ Some p
      → p.covered l ≡ true
      → settled_in_window o past n s ≡ true → k < (sizes state.core).legs → Trusted state k
      → data_on (sizes state.core) state.legs l s ≡ data_on (sizes state.core) state.legs k s

abbrev pub RunsHoldWhatIsSettled : Type 0
RunsHoldWhatIsSettled = Always (λ o start past end. HoldsSettled o past end)

-- A leg that rebuilds.
pub record Rebuilds (o : Origin) (past : List Entry) (state : State) : Type 0 where
  -- a leg that a pass covers is written by each up node, or unacked there
  pub written : (n m l : ℕ) (p : Passing) → state.core.state n ≡ Up
      → (state.core.copy m).pass ≡ Some p → p.covered l ≡ true → WrittenOrUnacked state n l
  -- it holds a candidate at each sector that was settled in the open window
  pub settled : (n l s : ℕ) (p : Passing) → (state.core.copy n).pass ≡ Some p
      → p.covered l ≡ true → settled_in_window o past n s ≡ true → HoldsNow o past state l s
  -- and at each of a chunk that isn't to be copied any more, but for what the pass hasn't settled
  -- and another is to copy
  pub copied : (n l s : ℕ) (p : Passing) → (state.core.copy n).pass ≡ Some p
      → p.covered l ≡ true → s < (sizes state.core).room
      → p.todo (chunk_of (sizes state.core) s) ≡ false
      → HoldsNow o past state l s
      ⊎ ((settled_in_pass o past n s ≡ false) × IsLeft state s)
  -- from the offer that it is to work until that round has ended, at each sector
  pub promoted : (n l s : ℕ) (q : Offer) → state.core.offer n ≡ Some q → q.wish ≡ Work l
      → s < (sizes state.core).room → HoldsNow o past state l s

abbrev pub RunsRebuildLegs : Type 0
RunsRebuildLegs = Always (λ o start past end. Rebuilds o past end)
