-- Which legs may be read, and which must not be: served, trusted and stale legs, marks and intent.
use Rattle.std.specs.Prelude.{◌≡◌, ◌⊎◌, ℕ, ◌<◌, ◌≤◌, true, length, List, Some, false}
use Rattle.mdc_types.specs.Geometry.{chunk_of, nodes_of}
use Rattle.mdc_types.specs.Roles.{role_of}
use Rattle.mdc_types.specs.declared.numbers.Sector.{Sector}
use Rattle.mdc_types.specs.declared.roles.Role.{Role}
use Rattle.mdc_types.specs.declared.roles.Role.TheVariants.{Working, Faulty}
use Rattle.mdc_types.specs.declared.roles.NodeState.TheVariants.{Up}
use Rattle.md_superblock.specs.Arrays.{Says}
use Rattle.leg_failure.specs.Views.{works, is_target, is_unacked}
use Rattle.plain_history.specs.History.{IsIn}
use Rattle.cluster_model.specs.State.{State, Core, sizes}
use Rattle.cluster_model.specs.Stored.{super_on, bit_on, data_on}

-- some up node reads from the leg
pub record Served (state : State) (l : ℕ) : Type 0 where
  pub node : ℕ
  pub up : state.core.state node ≡ Up
  pub works : works (state.core.view node) l ≡ true

-- the superblock of leg k is of this array, and at least as new as the last completed round
pub record Current (state : State) (k : ℕ) : Type 0 where
  pub leg : k < (sizes state.core).legs
  pub says : Says
  pub stands : super_on state.core.array state.legs k ≡ Some says
  pub new : state.core.members.completed ≤ says.events

-- a current superblock gives the leg that role
pub record CalledIn (state : State) (role : Role) (l : ℕ) : Type 0 where
  pub leg : ℕ
  pub current : Current state leg
  pub called : role_of current.says.roles l ≡ role

-- the leg is read, or would be by a node that comes in
abbrev pub Trusted : State → ℕ → Type 0
Trusted state l = Served state l ⊎ CalledIn state Working l

-- a leg that no longer is what an up node writes, and whose loss all have acknowledged, is read
-- by nobody
abbrev pub Shut : State → Type 0
Shut state =
    (n l : ℕ) → state.core.state n ≡ Up → is_target (state.core.view n) l ≡ false
    → is_unacked (state.core.view n) l ≡ false
    → ¬ Served state l

-- Of values, which are the candidates of each sector.

-- the leg holds none of the candidates of the sector
abbrev pub Stale : State → (ℕ → List Sector) → ℕ → ℕ → Type 0
Stale state values l s = ¬ IsIn (data_on (sizes state.core) state.legs l s) (values s)

-- no leg that may be read is stale at any sector
abbrev pub NoTrustedLegIsStale : State → (ℕ → List Sector) → Type 0
NoTrustedLegIsStale state values =
    (l s : ℕ) → l < (sizes state.core).legs → s < (sizes state.core).room → Trusted state l
    → IsIn (data_on (sizes state.core) state.legs l s) (values s)

-- the bit of the chunk stands in the slot on the leg itself, whatever a node knows of it
abbrev pub Marked : State → ℕ → ℕ → ℕ → Type 0
Marked state k c l = bit_on (sizes state.core) state.legs k c l ≡ true

-- one slot marks the chunk of s on every leg that may be read
pub record MarkedOnTrusted (state : State) (k s : ℕ) : Type 0 where
  pub slot : k < nodes_of (sizes state.core)
  pub marked : (l : ℕ) → l < (sizes state.core).legs → Trusted state l
      → Marked state k (chunk_of (sizes state.core) s) l

-- the slot is one of a live node, or waits for its recovery
abbrev pub IsKept : Core → ℕ → Type 0
IsKept core k = (core.members.live k ≡ true) ⊎ (core.members.pending k ≡ true)

pub record Kept (state : State) (s : ℕ) : Type 0 where
  pub slot : ℕ
  pub kept : IsKept state.core slot
  pub marks : MarkedOnTrusted state slot s

-- an undecided sector has its intent marked
abbrev pub Intent : State → (ℕ → List Sector) → Type 0
Intent state values = (s : ℕ) → s < (sizes state.core).room → 2 ≤ length (values s) → Kept state s

-- some up node's roles call the leg faulty
pub record CalledFaulty (state : State) (l : ℕ) : Type 0 where
  pub node : ℕ
  pub up : state.core.state node ≡ Up
  pub role : (state.core.view node).role l ≡ Faulty

-- what a faulty leg missed is marked
abbrev pub Missed : State → (ℕ → List Sector) → Type 0
Missed state values = (l s : ℕ) → l < (sizes state.core).legs → s < (sizes state.core).room
    → CalledFaulty state l ⊎ CalledIn state Faulty l → Stale state values l s
    → (k : ℕ) × MarkedOnTrusted state k s
