-- What is held and asked on the other locks: the bitmaps of slots, `resync` and `no-new-dev`.
use Rattle.std.specs.Prelude.{◌≡◌, ℕ, ◌<◌, ◌==◌, Bool, true, false, ◌&&◌, ◌||◌, List, [], ◌∷◌, Option, Some, None}
use Rattle.dlm_modes.specs.declared.mode.Mode.{Mode}
use Rattle.dlm_modes.specs.declared.mode.Mode.TheVariants.{CR, PW, EX}
use Rattle.dlm_space.specs.Queues.{asks_of}
use Rattle.laws_rounds.specs.Invariants.{IsApart}
use Rattle.mdc_types.specs.declared.roles.NodeState.{NodeState}
use Rattle.mdc_types.specs.declared.roles.NodeState.TheVariants as states
use Rattle.msg_rounds.specs.declared.phases.SenderPhase.{SenderPhase}
use Rattle.msg_rounds.specs.declared.phases.SenderPhase.TheVariants as senders
use Rattle.node_recovery.specs.Progress.{Recovering}
use Rattle.cluster_model.specs.State.{Core, Turn, NotAsked, Asked, Held}
use Rattle.cluster_model.specs.Phases.{is_up, is_unclean, offers}
use Rattle.cluster_model.specs.Changes.{no_new_dev, resync_res}

-- The bitmap locks.

-- the node recovers the slot
abbrev pub recovers : Option Recovering → ℕ → Bool
recovers None k = false
recovers (Some r) k = r.slot == k

-- its own slot while it is live, and the slot that it recovers
abbrev pub has_slot : Core → ℕ → ℕ → Bool
has_slot core n k = ((n == k) && core.members.live n) || recovers (core.recovery n) k

abbrev pub writes_slot : Bool → Option Mode
writes_slot true = Some PW
writes_slot false = None

-- who has a slot holds PW on its bitmap; nobody else holds anything there, and nobody asks
pub record SlotLocks (core : Core) : Type 0 where
  pub held : (n k : ℕ) → k < 16 → (core.locks k).held n ≡ writes_slot (has_slot core n k)
  pub requests : (k : ℕ) → k < 16 → (core.locks k).requests ≡ []
  pub conversions : (k : ℕ) → k < 16 → (core.locks k).conversions ≡ []

-- a node recovers under `resync` a slot that is pending, whose node is out and another
pub record Recoveries (core : Core) : Type 0 where
  pub other : (n : ℕ) → recovers (core.recovery n) n ≡ false
  pub turn : (n k : ℕ) → recovers (core.recovery n) k ≡ true → (core.copy n).turn ≡ Held
  pub pending : (n k : ℕ) → recovers (core.recovery n) k ≡ true → core.members.pending k ≡ true
  pub out : (d : ℕ) → core.members.pending d ≡ true → core.state d ≡ states.Out

-- `resync`

abbrev pub turn_held : Turn → Option Mode
turn_held Held = Some EX
turn_held t = None

abbrev pub turn_request : Turn → List Mode
turn_request Asked = EX ∷ []
turn_request t = []

-- EX is held under a held turn, and asked under an asked one
pub record ResyncLock (core : Core) : Type 0 where
  pub held : (n : ℕ) → (core.locks resync_res).held n ≡ turn_held (core.copy n).turn
  pub apart : IsApart (core.locks resync_res).held
  pub requests : (n : ℕ)
      → asks_of n (core.locks resync_res).requests ≡ turn_request (core.copy n).turn
  pub conversions : (core.locks resync_res).conversions ≡ []
  -- who isn't up, and who offers to leave unclean, has no turn
  pub still : (n : ℕ) → is_up (core.state n) ≡ false → (core.copy n).turn ≡ NotAsked
  pub unclean : (n : ℕ) → offers is_unclean (core.offer n) ≡ true → (core.copy n).turn ≡ NotAsked

-- `no-new-dev`

-- the sender may hold EX: it has the token and has published nothing
abbrev pub may_lock_device : SenderPhase → Bool
may_lock_device senders.TokenHeld = true
may_lock_device senders.MessageAsked = true
may_lock_device senders.MessageHeld = true
may_lock_device senders.Offered = true
may_lock_device s = false

-- a loaded node holds CR, an up node CR or nothing or as a sender EX, and who isn't in nothing
abbrev pub device_fits : NodeState → SenderPhase → Option Mode → Bool
device_fits states.Loaded s (Some CR) = true
device_fits states.Loaded s held = false
device_fits states.Up s None = true
device_fits states.Up s (Some CR) = true
device_fits states.Up s (Some EX) = may_lock_device s
device_fits states.Up s held = false
device_fits state s None = true
device_fits state s held = false

pub record DeviceLock (core : Core) : Type 0 where
  pub fits : (n : ℕ)
      → device_fits (core.state n) (core.sender n) ((core.locks no_new_dev).held n) ≡ true
  pub apart : IsApart (core.locks no_new_dev).held
  pub requests : (core.locks no_new_dev).requests ≡ []
  pub conversions : (core.locks no_new_dev).conversions ≡ []

pub record OtherLocks (core : Core) : Type 0 where
  pub slots : SlotLocks core
  pub recoveries : Recoveries core
  pub resync : ResyncLock core
  pub device : DeviceLock core
