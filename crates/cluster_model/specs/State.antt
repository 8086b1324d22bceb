-- The state of the machine: records of functions by node, leg, slot and resource, composed of
-- what the layers keep.
use Rattle.std.specs.Prelude.{ℕ, ◌+◌, Bool, List, Option}
use Rattle.mdc_types.specs.Geometry.{Sizes, data_offset}
use Rattle.mdc_types.specs.declared.numbers.Sector.{Sector}
use Rattle.mdc_types.specs.declared.numbers.Range.{Range}
use Rattle.mdc_types.specs.declared.events.Wish.{Wish}
use Rattle.mdc_types.specs.declared.roles.Role.{Role}
use Rattle.mdc_types.specs.declared.roles.NodeState.{NodeState}
use Rattle.dlm_space.specs.Locks.{Lock}
use Rattle.msg_rounds.specs.Phases.{Receiving}
use Rattle.msg_rounds.specs.declared.phases.SenderPhase.{SenderPhase}
use Rattle.cluster_msgs.specs.declared.msg.Msg.{Msg}
use Rattle.md_superblock.specs.Arrays.{Array, Says}
use Rattle.node_member.specs.Members.{Members}
use Rattle.leg_failure.specs.Views.{NodeView}
use Rattle.node_bitmaps.specs.Bitmap.{Bitmap}
use Rattle.mirror_io.specs.declared.live.LiveWrite.{LiveWrite}
use Rattle.mirror_io.specs.declared.live.LiveRead.{LiveRead}
use Rattle.resync_worker.specs.Copying.{Passing}
use Rattle.node_recovery.specs.Progress.{Recovering}
use Rattle.disk_addition.specs.declared.addition.Addition.{Addition}
use Rattle.slot_gathering.specs.Gatherings.{Gathering}

-- what a sender's round is to say
pub record Offer : Type 0 where
  pub wish : Wish
  -- where the wish changes the superblock: the proposed roles and size, the events number that was
  -- drawn, and the legs on which this superblock stands
  pub role : ℕ → Role
  pub size : ℕ
  pub events : ℕ
  pub written : ℕ → Bool

-- what a joining node has of a leg's superblock
pub data Tried : Type 0 where
  Untried Unread : Tried
  Loaded : (says : Says) → Tried

-- the lock under which a node copies
pub data Turn : Type 0 where
  NotAsked Asked Held : Turn

-- a node's copying: its lock, its pass, and the window that it has open
pub record Copy : Type 0 where
  pub turn : Turn
  pub pass : Option Passing
  pub window : Option Range

-- a device on its way in or out, and what was gathered for a leg that is added again
pub record Adding : Type 0 where
  pub addition : Addition
  pub gathering : Gathering

-- the state without the contents of the legs
pub record Core : Type 0 where
  -- fixed at the opening: sizes, name and uuid
  pub array : Array
  -- by node: whether it is in, and its view of the legs
  pub state : ℕ → NodeState
  pub view : ℕ → NodeView
  -- by node and leg: the sector of the node's last transfer of data
  pub head : ℕ → ℕ → ℕ
  -- by node: what it has in flight, and how much it was asked
  pub writes : ℕ → List LiveWrite
  pub reads : ℕ → List LiveRead
  pub writes_made : ℕ → ℕ
  pub reads_made : ℕ → ℕ
  -- by resource
  pub locks : ℕ → Lock
  -- by node: the sender and what its round is to say, the receiver and the message that it took
  pub sender : ℕ → SenderPhase
  pub offer : ℕ → Option Offer
  pub receiver : ℕ → Receiving
  pub heard : ℕ → Option Msg
  -- by joining node and leg
  pub tried : ℕ → ℕ → Tried
  pub members : Members
  -- by node and leg: whether the path is cut
  pub cut : ℕ → ℕ → Bool
  -- by slot: the node's bitmap, and what surely stands of it on the legs
  pub bitmap : ℕ → Bitmap
  -- by node and owner: the ranges in which the node's writes wait
  pub suspended : ℕ → ℕ → Option Range
  -- by node
  pub copy : ℕ → Copy
  pub recovery : ℕ → Option Recovering
  pub adding : ℕ → Adding

-- the legs: whether each tells its contents, and what it has at each of its sectors
pub record Legs : Type 0 where
  pub told : ℕ → Bool
  pub content : ℕ → ℕ → Sector

pub record State : Type 0 where
  pub core : Core
  pub legs : Legs

abbrev pub sizes : Core → Sizes
sizes core = core.array.sizes

-- where a data sector lies on a leg
abbrev pub place_of : Core → ℕ → ℕ
place_of core s = data_offset (sizes core) + s
