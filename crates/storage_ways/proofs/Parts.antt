-- What writes, marks, copying and recovery go by: what nodes keep of them, their views and rounds,
-- and what stands on the legs.
use Rattle.std.specs.Prelude.{ℕ, ◌≤◌, ◌==◌, Bool, true, false, not, ◌&&◌, nat_lt, if◌then◌else◌, Option, Some, None, is_some, List, [], ◌∷◌, ◌++◌, unwrap_or}
use Rattle.mdc_types.specs.Geometry.{Sizes, chunk_of, nodes_of, page_of}
use Rattle.mdc_types.specs.declared.events.Wish.{Wish}
use Rattle.mdc_types.specs.declared.events.Wish.TheVariants as wishes
use Rattle.mdc_types.specs.declared.numbers.Range.{Range}
use Rattle.mdc_types.specs.declared.numbers.Sector.{Sector}
use Rattle.mdc_types.specs.declared.roles.NodeState.{NodeState}
use Rattle.cluster_msgs.specs.Reading.{range_in}
use Rattle.cluster_msgs.specs.declared.msg.Msg.{Msg}
use Rattle.md_superblock.specs.Arrays.{Says}
use Rattle.msg_rounds.specs.Phases.{Receiving, has_published, has_processed}
use Rattle.msg_rounds.specs.declared.phases.SenderPhase.{SenderPhase}
use Rattle.leg_failure.specs.Views.{NodeView, working_leg}
use Rattle.mirror_io.specs.Flight.{write_in, is_done}
use Rattle.mirror_io.specs.declared.live.LiveWrite.{LiveWrite}
use Rattle.node_bitmaps.specs.Bitmap.{Bitmap}
use Rattle.node_recovery.specs.Progress.{Recovering}
use Rattle.resync_worker.specs.Copying.{Passing}
use Rattle.resync_worker.specs.declared.buffer.Buffer.{Buffer}
use Rattle.suspend_ranges.specs.Suspended.{entry_of}
use Rattle.dlm_space.specs.Locks.{Lock}
use Rattle.cluster_model.specs.State.{Core, Legs, Offer, Tried, Adding, Copy}
use Rattle.cluster_model.specs.Joining.{told_range}
use Rattle.cluster_model.specs.Phases.{offers}
use Rattle.cluster_model.specs.Stored.{bit_on}
use Rattle.laws_roles.proofs.Parts as roles

pub record Part : Type 0 where
  pub geometry : Sizes
  -- by node
  pub state : ℕ → NodeState
  pub view : ℕ → NodeView
  pub sender : ℕ → SenderPhase
  pub offer : ℕ → Option Offer
  pub receiver : ℕ → Receiving
  pub heard : ℕ → Option Msg
  pub tried : ℕ → ℕ → Tried
  pub adding : ℕ → Adding
  pub copy : ℕ → Copy
  pub recovery : ℕ → Option Recovering
  pub writes : ℕ → List LiveWrite
  pub bitmap : ℕ → Bitmap
  -- by node and owner
  pub suspended : ℕ → ℕ → Option Range
  -- by slot: the range that the valid block of its lock tells, if any
  pub told : ℕ → Option Range
  -- the members
  pub live : ℕ → Bool
  pub pending : ℕ → Bool
  pub heir : ℕ → Option ℕ
  pub drawn : ℕ
  pub completed : ℕ
  -- on the legs: the superblock by leg, the bit by slot, chunk and leg, the data by leg and sector
  pub super : ℕ → Option Says
  pub bit : ℕ → ℕ → ℕ → Bool
  pub stored : ℕ → ℕ → Sector
  -- what was agreed on, and the other ghosts of roles
  pub ghost : roles.Ghost
  -- by sector: the values that a read may give, by the plain history
  pub values : ℕ → List Sector
  -- by node and sector: a started write of the node there was broken, nothing was decided there since,
  -- and the node hasn't joined anew
  pub broken : ℕ → ℕ → Bool
  -- by node and sector: the sector was settled since the node began to recover last
  pub since : ℕ → ℕ → Bool
  -- how often a node offered or died, a round was whole, or a sector was settled
  pub moments : ℕ

abbrev pub told_by : (ℕ → Lock) → ℕ → Option Range
told_by locks m =
    if nat_lt m 16 && (locks m).valid then told_range (range_in (locks m).block.bytes) else None

-- the bits of the slots that there are
abbrev pub bits_on : Sizes → Legs → ℕ → ℕ → ℕ → Bool
bits_on g legs k c l = nat_lt k (nodes_of g) && bit_on g legs k c l

abbrev pub part_of : Core → (ℕ → Option Says) → (ℕ → ℕ → ℕ → Bool) → (ℕ → ℕ → Sector) → roles.Ghost → (ℕ → List Sector) → (ℕ → ℕ → Bool) → (ℕ → ℕ → Bool) → ℕ → Part
part_of core super bit stored ghost values broken since moments = record {
  geometry = core.array.sizes;
  state = core.state;
  view = core.view;
  sender = core.sender;
  offer = core.offer;
  receiver = core.receiver;
  heard = core.heard;
  tried = core.tried;
  adding = core.adding;
  copy = core.copy;
  recovery = core.recovery;
  writes = core.writes;
  bitmap = core.bitmap;
  suspended = core.suspended;
  told = told_by core.locks;
  live = core.members.live;
  pending = core.members.pending;
  heir = core.members.heir;
  drawn = core.members.drawn;
  completed = core.members.completed;
  super = super;
  bit = bit;
  stored = stored;
  ghost = ghost;
  values = values;
  broken = broken;
  since = since;
  moments = moments;
}

-- of this part, what says who may be read
abbrev pub roles_of : Part → roles.Part
roles_of w = record {
  state = w.state;
  view = w.view;
  sender = w.sender;
  offer = w.offer;
  receiver = w.receiver;
  heard = w.heard;
  tried = w.tried;
  adding = w.adding;
  copy = w.copy;
  drawn = w.drawn;
  completed = w.completed;
  super = w.super;
  ghost = w.ghost;
}

-- Chunks.

abbrev pub chunk_in : Part → ℕ → ℕ
chunk_in w s = chunk_of w.geometry s

-- What stands in options, with a value where there is none.

abbrev pub writes_at : Option LiveWrite → ℕ → Bool
writes_at None s = false
writes_at (Some x) s = x.sector == s

abbrev pub has_started : Option LiveWrite → Bool
has_started None = false
has_started (Some x) = x.started

abbrev pub done_there : Option LiveWrite → ℕ → Bool
done_there None l = false
done_there (Some x) l = is_done x l

-- the node's live write of this number
abbrev pub write_of : Part → ℕ → ℕ → Option LiveWrite
write_of w n k = write_in k (w.writes n)

abbrev pub is_range : Wish → Bool
is_range (wishes.Range r) = true
is_range wish = false

-- the range of the wish, where it isn't empty
abbrev pub wish_range : Wish → Option Range
wish_range (wishes.Range r) = entry_of r
wish_range wish = None

abbrev pub offered_range : Option Offer → Option Range
offered_range None = None
offered_range (Some o) = wish_range o.wish

-- the node has published a range
abbrev pub tells_range : Part → ℕ → Bool
tells_range w m = has_published (w.sender m) && offers is_range (w.offer m)

-- the node hasn't heard yet of the range that m has published
abbrev pub waits : Part → ℕ → ℕ → Bool
waits w n m = tells_range w m && not (n == m) && not (has_processed (w.receiver n).phase)

-- the range that node m copies in, by its own list
abbrev pub own : Part → ℕ → Option Range
own w m = w.suspended m m

-- Passes.

abbrev pub has_pass : Copy → Bool
has_pass c = is_some c.pass

abbrev pub todo_in : Option Passing → ℕ → Bool
todo_in None c = false
todo_in (Some p) c = p.todo c

abbrev pub reached_in : Option Passing → ℕ
reached_in None = 0
reached_in (Some p) = p.reached

abbrev pub buffer_in : Option Passing → Option Buffer
buffer_in None = None
buffer_in (Some p) = p.buffer

abbrev pub todo : Part → ℕ → ℕ → Bool
todo w n c = todo_in (w.copy n).pass c

abbrev pub covers : Part → ℕ → ℕ → Bool
covers w n l = roles.covers (w.copy n) l

-- Recoveries.

abbrev pub recovers : Option Recovering → ℕ → Bool
recovers None d = false
recovers (Some r) d = r.slot == d

abbrev pub found_in : Option Recovering → ℕ → Bool
found_in None c = false
found_in (Some r) c = r.found c

abbrev pub read_in : Option Recovering → ℕ → ℕ → Bool
read_in None p l = false
read_in (Some r) p l = r.read p l

abbrev pub cleared_in : Option Recovering → ℕ → ℕ → Bool
cleared_in None p l = false
cleared_in (Some r) p l = r.cleared p l

abbrev pub is_heir : Option ℕ → ℕ → Bool
is_heir None n = false
is_heir (Some h) n = h == n

-- The legs.

-- the least leg that the node reads from
abbrev pub read_leg : Part → ℕ → ℕ
read_leg w n = unwrap_or (working_leg (w.view n)) 0

-- a superblock as new as the last whole round stands on the leg
abbrev pub is_current : Part → ℕ → Type 0
is_current w k = w.completed ≤ roles.number (w.super k)

-- page p of slot k on leg l with these chunks
abbrev pub with_page : (ℕ → ℕ → ℕ → Bool) → ℕ → ℕ → ℕ → (ℕ → Bool) → ℕ → ℕ → ℕ → Bool
with_page bit k p l set j c i = if (j == k) && (page_of c == p) && (i == l) then set c else bit j c i

-- the same where that page was written at all
abbrev pub with_page_if : Bool → (ℕ → ℕ → ℕ → Bool) → ℕ → ℕ → ℕ → (ℕ → Bool) → ℕ → ℕ → ℕ → Bool
with_page_if left bit k p l set j c i =
    if left && (j == k) && (page_of c == p) && (i == l) then set c else bit j c i

abbrev pub with_data : (ℕ → ℕ → Sector) → ℕ → ℕ → Sector → ℕ → ℕ → Sector
with_data stored l s v i t = if (i == l) && (t == s) then v else stored i t

abbrev pub with_data_if : Bool → (ℕ → ℕ → Sector) → ℕ → ℕ → Sector → ℕ → ℕ → Sector
with_data_if left stored l s v i t = if left && (i == l) && (t == s) then v else stored i t

-- the values of the sectors where a write is tried, and where one is decided
abbrev pub tried_values : (ℕ → List Sector) → LiveWrite → ℕ → List Sector
tried_values values x s = if (x.sector == s) && not x.started then values s ++ x.value ∷ [] else values s

abbrev pub decided_values : (ℕ → List Sector) → ℕ → Sector → ℕ → List Sector
decided_values values t v s = if t == s then v ∷ [] else values s

-- where writes were broken: one more, one decided, and a node that joins
abbrev pub broken_there : (ℕ → ℕ → Bool) → ℕ → LiveWrite → ℕ → ℕ → Bool
broken_there broken n x m s = if x.started && (m == n) && (x.sector == s) then true else broken m s

abbrev pub decided_there : (ℕ → ℕ → Bool) → ℕ → ℕ → ℕ → Bool
decided_there broken t m s = if t == s then false else broken m s

abbrev pub joined_there : (ℕ → ℕ → Bool) → ℕ → ℕ → ℕ → Bool
joined_there broken n m s = if m == n then false else broken m s

-- what was settled since: one more, and a recovery that begins
abbrev pub settled_there : (ℕ → ℕ → Bool) → ℕ → ℕ → ℕ → Bool
settled_there since t m s = if s == t then true else since m s

abbrev pub begun_there : (ℕ → ℕ → Bool) → ℕ → ℕ → ℕ → Bool
begun_there since n m s = if m == n then false else since m s
