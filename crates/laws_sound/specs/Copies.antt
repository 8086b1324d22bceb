-- Windows, passes, gatherings and recoveries lie within the room and the slots.
use Rattle.std.specs.Prelude.{◌≡◌, ℕ, ◌<◌, ◌≤◌, true, Some}
use Rattle.mdc_types.specs.Geometry.{Sizes, chunks_of, nodes_of}
use Rattle.mdc_types.specs.declared.numbers.Range.{Range}
use Rattle.cluster_msgs.specs.Reading.{range_in}
use Rattle.cluster_model.specs.Joining.{told_range}
use Rattle.node_recovery.specs.Progress.{Recovering}
use Rattle.resync_worker.specs.Copying.{Passing}
use Rattle.resync_worker.specs.declared.buffer.Buffer.{Buffer}
use Rattle.slot_gathering.specs.Gatherings.{Gathering, all_pages}
use Rattle.cluster_model.specs.State.{Core, Copy, sizes}

pub record RangeFits (g : Sizes) (r : Range) : Type 0 where
  pub order : r.lo < r.hi
  pub hi : r.hi ≤ g.room

pub record PassFits (g : Sizes) (p : Passing) : Type 0 where
  pub todo : (c : ℕ) → p.todo c ≡ true → c < chunks_of g
  pub buffer : (b : Buffer) → p.buffer ≡ Some b → b.sector < g.room

pub record CopyFits (g : Sizes) (c : Copy) : Type 0 where
  pub window : (r : Range) → c.window ≡ Some r → RangeFits g r
  pub pass : (p : Passing) → c.pass ≡ Some p → PassFits g p

pub record GatheringFits (g : Sizes) (a : Gathering) : Type 0 where
  pub next : a.next ≤ all_pages g
  pub gathered : (c : ℕ) → a.gathered c ≡ true → c < chunks_of g

pub record RecoveryFits (g : Sizes) (r : Recovering) : Type 0 where
  pub slot : r.slot < nodes_of g
  pub found : (c : ℕ) → r.found c ≡ true → c < chunks_of g

pub record InRoom (core : Core) : Type 0 where
  pub copies : (n : ℕ) → CopyFits (sizes core) (core.copy n)
  pub suspended : (n m : ℕ) (r : Range) → core.suspended n m ≡ Some r → RangeFits (sizes core) r
  -- the range in a member's block
  pub told : (m : ℕ) (r : Range) → m < 16
      → told_range (range_in (core.locks m).block.bytes) ≡ Some r → RangeFits (sizes core) r
  pub gatherings : (n : ℕ) → GatheringFits (sizes core) (core.adding n).gathering
  pub recoveries : (n : ℕ) (r : Recovering) → core.recovery n ≡ Some r → RecoveryFits (sizes core) r
  pub heirs : (d h : ℕ) → core.members.heir d ≡ Some h → h < nodes_of (sizes core)
