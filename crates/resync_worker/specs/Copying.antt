-- A pass of copying: what is to be copied, which legs it covers, and what becomes of it.
use Rattle.std.specs.Prelude.{◌≡◌, ℕ, ◌<◌, Bool, false, not, ◌&&◌, List, length, get_or, Option, Some, None, option_map, IfSome}
use Rattle.dlm_modes.specs.First.{first_such}
use Rattle.dlm_modes.specs.Points.{with_at}
use Rattle.mdc_types.specs.Bits.{has_bit, with_bit}
use Rattle.mdc_types.specs.Geometry.{Sizes, chunks_of}
use Rattle.mdc_types.specs.declared.numbers.Range.{Range}
use Rattle.mdc_types.specs.declared.numbers.Sector.{Sector}
use Rattle.resync_worker.specs.Sectors.{first_chunk_left, next_sector, completed, todo_after, reached_after}
use Rattle.resync_worker.specs.declared.buffer.Buffer.{Buffer}

pub record Passing : Type 0 where
  -- by chunk: it is to be copied
  pub todo : ℕ → Bool
  -- by leg: it will hold all data when the pass has ended
  pub covered : ℕ → Bool
  -- the sector at which a chunk goes on that is copied in part, else 0
  pub reached : ℕ
  -- the sector that was read and is to be written
  pub buffer : Option Buffer

-- a pass as plain data
pub record Copying : Type 0 where
  pub sizes : Sizes
  -- by chunk: to be copied
  pub todo : List Bool
  -- the legs that the pass covers, one bit each
  pub covered : ℕ
  pub reached : ℕ
  pub buffer : Option Buffer

-- the pass that it stands for
abbrev pub passing_of : Copying → Passing
passing_of p = record {
  todo = λ c. get_or p.todo c false;
  covered = has_bit p.covered;
  reached = p.reached;
  buffer = p.buffer;
}

-- there is one flag for each chunk, and the buffer's sector is one of the room
pub record IsCopying (g : Sizes) (todo : List Bool) (buffer : Option Buffer) : Type 0 where
  pub chunks : length todo ≡ chunks_of g
  pub sector : IfSome buffer (λ b. b.sector < g.room)

-- Look-ups.

-- the sector that is copied next in the window
abbrev pub next_in : Sizes → Passing → Range → Option ℕ
next_in g p window = next_sector g p.todo p.reached window.lo window.hi

-- the first chunk that is to be copied
abbrev pub first_todo : Sizes → Passing → Option ℕ
first_todo g p = first_chunk_left g p.todo

-- the least target that doesn't have the buffer's value
abbrev pub missing_target : (ℕ → Bool) → Buffer → Option ℕ
missing_target is_target b = first_such (λ l. is_target l && not (has_bit b.done l)) 0 8

-- the chunk that the buffer's sector completes
abbrev pub completes : Sizes → Buffer → Option ℕ
completes g b = completed g b.sector

-- the same where there may be no buffer, which misses nothing and completes nothing
abbrev pub missing_of : (ℕ → Bool) → Option Buffer → Option ℕ
missing_of is_target None = None
missing_of is_target (Some b) = missing_target is_target b

abbrev pub completed_of : Sizes → Option Buffer → Option ℕ
completed_of g None = None
completed_of g (Some b) = completes g b

-- Effects.

-- nothing is copied yet
abbrev pub begun : (ℕ → Bool) → (ℕ → Bool) → Passing
begun todo covered = record { todo = todo; covered = covered; reached = 0; buffer = None }

-- sector s with value v was read from leg l, which has the value
abbrev pub filled : Passing → ℕ → Sector → ℕ → Passing
filled p s v l = record p { buffer = Some (record { sector = s; value = v; done = with_bit 0 l }) }

-- leg l has the buffer's value too
abbrev pub done_on : ℕ → Buffer → Buffer
done_on l b = record b { done = with_bit b.done l }

abbrev pub copied : Passing → ℕ → Passing
copied p l = record p { buffer = option_map (done_on l) p.buffer }

-- the buffer's sector is settled, and the buffer empty
abbrev pub settled_at : Sizes → Passing → Buffer → Passing
settled_at g p b = record p {
  todo = todo_after g p.todo b.sector;
  reached = reached_after g b.sector;
  buffer = None;
}

-- the same where there may be no buffer
abbrev pub settled_of : Sizes → Passing → Option Buffer → Passing
settled_of g p None = p
settled_of g p (Some b) = settled_at g p b

-- the window has closed: chunks are copied from their first sectors on
abbrev pub restarted : Passing → Passing
restarted p = record p { reached = 0; buffer = None }

-- leg l isn't covered any more
abbrev pub uncovered : Passing → ℕ → Passing
uncovered p l = record p { covered = with_at p.covered l false }

-- only these legs stay covered
abbrev pub covering_only : Passing → (ℕ → Bool) → Passing
covering_only p legs = record p { covered = λ l. p.covered l && legs l }
