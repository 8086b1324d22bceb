-- Which sector of an array is copied next, chunk by chunk.
use Rattle.std.specs.Prelude.{ℕ, ◌+◌, ◌%◌, ◌==◌, Bool, false, ◌&&◌, ◌||◌, if◌then◌else◌, Option, Some, None, option_map}
use Rattle.dlm_modes.specs.First.{first_such}
use Rattle.dlm_modes.specs.Points.{with_at}
use Rattle.mdc_types.specs.Geometry.{Sizes, chunks_of, chunk_of, chunk_start, chunk_end}
use Rattle.mdc_types.specs.Ranges.{holds}

-- the first chunk that is to be copied
abbrev pub first_chunk_left : Sizes → (ℕ → Bool) → Option ℕ
first_chunk_left g todo = first_such todo 0 (chunks_of g)

-- the first of those that begin in the window from lo up to hi
abbrev pub first_chunk_in : Sizes → (ℕ → Bool) → ℕ → ℕ → Option ℕ
first_chunk_in g todo lo hi = first_such (λ c. todo c && holds lo hi (chunk_start g c)) 0 (chunks_of g)

-- where a chunk is copied next: at the sector that was reached, where that is in the chunk, or else at
-- the chunk's first
abbrev pub place_in : Sizes → ℕ → ℕ → ℕ
place_in g reached c = if holds (chunk_start g c) (chunk_end g c) reached then reached else chunk_start g c

-- the sector that is copied next in the window
abbrev pub next_sector : Sizes → (ℕ → Bool) → ℕ → ℕ → ℕ → Option ℕ
next_sector g todo reached lo hi = option_map (place_in g reached) (first_chunk_in g todo lo hi)

-- a window may end here: where a chunk ends, or at the end of the room
abbrev pub is_edge : Sizes → ℕ → Bool
is_edge g hi = (hi % g.chunk == 0) || (hi == g.room)

-- the sector is the last of its chunk. The last chunk may be short
abbrev pub ends_chunk : Sizes → ℕ → Bool
ends_chunk g s = s + 1 == chunk_end g (chunk_of g s)

-- When sector s is settled.

-- the chunk that it completes
abbrev pub completed : Sizes → ℕ → Option ℕ
completed g s = if ends_chunk g s then Some (chunk_of g s) else None

-- what is still to be copied
abbrev pub todo_after : Sizes → (ℕ → Bool) → ℕ → ℕ → Bool
todo_after g todo s = if ends_chunk g s then with_at todo (chunk_of g s) false else todo

-- the sector that is reached: the next of the chunk, or 0 where the chunk is completed
abbrev pub reached_after : Sizes → ℕ → ℕ
reached_after g s = if ends_chunk g s then 0 else s + 1

-- the sector was settled since its chunk was begun, and the chunk isn't completed
abbrev pub is_behind : Sizes → ℕ → ℕ → Bool
is_behind g reached s = holds (chunk_start g (chunk_of g reached)) reached s
