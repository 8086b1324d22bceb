-- The guards of `clear` that speak of the chunk.
use Rattle.std.specs.Prelude.{ℕ, Bool, not, ◌&&◌, is_none}
use Rattle.mdc_types.specs.Geometry.{chunk_start, chunk_end}
use Rattle.mirror_io.specs.Flight.{write_within}
use Rattle.cluster_model.specs.State.{Core, sizes}

-- the chunk is in the node's set, and isn't to be copied
abbrev pub is_settled : Core → ℕ → ℕ → Bool
is_settled core n c = (core.bitmap n).set c && not ((core.bitmap n).need c)

-- the node has no live write in the chunk
abbrev pub rests : Core → ℕ → ℕ → Bool
rests core n c =
    is_none (write_within (chunk_start (sizes core) c) (chunk_end (sizes core) c) (core.writes n))

abbrev pub is_still : Core → ℕ → ℕ → Bool
is_still core n c = is_settled core n c && rests core n c
