use Rattle.std.proofs.Common.{◌≡◌, ◌-◌, ◌*◌}
use Rattle.std.specs.Prelude.{max}
use Rattle.dlm_modes.specs.First.{first_such}
use Rattle.node_bitmaps.specs.Map.{bitmap_of, chunks_in}
use Rattle.map_index.specs.Index.{is_sought}
use Rattle.map_index.proofs.search.first_from.Given as goal

abbrev pub invariant-loop-b : goal.invariant-loop-b
invariant-loop-b l =
    first_such (is_sought l.sought (bitmap_of l.map)) l.from (chunks_in l.map - l.from)
    ≡ first_such (is_sought l.sought (bitmap_of l.map)) (max (128 * l.b) l.from) (chunks_in l.map - max (128 * l.b) l.from)
