use Rattle.std.proofs.Common.{◌≡◌, ◌-◌}
use Rattle.dlm_modes.specs.First.{first_such}
use Rattle.node_bitmaps.specs.Map.{bitmap_of}
use Rattle.map_index.specs.Index.{is_sought}
use Rattle.map_index.proofs.search.first_between.Given as goal

abbrev pub invariant-loop-c : goal.invariant-loop-c
invariant-loop-c l =
    first_such (is_sought l.sought (bitmap_of l.map)) l.from (l.to - l.from)
    ≡ first_such (is_sought l.sought (bitmap_of l.map)) l.c (l.to - l.c)
