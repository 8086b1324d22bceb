use Rattle.std.proofs.Common.{◌≡◌, ◌<◌, ◌-◌, ℕ, true, None}
use Rattle.mdc_types.specs.Bits.{has_bit}
use Rattle.node_bitmaps.specs.Bitmap.{unmarked_target}
use Rattle.node_bitmaps.specs.Map.{bitmap_of, chunks_in}
use Rattle.map_index.proofs.indexed_map.IndexedMap.first_lacking.Given as goal

abbrev pub invariant-loop-c : goal.invariant-loop-c
invariant-loop-c l = (k : ℕ) → k < l.from → (bitmap_of l.self).set k ≡ true
    → unmarked_target (bitmap_of l.self) (has_bit l.targets) k ≡ None

abbrev pub decreases-loop-c : goal.decreases-loop-c
decreases-loop-c l = chunks_in l.self - l.from
