-- The bitmap that a member opens with.
use Rattle.std.specs.Prelude.{ℕ, nat_lt, Bool, ◌&&◌}
use Rattle.node_bitmaps.specs.Bitmap.{Bitmap, empty}

-- of so many chunks and pages: all chunks are set or none, and this stands on all of so many legs
abbrev pub opened : ℕ → ℕ → ℕ → Bool → Bitmap
opened chunks pages legs warm = record empty {
  set = λ c. warm && nat_lt c chunks;
  marks = λ c l. warm && nat_lt c chunks && nat_lt l legs;
  fresh = λ p l. nat_lt p pages && nat_lt l legs;
}
