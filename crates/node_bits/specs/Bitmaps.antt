-- The bitmaps of all nodes, as plain data, and the bitmaps that they stand for.
use Rattle.std.specs.Prelude.{◌≡◌, ℕ, ◌<◌, nat_lt, Bool, ◌&&◌, List, [], length, get_or}
use Rattle.mdc_types.specs.Geometry.{Sizes, chunks_of, pages_of}
use Rattle.node_bitmaps.specs.Bitmap.{Bitmap, empty}
use Rattle.node_bitmaps.specs.Map.{Map, bitmap_of, HasSize}

pub record Maps : Type 0 where
  -- those of the array
  pub sizes : Sizes
  -- by node
  pub maps : List Map

abbrev pub no_map : Map
no_map = record { set = []; need = []; writes = []; marks = []; fresh = [] }

abbrev pub map_at : List Map → ℕ → Map
map_at maps n = get_or maps n no_map

-- by node
abbrev pub bitmaps_of : Maps → ℕ → Bitmap
bitmaps_of b n = bitmap_of (map_at b.maps n)

-- there are sixteen maps, each of the array's size
pub record AreMaps (g : Sizes) (maps : List Map) : Type 0 where
  pub many : length maps ≡ 16
  pub each : (n : ℕ) → n < 16 → HasSize (map_at maps n) (chunks_of g) (pages_of g)

-- the bitmap that a member opens with: all its chunks are set or none, and all pages are fresh on
-- all legs
abbrev pub opened : Sizes → Bool → Bitmap
opened g warm = record empty {
  set = λ c. warm && nat_lt c (chunks_of g);
  marks = λ c l. warm && nat_lt c (chunks_of g) && nat_lt l g.legs;
  fresh = λ p l. nat_lt p (pages_of g) && nat_lt l g.legs;
}

-- so many maps of the array's size, all empty
pub record AreNew (g : Sizes) (count : ℕ) (maps : List Map) : Type 0 where
  pub many : length maps ≡ count
  pub empty : (n : ℕ) → n < count → bitmap_of (map_at maps n) ≡ empty
  pub each : (n : ℕ) → n < count → HasSize (map_at maps n) (chunks_of g) (pages_of g)
