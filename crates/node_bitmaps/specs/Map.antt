-- The map that a node keeps of its bitmap, as plain data, and the bitmap that it stands for.
use Rattle.std.specs.Prelude.{◌≡◌, ℕ, Bool, false, List, length, get_or}
use Rattle.mdc_types.specs.Bits.{has_bit}
use Rattle.node_bitmaps.specs.Bitmap.{Bitmap}

pub record Map : Type 0 where
  -- by chunk
  pub set : List Bool
  pub need : List Bool
  pub writes : List ℕ
  -- by chunk, one bit for each leg
  pub marks : List ℕ
  -- by page, one bit for each leg
  pub fresh : List ℕ

abbrev pub bitmap_of : Map → Bitmap
bitmap_of m = record {
  set = λ c. get_or m.set c false;
  need = λ c. get_or m.need c false;
  writes = λ c. get_or m.writes c 0;
  marks = λ c l. has_bit (get_or m.marks c 0) l;
  fresh = λ p l. has_bit (get_or m.fresh p 0) l;
}

abbrev pub chunks_in : Map → ℕ
chunks_in m = length m.set

abbrev pub pages_in : Map → ℕ
pages_in m = length m.fresh

-- a map of so many chunks and pages
pub record HasSize (m : Map) (chunks pages : ℕ) : Type 0 where
  pub set : length m.set ≡ chunks
  pub need : length m.need ≡ chunks
  pub writes : length m.writes ≡ chunks
  pub marks : length m.marks ≡ chunks
  pub fresh : length m.fresh ≡ pages
