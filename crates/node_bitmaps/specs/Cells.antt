-- A map as it is kept: a cell for each chunk, and a byte for each page.
use Rattle.std.specs.Prelude.{◌≡◌, ℕ, ◌+◌, ◌/◌, ◌≤◌, ◌==◌, nat_lt, Bool, false, not, ◌&&◌, List, length, get_or, map, is_some}
use Rattle.dlm_modes.specs.First.{first_such}
use Rattle.mdc_types.specs.Bits.{has_bit}
use Rattle.mdc_types.specs.Geometry.{page_of}
use Rattle.slot_pages.specs.Slot.{chunk_bit}
use Rattle.node_bitmaps.specs.Bitmap.{Bitmap}
use Rattle.node_bitmaps.specs.Map.{Map}
use Rattle.node_bitmaps.specs.declared.cells.Cell.{Cell}

-- a chunk of which nothing is known
abbrev pub no_cell : Cell
no_cell = record { writes = 0; set = false; needed = false; marks = 0 }

abbrev pub map_of : List Cell → List ℕ → Map
map_of cells fresh = record {
  set = map (λ (x : Cell). x.set) cells;
  need = map (λ (x : Cell). x.needed) cells;
  writes = map (λ (x : Cell). x.writes) cells;
  marks = map (λ (x : Cell). x.marks) cells;
  fresh = fresh;
}

abbrev pub cell_at : List Cell → ℕ → Cell
cell_at cells c = get_or cells c no_cell

-- the bitmap that the cells stand for
abbrev pub bits_of : List Cell → List ℕ → Bitmap
bits_of cells fresh = record {
  set = λ c. (cell_at cells c).set;
  need = λ c. (cell_at cells c).needed;
  writes = λ c. (cell_at cells c).writes;
  marks = λ c l. has_bit (cell_at cells c).marks l;
  fresh = λ p l. has_bit (get_or fresh p 0) l;
}

-- one of these chunks is in the set, and has no mark on leg l
abbrev pub lacks : List Cell → (ℕ → Bool) → ℕ → Bool
lacks cells chunks l = is_some (first_such
    (λ c. chunks c && ((cell_at cells c).set && not (has_bit (cell_at cells c).marks l)))
    0 (length cells))

-- one of so many chunks, and its bit is set in this page p
abbrev pub page_chunk : ℕ → ℕ → List ℕ → ℕ → Bool
page_chunk chunks p page c = nat_lt c chunks && (page_of c == p) && chunk_bit page c

-- the same but for marks
pub record SameButMarks (old new : Cell) : Type 0 where
  pub writes : new.writes ≡ old.writes
  pub set : new.set ≡ old.set
  pub needed : new.needed ≡ old.needed

-- the same but for whether it is set and needed
pub record SameButNeed (old new : Cell) : Type 0 where
  pub writes : new.writes ≡ old.writes
  pub marks : new.marks ≡ old.marks

-- there are as many pages as the chunks take, and no more than a slot has
pub record IsWhole (cells : List Cell) (fresh : List ℕ) : Type 0 where
  pub chunks : length cells ≤ 63488
  pub pages : length fresh ≡ (length cells + 2047) / 4096 + 1
  pub writes : (c : ℕ) → (cell_at cells c).writes ≤ 16
