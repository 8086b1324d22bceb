-- What is asked of the cells is asked of the bitmap that the map stands for.
use Rattle.std.proofs.Common.{◌≡◌, ℕ, ◌==◌, Bool, true, not, ◌&&◌, List, length, sym, ap, ◌∙◌, arith}
use Rattle.std.specs.Prelude.{is_some}
use Rattle.std.proofs.Math.Path.{fun_ext}
use Rattle.std.proofs.lemmas.List.{length-map}
use Rattle.dlm_modes.specs.First.{first_such}
use Rattle.mdc_types.specs.Bits.{has_bit, with_bit}
use Rattle.mdc_types.specs.Geometry.{Sizes, chunks_of, pages_of, page_of}
use Rattle.mdc_types.specs.Pages.{first_page_left}
use Rattle.mdc_types.specs.Pages
use Rattle.node_bitmaps.specs.Bitmap.{Bitmap, is_unmarked, with_new_legs, with_new_leg, first_old, first_unmarked, unmarked_target_of}
use Rattle.node_bitmaps.specs.Cells.{map_of, bits_of, lacks}
use Rattle.node_bitmaps.specs.Map.{Map, bitmap_of, chunks_in, pages_in, HasSize}
use Rattle.node_bitmaps.specs.declared.cells.Cell.{Cell}
use Rattle.node_bitmaps.proofs.FlagLaws.{leg_in}
use Rattle.node_bitmaps.proofs.MapLaws.{bitmap_of-map_of, no_leg}

stands_for : (cells : List Cell) (fresh : List ℕ) (value : Map) → map_of cells fresh ≡ value
    → bits_of cells fresh ≡ bitmap_of value
stands_for cells fresh value is = sym (bitmap_of-map_of cells fresh) ∙ ap bitmap_of is

pub as_many : (cells : List Cell) (fresh : List ℕ) (value : Map) (n : ℕ) → map_of cells fresh
    ≡ value → chunks_in value ≡ n → length cells ≡ n
as_many cells fresh value n is size = sym (length-map cells (λ (x : Cell). x.set))
    ∙ ap chunks_in is ∙ size

pub old_is : (now : List ℕ) (cells : List Cell) (fresh : List ℕ) (value : Map) (g : Sizes)
    (targets : ℕ) → now ≡ fresh → map_of cells fresh ≡ value → pages_in value ≡ pages_of g
    → first_page_left (Pages.bits_of now) (has_bit targets) (length now)
    ≡ first_old g (bitmap_of value) (has_bit targets)
old_is now cells fresh value g targets was is size =
    ap (λ (xs : List ℕ). first_page_left (Pages.bits_of xs) (has_bit targets) (length xs)) was
    ∙ ap (λ (m : Map). first_page_left (bitmap_of m).fresh (has_bit targets) (pages_in m)) is
    ∙ ap (first_page_left (bitmap_of value).fresh (has_bit targets)) size

pub unmarked_is : (now cells : List Cell) (fresh : List ℕ) (value : Map) (g : Sizes)
    (targets pages : ℕ) → now ≡ cells → map_of cells fresh ≡ value
    → HasSize value (chunks_of g) (pages_of g) → pages ≡ pages_in value
    → first_page_left (λ p l. not (lacks now (λ c. page_of c == p) l)) (has_bit targets) pages
    ≡ first_unmarked g (bitmap_of value) (has_bit targets)
unmarked_is now cells fresh value g targets pages was is size in_use =
    ap (λ (xs : List Cell). first_page_left (λ p l. not (lacks xs (λ c. page_of c == p) l))
    (has_bit targets) pages) was
    ∙ ap (λ (m : Bitmap). first_page_left (λ p l. not
    (is_some (first_such (λ c. (page_of c == p) && is_unmarked m c l) 0 (length cells))))
    (has_bit targets) pages) (stands_for cells fresh value is)
    ∙ ap (λ (n : ℕ). first_page_left (λ p l. not (is_some
    (first_such (λ c. (page_of c == p) && is_unmarked (bitmap_of value) c l) 0 n)))
    (has_bit targets) pages) (as_many cells fresh value (chunks_of g) is size.set)
    ∙ ap (first_page_left (λ p l. not (is_some (first_such
    (λ c. (page_of c == p) && is_unmarked (bitmap_of value) c l) 0 (chunks_of g))))
    (has_bit targets)) (in_use ∙ size.fresh)

pub unmarked_of_is : (now cells : List Cell) (fresh : List ℕ) (value : Map) (g : Sizes)
    (targets : ℕ) (chunks : ℕ → Bool) → now ≡ cells → map_of cells fresh ≡ value → chunks_in value
    ≡ chunks_of g
    → first_such (λ l. has_bit targets l && lacks now chunks l) 0 8
    ≡ unmarked_target_of g (bitmap_of value) (has_bit targets) chunks
unmarked_of_is now cells fresh value g targets chunks was is size =
    ap (λ (xs : List Cell). first_such (λ l. has_bit targets l && lacks xs chunks l) 0 8) was
    ∙ ap (λ (m : Bitmap). first_such (λ l. has_bit targets l && is_some
    (first_such (λ c. chunks c && is_unmarked m c l) 0 (length cells))) 0 8)
    (stands_for cells fresh value is)
    ∙ ap (λ (n : ℕ). first_such (λ l. has_bit targets l && is_some
    (first_such (λ c. chunks c && is_unmarked (bitmap_of value) c l) 0 n)) 0 8)
    (as_many cells fresh value (chunks_of g) is size)

-- an array of so many chunks
pub plain : ℕ → Sizes
plain n = record { legs = 2; sectors = n; room = n; chunk = 1; second = true }

pub chunks_of-plain : (n : ℕ) → chunks_of (plain n) ≡ n
unfolding plain
chunks_of-plain n = omega arith

only : (legs leg k : ℕ) → legs ≡ with_bit 0 leg → has_bit legs k ≡ (k == leg)
only legs leg k is = let one = leg_in 0 leg k in let none = no_leg k in rw is (grind arith)

pub one_new_leg : (m : Bitmap) (legs leg : ℕ) → legs ≡ with_bit 0 leg
    → with_new_legs m (has_bit legs) ≡ with_new_leg m leg
one_new_leg m legs leg is = ap (with_new_legs m) (fun_ext (λ k. only legs leg k is))
