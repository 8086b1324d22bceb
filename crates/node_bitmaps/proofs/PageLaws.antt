-- Searches in a page of the bitmap, and what a page that is read brings.
use Rattle.std.proofs.Common.{◌≡◌, ℕ, ◌+◌, ◌-◌, ◌<◌, ◌≤◌, ◌==◌, min, Bool, true, false, not, ◌&&◌, ◌||◌, List, length, sym, ap, ◌∙◌, inl, inr, arith}
use Rattle.std.specs.Prelude.{is_some}
use Rattle.std.proofs.Math.ListN.{set}
use Rattle.std.proofs.lemmas.Bool.{cases_eq}
use Rattle.std.proofs.lemmas.Bool.Decides.{nat_tests}
use Rattle.dlm_modes.specs.First.{first_such}
use Rattle.mdc_types.specs.Bits.{has_bit}
use Rattle.mdc_types.specs.Geometry.{Sizes, chunks_of, page_of}
use Rattle.mdc_types.specs.Ranges.{holds}
use Rattle.slot_pages.specs.Slot.{page_start, page_end, page_has}
use Rattle.node_bitmaps.specs.Bitmap.{found_page}
use Rattle.node_bitmaps.specs.Cells.{cell_at, bits_of, page_chunk, SameButNeed}
use Rattle.node_bitmaps.specs.declared.cells.Cell.{Cell}
use Rattle.node_bitmaps.proofs.CellLaws.{cell_at-set}
use Rattle.node_bitmaps.proofs.FlagLaws.{all_legs}
use Rattle.node_bitmaps.proofs.MapLaws.{same_bitmap, page_aged}
use Rattle.node_bitmaps.proofs.SearchLaws.{none_such, skip, narrowed}

before_page : (p k : ℕ) → k < page_start p → (page_of k == p) ≡ false
before_page p k lt = grind (arith, nat_tests)

after_page : (p k : ℕ) → page_end p ≤ k → (page_of k == p) ≡ false
after_page p k le = grind (arith, nat_tests)

pub on_page : (p k e n : ℕ) → page_start p ≤ k → k < e → e ≡ min (page_end p) n → (page_of k == p)
    ≡ true
on_page p k e n from below is = grind (arith, nat_tests)

-- a search of chunks of one page begins with the page's first, and ends with its last
pub starts : (q : ℕ → Bool) (p s n : ℕ) → s ≡ page_start p
    → ((k : ℕ) → (page_of k == p) ≡ false → q k ≡ false) → is_some (first_such q 0 n)
    ≡ is_some (first_such q s (n - s))
starts q p s n is off = skip q s n (λ k lt. off k (before_page p k (omega arith)))

pub ends : (q : ℕ → Bool) (p e n : ℕ) → min (page_end p) n ≤ e
    → ((k : ℕ) → (page_of k == p) ≡ false → q k ≡ false) → is_some (first_such q e (n - e)) ≡ false
ends q p e n past off = none_such q e (n - e)
    (λ k from below. off k (after_page p k (omega arith)))

-- the legs that such a search leaves
pub all_left : (x : Bool) (q : ℕ → Bool) (s n k : ℕ) → k < 8 → x
    ≡ not (is_some (first_such q s (n - s))) → x
    ≡ (has_bit 255 k && not (is_some (first_such q s (n - s))))
all_left x q s n k lt is = rw (all_legs k lt) (is)

pub fewer_left : (x : Bool) (q : ℕ → Bool) (c n k legs new : ℕ) (u : Bool) → c < n → has_bit new k
    ≡ (has_bit legs k && not u) → q c ≡ u
    → x ≡ (has_bit legs k && not (is_some (first_such q c (n - c)))) → x
    ≡ (has_bit new k && not (is_some (first_such q (c + 1) (n - (c + 1)))))
fewer_left x q c n k legs new u lt step here was =
    was ∙ narrowed q (has_bit legs k) c n lt
    ∙ ap (λ (b : Bool). b && not (is_some (first_such q (c + 1) (n - (c + 1)))))
    (ap (λ (b : Bool). has_bit legs k && not b) here ∙ sym step)

pub none_left : (x a b : Bool) → x ≡ (a && not b) → b ≡ false → a ≡ x
none_left x a b is gone = grind arith

-- a flag of the cells, after one more chunk of a page has joined
pub joined : (was cells : List Cell) (s c : ℕ) (bit : ℕ → Bool) (x : Cell) (here : Bool)
    (part : Cell → Bool) → c < length cells → s ≤ c → here ≡ bit c
    → part x ≡ (part (cell_at cells c) || here) →
    ((k : ℕ) → part (cell_at cells k) ≡ (part (cell_at was k) || (holds s c k && bit k)))
    → (k : ℕ) → part (cell_at (set cells c x) k) ≡
    (part (cell_at was k) || (holds s (c + 1) k && bit k))
joined was cells s c bit x here part lt le is new so k = elim (cases_eq k c) [
  | inl same ↦ grind (arith, nat_tests, cell_at-set cells c x k lt, so k)
  | inr other ↦ grind (arith, nat_tests, cell_at-set cells c x k lt, so k)
]

pub still : (was cells : List Cell) (c : ℕ) (x : Cell) → c < length cells
    → SameButNeed (cell_at cells c) x → ((k : ℕ) → SameButNeed (cell_at was k) (cell_at cells k))
    → (k : ℕ) → SameButNeed (cell_at was k) (cell_at (set cells c x) k)
still was cells c x lt same so k = elim (cases_eq k c) [
  | inl e ↦ let here = so k in record {
    writes = grind
        (arith, nat_tests, cell_at-set cells c x k lt);
    marks = grind
        (arith, nat_tests, cell_at-set cells c x k lt);
  }
  | inr e ↦ let here = so k in record {
    writes = grind
        (arith, nat_tests, cell_at-set cells c x k lt);
    marks = grind
        (arith, nat_tests, cell_at-set cells c x k lt);
  }
]

-- a page that was read: the cells where its chunks have joined stand for the bitmap that found it
pub found_is : (g : Sizes) (cells new : List Cell) (fresh : List ℕ) (p : ℕ) (page : List ℕ)
    → length cells ≡ chunks_of g → p < length fresh
    → ((c : ℕ) → SameButNeed (cell_at cells c) (cell_at new c))
    → ((c : ℕ) → (cell_at new c).set ≡ ((cell_at cells c).set || page_chunk (length cells) p page
    c))
    → ((c : ℕ) → (cell_at new c).needed ≡ ((cell_at cells c).needed || page_chunk (length cells) p
    page c))
    → is_some (first_such (λ c. page_chunk (length cells) p page c && not (cell_at cells c).set) 0
    (length cells)) ≡ true
    → bits_of new (set fresh p 0) ≡ found_page g (bits_of cells fresh) p (page_has g p page)
found_is g cells new fresh p page is there others sets needs brings =
    let changes = sym (ap (λ (n : ℕ). is_some (first_such
    (λ c. page_chunk n p page c && not (cell_at cells c).set) 0 n)) is) ∙ brings in
    same_bitmap _ _ (record {
      set = λ k. sets k ∙ ap (λ (n : ℕ). (cell_at cells k).set || page_chunk n p page k) is;
      need = λ k. needs k ∙ ap (λ (n : ℕ). (cell_at cells k).needed || page_chunk n p page k) is;
      writes = λ k. (others k).writes;
      marks = λ k l. ap (λ (legs : ℕ). has_bit legs l) (others k).marks;
      fresh = λ q l. rw changes (page_aged fresh p q l there);
    })
