-- A map and the cells that it is kept in.
use Rattle.std.proofs.Common.{◌≡◌, ℕ, zero, suc, ◌+◌, ◌/◌, ◌<◌, ◌≤◌, ◌==◌, Bool, true, false, not, ◌&&◌, inl, inr, replicate, List, [], ◌∷◌, length, get_or, map, refl, sym, ap, subst, ◌∙◌, arith}
use Rattle.std.proofs.lemmas.List.{ext_get_or, length-map, length-replicate, get_or-replicate, get_or_past, get_or-set_same, get_or-set_other}
use Rattle.std.proofs.lemmas.Bool.{cases_lt, cases_eq}
use Rattle.std.proofs.lemmas.Nat.Bits.{bit_at-zero, bit_at-lt, same_from_bits}
use Rattle.std.proofs.lemmas.Bool.Decides.{nat_tests}
use Rattle.std.specs.Int.{bit_at}
use Rattle.std.specs.Bool.{beq}
use Rattle.std.proofs.Math.Path.{fun_ext}
use Rattle.mdc_types.specs.Bits.{has_bit}
use Rattle.node_bitmaps.specs.Bitmap.{Bitmap, empty, with_set}
use Rattle.node_bitmaps.proofs.CellLaws.{cell_at-set}
use Rattle.mdc_types.specs.Geometry.{page_of}
use Rattle.std.proofs.Math.ListN.{set}
use Rattle.node_bitmaps.specs.Map.{Map, bitmap_of, chunks_in, pages_in, HasSize}
use Rattle.node_bitmaps.specs.Cells.{no_cell, map_of, cell_at, bits_of, IsWhole}
use Rattle.node_bitmaps.specs.declared.cells.Cell.{Cell}

-- the same in each place
pub record SameBits (a b : Bitmap) : Type 0 where
  pub set : (c : ℕ) → a.set c ≡ b.set c
  pub need : (c : ℕ) → a.need c ≡ b.need c
  pub writes : (c : ℕ) → a.writes c ≡ b.writes c
  pub marks : (c l : ℕ) → a.marks c l ≡ b.marks c l
  pub fresh : (p l : ℕ) → a.fresh p l ≡ b.fresh p l

abbrev bitmap : (ℕ → Bool) → (ℕ → Bool) → (ℕ → ℕ) → (ℕ → ℕ → Bool) → (ℕ → ℕ → Bool) → Bitmap
bitmap set need writes marks fresh = record { set = set; need = need; writes = writes; marks = marks; fresh = fresh }

same_parts : (s t n m : ℕ → Bool) (v w : ℕ → ℕ) (j k f g : ℕ → ℕ → Bool) → s ≡ t → n ≡ m → v ≡ w → j ≡ k → f ≡ g → bitmap s n v j f ≡ bitmap t m w k g
same_parts s t n m v w j k f g es en ev ej ef =
    ap (λ (x : ℕ → Bool). bitmap x n v j f) es ∙ ap (λ (x : ℕ → Bool). bitmap t x v j f) en ∙ ap (λ (x : ℕ → ℕ). bitmap t m x j f) ev
    ∙ ap (λ (x : ℕ → ℕ → Bool). bitmap t m w x f) ej ∙ ap (λ (x : ℕ → ℕ → Bool). bitmap t m w k x) ef

pub same_bitmap : (a b : Bitmap) → SameBits a b → a ≡ b
same_bitmap a b s = same_parts a.set b.set a.need b.need a.writes b.writes a.marks b.marks a.fresh b.fresh (fun_ext s.set) (fun_ext s.need) (fun_ext s.writes) (fun_ext (λ c. fun_ext (s.marks c))) (fun_ext (λ p. fun_ext (s.fresh p)))

pub part_at : {A : Type 0} (part : Cell → A) (cells : List Cell) (c : ℕ) → get_or (map part cells) c (part no_cell) ≡ part (cell_at cells c)
part_at part [] c = refl
part_at part (x ∷ xs) zero = refl
part_at part (x ∷ xs) (suc c) = part_at part xs c

pub no_leg : (l : ℕ) → has_bit 0 l ≡ false
no_leg l = ap (λ (b : ℕ). b == 1) (bit_at-zero l)

all_alike : {A : Type 0} (n i : ℕ) (x : A) → get_or (replicate n x) i x ≡ x
all_alike n i x = elim (cases_lt i n) [
  | inl lt ↦ get_or-replicate n i x x lt
  | inr past ↦ get_or_past (replicate n x) i x (rw length-replicate past)
]

-- the map stands for what the cells stand for
pub bitmap_of-map_of : (cells : List Cell) (fresh : List ℕ) → bitmap_of (map_of cells fresh) ≡ bits_of cells fresh
bitmap_of-map_of cells fresh = same_bitmap _ _ (record {
  set = part_at (λ (x : Cell). x.set) cells;
  need = part_at (λ (x : Cell). x.needed) cells;
  writes = part_at (λ (x : Cell). x.writes) cells;
  marks = λ c l. ap (λ (legs : ℕ). has_bit legs l) (part_at (λ (x : Cell). x.marks) cells c);
  fresh = λ p l. refl;
})

-- The map after a call that changed its cells: what is kept now, the cells that the call left, those that it
-- found, and those that were kept.

pub step_from : (cells found was : List Cell) (fresh there were : List ℕ) (f : Bitmap → Bitmap) → found ≡ was → there ≡ were
    → bits_of cells fresh ≡ f (bits_of found there) → bits_of cells fresh ≡ f (bits_of was were)
step_from cells found was fresh there were f ex ey step = step ∙ ap (λ (zs : List Cell). f (bits_of zs there)) ex ∙ ap (λ (zs : List ℕ). f (bits_of was zs)) ey

pub whole_after : (xs cells was : List Cell) (ys fresh were : List ℕ) (f : Bitmap → Bitmap) → xs ≡ cells → ys ≡ fresh → length cells ≡ length was → length fresh ≡ length were
    → IsWhole was were → bits_of cells fresh ≡ f (bits_of was were) → ((c : ℕ) → (f (bits_of was were)).writes c ≤ 16) → IsWhole xs ys
whole_after xs cells was ys fresh were f ex ey lx ly whole step few = rw (ex, ey) (record {
  chunks = omega (arith, whole.chunks);
  pages = ly ∙ whole.pages ∙ ap (λ (n : ℕ). (n + 2047) / 4096 + 1) (sym lx);
  writes = λ c. subst (λ (m : Bitmap). m.writes c ≤ 16) (sym step) (few c);
})

pub bits_after : (xs cells was : List Cell) (ys fresh were : List ℕ) (value : Map) (f : Bitmap → Bitmap) → xs ≡ cells → ys ≡ fresh → map_of was were ≡ value
    → bits_of cells fresh ≡ f (bits_of was were) → bitmap_of (map_of xs ys) ≡ f (bitmap_of value)
bits_after xs cells was ys fresh were value f ex ey is step =
    ap (λ (zs : List Cell). bitmap_of (map_of zs ys)) ex ∙ ap (λ (zs : List ℕ). bitmap_of (map_of cells zs)) ey ∙ bitmap_of-map_of cells fresh ∙ step
    ∙ sym (ap f (bitmap_of-map_of was were)) ∙ ap (λ (m : Map). f (bitmap_of m)) is

pub size_after : (xs cells was : List Cell) (ys fresh were : List ℕ) (value : Map) → xs ≡ cells → ys ≡ fresh → length cells ≡ length was → length fresh ≡ length were
    → map_of was were ≡ value → HasSize (map_of xs ys) (chunks_in value) (pages_in value)
size_after xs cells was ys fresh were value ex ey lx ly is = subst (λ (m : Map). HasSize (map_of xs ys) (chunks_in m) (pages_in m)) is (rw (ex, ey) (record {
  set = length-map cells (λ (x : Cell). x.set) ∙ lx ∙ sym (length-map was (λ (x : Cell). x.set));
  need = length-map cells (λ (x : Cell). x.needed) ∙ lx ∙ sym (length-map was (λ (x : Cell). x.set));
  writes = length-map cells (λ (x : Cell). x.writes) ∙ lx ∙ sym (length-map was (λ (x : Cell). x.set));
  marks = length-map cells (λ (x : Cell). x.marks) ∙ lx ∙ sym (length-map was (λ (x : Cell). x.set));
  fresh = ly;
}))

-- a new map stands for the empty bitmap
pub new_map : (xs : List Cell) (ys : List ℕ) (n k : ℕ) → xs ≡ replicate n no_cell → ys ≡ replicate k 0 → bitmap_of (map_of xs ys) ≡ empty
new_map xs ys n k ex ey = rw (ex, ey) (bitmap_of-map_of (replicate n no_cell) (replicate k 0) ∙ same_bitmap _ _ (record {
  set = λ c. ap (λ (x : Cell). x.set) (all_alike n c no_cell);
  need = λ c. ap (λ (x : Cell). x.needed) (all_alike n c no_cell);
  writes = λ c. ap (λ (x : Cell). x.writes) (all_alike n c no_cell);
  marks = λ c l. ap (λ (x : Cell). has_bit x.marks l) (all_alike n c no_cell) ∙ no_leg l;
  fresh = λ p l. ap (λ (legs : ℕ). has_bit legs l) (all_alike k p 0) ∙ no_leg l;
}))

-- what the bitmap tells of the map

map_with : List Bool → List Bool → List ℕ → List ℕ → List ℕ → Map
map_with set need writes marks fresh = record { set = set; need = need; writes = writes; marks = marks; fresh = fresh }

same_lists_of : (s t n m : List Bool) (v w j k f g : List ℕ) → s ≡ t → n ≡ m → v ≡ w → j ≡ k → f ≡ g → map_with s n v j f ≡ map_with t m w k g
same_lists_of s t n m v w j k f g es en ev ej ef =
    ap (λ (x : List Bool). map_with x n v j f) es ∙ ap (λ (x : List Bool). map_with t x v j f) en ∙ ap (λ (x : List ℕ). map_with t m x j f) ev
    ∙ ap (λ (x : List ℕ). map_with t m w x f) ej ∙ ap (λ (x : List ℕ). map_with t m w k x) ef

bits_agree : (a b j : ℕ) → has_bit a j ≡ has_bit b j → bit_at a j ≡ bit_at b j
bits_agree a b j same = grind (arith, nat_tests, bit_at-lt a j, bit_at-lt b j)

same_legs : (a b : ℕ) → ((l : ℕ) → has_bit a l ≡ has_bit b l) → a ≡ b
same_legs a b same = same_from_bits a b (λ l. bits_agree a b l (same l))

pub same_map : (a b : Map) (chunks pages : ℕ) → HasSize a chunks pages → HasSize b chunks pages → bitmap_of a ≡ bitmap_of b → a ≡ b
unfolding map_with
same_map a b chunks pages sa sb same = same_lists_of a.set b.set a.need b.need a.writes b.writes a.marks b.marks a.fresh b.fresh
    (ext_get_or false a.set b.set (sa.set ∙ sym sb.set) (λ c lt. ap (λ (m : Bitmap). m.set c) same))
    (ext_get_or false a.need b.need (sa.need ∙ sym sb.need) (λ c lt. ap (λ (m : Bitmap). m.need c) same))
    (ext_get_or 0 a.writes b.writes (sa.writes ∙ sym sb.writes) (λ c lt. ap (λ (m : Bitmap). m.writes c) same))
    (ext_get_or 0 a.marks b.marks (sa.marks ∙ sym sb.marks) (λ c lt. same_legs _ _ (λ l. ap (λ (m : Bitmap). m.marks c l) same)))
    (ext_get_or 0 a.fresh b.fresh (sa.fresh ∙ sym sb.fresh) (λ p lt. same_legs _ _ (λ l. ap (λ (m : Bitmap). m.fresh p l) same)))

-- a list of flags that is a part of the cells
pub flags_of : (flags : List Bool) (part : Cell → Bool) (found was : List Cell) (value : List Bool) → part no_cell ≡ false → found ≡ was → map part was ≡ value
    → length flags ≡ length value → ((c : ℕ) → get_or flags c false ≡ part (cell_at found c)) → flags ≡ value
flags_of flags part found was value none ex is long each = ext_get_or false flags value long (λ c lt.
    each c ∙ ap (λ (xs : List Cell). part (cell_at xs c)) ex ∙ sym (part_at part was c) ∙ ap (get_or (map part was) c) none ∙ ap (λ (bs : List Bool). get_or bs c false) is)

pub as_many : (cells : List Cell) (fresh : List ℕ) (value : Map) → map_of cells fresh ≡ value → length value.set ≡ length value.need
as_many cells fresh value is = subst (λ (m : Map). length m.set ≡ length m.need) is (length-map cells (λ (x : Cell). x.set) ∙ sym (length-map cells (λ (x : Cell). x.needed)))

-- a chunk that changes whether it is in the set

failed_test : (b : Bool) → not b ≡ true → b ≡ false
failed_test true fails = sym fails
failed_test false fails = refl

pub page_aged : (fresh : List ℕ) (p q l : ℕ) → p < length fresh → has_bit (get_or (set fresh p 0) q 0) l ≡ (has_bit (get_or fresh q 0) l && not (q == p))
page_aged fresh p q l lt = elim (cases_eq q p) [
  | inl same ↦ grind (arith, nat_tests, get_or-set_same, no_leg l)
  | inr other ↦ grind (arith, nat_tests, get_or-set_other)
]

pub put_is : (cells : List Cell) (fresh : List ℕ) (c : ℕ) (b : Bool) → c < length cells → page_of c < length fresh → not (beq (cell_at cells c).set b) ≡ true
    → bits_of (set cells c (record (cell_at cells c) { set = b })) (set fresh (page_of c) 0) ≡ with_set (bits_of cells fresh) c b
put_is cells fresh c b lt there other =
    let x : Cell = record (cell_at cells c) { set = b } in
    let changes = failed_test (beq (cell_at cells c).set b) other in
    same_bitmap _ _ (record {
      set = λ k. grind (arith, nat_tests, cell_at-set cells c x k lt);
      need = λ k. grind (arith, nat_tests, cell_at-set cells c x k lt);
      writes = λ k. grind (arith, nat_tests, cell_at-set cells c x k lt);
      marks = λ k l. grind (arith, nat_tests, cell_at-set cells c x k lt);
      fresh = λ q l. rw changes (page_aged fresh (page_of c) q l there);
    })
