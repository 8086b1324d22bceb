-- Cells that are all alike.
use Rattle.std.proofs.Common.{◌≡◌, ℕ, ◌+◌, ◌<◌, nat_lt, Bool, true, false, ◌&&◌, inl, inr, replicate, List, length, get_or, refl, ap, ◌∙◌, arith, if◌then◌else◌}
use Rattle.std.proofs.lemmas.List.{length-replicate, get_or-replicate, get_or_past}
use Rattle.std.proofs.lemmas.Bool.{cases_lt}
use Rattle.std.proofs.lemmas.Bool.Decides.{nat_tests}
use Rattle.mdc_types.specs.Bits.{has_bit, with_bit}
use Rattle.node_bitmaps.specs.Opened.{opened}
use Rattle.node_bitmaps.specs.Map.{Map, chunks_in, pages_in}
use Rattle.node_bitmaps.specs.Cells.{map_of}
use Rattle.node_bitmaps.specs.Cells.{no_cell, cell_at, bits_of}
use Rattle.node_bitmaps.specs.declared.cells.Cell.{Cell}
use Rattle.node_bitmaps.proofs.FlagLaws.{leg_in}
use Rattle.node_bitmaps.proofs.LookLaws.{as_many}
use Rattle.node_bitmaps.proofs.MapLaws.{same_bitmap, no_leg}

-- one leg more is in the set
pub more_below : (legs new l k : ℕ) → new ≡ with_bit legs l → has_bit legs k ≡ nat_lt k l → has_bit new k ≡ nat_lt k (l + 1)
more_below legs new l k is so = grind (arith, nat_tests, leg_in legs l k)

pub none_below : (k : ℕ) → has_bit 0 k ≡ nat_lt k 0
none_below k = let none = no_leg k in grind (arith, nat_tests)

-- of n alike, those below n are so, and the others are the default
alike_at : {A : Type 0} (n c : ℕ) (x d : A) → get_or (replicate n x) c d ≡ (if nat_lt c n then x else d)
alike_at n c x d = elim (cases_lt c n) [
  | inl lt ↦ let here = get_or-replicate n c x d lt in grind (arith, nat_tests)
  | inr past ↦ let long = length-replicate n x in let none = get_or_past (replicate n x) c d (rw long past) in grind (arith, nat_tests)
]

flag_at : {A : Type 0} (f : A → Bool) (n c : ℕ) (x d : A) → f d ≡ false → f (get_or (replicate n x) c d) ≡ (f x && nat_lt c n)
flag_at f n c x d none = let here = alike_at n c x d in grind (arith, nat_tests)

abbrev cell_of : Bool → ℕ → Cell
cell_of warm marks = record no_cell { set = warm; marks = marks }

still : {A B : Type 0} (f : A → B) (n c : ℕ) (x d : A) → f x ≡ f d → f (get_or (replicate n x) c d) ≡ f d
still f n c x d same = let here = alike_at n c x d in grind (arith, nat_tests)

pub all_alike : (n k legs all : ℕ) (warm : Bool) → ((l : ℕ) → has_bit all l ≡ nat_lt l legs)
    → bits_of (replicate n (cell_of warm (if warm then all else 0))) (replicate k all) ≡ opened n k legs warm
all_alike n k legs all true so = same_bitmap _ _ (record {
  set = λ c. flag_at (λ (x : Cell). x.set) n c (cell_of true all) no_cell refl;
  need = λ c. still (λ (x : Cell). x.needed) n c (cell_of true all) no_cell refl;
  writes = λ c. still (λ (x : Cell). x.writes) n c (cell_of true all) no_cell refl;
  marks = λ c l. let here = flag_at (λ (x : Cell). has_bit x.marks l) n c (cell_of true all) no_cell (no_leg l) in let on = so l in grind (arith, nat_tests);
  fresh = λ p l. let here = flag_at (λ (x : ℕ). has_bit x l) k p all 0 (no_leg l) in let on = so l in grind (arith, nat_tests);
})
all_alike n k legs all false so = same_bitmap _ _ (record {
  set = λ c. flag_at (λ (x : Cell). x.set) n c (cell_of false 0) no_cell refl;
  need = λ c. still (λ (x : Cell). x.needed) n c (cell_of false 0) no_cell refl;
  writes = λ c. still (λ (x : Cell). x.writes) n c (cell_of false 0) no_cell refl;
  marks = λ c l. still (λ (x : Cell). has_bit x.marks l) n c (cell_of false 0) no_cell refl ∙ no_leg l;
  fresh = λ p l. let here = flag_at (λ (x : ℕ). has_bit x l) k p all 0 (no_leg l) in let on = so l in grind (arith, nat_tests);
})

-- the sizes are those of the map
pub opened_size : (found was : List Cell) (there were : List ℕ) (value : Map) (legs : ℕ) (warm : Bool) → found ≡ was → there ≡ were → map_of was were ≡ value
    → opened (length found) (length there) legs warm ≡ opened (chunks_in value) (pages_in value) legs warm
opened_size found was there were value legs warm ex ey is =
    ap (λ (n : ℕ). opened n (length there) legs warm) (ap length ex ∙ as_many was were value (chunks_in value) is refl)
    ∙ ap (λ (n : ℕ). opened (chunks_in value) n legs warm) (ap length ey ∙ ap pages_in is)
