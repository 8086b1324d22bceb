-- The blocks after a change of the map.
use Rattle.std.proofs.Common.{◌≡◌, ℕ, ◌+◌, ◌-◌, ◌*◌, ◌/◌, ◌<◌, ◌≤◌, Bool, true, false, set, length, List, refl, ◌∙◌, ap, arith, if◌then◌else◌}
use Rattle.std.specs.Prelude.{min, is_some}
use Rattle.std.proofs.lemmas.Bool.Decides.{nat_tests}
use Rattle.dlm_modes.specs.First.{first_such}
use Rattle.dlm_modes.specs.Points.{with_at}
use Rattle.mdc_types.specs.Geometry.{Sizes, most_chunks}
use Rattle.node_bitmaps.specs.Bitmap.{with_set, with_need}
use Rattle.node_bitmaps.specs.Map.{Map, bitmap_of, chunks_in, pages_in, HasSize}
use Rattle.map_index.specs.Index.{Covers, IsIndexed}
use Rattle.mdc_types.proofs.Blocks.{in_block}
use Rattle.map_index.proofs.Blocks.{marked_anew}

-- elsewhere nothing passes anew
elsewhere : (p q : ℕ → Bool) (c k : ℕ) (v : Bool) → q k ≡ with_at p c v k → q k ≡ true → ((k / 128 ≡ c / 128) → ⊥) → p k ≡ true
elsewhere p q c k v is passes ne =
    let other : (k ≡ c → ⊥) = λ e. ne (ap (λ j. j / 128) e) in
    grind (arith, nat_tests, is, passes, other)

module _ (p q : ℕ → Bool) (n m c : ℕ) (bl : List Bool) (covers : Covers p n bl) (same : m ≡ n) (lt : c < n) where
  within : c / 128 < length bl
  within = omega (arith, covers.enough, lt)

  -- a chunk passes now
  pub one_more : ((k : ℕ) → q k ≡ with_at p c true k) → Covers q m (set bl (c / 128) true)
  one_more is = marked_anew p q n m bl (c / 128) true covers same within
      (λ k below passes ne. elsewhere p q c k true (is k) passes ne) (λ k below passes e. refl)

  -- it passes no more, and its block is looked through
  pub one_less : (v : Bool) → ((k : ℕ) → q k ≡ with_at p c false k)
      → v ≡ is_some (first_such q (128 * (c / 128)) (min (128 * (c / 128) + 128) m - 128 * (c / 128)))
      → Covers q m (set bl (c / 128) v)
  one_less v is found = marked_anew p q n m bl (c / 128) v covers same within
      (λ k below passes ne. elsewhere p q c k false (is k) passes ne)
      (λ k below passes e. found ∙ in_block q m (c / 128) k (omega (arith, same, below)) e passes)

-- what passes as before
pub as_before : (p q : ℕ → Bool) (n m : ℕ) (bl : List Bool) → Covers p n bl → m ≡ n → q ≡ p → Covers q m bl
as_before p q n m bl covers same is = rw (same, is) covers

module _ (old new : Map) (sets needs : List Bool) (c : ℕ) (indexed : IsIndexed old sets needs) (lt : c < chunks_in old)
    (size : HasSize new (chunks_in old) (pages_in old)) where
  pub set_kept : bitmap_of new ≡ with_set (bitmap_of old) c true → IsIndexed new (set sets (c / 128) true) needs
  set_kept is = record {
    set_in = one_more (bitmap_of old).set (bitmap_of new).set (chunks_in old) (chunks_in new) c sets indexed.set_in size.set lt (λ k. ap (λ m. m.set k) is);
    need_in = as_before (bitmap_of old).need (bitmap_of new).need (chunks_in old) (chunks_in new) needs indexed.need_in size.set (ap (λ m. m.need) is);
  }

  pub need_kept : bitmap_of new ≡ with_need (bitmap_of old) c true → IsIndexed new sets (set needs (c / 128) true)
  need_kept is = record {
    set_in = as_before (bitmap_of old).set (bitmap_of new).set (chunks_in old) (chunks_in new) sets indexed.set_in size.set (ap (λ m. m.set) is);
    need_in = one_more (bitmap_of old).need (bitmap_of new).need (chunks_in old) (chunks_in new) c needs indexed.need_in size.set lt (λ k. ap (λ m. m.need k) is);
  }

  pub clear_kept : (v : Bool) → bitmap_of new ≡ with_set (bitmap_of old) c false
      → v ≡ is_some (first_such (bitmap_of new).set (128 * (c / 128)) (min (128 * (c / 128) + 128) (chunks_in new) - 128 * (c / 128)))
      → IsIndexed new (set sets (c / 128) v) needs
  clear_kept v is found = record {
    set_in = one_less (bitmap_of old).set (bitmap_of new).set (chunks_in old) (chunks_in new) c sets indexed.set_in size.set lt v (λ k. ap (λ m. m.set k) is) found;
    need_in = as_before (bitmap_of old).need (bitmap_of new).need (chunks_in old) (chunks_in new) needs indexed.need_in size.set (ap (λ m. m.need) is);
  }

  pub settled_kept : (v : Bool) → bitmap_of new ≡ with_need (bitmap_of old) c false
      → v ≡ is_some (first_such (bitmap_of new).need (128 * (c / 128)) (min (128 * (c / 128) + 128) (chunks_in new) - 128 * (c / 128)))
      → IsIndexed new sets (set needs (c / 128) v)
  settled_kept v is found = record {
    set_in = as_before (bitmap_of old).set (bitmap_of new).set (chunks_in old) (chunks_in new) sets indexed.set_in size.set (ap (λ m. m.set) is);
    need_in = one_less (bitmap_of old).need (bitmap_of new).need (chunks_in old) (chunks_in new) c needs indexed.need_in size.set lt v (λ k. ap (λ m. m.need k) is) found;
  }

-- a new map has no chunk that passes
pub new_indexed : (m : Map) (g : ℕ) (sets needs : List Bool) → chunks_in m ≡ g → g ≤ 63488 → length sets ≡ (g + 127) / 128 → length needs ≡ (g + 127) / 128
    → (bitmap_of m).set ≡ (λ c. false) → (bitmap_of m).need ≡ (λ c. false) → IsIndexed m sets needs
new_indexed m g sets needs is most one two none nothing = record {
  set_in = record { enough = omega (arith, is, one); few = omega (arith, one, most); each = λ c below passes. let f = ap (λ p. p c) none in cc };
  need_in = record { enough = omega (arith, is, two); few = omega (arith, two, most); each = λ c below passes. let f = ap (λ p. p c) nothing in cc };
}

pub few_chunks : (g : Sizes) (n : ℕ) → n ≤ most_chunks g → n ≤ 63488
few_chunks g n le = elim g.second as (λ b. n ≤ (if b then 63488 else 30720) → n ≤ 63488) [
  | true ↦ λ le. le
  | false ↦ λ le. omega (arith, le)
] le
