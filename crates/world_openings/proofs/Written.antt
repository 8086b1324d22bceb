-- What is written on the legs of a header.
use Rattle.std.proofs.Common.{◌≡◌, ℕ, ◌+◌, ◌-◌, ◌/◌, ◌<◌, ◌≤◌, ◌&&◌, Bool, true, false, if◌then◌else◌, nat_lt, refl, arith, ap, ◌∙◌, sym, subst, List, [], ◌∷◌, ◌++◌, replicate, get_or, length, inl, inr}
use Rattle.std.proofs.Math.Path.{fun_ext}
use Rattle.std.proofs.lemmas.Bool.{cases_lt}
use Rattle.std.proofs.lemmas.Bool.Decides.{nat_tests}
use Rattle.std.proofs.lemmas.List.{get_or-replicate, get_or_past, length-replicate, length_push, get_or_append_left, get_or_push}
use Rattle.mdc_types.specs.Bits.{has_bit}
use Rattle.mdc_types.specs.Sectors.{zero_sector}
use Rattle.mdc_types.specs.declared.numbers.Sector.{Sector}
use Rattle.mdc_types.specs.Geometry.{Sizes, chunks_of, data_offset_of, nodes_of, slot_pages}
use Rattle.md_superblock.specs.Superblock.{IsSuper}
use Rattle.md_superblock.specs.Arrays.{super_for, version_of}
use Rattle.slot_pages.specs.Slot.{spelled_page}
use Rattle.cluster_model.specs.Opening.{Origin, array_of, says_of, opening_set, IsOrigin}

version_in : (second : Bool) → (1 ≤ version_of second) × (version_of second ≤ 2)
version_in true = (omega arith, omega arith)
version_in false = (omega arith, omega arith)

-- the superblock of each leg is in its ranges
pub is_super : (o : Origin) (l : ℕ) → IsOrigin o → l < o.sizes.legs → IsSuper (super_for (array_of o) l (says_of o))
is_super o l origin lt = record {
  name = origin.name;
  size = origin.sizes.sectors;
  room = origin.sizes.room;
  raid_disks = origin.sizes.legs;
  version = version_in o.sizes.second;
  device = lt;
  events = origin.events;
  spares = λ k past below. origin.legs k past;
  working = origin.leg;
}

at_flag : (n c : ℕ) (b : Bool) → get_or (replicate n b) c false ≡ (b && nat_lt c n)
at_flag n c b = elim (cases_lt c n) [
  | inl below ↦ get_or-replicate n c b false below ∙ grind (arith, nat_tests, below)
  | inr past ↦ get_or_past (replicate n b) c false (omega (arith, length-replicate n b, past)) ∙ grind (arith, nat_tests, past)
]

all_set : (o : Origin) (slot c : ℕ) (w m : Bool) → slot < nodes_of o.sizes → w ≡ o.warm → m ≡ has_bit o.members slot
    → ((w && m) && nat_lt c (chunks_of o.sizes)) ≡ opening_set o slot c
all_set o slot c w m lt e f = grind (arith, nat_tests, e, f)

-- the flags of a slot are its set at the opening
pub slot_flags : (o : Origin) (slot n : ℕ) (b : Bool) → n ≡ chunks_of o.sizes
    → b ≡ (o.warm && has_bit o.members slot) → slot < nodes_of o.sizes
    → (λ c. get_or (replicate n b) c false) ≡ opening_set o slot
slot_flags o slot n b count all lt = fun_ext (λ c. at_flag n c b ∙ rw (count, all) (all_set o slot c o.warm (has_bit o.members slot) lt refl refl))

pub slot_below : (g : Sizes) (at : ℕ) → 16 ≤ at → at < data_offset_of g.second → (at - 16) / slot_pages g < nodes_of g
slot_below g at = inner g.second at where
  inner : (second : Bool) (at : ℕ) → 16 ≤ at → at < data_offset_of second → (at - 16) / (if second then 16 else 8) < (if second then 16 else 8)
  inner true at le lt = omega arith
  inner false at le lt = omega arith

pub same_page : (g h : Sizes) (u v : List ℕ) (p : ℕ) (a b : ℕ → Bool) → g ≡ h → u ≡ v → a ≡ b → spelled_page g u p a ≡ spelled_page h v p b
same_page g h u v p a b e f k = rw (e, f, k) refl

-- one sector more
pub pushed : (xs ys : List Sector) (v : Sector) (n : ℕ) (f : ℕ → Sector) → ys ≡ xs ++ v ∷ [] → length xs ≡ n
    → ((k : ℕ) → k < n → get_or xs k zero_sector ≡ f k) → v ≡ f n
    → (length ys ≡ n + 1) × ((k : ℕ) → k < n + 1 → get_or ys k zero_sector ≡ f k)
pushed xs ys v n f more count each here =
    let size : length ys ≡ n + 1 = ap length more ∙ length_push xs v ∙ ap (λ k. k + 1) count in (
      size,
      λ k lt. ap (λ zs. get_or zs k zero_sector) more ∙ elim (cases_lt k n) [
        | inl below ↦ get_or_append_left xs (v ∷ []) zero_sector k (subst (λ j. k < j) (sym count) below) ∙ each k below
        | inr past ↦ let last : n ≡ k = omega arith in get_or_push xs v zero_sector k (count ∙ last) ∙ here ∙ ap f last
      ],
    )
