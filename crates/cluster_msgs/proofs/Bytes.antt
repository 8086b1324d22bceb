-- Blocks as they are written and read.
use Rattle.std.proofs.Common.{◌≡◌, ◌∙◌, sym, ap, subst, length, drop, take, ◌++◌, ℕ, zero, suc, ◌*◌, ◌^◌, ◌<◌, List, [], ◌∷◌, Some, refl, arith}
use Rattle.std.specs.Prelude.{slice_index}
use Rattle.std.proofs.lemmas.Bool.Decides.{nat_tests}
use Rattle.std.proofs.lemmas.List.{take_at, drop_at, drop_all, take_all, append-nil, same_lists, get_or_default}
use Rattle.std.specs.List.{flat_map}
use borrow.Rule.Slice.PartMut.{put_mid, mid_of}
use Rattle.byteorder.specs.Endian.{little_bytes, little_number}
use Rattle.byteorder.specs.Numbers.{little_number-reads_back}
use Rattle.cluster_msgs.specs.declared.fields.Fields.{Fields}
use Rattle.mdc_types.specs.declared.numbers.Range.{Range}
use Rattle.cluster_msgs.specs.Layout.{layout}
use Rattle.cluster_msgs.specs.Ranges.{IsRange, SpellsRange, spelled_range}
use Rattle.cluster_msgs.specs.Reading.{below, range_of}

-- after the first sixteen bytes all others are replaced
pub arrays-put : (uuid rest words : List ℕ) (k : ℕ) → length uuid ≡ 16 → length rest ≡ k → put_mid 16 k (uuid ++ rest) words ≡ uuid ++ words
arrays-put uuid rest words k sixteen same = rw (take_at uuid rest 16 sixteen, drop_at uuid rest 16 sixteen, drop_all k rest (omega arith), append-nil words) refl

-- each word is two bytes
length-words : (xs : List ℕ) → length (flat_map (little_bytes 2) xs) ≡ 2 * length xs
length-words [] = refl
length-words (x ∷ xs) = let e = length-words xs in omega (arith, e)

-- a word is read where it stands
word_at : (xs : List ℕ) (k : ℕ) → ((j : ℕ) → slice_index xs j < 2 ^ 16) → k < length xs → little_number 2 (drop (2 * k) (flat_map (little_bytes 2) xs)) ≡ slice_index xs k
word_at [] k fit lt = absurd (omega (arith, lt))
word_at (x ∷ xs) zero fit lt = little_number-reads_back 2 x (flat_map (little_bytes 2) xs) (fit 0)
word_at (x ∷ xs) (suc k) fit lt =
    let e : 2 * suc k ≡ suc (suc (2 * k)) = omega arith in
    rw e (word_at xs k (λ j. fit (suc j)) (omega (arith, lt)))

last_words : (uuid rest : List ℕ) → length uuid ≡ 16 → length rest ≡ 16 → take 16 (drop 16 (uuid ++ rest)) ≡ rest
last_words uuid rest sixteen same = rw (drop_at uuid rest 16 sixteen, take_all 16 rest (omega arith)) refl

-- each field has its size
pub record AreFields (f : Fields) : Type 0 where
  pub kind : f.kind < 2 ^ 32
  pub slot : f.slot < 2 ^ 32
  pub first : f.first < 2 ^ 64
  pub second : f.second < 2 ^ 64
  pub leg : f.leg < 2 ^ 32
  pub uuid : length f.uuid ≡ 16
  pub roles : length f.roles ≡ 8
  pub codes : (k : ℕ) → slice_index f.roles k < 2 ^ 16

-- these fields are read of the bytes
pub record ReadFrom (r : Fields) (bytes : List ℕ) : Type 0 where
  pub kind : r.kind ≡ little_number 4 (mid_of 0 64 bytes)
  pub slot : r.slot ≡ little_number 4 (mid_of 4 60 bytes)
  pub first : r.first ≡ little_number 8 (mid_of 8 56 bytes)
  pub second : r.second ≡ little_number 8 (mid_of 16 48 bytes)
  pub leg : r.leg ≡ little_number 4 (mid_of 24 40 bytes)
  pub uuid : r.uuid ≡ mid_of 32 16 bytes
  pub roles : (k : ℕ) → k < length r.roles → slice_index r.roles k ≡ little_number 2 (drop (2 * k) (mid_of 48 16 bytes))
  pub eight : length r.roles ≡ 8

-- other fields are not
pub read_once : (r s : Fields) (bytes : List ℕ) → ReadFrom r bytes → ReadFrom s bytes → r ≡ s
read_once r s bytes a b =
    let k : r.kind ≡ s.kind = a.kind ∙ sym b.kind in
    let n : r.slot ≡ s.slot = a.slot ∙ sym b.slot in
    let f : r.first ≡ s.first = a.first ∙ sym b.first in
    let g : r.second ≡ s.second = a.second ∙ sym b.second in
    let l : r.leg ≡ s.leg = a.leg ∙ sym b.leg in
    let u : r.uuid ≡ s.uuid = a.uuid ∙ sym b.uuid in
    let c : r.roles ≡ s.roles = same_lists r.roles s.roles (a.eight ∙ sym b.eight) (λ j d lt. get_or_default r.roles j d 0 lt ∙ a.roles j lt ∙ sym (b.roles j (omega (arith, lt, a.eight, b.eight))) ∙ get_or_default s.roles j 0 d (omega (arith, lt, a.eight, b.eight))) in
    λ i. record { kind = k i; slot = n i; first = f i; second = g i; leg = l i; uuid = u i; roles = c i }

-- fields are read of their layout
read_layout : (f : Fields) → AreFields f → ReadFrom f (layout f)
unfolding layout
read_layout f fits =
    let length_words : length (flat_map (little_bytes 2) f.roles) ≡ 16 = omega (arith, length-words f.roles, fits.roles) in
    record {
      kind = sym (little_number-reads_back 4 f.kind [] fits.kind);
      slot = sym (little_number-reads_back 4 f.slot [] fits.slot);
      first = sym (little_number-reads_back 8 f.first [] fits.first);
      second = sym (little_number-reads_back 8 f.second [] fits.second);
      leg = sym (little_number-reads_back 4 f.leg [] fits.leg);
      uuid = sym (take_at f.uuid _ 16 fits.uuid);
      roles = λ k lt. sym (ap (λ b. little_number 2 (drop (2 * k) b)) (last_words f.uuid _ fits.uuid length_words) ∙ word_at f.roles k fits.codes lt);
      eight = fits.roles;
    }

-- what is laid out is read
pub fields_are : (r f : Fields) (bytes : List ℕ) → ReadFrom r bytes → AreFields f → bytes ≡ layout f → r ≡ f
fields_are r f bytes reads fits e = read_once r f bytes reads (subst (ReadFrom f) (sym e) (read_layout f fits))

-- two lists of fields are laid out apart
pub layout_once : (f g : Fields) → AreFields f → AreFields g → layout f ≡ layout g → f ≡ g
layout_once f g fits other e = fields_are f g (layout f) (read_layout f fits) other e

-- a number below the bound is kept
pub below-lt : (bound n : ℕ) → n < bound → below bound n ≡ Some n
below-lt bound n lt = grind (arith, nat_tests)

lo_below : (r : Range) → IsRange r → r.lo < 2 ^ 32
lo_below r is = grind (arith, nat_tests, is.hi, is.order, is.empty)

pub range_of-ends : (r : Range) → IsRange r → range_of r.lo r.hi ≡ Some r
unfolding range_of
range_of-ends r is =
    let lo : below (2 ^ 32) r.lo ≡ Some r.lo = below-lt (2 ^ 32) r.lo (lo_below r is) in
    let hi : below (2 ^ 32) r.hi ≡ Some r.hi = below-lt (2 ^ 32) r.hi (omega (arith, is.hi)) in
    rw (lo, hi) refl

-- what a range block spells is read
pub range_of-spelled : (bytes : List ℕ) (r : Range) (lo hi : ℕ) → SpellsRange bytes r → lo ≡ little_number 8 (mid_of 0 64 bytes) → hi ≡ little_number 8 (mid_of 8 56 bytes) → range_of lo hi ≡ Some r
unfolding spelled_range
range_of-spelled bytes r lo hi is from to =
    let a : lo ≡ r.lo = from ∙ ap (λ b. little_number 8 (mid_of 0 64 b)) is.bytes_are ∙ little_number-reads_back 8 r.lo [] (omega (arith, lo_below r is.range)) in
    let b : hi ≡ r.hi = to ∙ ap (λ b. little_number 8 (mid_of 8 56 b)) is.bytes_are ∙ little_number-reads_back 8 r.hi [] (omega (arith, is.range.hi)) in
    rw (a, b) (range_of-ends r is.range)

-- two ranges are spelled apart
pub range_once : (r s : Range) → IsRange r → IsRange s → spelled_range r ≡ spelled_range s → r ≡ s
range_once r s is other e =
    let bytes : List ℕ = spelled_range r in
    let a = range_of-spelled bytes r _ _ (record { range = is; bytes_are = refl }) refl refl in
    let b = range_of-spelled bytes s _ _ (record { range = other; bytes_are = e }) refl refl in
    let same : Some r ≡ Some s = sym a ∙ b in
    cc
