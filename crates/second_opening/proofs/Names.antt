-- Names and uuids are bytes.
use Rattle.std.proofs.Common.{◌≡◌, ℕ, zero, suc, ◌+◌, ◌-◌, ◌<◌, ◌≤◌, ◌&&◌, ◌==◌, nat_lt, nat_le, if◌then◌else◌, Bool, true, false, not, cond, List, [], ◌∷◌, length, get_or, drop, refl, ap, sym, ◌∙◌, subst, arith, inl, inr, Some, None}
use Rattle.std.specs.Prelude.{unwrap_or}
use Rattle.std.proofs.lemmas.Bool.{cases_lt}
use Rattle.std.proofs.lemmas.Bool.Decides.{nat_tests}
use Rattle.std.proofs.lemmas.List.{get_or_past}
use Rattle.std.proofs.lemmas.List.FromFn.{get_or-map-range_with_len}
use Rattle.std.specs.List.{position_or_len}
use Rattle.mdc_types.specs.Geometry.{Sizes}
use Rattle.mdc_types.specs.Names.{is_name_byte, name_length, is_zero, is_name}
use Rattle.mdc_types.specs.Ranges.{holds}
use Rattle.md_superblock.specs.Arrays.{AreBytes}
use Rattle.slot_pages.specs.Slot.{spelled_page, byte_of_page, header_byte}
use Rattle.image_array.proofs.AgreementLaws.{both}

-- Names.

abbrev other : ℕ → Bool
other b = not (is_name_byte b)

small_byte : (b : ℕ) → is_name_byte b ≡ true → b < 256
small_byte b is = grind (arith, nat_tests)

zero_at : (xs : List ℕ) (i : ℕ) → is_zero xs ≡ true → get_or xs i 0 ≡ 0
zero_at [] i is = refl
zero_at (x ∷ xs) zero is = let e = (both (x == 0) (is_zero xs) is).0 in grind (arith, nat_tests)
zero_at (x ∷ xs) (suc i) is = zero_at xs i (both (x == 0) (is_zero xs) is).1

cut : (b : ℕ) (name : List ℕ) (c : Bool) → is_name_byte b ≡ c → (n : ℕ) → suc n ≤ position_or_len other (b ∷ name) → (c ≡ true) × (n ≤ position_or_len other name)
cut b name true e n le = (refl, (let h : suc n ≤ 1 + position_or_len other name = (rw e at le) in omega (arith, h)))
cut b name false e n le = let h : suc n ≤ 0 = (rw e at le) in absurd (omega (arith, h))

bytes_to : (name : List ℕ) (n i : ℕ) → n ≤ position_or_len other name → is_zero (drop n name) ≡ true → get_or name i 0 < 256
bytes_to [] n i le is = omega arith
bytes_to (b ∷ name) zero i le is = let e = zero_at (b ∷ name) i is in omega (arith, e)
bytes_to (b ∷ name) (suc n) zero le is = small_byte b (cut b name (is_name_byte b) refl n le).0
bytes_to (b ∷ name) (suc n) (suc i) le is = bytes_to name n i (cut b name (is_name_byte b) refl n le).1 is

at_most : (b : Bool) (k n : ℕ) → nat_lt k n ≡ b → unwrap_or (cond b (Some k) None) n ≤ k
at_most true k n e = omega arith
at_most false k n e = grind (arith, nat_tests)

length_most : (name : List ℕ) → name_length name ≤ position_or_len other name
unfolding name_length
length_most name = at_most (nat_lt (position_or_len other name) (length name)) (position_or_len other name) (length name) refl

pub name_bytes : (name : List ℕ) → is_name name ≡ true → length name ≡ 32 → AreBytes 32 name
name_bytes name is long =
    let h = both (nat_le 1 (name_length name) && nat_le (name_length name) 31) (is_zero (drop (name_length name) name)) is in
    record { size = long; each = λ i. bytes_to name (name_length name) i (length_most name) h.1 }

-- The header.

byte_here : (g : Sizes) (uuid : List ℕ) (set : ℕ → Bool) (i : ℕ) → i < 256 → get_or (spelled_page g uuid 0 set) i 0 ≡ header_byte g uuid i
unfolding spelled_page
byte_here g uuid set i lt =
    let here : nat_lt i 256 ≡ true = grind (arith, nat_tests) in
    get_or-map-range_with_len (byte_of_page g uuid 0 set) 0 512 i i 0 (omega arith) (omega arith) ∙ rw here refl

uuid_pick : (i magic version uuid events room chunk nodes : ℕ) → 8 ≤ i → i < 24
    → (if holds 0 4 i then magic else if holds 4 8 i then version else if holds 8 24 i then uuid else if holds 24 32 i then events else if holds 40 48 i then room else if holds 52 56 i then chunk else if holds 68 72 i then nodes else 0) ≡ uuid
uuid_pick i magic version uuid events room chunk nodes le lt = grind (arith, nat_tests)

header_uuid : (g : Sizes) (uuid : List ℕ) (i : ℕ) → length uuid ≡ 16 → i < 16 → header_byte g uuid (8 + i) ≡ get_or uuid i 0
header_uuid g uuid i sixteen lt =
    let e : (8 + i) - 8 ≡ i = omega arith in
    rw sixteen (uuid_pick (8 + i) _ _ _ _ _ _ _ (omega arith) (omega arith)) ∙ ap (λ k. get_or uuid k 0) e

-- the uuid of a page whose bytes fit
pub uuid_bytes : (g : Sizes) (uuid page : List ℕ) (set : ℕ → Bool) → length uuid ≡ 16 → ((i : ℕ) → get_or page i 0 < 256) → page ≡ spelled_page g uuid 0 set → AreBytes 16 uuid
uuid_bytes g uuid page set sixteen fit is = record {
  size = sixteen;
  each = λ i. elim (cases_lt i 16) [
    | inl lt ↦
        let e : get_or page (8 + i) 0 ≡ get_or uuid i 0 = ap (λ p. get_or p (8 + i) 0) is ∙ byte_here g uuid set (8 + i) (omega arith) ∙ header_uuid g uuid i sixteen lt in
        subst (λ b. b < 256) e (fit (8 + i))
    | inr past ↦ let e : get_or uuid i 0 ≡ 0 = get_or_past uuid i 0 (omega (arith, sixteen, past)) in subst (λ b. b < 256) (sym e) (omega arith)
  ];
}
