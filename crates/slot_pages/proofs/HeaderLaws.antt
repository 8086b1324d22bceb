-- Fields that are put into a page, and the header that they make.
use Rattle.std.proofs.Common.{inl, inr, ◌≡◌, ◌≢◌, ◌==◌, not, true, false, ℕ, ◌+◌, ◌-◌, ◌<◌, ◌≤◌, if◌then◌else◌, List, [], ◌∷◌, length, get_or, replicate, ap, ◌∙◌, arith}
use Rattle.std.proofs.lemmas.Bool.Decides.{nat_tests}
use Rattle.std.proofs.lemmas.Bool.{cases_eq, cases_lt}
use Rattle.std.proofs.lemmas.List.{get_or-set_same, get_or-set_other, get_or-replicate, get_or_past, length-replicate}
use Rattle.std.proofs.Math.ListN.{set}
use Rattle.mdc_types.specs.Ranges.{holds}
use Rattle.slot_pages.specs.Slot.{byte_in, header_byte}
use Rattle.mdc_types.specs.Geometry.{Sizes}

-- one byte more of a field
pub put_more : (old new field : List ℕ) (at k byte : ℕ) → at + k < length new → byte ≡ get_or field k 0
    → ((i : ℕ) → get_or new i 0 ≡ (if holds at (at + k) i then get_or field (i - at) 0 else get_or old i 0))
    → (i : ℕ) → get_or (set new (at + k) byte) i 0 ≡ (if holds at (at + (k + 1)) i then get_or field (i - at) 0 else get_or old i 0)
put_more old new field at k byte lt is so i = elim (cases_eq i (at + k)) [
  | inl same ↦ let e : i - at ≡ k = omega arith in grind (arith, nat_tests, so i, get_or-set_same)
  | inr other ↦ grind (arith, nat_tests, so i, get_or-set_other)
]

-- the fields don't overlap, so the order in which they are put doesn't matter
pub fields_apart : (i magic version uuid events room chunk nodes : ℕ) →
    (if holds 68 72 i then nodes else if holds 52 56 i then chunk else if holds 40 48 i then room else if holds 24 32 i then events else if holds 8 24 i then uuid else if holds 4 8 i then version else if holds 0 4 i then magic else 0)
    ≡ (if holds 0 4 i then magic else if holds 4 8 i then version else if holds 8 24 i then uuid else if holds 24 32 i then events else if holds 40 48 i then room else if holds 52 56 i then chunk else if holds 68 72 i then nodes else 0)
fields_apart i magic version uuid events room chunk nodes = grind (arith, nat_tests)

-- the byte at i after the fields were put into an empty page one after another
put_is : (i : ℕ) (empty p q r s t u page magic version uuid events room chunk nodes : List ℕ)
    → length magic ≡ 4 → length version ≡ 4 → length uuid ≡ 16 → length events ≡ 8 → length room ≡ 8 → length chunk ≡ 4 → length nodes ≡ 4
    → get_or empty i 0 ≡ 0
    → get_or p i 0 ≡ (if holds 0 (0 + length magic) i then get_or magic (i - 0) 0 else get_or empty i 0)
    → get_or q i 0 ≡ (if holds 4 (4 + length version) i then get_or version (i - 4) 0 else get_or p i 0)
    → get_or r i 0 ≡ (if holds 8 (8 + length uuid) i then get_or uuid (i - 8) 0 else get_or q i 0)
    → get_or s i 0 ≡ (if holds 24 (24 + length events) i then get_or events (i - 24) 0 else get_or r i 0)
    → get_or t i 0 ≡ (if holds 40 (40 + length room) i then get_or room (i - 40) 0 else get_or s i 0)
    → get_or u i 0 ≡ (if holds 52 (52 + length chunk) i then get_or chunk (i - 52) 0 else get_or t i 0)
    → get_or page i 0 ≡ (if holds 68 (68 + length nodes) i then get_or nodes (i - 68) 0 else get_or u i 0)
    → get_or page i 0 ≡ byte_in ((0, magic) ∷ (4, version) ∷ (8, uuid) ∷ (24, events) ∷ (40, room) ∷ (52, chunk) ∷ (68, nodes) ∷ []) i
put_is i empty p q r s t u page magic version uuid events room chunk nodes a b c d e f g none h j k l m n o =
    rw (o, n, m, l, k, j, h, none, a, b, c, d, e, f, g) (fields_apart i _ _ _ _ _ _ _)

-- the same where the fields are those of the header
pub header_is : (i : ℕ) (empty p q r s t u page a b uuid c d e f magic version events room chunk nodes : List ℕ)
    → a ≡ magic → b ≡ version → c ≡ events → d ≡ room → e ≡ chunk → f ≡ nodes
    → length magic ≡ 4 → length version ≡ 4 → length uuid ≡ 16 → length events ≡ 8 → length room ≡ 8 → length chunk ≡ 4 → length nodes ≡ 4
    → get_or empty i 0 ≡ 0
    → get_or p i 0 ≡ (if holds 0 (0 + length a) i then get_or a (i - 0) 0 else get_or empty i 0)
    → get_or q i 0 ≡ (if holds 4 (4 + length b) i then get_or b (i - 4) 0 else get_or p i 0)
    → get_or r i 0 ≡ (if holds 8 (8 + length uuid) i then get_or uuid (i - 8) 0 else get_or q i 0)
    → get_or s i 0 ≡ (if holds 24 (24 + length c) i then get_or c (i - 24) 0 else get_or r i 0)
    → get_or t i 0 ≡ (if holds 40 (40 + length d) i then get_or d (i - 40) 0 else get_or s i 0)
    → get_or u i 0 ≡ (if holds 52 (52 + length e) i then get_or e (i - 52) 0 else get_or t i 0)
    → get_or page i 0 ≡ (if holds 68 (68 + length f) i then get_or f (i - 68) 0 else get_or u i 0)
    → get_or page i 0 ≡ byte_in ((0, magic) ∷ (4, version) ∷ (8, uuid) ∷ (24, events) ∷ (40, room) ∷ (52, chunk) ∷ (68, nodes) ∷ []) i
header_is i empty p q r s t u page a b uuid c d e f magic version events room chunk nodes ea eb ec ed ee ef la lb lu lc ld le lf none h j k l m n o =
    rw (← ea, ← eb, ← ec, ← ed, ← ee, ← ef) (put_is i empty p q r s t u page a b uuid c d e f (ap (length {A = ℕ}) ea ∙ la) (ap (length {A = ℕ}) eb ∙ lb) lu (ap (length {A = ℕ}) ec ∙ lc) (ap (length {A = ℕ}) ed ∙ ld) (ap (length {A = ℕ}) ee ∙ le) (ap (length {A = ℕ}) ef ∙ lf) none h j k l m n o)

-- no byte is set in an empty page
pub zeros : (n i : ℕ) → get_or {A = ℕ} (replicate n 0) i 0 ≡ 0
zeros n i = elim (cases_lt i n) [
  | inl lt ↦ get_or-replicate n i 0 0 lt
  | inr ge ↦ get_or_past (replicate n 0) i 0 (rw length-replicate ge)
]

pub same_byte : (byte wanted fixed : ℕ) → wanted ≡ fixed → byte ≡ wanted → not (byte == fixed) ≡ false
same_byte byte wanted fixed is same = grind (arith, nat_tests)

pub other_byte : (byte wanted fixed : ℕ) → wanted ≡ fixed → byte ≢ wanted → not (byte == fixed) ≡ true
other_byte byte wanted fixed is other = grind (arith, nat_tests)

-- the header leaves the rest of page 0 empty
pub header_ends : (g : Sizes) (uuid : List ℕ) (i : ℕ) → length uuid ≡ 16 → 72 ≤ i → header_byte g uuid i ≡ 0
header_ends g uuid i sixteen past = rw sixteen (grind (arith, nat_tests))
