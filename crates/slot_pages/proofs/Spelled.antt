-- The bytes that spell a set in a page: their bits, and that no others spell it.
use Rattle.std.proofs.Common.{inl, inr, ◌≡◌, ◌==◌, ℕ, zero, suc, ◌+◌, ◌-◌, ◌*◌, ◌/◌, ◌%◌, ◌^◌, ◌<◌, ◌≤◌, Bool, true, false, ◌&&◌, nat_lt, List, [], ◌∷◌, length, get_or, None, refl, sym, ap, ◌∙◌, arith, lit<}
use Rattle.std.specs.Int.{bit_at, bytes_low_first}
use Rattle.std.proofs.lemmas.Bool.Decides.{nat_tests}
use Rattle.std.proofs.lemmas.Bool.{cases_eq, cases_lt, cases_Bool}
use Rattle.std.proofs.lemmas.List.{get_or_past}
use Rattle.std.proofs.lemmas.List.FromFn.{get_or-map-range_with_len, length-map-range_with_len}
use Rattle.std.proofs.lemmas.Grind.{same_number_lists}
use Rattle.std.proofs.lemmas.Nat.{or_lt}
use Rattle.std.proofs.lemmas.Nat.Bits.{bit_at-lt, same_from_bits_below}
use Rattle.std.proofs.Math.Nat.{mod-lt}
use Rattle.std.proofs.Math.Pow.{pow-lt}
use Rattle.mdc_types.specs.Bits.{has_bit}
use Rattle.mdc_types.proofs.BitsLaws.{has_bit-with_bit}
use Rattle.mdc_types.specs.Geometry.{Sizes, chunks_of, nodes_of, page_of}
use Rattle.mdc_types.specs.Ranges.{holds}
use Rattle.mdc_types.specs.Sectors.{IsSector}
use Rattle.slot_pages.specs.Slot.{header_fields, byte_in, header_byte, byte_of_chunk, chunk_bit, Spells, page_has, chunk_of_bit, bits_below, is_set, byte_of_page, spelled_page}
use Rattle.slot_pages.specs.Faults.{slot_fault}
use Rattle.slot_pages.specs.Laws.{IsUuid}
use Rattle.slot_pages.proofs.PageLaws.{page_of-bounds, page_of-within}
use Rattle.slot_pages.proofs.GrammarLaws.{no_bit, faultless_is_spelled}

-- A byte of bits.

pub has_bit-bits_below : (test : ℕ → Bool) (n k : ℕ) → has_bit (bits_below test n) k ≡ (nat_lt k n && test k)
unfolding bits_below
has_bit-bits_below test zero k = grind (arith, nat_tests, no_bit k)
has_bit-bits_below test (suc n) k = elim (cases_Bool (test n)) [
  | inl set ↦ elim (cases_eq k n) [
    | inl same ↦ grind (arith, nat_tests, has_bit-with_bit (bits_below test n) n k)
    | inr other ↦ grind (arith, nat_tests, has_bit-with_bit (bits_below test n) n k, has_bit-bits_below test n k)
  ]
  | inr clear ↦ elim (cases_eq k n) [
    | inl same ↦ grind (arith, nat_tests, has_bit-bits_below test n k)
    | inr other ↦ grind (arith, nat_tests, has_bit-bits_below test n k)
  ]
]

bits_below-lt : (test : ℕ → Bool) (n : ℕ) → n ≤ 8 → bits_below test n < 2 ^ 8
unfolding bits_below
bits_below-lt test zero le = lit< tt
bits_below-lt test (suc n) le = elim (cases_Bool (test n)) [
  | inl set ↦ rw set (or_lt 8 (bits_below test n) (2 ^ n) (bits_below-lt test n (omega arith)) (pow-lt le))
  | inr clear ↦ rw clear (bits_below-lt test n (omega arith))
]

-- Bytes of a page.

get_or-spelled_page : (g : Sizes) (uuid : List ℕ) (p : ℕ) (set : ℕ → Bool) (i : ℕ) → i < 512 → get_or (spelled_page g uuid p set) i 0 ≡ byte_of_page g uuid p set i
unfolding spelled_page
get_or-spelled_page g uuid p set i lt = get_or-map-range_with_len (byte_of_page g uuid p set) 0 512 i i 0 lt (omega arith)

length-spelled_page : (g : Sizes) (uuid : List ℕ) (p : ℕ) (set : ℕ → Bool) → length (spelled_page g uuid p set) ≡ 512
unfolding spelled_page
length-spelled_page g uuid p set = length-map-range_with_len (byte_of_page g uuid p set) 0 512

header_at : (g : Sizes) (uuid : List ℕ) (p : ℕ) (set : ℕ → Bool) (i : ℕ) → p ≡ 0 → i < 256 → get_or (spelled_page g uuid p set) i 0 ≡ header_byte g uuid i
header_at g uuid p set i first lt = get_or-spelled_page g uuid p set i (omega arith) ∙ choice where
  choice : byte_of_page g uuid p set i ≡ header_byte g uuid i
  choice = let here : ((p == 0) && nat_lt i 256) ≡ true = grind (arith, nat_tests) in rw here refl

bits_at : (g : Sizes) (uuid : List ℕ) (p : ℕ) (set : ℕ → Bool) (i : ℕ) → 256 ≤ 512 * p + i → i < 512 → get_or (spelled_page g uuid p set) i 0 ≡ bits_below (λ k. is_set g set (chunk_of_bit p i k)) 8
bits_at g uuid p set i past lt = get_or-spelled_page g uuid p set i lt ∙ choice where
  choice : byte_of_page g uuid p set i ≡ bits_below (λ k. is_set g set (chunk_of_bit p i k)) 8
  choice = let there : ((p == 0) && nat_lt i 256) ≡ false = grind (arith, nat_tests) in rw there refl

place_of : (c p : ℕ) → page_of c ≡ p → (256 ≤ 512 * p + byte_of_chunk c) × (byte_of_chunk c < 512) × (chunk_of_bit p (byte_of_chunk c) (c % 8) ≡ c)
place_of c p here = let bounds = page_of-bounds c p here in (omega arith, omega arith, omega arith)

chunk_in : (p i k : ℕ) → 256 ≤ 512 * p + i → i < 512 → k < 8 → (page_of (chunk_of_bit p i k) ≡ p) × (byte_of_chunk (chunk_of_bit p i k) ≡ i) × (chunk_of_bit p i k % 8 ≡ k)
chunk_in p i k past lt few = (page_of-within (chunk_of_bit p i k) p (omega arith) (omega arith), omega arith, omega arith)

-- a chunk's bit
pub chunk_bit-spelled : (g : Sizes) (uuid : List ℕ) (p : ℕ) (set : ℕ → Bool) (c : ℕ) → page_of c ≡ p → chunk_bit (spelled_page g uuid p set) c ≡ is_set g set c
chunk_bit-spelled g uuid p set c here =
    let place = place_of c p here in
    let few : c % 8 < 8 = mod-lt c (omega arith) in
    let test : ℕ → Bool = λ k. is_set g set (chunk_of_bit p (byte_of_chunk c) k) in
    let below : nat_lt (c % 8) 8 ≡ true = grind (arith, nat_tests) in
    ap (λ (byte : ℕ). has_bit byte (c % 8)) (bits_at g uuid p set (byte_of_chunk c) place.0 place.1)
    ∙ has_bit-bits_below test 8 (c % 8)
    ∙ rw (below, place.2) refl

-- Bytes fit.

bytes_low : (k j x i : ℕ) → get_or (bytes_low_first j k x) i 0 < 256
bytes_low zero j x i = omega arith
bytes_low (suc k) zero x zero = mod-lt x (omega arith)
bytes_low (suc k) (suc j) x zero = mod-lt (x / 256 ^ suc j) (omega arith)
bytes_low (suc k) j x (suc i) = bytes_low k (suc j) x i

AllFit : List (ℕ × List ℕ) → Type 0
AllFit [] = Unit {0}
AllFit (field ∷ fields) = ((k : ℕ) → get_or field.1 k 0 < 256) × AllFit fields

byte_in-lt : (fields : List (ℕ × List ℕ)) (i : ℕ) → AllFit fields → byte_in fields i < 256
unfolding AllFit
byte_in-lt [] i fit = omega arith
byte_in-lt (field ∷ fields) i fit = elim (cases_Bool (holds field.0 (field.0 + length field.1) i)) [
  | inl here ↦ rw here (fit.0 (i - field.0))
  | inr there ↦ rw there (byte_in-lt fields i fit.1)
]

header-lt : (g : Sizes) (uuid : List ℕ) (i : ℕ) → IsUuid uuid → header_byte g uuid i < 256
unfolding AllFit
header-lt g uuid i is = byte_in-lt (header_fields g uuid) i (bytes_low 4 0 0x6d746962, (bytes_low 4 0 5, (is.fit, (bytes_low 8 0 0, (bytes_low 8 0 g.room, (bytes_low 4 0 (512 * g.chunk), (bytes_low 4 0 (nodes_of g), tt)))))))

spelled-fit : (g : Sizes) (uuid : List ℕ) (p : ℕ) (set : ℕ → Bool) (i : ℕ) → IsUuid uuid → get_or (spelled_page g uuid p set) i 0 < 256
spelled-fit g uuid p set i is = elim (cases_lt i 512) [
  | inl lt ↦ elim (cases_lt (512 * p + i) 256) [
    | inl before ↦ rw (header_at g uuid p set i (omega arith) (omega arith)) (header-lt g uuid i is)
    | inr past ↦ rw (bits_at g uuid p set i past lt) (bits_below-lt (λ k. is_set g set (chunk_of_bit p i k)) 8 (omega arith))
  ]
  | inr past ↦ let none = get_or_past (spelled_page g uuid p set) i 0 (omega (arith, past, length-spelled_page g uuid p set)) in omega (arith, none)
]

-- The laws.

pub has_the_set : (g : Sizes) (uuid : List ℕ) (p : ℕ) (set : ℕ → Bool) (c : ℕ) → page_has g p (spelled_page g uuid p set) c ≡ (nat_lt c (chunks_of g) && (page_of c == p) && set c)
has_the_set g uuid p set c = elim (cases_eq (page_of c) p) [
  | inl here ↦ let bit = chunk_bit-spelled g uuid p set c here in grind (arith, nat_tests, bit)
  | inr other ↦ grind (arith, nat_tests)
]

pub spells_the_set : (g : Sizes) (uuid : List ℕ) (p : ℕ) (set : List Bool) → IsUuid uuid → length set ≡ chunks_of g
    → IsSector (spelled_page g uuid p (λ c. get_or set c false)) × Spells g uuid p set (spelled_page g uuid p (λ c. get_or set c false))
spells_the_set g uuid p set is chunks =
    let flags : ℕ → Bool = λ c. get_or set c false in (
      record { size = length-spelled_page g uuid p flags; each = λ i. spelled-fit g uuid p flags i is },
      record {
        chunks = chunks;
        header = λ first i lt. header_at g uuid p flags i first lt;
        bits = λ c here lt. let bit = chunk_bit-spelled g uuid p flags c here in grind (arith, nat_tests, bit);
        spare = λ c here past. let bit = chunk_bit-spelled g uuid p flags c here in grind (arith, nat_tests, bit);
      },
    )

bits_agree : (a b j : ℕ) → has_bit a j ≡ has_bit b j → bit_at a j ≡ bit_at b j
bits_agree a b j same = grind (arith, nat_tests, bit_at-lt a j, bit_at-lt b j)

bit_there : (page : List ℕ) (p i k : ℕ) → 256 ≤ 512 * p + i → i < 512 → k < 8 → chunk_bit page (chunk_of_bit p i k) ≡ has_bit (get_or page i 0) k
bit_there page p i k past lt few = let place = chunk_in p i k past lt few in rw (place.1, place.2) refl

-- a page with the header and these bits is the one that is spelled
page_is : (g : Sizes) (uuid : List ℕ) (p : ℕ) (set : ℕ → Bool) (page : List ℕ) → IsSector page
    → (p ≡ 0 → (i : ℕ) → i < 256 → get_or page i 0 ≡ header_byte g uuid i)
    → ((c : ℕ) → page_of c ≡ p → chunk_bit page c ≡ is_set g set c)
    → page ≡ spelled_page g uuid p set
page_is g uuid p set page sector header bits = same_number_lists page (spelled_page g uuid p set) (sector.size ∙ sym (length-spelled_page g uuid p set)) (λ i lt. elim (cases_lt (512 * p + i) 256) [
  | inl before ↦ let first : p ≡ 0 = omega arith in header first i (omega arith) ∙ sym (header_at g uuid p set i first (omega arith))
  | inr past ↦
      let short : i < 512 = omega (arith, lt, sector.size) in
      let test : ℕ → Bool = λ k. is_set g set (chunk_of_bit p i k) in
      same_from_bits_below 8 (get_or page i 0) (bits_below test 8) (sector.each i) (bits_below-lt test 8 (omega arith)) (λ k few.
      let below : nat_lt k 8 ≡ true = grind (arith, nat_tests) in
      bits_agree (get_or page i 0) (bits_below test 8) k
      (sym (bit_there page p i k past short few) ∙ bits (chunk_of_bit p i k) (chunk_in p i k past short few).0
      ∙ sym (has_bit-bits_below test 8 k ∙ rw below refl)))
      ∙ sym (bits_at g uuid p set i past short)
])

pub has_one_spelling : (g : Sizes) (uuid : List ℕ) (p : ℕ) (set : List Bool) (page : List ℕ) → IsSector page → Spells g uuid p set page → page ≡ spelled_page g uuid p (λ c. get_or set c false)
has_one_spelling g uuid p set page sector spells = page_is g uuid p (λ c. get_or set c false) page sector spells.header (λ c here. elim (cases_lt c (chunks_of g)) [
  | inl lt ↦ grind (arith, nat_tests, spells.bits c here lt)
  | inr past ↦ grind (arith, nat_tests, spells.spare c here past)
])

pub spells_its_bits : (g : Sizes) (uuid : List ℕ) (p : ℕ) (page : List ℕ) → IsSector page → slot_fault g uuid p page ≡ None → page ≡ spelled_page g uuid p (page_has g p page)
spells_its_bits g uuid p page sector none =
    let spells = faultless_is_spelled g uuid p page none in
    page_is g uuid p (page_has g p page) page sector spells.header (λ c here. elim (cases_lt c (chunks_of g)) [
      | inl lt ↦ let bit = chunk_bit page c in grind (arith, nat_tests)
      | inr past ↦ grind (arith, nat_tests, spells.spare c here past)
    ])
