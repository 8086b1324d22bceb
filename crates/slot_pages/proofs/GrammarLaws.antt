-- What a page spells: written bit by bit, read again, and in one way alone.
use Rattle.std.proofs.Common.{inl, inr, ◌≡◌, ◌≢◌, ◌==◌, ℕ, ◌+◌, ◌-◌, ◌*◌, ◌%◌, ◌<◌, ◌≤◌, min, max, Bool, true, false, ◌&&◌, ◌||◌, nat_lt, if◌then◌else◌, List, length, get_or, replicate, Some, None, refl, sym, ap, ◌∙◌, arith}
use Rattle.std.specs.Option.{option_map}
use Rattle.std.specs.Int.{bit_at}
use Rattle.std.proofs.lemmas.Bool.Decides.{nat_tests}
use Rattle.std.proofs.lemmas.Bool.{cases_eq, cases_lt}
use Rattle.std.proofs.lemmas.List.{get_or-set_same, get_or-set_other, get_or_past, length-replicate}
use Rattle.std.proofs.lemmas.List.FromFn.{get_or-map-range_with_len, length-map-range_with_len}
use Rattle.std.proofs.lemmas.Grind.{same_number_lists}
use Rattle.std.proofs.lemmas.Nat.Bits.{bit_at-zero, bit_at-lt, same_from_bits_below}
use Rattle.std.proofs.Math.ListN.{set}
use Rattle.dlm_modes.specs.First.{first_such}
use Rattle.dlm_modes.specs.Guards.{or_then}
use Rattle.dlm_modes.proofs.FirstLaws.{first_such_some, first_such_none}
use Rattle.mdc_types.specs.Bits.{has_bit, with_bit}
use Rattle.mdc_types.proofs.BitsLaws.{has_bit-with_bit}
use Rattle.mdc_types.specs.Geometry.{Sizes, chunks_of, page_of}
use Rattle.mdc_types.specs.Sectors.{IsSector}
use Rattle.slot_pages.specs.Slot.{header_byte, page_start, page_end, byte_of_chunk, chunk_bit, Spells, page_has, set_of_page, AddsPage, AddsChunks}
use Rattle.slot_pages.specs.Faults.{differs, wrong_byte, spare_from, spare_bit, slot_fault}
use Rattle.slot_pages.specs.declared.SlotFault.TheVariants.{Header, SpareBit}
use Rattle.slot_pages.proofs.HeaderLaws.{zeros}
use Rattle.slot_pages.proofs.PageLaws.{page_of-bounds, page_of-within, same_place, after_header}

pub no_bit : (k : ℕ) → has_bit 0 k ≡ false
no_bit k = ap (λ (b : ℕ). b == 1) (bit_at-zero k)

pub empty_bit : (n c : ℕ) → chunk_bit (replicate n 0) c ≡ false
empty_bit n c = ap (λ (byte : ℕ). has_bit byte (c % 8)) (zeros n (byte_of_chunk c)) ∙ no_bit (c % 8)

pub empty_sector : (n : ℕ) → n ≡ 512 → IsSector (replicate n 0)
empty_sector n is = record { size = length-replicate n 0 ∙ is; each = λ i. omega (arith, zeros n i) }

-- the page with a chunk's bit set
abbrev pub with_chunk : List ℕ → ℕ → List ℕ
with_chunk page c = set page (byte_of_chunk c) (with_bit (get_or page (byte_of_chunk c) 0) (c % 8))

in_byte : (page : List ℕ) (c k : ℕ) → byte_of_chunk c < length page → byte_of_chunk k ≡ byte_of_chunk c → chunk_bit (with_chunk page c) k ≡ (if k % 8 == c % 8 then true else chunk_bit page k)
in_byte page c k lt same =
    let e : get_or (with_chunk page c) (byte_of_chunk k) 0 ≡ with_bit (get_or page (byte_of_chunk k) 0) (c % 8) =
    rw same (get_or-set_same page (byte_of_chunk c) (with_bit (get_or page (byte_of_chunk c) 0) (c % 8)) 0 lt) in
    ap (λ (byte : ℕ). has_bit byte (k % 8)) e ∙ has_bit-with_bit (get_or page (byte_of_chunk k) 0) (c % 8) (k % 8)

in_other_byte : (page : List ℕ) (c k : ℕ) → byte_of_chunk k ≢ byte_of_chunk c → chunk_bit (with_chunk page c) k ≡ chunk_bit page k
in_other_byte page c k other = ap (λ (byte : ℕ). has_bit byte (k % 8)) (get_or-set_other page (byte_of_chunk c) (byte_of_chunk k) (with_bit (get_or page (byte_of_chunk c) 0) (c % 8)) 0 other)

pub chunk_bit-with_chunk : (page : List ℕ) (p c k : ℕ) → length page ≡ 512 → page_of c ≡ p → page_of k ≡ p → chunk_bit (with_chunk page c) k ≡ (if k == c then true else chunk_bit page k)
chunk_bit-with_chunk page p c k sector here there = elim (cases_eq (byte_of_chunk k) (byte_of_chunk c)) [
  | inl same ↦ elim (cases_eq k c) [
    | inl one ↦ grind (arith, nat_tests, in_byte page c k (omega arith) same)
    | inr two ↦ let apart : k % 8 ≢ c % 8 = λ bit. two (same_place c k p here there same bit) in grind (arith, nat_tests, in_byte page c k (omega arith) same)
  ]
  | inr other ↦ let apart : k ≢ c = λ one. other (ap byte_of_chunk one) in grind (arith, nat_tests, in_other_byte page c k other)
]

-- one chunk more of a set
pub writes_more : (page : List ℕ) (set : List Bool) (p c : ℕ) → length page ≡ 512 → page_of c ≡ p → get_or set c false ≡ true
    → ((k : ℕ) → page_of k ≡ p → chunk_bit page k ≡ (nat_lt k c && get_or set k false))
    → (k : ℕ) → page_of k ≡ p → chunk_bit (with_chunk page c) k ≡ (nat_lt k (c + 1) && get_or set k false)
writes_more page set p c sector here has so k there = elim (cases_eq k c) [
  | inl one ↦ grind (arith, nat_tests, so k there, chunk_bit-with_chunk page p c k sector here there)
  | inr two ↦ grind (arith, nat_tests, so k there, chunk_bit-with_chunk page p c k sector here there)
]

pub writes_none : (page : List ℕ) (set : List Bool) (p c : ℕ) → get_or set c false ≡ false
    → ((k : ℕ) → page_of k ≡ p → chunk_bit page k ≡ (nat_lt k c && get_or set k false))
    → (k : ℕ) → page_of k ≡ p → chunk_bit page k ≡ (nat_lt k (c + 1) && get_or set k false)
writes_none page set p c has so k there = elim (cases_eq k c) [
  | inl one ↦ grind (arith, nat_tests, so k there)
  | inr two ↦ grind (arith, nat_tests, so k there)
]

pub keeps_header : (page : List ℕ) (c i : ℕ) → page_of c ≡ 0 → i < 256 → get_or (with_chunk page c) i 0 ≡ get_or page i 0
keeps_header page c i here lt = let past = after_header c here in get_or-set_other page (byte_of_chunk c) i _ 0 (omega arith)

-- the page after the last chunk of it
pub writes_all : (g : Sizes) (uuid : List ℕ) (p e : ℕ) (set : List Bool) (page : List ℕ) → length set ≡ chunks_of g
    → e ≤ max (page_start p) (min (page_end p) (chunks_of g)) → min (page_end p) (chunks_of g) ≤ e → page_start p ≤ e
    → (p ≡ 0 → (i : ℕ) → i < 256 → get_or page i 0 ≡ header_byte g uuid i)
    → ((k : ℕ) → page_of k ≡ p → chunk_bit page k ≡ (nat_lt k e && get_or set k false))
    → Spells g uuid p set page
writes_all g uuid p e set page chunks upto end from header so = record {
  chunks = chunks;
  header = header;
  bits = λ c here lt. let within = page_of-bounds c p here in grind (arith, nat_tests, so c here);
  spare = λ c here past. let within = page_of-bounds c p here in grind (arith, nat_tests, so c here);
}

-- The one spelling.

-- chunk of bit j of byte i of page p
chunk_at : ℕ → ℕ → ℕ → ℕ
chunk_at p i j = 8 * (512 * p + i - 256) + j

page_of-chunk_at : (p i j : ℕ) → 256 ≤ 512 * p + i → i < 512 → j < 8 → page_of (chunk_at p i j) ≡ p
unfolding chunk_at
page_of-chunk_at p i j past lt few = page_of-within (8 * (512 * p + i - 256) + j) p (omega arith) (omega arith)

byte_of-chunk_at : (p i j : ℕ) → 256 ≤ 512 * p + i → i < 512 → j < 8 → byte_of_chunk (chunk_at p i j) ≡ i
unfolding chunk_at
byte_of-chunk_at p i j past lt few = omega arith

bit_of-chunk_at : (p i j : ℕ) → j < 8 → chunk_at p i j % 8 ≡ j
unfolding chunk_at
bit_of-chunk_at p i j few = omega arith

same_bit : (g : Sizes) (uuid : List ℕ) (p : ℕ) (set : List Bool) (page : List ℕ) (c : ℕ) → Spells g uuid p set page → page_of c ≡ p → chunk_bit page c ≡ (nat_lt c (chunks_of g) && get_or set c false)
same_bit g uuid p set page c spells here = elim (cases_lt c (chunks_of g)) [
  | inl lt ↦ grind (arith, nat_tests, spells.bits c here lt)
  | inr past ↦ grind (arith, nat_tests, spells.spare c here past)
]

bit_there : (page : List ℕ) (p i j : ℕ) → 256 ≤ 512 * p + i → i < 512 → j < 8 → chunk_bit page (chunk_at p i j) ≡ has_bit (get_or page i 0) j
bit_there page p i j past lt few = rw (byte_of-chunk_at p i j past lt few, bit_of-chunk_at p i j few) refl

bits_agree : (a b j : ℕ) → has_bit a j ≡ has_bit b j → bit_at a j ≡ bit_at b j
bits_agree a b j same = grind (arith, nat_tests, bit_at-lt a j, bit_at-lt b j)

pub one_spelling : (g : Sizes) (uuid : List ℕ) (p : ℕ) (set : List Bool) (a b : List ℕ) → IsSector a → IsSector b → Spells g uuid p set a → Spells g uuid p set b → a ≡ b
one_spelling g uuid p set a b left right one two = same_number_lists a b (left.size ∙ sym right.size) (λ i lt. elim (cases_lt (512 * p + i) 256) [
  | inl before ↦ let first : p ≡ 0 = omega arith in one.header first i (omega arith) ∙ sym (two.header first i (omega arith))
  | inr past ↦
      let short : i < 512 = omega (arith, left.size) in
      same_from_bits_below 8 (get_or a i 0) (get_or b i 0) (left.each i) (right.each i) (λ j few. bits_agree _ _ j
      (sym (bit_there a p i j past short few) ∙ same_bit g uuid p set a (chunk_at p i j) one (page_of-chunk_at p i j past short few)
      ∙ sym (same_bit g uuid p set b (chunk_at p i j) two (page_of-chunk_at p i j past short few)) ∙ bit_there b p i j past short few))
])

-- Reading.

none_such : (p : ℕ → Bool) (i n : ℕ) → ((k : ℕ) → i ≤ k → k < i + n → p k ≡ false) → first_such p i n ≡ None
none_such p i n none = elim (first_such p i n) as (λ r. first_such p i n ≡ r → r ≡ None) [
  | None ↦ λ e. refl
  | Some k ↦ λ e. let f = first_such_some p i n k e in let no = none k f.from f.below in let yes = f.passes in cc
] refl

faultless : (g : Sizes) (uuid : List ℕ) (p : ℕ) (page : List ℕ) → wrong_byte g uuid p page ≡ None → spare_bit g p page ≡ None → slot_fault g uuid p page ≡ None
faultless g uuid p page header spare = rw (header, spare) refl

no_wrong_byte : (g : Sizes) (uuid : List ℕ) (p : ℕ) (page : List ℕ) → slot_fault g uuid p page ≡ None → wrong_byte g uuid p page ≡ None
no_wrong_byte g uuid p page none = elim (wrong_byte g uuid p page) as (λ r. or_then (option_map Header r) (option_map SpareBit (spare_bit g p page)) ≡ None → r ≡ None) [
  | None ↦ λ e. refl
  | Some i ↦ λ e. cc
] none

no_spare_bit : (g : Sizes) (uuid : List ℕ) (p : ℕ) (page : List ℕ) → slot_fault g uuid p page ≡ None → spare_bit g p page ≡ None
no_spare_bit g uuid p page none =
    let here : or_then (option_map Header (wrong_byte g uuid p page)) (option_map SpareBit (spare_bit g p page)) ≡ option_map SpareBit (spare_bit g p page) = rw (no_wrong_byte g uuid p page none) refl in
    elim (spare_bit g p page) as (λ r. option_map SpareBit r ≡ None → r ≡ None) [
      | None ↦ λ e. refl
      | Some i ↦ λ e. cc
    ] (sym here ∙ none)

-- a page that is in the grammar has no fault
pub spelled_is_faultless : (g : Sizes) (uuid : List ℕ) (p : ℕ) (set : List Bool) (page : List ℕ) → Spells g uuid p set page → slot_fault g uuid p page ≡ None
spelled_is_faultless g uuid p set page spells = faultless g uuid p page
    (elim (cases_eq p 0) [
      | inl first ↦ let none = none_such (differs g uuid page) 0 256 (λ i le lt. let e = spells.header first i (omega arith) in grind (arith, nat_tests)) in grind (arith, nat_tests)
      | inr later ↦ grind (arith, nat_tests)
    ])
    (none_such (chunk_bit page) (spare_from g p) (page_end p - spare_from g p) (λ c le lt. spells.spare c (page_of-within c p (omega arith) (omega arith)) (omega arith)))

-- a page without a fault spells its set
pub faultless_is_spelled : (g : Sizes) (uuid : List ℕ) (p : ℕ) (page : List ℕ) → slot_fault g uuid p page ≡ None → Spells g uuid p (set_of_page g p page) page
faultless_is_spelled g uuid p page none = record {
  chunks = length-map-range_with_len (page_has g p page) 0 (chunks_of g);
  header = λ first i lt.
      let e : first_such (differs g uuid page) 0 256 ≡ None = grind (arith, nat_tests, no_wrong_byte g uuid p page none) in
      let same = first_such_none (differs g uuid page) 0 256 e i (omega arith) (omega arith) in
      grind (arith, nat_tests);
  bits = λ c here lt. let e = get_or-map-range_with_len (page_has g p page) 0 (chunks_of g) c c false lt (omega arith) in grind (arith, nat_tests);
  spare = λ c here past. let within = page_of-bounds c p here in
      first_such_none (chunk_bit page) (spare_from g p) (page_end p - spare_from g p) (no_spare_bit g uuid p page none) c (omega arith) (omega arith);
}

-- what a page adds is what its set has there
pub adds_spelled : (g : Sizes) (uuid : List ℕ) (p : ℕ) (set old new : List Bool) (page : List ℕ) → Spells g uuid p set page → AddsPage g p page old new → AddsChunks p set old new
adds_spelled g uuid p set old new page spells adds = record {
  chunks = adds.chunks;
  each = λ c. adds.each c ∙ ap (λ (b : Bool). get_or old c false || b) (elim (cases_eq (page_of c) p) [
    | inl here ↦ elim (cases_lt c (chunks_of g)) [
      | inl lt ↦ grind (arith, nat_tests, spells.bits c here lt)
      | inr past ↦ let e = get_or_past set c false (omega (arith, spells.chunks)) in grind (arith, nat_tests)
    ]
    | inr other ↦ grind (arith, nat_tests)
  ]);
}
