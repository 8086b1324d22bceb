-- Bytes, numbers and parts of a sector by place, and what a write of bytes leaves.
use Rattle.std.proofs.Common.{◌≡◌, ◌⊎◌, inl, inr, ℕ, zero, suc, ◌+◌, ◌-◌, ◌/◌, ◌^◌, ◌<◌, ◌≤◌, nat_lt, nat_le, Bool, true, false, List, [], ◌++◌, length, take, drop, get_or, refl, sym, ap, ◌∙◌, arith}
use Rattle.std.specs.Prelude.{slice_range}
use Rattle.std.proofs.lemmas.Bool.{and_parts, and_cases, leb-true, leb-false, ltb-true, ltb-false, cases_lt}
use Rattle.std.proofs.lemmas.List.{get_or-drop, get_or-take, get_or_append_left, get_or-append_right, append-nil, length-take-le, length-drop, length-append, ext_get_or}
use Rattle.std.proofs.Math.Nat.{mod-lt}
use Rattle.std.specs.Int.{bytes_low_first}
use Rattle.byteorder.specs.Endian.{little_from}
use Rattle.byteorder.specs.Numbers.{little_number-reads_back}
use Rattle.mdc_types.specs.Sectors.{IsSector}
use Rattle.md_superblock.specs.Layout.{number_at, bytes_of, with_bytes, covers}

-- numbers of the same bytes are the same
little_from-agree : (n i j : ℕ) (xs ys : List ℕ) → ((a b : ℕ) → a + j ≡ b + i → i ≤ a → a < i + n → get_or xs a 0 ≡ get_or ys b 0) → little_from i n xs ≡ little_from j n ys
little_from-agree zero i j xs ys same = refl
little_from-agree (suc n) i j xs ys same =
    let here : get_or xs i 0 ≡ get_or ys j 0 = same i j (omega arith) (omega arith) (omega arith) in
    let rest = little_from-agree n (suc i) (suc j) xs ys (λ a b e le lt. same a b (omega arith) (omega arith) (omega arith)) in
    rw (here, rest) refl

pub number_at-agree : (at n : ℕ) (xs ys : List ℕ) → ((a : ℕ) → at ≤ a → a < at + n → get_or xs a 0 ≡ get_or ys a 0) → number_at xs at n ≡ number_at ys at n
unfolding number_at
number_at-agree at n xs ys same = little_from-agree n at at xs ys (λ a b e le lt. let same_place : a ≡ b = omega arith in same a le lt ∙ ap (λ (k : ℕ). get_or ys k 0) same_place)

-- the number whose bytes stand there
pub number_at-is : (at n x : ℕ) (xs : List ℕ) → x < 256 ^ n → ((k : ℕ) → k < n → get_or xs (at + k) 0 ≡ get_or (bytes_of n x) k 0) → number_at xs at n ≡ x
unfolding number_at bytes_of
number_at-is at n x xs fits same =
    little_from-agree n at 0 xs (bytes_of n x) (λ a b e le lt. let place : a ≡ at + b = omega arith in ap (λ (k : ℕ). get_or xs k 0) place ∙ same b (omega arith))
    ∙ ap (little_from 0 n) (sym (append-nil (bytes_of n x))) ∙ little_number-reads_back n x [] fits

same_bytes : (n i : ℕ) (xs ys : List ℕ) → ((k : ℕ) → get_or xs k 0 < 256) → ((k : ℕ) → get_or ys k 0 < 256) → little_from i n xs ≡ little_from i n ys
    → (a : ℕ) → i ≤ a → a < i + n → get_or xs a 0 ≡ get_or ys a 0
same_bytes zero i xs ys each_x each_y e a le lt = absurd (omega arith)
same_bytes (suc n) i xs ys each_x each_y e a le lt =
    let x = each_x i in
    let y = each_y i in
    let here : get_or xs i 0 ≡ get_or ys i 0 = omega arith in
    let rest : little_from (suc i) n xs ≡ little_from (suc i) n ys = omega arith in
    elim (cases_lt i a) [
      | inl above ↦ same_bytes n (suc i) xs ys each_x each_y rest a (omega arith) (omega arith)
      | inr at ↦ let place : a ≡ i = omega arith in ap (λ (k : ℕ). get_or xs k 0) place ∙ here ∙ ap (λ (k : ℕ). get_or ys k 0) (sym place)
    ]

pub covers_in : (at n i : ℕ) → covers at n i ≡ true → (at ≤ i) × (i < at + n)
covers_in at n i e = let parts = and_parts (nat_le at i) (nat_lt i (at + n)) e in (leb-true at i parts.0, ltb-true i (at + n) parts.1)

pub covers_out : (at n i : ℕ) → covers at n i ≡ false → (i < at) ⊎ (at + n ≤ i)
covers_out at n i e = elim (and_cases (nat_le at i) (nat_lt i (at + n)) e) [
  | inl below ↦ inl (leb-false at i below)
  | inr past ↦ inr (ltb-false i (at + n) past)
]

-- bytes of one number are the same
pub same_of_number : (at n : ℕ) (xs ys : List ℕ) → IsSector xs → IsSector ys → number_at xs at n ≡ number_at ys at n → (i : ℕ) → covers at n i ≡ true → get_or xs i 0 ≡ get_or ys i 0
unfolding number_at
same_of_number at n xs ys sector_x sector_y e i inside =
    let place = covers_in at n i inside in
    same_bytes n at xs ys sector_x.each sector_y.each e i place.0 place.1

get_or-slice : (xs : List ℕ) (from to i : ℕ) → from ≤ i → i < to → get_or (slice_range xs from to) (i - from) 0 ≡ get_or xs i 0
get_or-slice xs from to i le lt =
    let place : from + (i - from) ≡ i = omega arith in
    get_or-take (to - from) (drop from xs) (i - from) 0 (omega arith) ∙ get_or-drop from xs (i - from) 0 ∙ ap (λ (k : ℕ). get_or xs k 0) place

-- bytes of one part are the same
pub same_of_part : (from n to : ℕ) (xs ys : List ℕ) → from + n ≡ to → slice_range xs from to ≡ slice_range ys from to → (i : ℕ) → covers from n i ≡ true → get_or xs i 0 ≡ get_or ys i 0
same_of_part from n to xs ys size e i inside =
    let place = covers_in from n i inside in
    sym (get_or-slice xs from to i place.0 (omega (arith, place.1))) ∙ ap (λ (part : List ℕ). get_or part (i - from) 0) e ∙ get_or-slice ys from to i place.0 (omega (arith, place.1))

-- the part whose bytes stand there
pub part_is : (from n to : ℕ) (xs part : List ℕ) → from + n ≡ to → to ≤ length xs → length part ≡ n → ((k : ℕ) → k < n → get_or xs (from + k) 0 ≡ get_or part k 0) → slice_range xs from to ≡ part
part_is from n to xs part size fits len same =
    let taken : length (slice_range xs from to) ≡ to - from = length-take-le (to - from) (drop from xs) (omega (arith, length-drop from xs)) in
    ext_get_or 0 (slice_range xs from to) part (omega arith) (λ i lt.
    get_or-take (to - from) (drop from xs) i 0 (omega arith) ∙ get_or-drop from xs i 0 ∙ same i (omega arith))

-- a write of bytes keeps the length
pub length-with_bytes : (bytes : List ℕ) (at n : ℕ) (new : List ℕ) → length new ≡ n → at + n ≤ length bytes → length (with_bytes bytes at new) ≡ length bytes
unfolding with_bytes
length-with_bytes bytes at n new len fits =
    let front = length-take-le at bytes (omega arith) in
    let back = length-drop (at + length new) bytes in
    omega (arith, length-append (take at bytes) (new ++ drop (at + length new) bytes), length-append new (drop (at + length new) bytes))

-- the bytes that were written
pub get_or-with_bytes_in : (bytes : List ℕ) (at n : ℕ) (new : List ℕ) (i : ℕ) → length new ≡ n → at + n ≤ length bytes → i < n → get_or (with_bytes bytes at new) (at + i) 0 ≡ get_or new i 0
unfolding with_bytes
get_or-with_bytes_in bytes at n new i len fits lt =
    let place : at + i - at ≡ i = omega arith in
    get_or-append_right (take at bytes) (new ++ drop (at + length new) bytes) at (at + i) 0 (length-take-le at bytes (omega arith)) (omega arith)
    ∙ ap (λ (k : ℕ). get_or (new ++ drop (at + length new) bytes) k 0) place
    ∙ get_or_append_left new (drop (at + length new) bytes) 0 i (omega arith)

-- the other bytes
pub get_or-with_bytes_out : (bytes : List ℕ) (at n : ℕ) (new : List ℕ) (i : ℕ) → length new ≡ n → at + n ≤ length bytes → covers at n i ≡ false → get_or (with_bytes bytes at new) i 0 ≡ get_or bytes i 0
unfolding with_bytes
get_or-with_bytes_out bytes at n new i len fits out =
    let front = length-take-le at bytes (omega arith) in
    elim (covers_out at n i out) [
      | inl below ↦ get_or_append_left (take at bytes) (new ++ drop (at + length new) bytes) 0 i (omega arith) ∙ get_or-take at bytes i 0 below
      | inr past ↦
          let place : at + length new + (i - at - length new) ≡ i = omega arith in
          get_or-append_right (take at bytes) (new ++ drop (at + length new) bytes) at i 0 front (omega arith)
          ∙ get_or-append_right new (drop (at + length new) bytes) (length new) (i - at) 0 refl (omega arith)
          ∙ get_or-drop (at + length new) bytes (i - at - length new) 0
          ∙ ap (λ (k : ℕ). get_or bytes k 0) place
    ]

-- the bytes of a number are bytes
bytes_low : (k j x i : ℕ) → get_or (bytes_low_first j k x) i 0 < 256
bytes_low zero j x i = omega arith
bytes_low (suc k) zero x zero = mod-lt x (omega arith)
bytes_low (suc k) (suc j) x zero = mod-lt (x / 256 ^ suc j) (omega arith)
bytes_low (suc k) j x (suc i) = bytes_low k (suc j) x i

pub bytes_of-lt : (n x i : ℕ) → get_or (bytes_of n x) i 0 < 256
unfolding bytes_of
bytes_of-lt n x i = bytes_low n 0 x i

-- a write of bytes leaves bytes
pub sector-with_bytes : (bytes : List ℕ) (at n : ℕ) (new : List ℕ) → IsSector bytes → length new ≡ n → at + n ≤ 512 → ((i : ℕ) → get_or new i 0 < 256) → IsSector (with_bytes bytes at new)
sector-with_bytes bytes at n new sector len fits each =
    let size = sector.size in
    record {
      size = length-with_bytes bytes at n new len (omega arith) ∙ size;
      each = λ i. byte_with bytes at n new i sector.each len (omega arith) each (covers at n i) refl;
    } where
      byte_with : (bytes : List ℕ) (at n : ℕ) (new : List ℕ) (i : ℕ) → ((k : ℕ) → get_or bytes k 0 < 256) → length new ≡ n → at + n ≤ length bytes → ((k : ℕ) → get_or new k 0 < 256)
          → (b : Bool) → covers at n i ≡ b → get_or (with_bytes bytes at new) i 0 < 256
      byte_with bytes at n new i each_byte len fits each_new true e =
          let place = covers_in at n i e in
          let same : at + (i - at) ≡ i = omega (arith, place.0) in
          let is = get_or-with_bytes_in bytes at n new (i - at) len fits (omega (arith, place.0, place.1)) in
          let moved : get_or (with_bytes bytes at new) i 0 ≡ get_or new (i - at) 0 = ap (λ (k : ℕ). get_or (with_bytes bytes at new) k 0) (sym same) ∙ is in
          let bound = each_new (i - at) in
          omega (arith, moved)
      byte_with bytes at n new i each_byte len fits each_new false e =
          let is = get_or-with_bytes_out bytes at n new i len fits e in
          let bound = each_byte i in
          omega (arith, is)
