-- The first of the blocks' first places is the first place of all.
use Rattle.std.proofs.Common.{◌≡◌, ℕ, zero, suc, ◌+◌, ◌-◌, ◌*◌, ◌<◌, ◌≤◌, min, Bool, true, false, if◌then◌else◌, List, ◌∷◌, map, length, get_or, drop, Option, Some, None, refl, sym, ap, ◌∙◌, ⊎_elim, arith}
use Rattle.std.specs.Option.{option_map}
use Rattle.std.specs.List.{range_with_len}
use Rattle.std.proofs.lemmas.Bool.{cases_lt}
use Rattle.std.specs.Prelude.{not, slice_range}
use Rattle.std.specs.Str.{bytes_eq}
use Rattle.std.proofs.lemmas.List.{get_or-take, get_or-drop, length-take, length-drop}
use Rattle.dlm_modes.specs.First.{first_such}
use Rattle.dlm_modes.proofs.FirstLaws.{first_such_some}
use Rattle.mdc_types.specs.Sectors.{zero_sector}
use Rattle.mdc_types.specs.declared.numbers.Sector.{Sector}
use Rattle.image_faults.specs.Compare.{differs_at, first_difference}
use Rattle.crew_check.specs.Blocks.{blocks_of, first_in_block}
use Rattle.dlm_modes.specs.Guards.{first_of, or_then}

-- a search in two parts
first_such-split : (p : ℕ → Bool) (i m n : ℕ) → first_such p i (m + n) ≡ or_then (first_such p i m) (first_such p (i + m) n)
unfolding first_such
first_such-split p i zero n =
    let none : 0 + n ≡ n = omega arith in
    let e : i ≡ i + 0 = omega arith in
    ap (first_such p i) none ∙ ap (λ k. first_such p k n) e
first_such-split p i (suc m) n =
    let rest = first_such-split p (i + 1) m n in
    let e : i + 1 + m ≡ i + suc m = omega arith in
    let more : suc m + n ≡ suc (m + n) = omega arith in
    ap (first_such p i) more ∙ elim (p i) as (λ b. (if b then Some i else first_such p (i + 1) (m + n)) ≡ or_then (if b then Some i else first_such p (i + 1) m) (first_such p (i + suc m) n)) [
      | true ↦ refl
      | false ↦ rest ∙ ap (λ k. or_then (first_such p (i + 1) m) (first_such p k n)) e
    ]

-- a search among places that are told from s on
pub first_such-shift : (p q : ℕ → Bool) (s i m : ℕ) → ((k : ℕ) → i ≤ k → k < i + m → q k ≡ p (s + k)) → option_map (λ k. s + k) (first_such q i m) ≡ first_such p (s + i) m
unfolding first_such
first_such-shift p q s i zero same = refl
first_such-shift p q s i (suc m) same =
    let here : q i ≡ p (s + i) = same i (omega arith) (omega arith) in
    let rest = first_such-shift p q s (i + 1) m (λ k from below. same k (omega arith) (omega arith)) in
    let e : s + (i + 1) ≡ s + i + 1 = omega arith in
    rw here (elim (p (s + i)) as (λ b. option_map (λ k. s + k) (if b then Some i else first_such q (i + 1) m) ≡ (if b then Some (s + i) else first_such p (s + i + 1) m)) [
      | true ↦ refl
      | false ↦ rest ∙ ap (λ k. first_such p k m) e
    ])

first_such-empty : (p : ℕ → Bool) (i n : ℕ) → n ≡ 0 → first_such p i n ≡ None
unfolding first_such
first_such-empty p i n e = rw e refl

-- block i, and all after it
block_then_rest : (p : ℕ → Bool) (n i : ℕ) → first_such p (i * 64) (n - i * 64) ≡ or_then (first_such p (i * 64) (min 64 (n - i * 64))) (first_such p ((i + 1) * 64) (n - (i + 1) * 64))
block_then_rest p n i = ⊎_elim
    (λ lt.
    let all : n - i * 64 ≡ min 64 (n - i * 64) + 0 = omega arith in
    let none : n - (i + 1) * 64 ≡ 0 = omega arith in
    ap (first_such p (i * 64)) all ∙ first_such-split p (i * 64) (min 64 (n - i * 64)) 0
    ∙ ap (or_then (first_such p (i * 64) (min 64 (n - i * 64)))) (first_such-empty p _ 0 refl ∙ sym (first_such-empty p ((i + 1) * 64) _ none)))
    (λ ge.
    let parts : n - i * 64 ≡ min 64 (n - i * 64) + (n - (i + 1) * 64) = omega arith in
    let next : i * 64 + min 64 (n - i * 64) ≡ (i + 1) * 64 = omega arith in
    ap (first_such p (i * 64)) parts ∙ first_such-split p (i * 64) (min 64 (n - i * 64)) (n - (i + 1) * 64)
    ∙ ap (λ k. or_then (first_such p (i * 64) (min 64 (n - i * 64))) (first_such p k (n - (i + 1) * 64))) next)
    (cases_lt (n - i * 64) 64)

first_of-cons : {R : Type 0} (o : Option R) (os : List (Option R)) → first_of (o ∷ os) ≡ or_then o (first_of os)
first_of-cons None os = refl
first_of-cons (Some r) os = refl

-- the blocks from i on
pub blocks_find : (p : ℕ → Bool) (n i m : ℕ) → n ≤ (i + m) * 64 → first_of (map (λ k. first_such p (k * 64) (min 64 (n - k * 64))) (range_with_len i m)) ≡ first_such p (i * 64) (n - i * 64)
blocks_find p n i zero enough = sym (first_such-empty p (i * 64) _ (omega arith))
blocks_find p n i (suc m) enough =
    let rest = blocks_find p n (i + 1) m (omega arith) in
    first_of-cons (first_such p (i * 64) (min 64 (n - i * 64))) _
    ∙ ap (or_then (first_such p (i * 64) (min 64 (n - i * 64)))) rest
    ∙ sym (block_then_rest p n i)

-- One block.

part_at : (xs : List Sector) (from to k : ℕ) → from + k < to → get_or (slice_range xs from to) k zero_sector ≡ get_or xs (from + k) zero_sector
part_at xs from to k lt = get_or-take (to - from) (drop from xs) k zero_sector (omega arith) ∙ get_or-drop from xs k zero_sector

part_long : (xs : List Sector) (from to : ℕ) → to ≤ length xs → length (slice_range xs from to) ≡ to - from
part_long xs from to le = omega (arith, length-take (to - from) (drop from xs), length-drop from xs)

-- a search in the block of both
pub block_finds : (a b : List Sector) (i from to : ℕ) → from ≡ i * 64 → to ≡ min (length a) (from + 64) → from ≤ to
    → option_map (λ k. from + k) (first_difference (slice_range a from to) (slice_range b from to)) ≡ first_in_block a b i
block_finds a b i from to start end le =
    let long : length (slice_range a from to) ≡ to - from = part_long a from to (omega arith) in
    let count : to - from ≡ min 64 (length a - i * 64) = omega arith in
    let first : from + 0 ≡ i * 64 = omega arith in
    ap (λ m. option_map (λ k. from + k) (first_such (differs_at (slice_range a from to) (slice_range b from to)) 0 m)) long
    ∙ first_such-shift (differs_at a b) (differs_at (slice_range a from to) (slice_range b from to)) from 0 (to - from)
    (λ k low below. let lt : from + k < to = omega arith in
    ap (λ (x : Sector). not (bytes_eq x.bytes (get_or (slice_range b from to) k zero_sector).bytes)) (part_at a from to k lt)
    ∙ ap (λ (x : Sector). not (bytes_eq (get_or a (from + k) zero_sector).bytes x.bytes)) (part_at b from to k lt))
    ∙ ap (λ m. first_such (differs_at a b) m (to - from)) first
    ∙ ap (first_such (differs_at a b) (i * 64)) count

pub block_found : (a b : List Sector) (i from to place : ℕ) (found : Option ℕ) → from ≡ i * 64 → to ≡ min (length a) (from + 64) → from ≤ to
    → found ≡ first_difference (slice_range a from to) (slice_range b from to) → found ≡ Some place → Some (from + place) ≡ first_in_block a b i
block_found a b i from to place found start end le is some =
    sym (ap (option_map (λ k. from + k)) (sym is ∙ some)) ∙ block_finds a b i from to start end le

pub block_equal : (a b : List Sector) (i from to : ℕ) (found : Option ℕ) → from ≡ i * 64 → to ≡ min (length a) (from + 64) → from ≤ to
    → found ≡ first_difference (slice_range a from to) (slice_range b from to) → found ≡ None → None ≡ first_in_block a b i
block_equal a b i from to found start end le is none =
    sym (ap (option_map (λ k. from + k)) (sym is ∙ none)) ∙ block_finds a b i from to start end le

-- what a block finds lies in it
pub block_within : (a b : List Sector) (from to place : ℕ) (found : Option ℕ) → to ≤ length a
    → found ≡ first_difference (slice_range a from to) (slice_range b from to) → found ≡ Some place → from + place < to
block_within a b from to place found le is some =
    let f = first_such_some (differs_at (slice_range a from to) (slice_range b from to)) 0 (length (slice_range a from to)) place (sym is ∙ some) in
    omega (arith, f.below, part_long a from to le)

-- a block that there is begins within the row
pub block_begins : (n i : ℕ) → i < blocks_of n → i * 64 < n
block_begins n i lt = omega (arith, lt)

-- all blocks
pub blocks_enough : (n : ℕ) → n ≤ (0 + blocks_of n) * 64
blocks_enough n = omega arith

pub all_blocks_find : (a b : List Sector) → first_of (map (first_in_block a b) (range_with_len 0 (blocks_of (length a)))) ≡ first_difference a b
all_blocks_find a b =
    let n = length a in
    let all : n - 0 * 64 ≡ n = omega arith in
    blocks_find (differs_at a b) n 0 (blocks_of n) (blocks_enough n) ∙ ap (first_such (differs_at a b) 0) all
