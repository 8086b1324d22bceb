-- Sets of legs by their bits.
use Rattle.std.proofs.Common.{◌≡◌, ℕ, ◌+◌, ◌-◌, ◌/◌, ◌%◌, ◌^◌, ◌<◌, ◌≤◌, ◌==◌, nat_lt, Bool, true, false, not, ◌&&◌, ◌||◌, inl, inr, Option, Some, None, is_none, refl, sym, ap, ◌∙◌, arith, lit<, if◌then◌else◌}
use Rattle.std.proofs.Math.Path.{fun_ext}
use Rattle.std.proofs.Math.Pow.{pow-lt}
use Rattle.std.proofs.lemmas.Bool.{cases_lt, cases_eq}
use Rattle.std.proofs.lemmas.Bool.Decides.{nat_tests}
use Rattle.std.proofs.lemmas.Nat.Bits.{bit_at-lt, bit_at-zero, bit_at_and, bit_at_or, bit_at_not, bit_at_above, same_from_bits_below}
use Rattle.std.specs.Int.{w8}
use Rattle.std.specs.Int.Bits.{bit_and, bit_or}
use Rattle.bitflags.specs.Sets.{without}
use Rattle.dlm_modes.specs.First.{first_such}
use Rattle.dlm_modes.proofs.FirstLaws.{first_such_some, first_such_none}
use Rattle.mdc_types.specs.Bits.{has_bit, with_bit}
use Rattle.mdc_types.proofs.BitsLaws.{has_bit-with_bit}
use Rattle.leg_failure.specs.Sets.{least_of}

-- a set that is made leg by leg: a leg that passes is put in
pub scan_more : (p : ℕ → Bool) (set l k new : ℕ) → new ≡ with_bit set l → has_bit set k ≡ (nat_lt k l && p k) → p l ≡ true → has_bit new k ≡ (nat_lt k (l + 1) && p k)
scan_more p set l k new is was passes = grind (arith, nat_tests, has_bit-with_bit set l k)

-- and one that doesn't isn't
pub scan_same : (p : ℕ → Bool) (set l k new : ℕ) → new ≡ set → has_bit set k ≡ (nat_lt k l && p k) → p l ≡ false → has_bit new k ≡ (nat_lt k (l + 1) && p k)
scan_same p set l k new is was fails = grind (arith, nat_tests)

pub has_bit-zero : (k : ℕ) → has_bit 0 k ≡ false
has_bit-zero k = grind (arith, nat_tests, bit_at-zero k)

-- a set of eight legs has no other
pub has_bit-past : (set k : ℕ) → set < 2 ^ 8 → 8 ≤ k → has_bit set k ≡ false
has_bit-past set k small past = grind (arith, nat_tests, bit_at_above set 8 k small past)

pub has_bit-or : (set other k : ℕ) → has_bit (bit_or set other) k ≡ (has_bit set k || has_bit other k)
has_bit-or set other k = grind (arith, nat_tests, bit_at_or set other k, bit_at-lt set k, bit_at-lt other k)

pub has_bit-and : (set other k : ℕ) → has_bit (bit_and set other) k ≡ (has_bit set k && has_bit other k)
has_bit-and set other k = grind (arith, nat_tests, bit_at_and set other k, bit_at-lt set k, bit_at-lt other k)

-- the legs of one set that aren't in another
pub has_bit-without : (set other k : ℕ) → set < 2 ^ 8 → other < 2 ^ 8 → has_bit (without 8 set other) k ≡ (has_bit set k && not (has_bit other k))
has_bit-without set other k small fits = elim (cases_lt k 8) [
  | inl below ↦ grind (arith, nat_tests, bit_at_and set (2 ^ 8 - 1 - other) k, bit_at_not w8 other k fits below, bit_at-lt set k, bit_at-lt other k)
  | inr past ↦ grind (arith, nat_tests, bit_at_and set (2 ^ 8 - 1 - other) k, bit_at_above set 8 k small past)
]

same_bit : (set other k : ℕ) → has_bit set k ≡ has_bit other k → set / 2 ^ k % 2 ≡ other / 2 ^ k % 2
same_bit set other k same = grind (arith, nat_tests, bit_at-lt set k, bit_at-lt other k)

-- two sets with the same legs are one
pub same_sets : (set other : ℕ) → set < 2 ^ 8 → other < 2 ^ 8 → ((k : ℕ) → k < 8 → has_bit set k ≡ has_bit other k) → set ≡ other
same_sets set other small fits same = same_from_bits_below 8 set other small fits (λ k lt. same_bit set other k (same k lt))

pow_small : (l : ℕ) → l < 8 → with_bit 0 l < 2 ^ 8
pow_small l lt = pow-lt lt

pub single_bit : (l k : ℕ) → has_bit (with_bit 0 l) k ≡ (if k == l then true else false)
single_bit l k = has_bit-with_bit 0 l k ∙ ap (λ b. if k == l then true else b) (has_bit-zero k)

only_bit : (p : ℕ → Bool) (l k : ℕ) → p l ≡ true → (p k && not (k == l)) ≡ false → p k ≡ (if k == l then true else false)
only_bit p l k here other = grind (arith, nat_tests)

other_bit : (b : Bool) (l k : ℕ) → b ≡ (if k == l then true else false) → (b && not (k == l)) ≡ true → ⊥
other_bit b l k is other = grind (arith, nat_tests)

no_bit : (b : Bool) (l : ℕ) → b ≡ (if l == l then true else false) → b ≡ false → ⊥
no_bit b l is none = grind (arith, nat_tests)

-- a set is just the leg where it has the leg and no other
pub is_single : (set l : ℕ) → set < 2 ^ 8 → l < 8 → (set == with_bit 0 l) ≡ (has_bit set l && is_none (first_such (λ j. has_bit set j && not (j == l)) 0 8))
is_single set l small lt = either (has_bit set l) refl (first_such others 0 8) refl
  where
    others : ℕ → Bool
    others j = has_bit set j && not (j == l)

    bit_of : set ≡ with_bit 0 l → (k : ℕ) → has_bit set k ≡ (if k == l then true else false)
    bit_of is k = ap (λ s. has_bit s k) is ∙ single_bit l k

    single : has_bit set l ≡ true → first_such others 0 8 ≡ None → set ≡ with_bit 0 l
    single here none = same_sets set (with_bit 0 l) small (pow_small l lt) (λ k below. only_bit (has_bit set) l k here (first_such_none others 0 8 none k (omega arith) (omega arith)) ∙ sym (single_bit l k))

    either : (b : Bool) → has_bit set l ≡ b → (r : Option ℕ) → first_such others 0 8 ≡ r → (set == with_bit 0 l) ≡ (b && is_none r)
    either true here None none = let is : set ≡ with_bit 0 l = single here none in grind (arith, nat_tests)
    either true here (Some k) some = elim (cases_eq set (with_bit 0 l)) [
      | inl is ↦ absurd (other_bit (has_bit set k) l k (bit_of is k) (first_such_some others 0 8 k some).passes)
      | inr isnt ↦ grind (arith, nat_tests)
    ]
    either false here r e = elim (cases_eq set (with_bit 0 l)) [
      | inl is ↦ absurd (no_bit (has_bit set l) l (bit_of is l) here)
      | inr isnt ↦ grind (arith, nat_tests)
    ]

-- a set has no leg where it has no least one
pub is_empty : (set : ℕ) → set < 2 ^ 8 → (set == 0) ≡ is_none (least_of set)
is_empty set small = zero_or (least_of set) refl
  where
    zero_or : (r : Option ℕ) → least_of set ≡ r → (set == 0) ≡ is_none r
    zero_or None e =
        let zero : set ≡ 0 = same_sets set 0 small (lit< tt) (λ k lt. first_such_none (has_bit set) 0 8 e k (omega arith) (omega arith) ∙ sym (has_bit-zero k)) in
        grind (arith, nat_tests)
    zero_or (Some k) e = elim (cases_eq set 0) [
      | inl zero ↦ let here = (first_such_some (has_bit set) 0 8 k e).passes in let none = ap (λ s. has_bit s k) zero ∙ has_bit-zero k in cc
      | inr other ↦ grind (arith, nat_tests)
    ]

-- the least leg of a set is the least that passes what the set says
pub least_of-where : (set : ℕ) (p : ℕ → Bool) → ((l : ℕ) → has_bit set l ≡ p l) → least_of set ≡ first_such p 0 8
least_of-where set p are = ap (λ q. first_such q 0 8) (fun_ext are)
