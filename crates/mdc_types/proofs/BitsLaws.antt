-- What is in a set after a change of it.
use Rattle.std.proofs.Common.{◌≡◌, ◌≢◌, ℕ, ◌*◌, ◌%◌, ◌^◌, ◌<◌, ◌==◌, true, not, ◌&&◌, ◌⊎◌, inl, inr, arith, if◌then◌else◌}
use Rattle.std.proofs.lemmas.Bool.Decides.{nat_tests}
use Rattle.std.proofs.lemmas.Nat.Bits.{bit_at_or, bit_at-pow_same, bit_at-pow_other, bit_at_clear_same, bit_at_clear_other, bit_at-lt}
use Rattle.std.specs.Int.{Width, bit_not}
use Rattle.std.specs.Int.Bits.{bit_and}
use mir.Val.{bits}
use Rattle.mdc_types.specs.Bits.{has_bit, with_bit}

same_or_not : (i k : ℕ) → (i ≡ k) ⊎ (i ≢ k)
same_or_not i k = grind (arith, nat_tests)

pub has_bit-with_bit : (set k j : ℕ) → has_bit (with_bit set k) j ≡ (if j == k then true else has_bit set j)
has_bit-with_bit set k j = elim (same_or_not j k) [
  | inl same ↦ grind (arith, nat_tests, bit_at_or set (2 ^ k) j, bit_at-pow_same k, bit_at-lt set j)
  | inr other ↦ grind (arith, nat_tests, bit_at_or set (2 ^ k) j, bit_at-pow_other k j other, bit_at-lt set j)
]

pub has_bit-cleared : (w : Width) (set k j : ℕ) → k < bits w → j < bits w → has_bit (bit_and set (bit_not w (1 * 2 ^ k % 2 ^ bits w))) j ≡ (has_bit set j && not (j == k))
has_bit-cleared w set k j within lt = elim (same_or_not j k) [
  | inl same ↦ grind (arith, nat_tests, bit_at_clear_same w set k within)
  | inr other ↦ grind (arith, nat_tests, bit_at_clear_other w set k within j lt other)
]
