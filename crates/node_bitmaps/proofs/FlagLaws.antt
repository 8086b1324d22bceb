-- Sets of legs in a byte, with one leg in or out.
use Rattle.std.proofs.Common.{inl, inr, ◌≡◌, ℕ, ◌==◌, ◌<◌, ◌^◌, true, false, not, ◌&&◌, if◌then◌else◌, ap, arith}
use Rattle.std.proofs.lemmas.Bool.Decides.{nat_tests}
use Rattle.std.proofs.lemmas.Bool.{cases_lt}
use Rattle.std.proofs.lemmas.Nat.Bits.{bit_at_above, bit_at_and, bit_at_not, bit_at_ones, bit_at-lt}
use Rattle.std.specs.Int.{w8, bit_not}
use Rattle.std.specs.Int.Bits.{bit_and}
use Rattle.mdc_types.specs.Bits.{has_bit, with_bit}
use Rattle.mdc_types.proofs.BitsLaws.{has_bit-with_bit}

pub leg_in : (legs leg k : ℕ) → has_bit (with_bit legs leg) k ≡ (if k == leg then true else has_bit legs k)
leg_in legs leg k = has_bit-with_bit legs leg k

pub leg_out : (old new leg : ℕ) → old < 256 → new < 256 → ((k : ℕ) → k < 8 → has_bit new k ≡ (has_bit old k && not (k == leg))) → (k : ℕ) → has_bit new k ≡ (if k == leg then false else has_bit old k)
leg_out old new leg few fewer so k = elim (cases_lt k 8) [
  | inl lt ↦ grind (arith, nat_tests, so k lt)
  | inr past ↦ grind (arith, nat_tests, bit_at_above old 8 k few past, bit_at_above new 8 k fewer past)
]

pub has_bit-and : (legs other k : ℕ) → has_bit (bit_and legs other) k ≡ (has_bit legs k && has_bit other k)
has_bit-and legs other k = grind (arith, nat_tests, bit_at_and legs other k, bit_at-lt legs k, bit_at-lt other k)

pub has_bit-without : (legs gone k : ℕ) → legs < 2 ^ 8 → gone < 2 ^ 8 → has_bit (bit_and legs (bit_not w8 gone)) k ≡ (has_bit legs k && not (has_bit gone k))
has_bit-without legs gone k few fewer = elim (cases_lt k 8) [
  | inl lt ↦ grind (arith, nat_tests, bit_at_and legs (bit_not w8 gone) k, bit_at_not w8 gone k fewer lt, bit_at-lt legs k, bit_at-lt gone k)
  | inr past ↦ grind (arith, nat_tests, bit_at_and legs (bit_not w8 gone) k, bit_at_above legs 8 k few past)
]

-- all eight legs
pub all_legs : (k : ℕ) → k < 8 → has_bit 255 k ≡ true
all_legs k lt = ap (λ (b : ℕ). b == 1) (bit_at_ones 8 k lt)
