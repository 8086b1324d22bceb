-- Sets of nodes after a change, as functions.
use Rattle.std.proofs.Common.{◌≡◌, ℕ, ◌^◌, ◌<◌, ◌≤◌, ◌==◌, Bool, true, false, not, ◌&&◌, ◌⊎◌, inl, inr, arith, if◌then◌else◌}
use Rattle.std.proofs.lemmas.Bool.Decides.{nat_tests}
use Rattle.std.proofs.lemmas.Nat.Bits.{bit_at_above}
use Rattle.std.proofs.Math.Path.{fun_ext}
use Rattle.dlm_modes.specs.Points.{with_at}
use Rattle.mdc_types.specs.Bits.{has_bit, with_bit}
use Rattle.mdc_types.proofs.BitsLaws.{has_bit-with_bit}

-- a node is put in
pub put_in : (set n : ℕ) → has_bit (with_bit set n) ≡ with_at (has_bit set) n true
put_in set n = fun_ext (λ m. has_bit-with_bit set n m)

has_bit-above : (set m : ℕ) → set < 2 ^ 16 → 16 ≤ m → has_bit set m ≡ false
has_bit-above set m lt le = grind (arith, nat_tests, bit_at_above set 16 m lt le)

below_or_not : (m : ℕ) → (m < 16) ⊎ (16 ≤ m)
below_or_not m = grind (arith, nat_tests)

without_at : (was : Bool) (m n : ℕ) (now : Bool) → now ≡ (was && not (m == n)) → now ≡ (if m == n then false else was)
without_at was m n now e = grind (arith, nat_tests)

above_at : (was now : Bool) (m n : ℕ) → n < 16 → 16 ≤ m → was ≡ false → now ≡ false → now ≡ (if m == n then false else was)
above_at was now m n lt le e f = grind (arith, nat_tests)

taken_out_at : (set rest n m : ℕ) → n < 16 → set < 2 ^ 16 → rest < 2 ^ 16 → ((k : ℕ) → k < 16 → has_bit rest k ≡ (has_bit set k && not (k == n))) → has_bit rest m ≡ with_at (has_bit set) n false m
taken_out_at set rest n m node small less each = elim (below_or_not m) [
  | inl lt ↦ without_at (has_bit set m) m n (has_bit rest m) (each m lt)
  | inr le ↦ above_at (has_bit set m) (has_bit rest m) m n node le (has_bit-above set m small le) (has_bit-above rest m less le)
]

-- a node is taken out
pub taken_out : (set rest n : ℕ) → n < 16 → set < 2 ^ 16 → rest < 2 ^ 16 → ((k : ℕ) → k < 16 → has_bit rest k ≡ (has_bit set k && not (k == n))) → has_bit rest ≡ with_at (has_bit set) n false
taken_out set rest n node small less each = fun_ext (λ m. taken_out_at set rest n m node small less each)
