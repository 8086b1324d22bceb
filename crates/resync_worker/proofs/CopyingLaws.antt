-- A pass after a call, as functions.
use Rattle.std.proofs.Common.{◌≡◌, ℕ, ◌<◌, ◌≤◌, ◌^◌, ◌==◌, nat_lt, Bool, true, false, length, get_or, replicate, List, not, ◌&&◌, inl, inr, arith, if◌then◌else◌}
use Rattle.std.proofs.Math.Path.{fun_ext}
use Rattle.std.proofs.lemmas.Bool.{cases_lt}
use Rattle.std.proofs.lemmas.Bool.Decides.{nat_tests}
use Rattle.std.proofs.lemmas.List.{length-replicate, get_or-replicate, get_or_past}
use Rattle.std.proofs.lemmas.Nat.Bits.{bit_at-lt, bit_at_and, bit_at_above}
use Rattle.std.specs.Int.Bits.{bit_and}
use Rattle.dlm_modes.specs.Points.{with_at}
use Rattle.mdc_types.specs.Bits.{has_bit}

-- the legs of both sets
has_bit-and : (set other k : ℕ) → has_bit (bit_and set other) k ≡ (has_bit set k && has_bit other k)
has_bit-and set other k = grind (arith, nat_tests, bit_at_and set other k, bit_at-lt set k, bit_at-lt other k)

pub legs-and : (set other : ℕ) → has_bit (bit_and set other) ≡ (λ k. has_bit set k && has_bit other k)
legs-and set other = fun_ext (has_bit-and set other)

-- the legs of a set without one
without_at : (was now : Bool) (k l : ℕ) → now ≡ (was && not (k == l)) → now ≡ (if k == l then false else was)
without_at was now k l e = grind (arith, nat_tests)

above_at : (was now : Bool) (k l : ℕ) → l < 8 → 8 ≤ k → was ≡ false → now ≡ false → now ≡ (if k == l then false else was)
above_at was now k l lt le e f = grind (arith, nat_tests)

has_bit-past : (set k : ℕ) → set < 2 ^ 8 → 8 ≤ k → has_bit set k ≡ false
has_bit-past set k small past = grind (arith, nat_tests, bit_at_above set 8 k small past)

pub legs-out : (set rest l : ℕ) → l < 8 → set < 2 ^ 8 → rest < 2 ^ 8 → ((k : ℕ) → k < 8 → has_bit rest k ≡ (has_bit set k && not (k == l))) → has_bit rest ≡ with_at (has_bit set) l false
legs-out set rest l leg small less each = fun_ext (λ k. elim (cases_lt k 8) [
  | inl below ↦ without_at (has_bit set k) (has_bit rest k) k l (each k below)
  | inr past ↦ above_at (has_bit set k) (has_bit rest k) k l leg past (has_bit-past set k small past) (has_bit-past rest k less past)
])

all_chunks_at : (n c : ℕ) → get_or (replicate n true) c false ≡ nat_lt c n
all_chunks_at n c = elim (cases_lt c n) [
  | inl lt ↦ let here = get_or-replicate n c true false lt in grind (arith, nat_tests)
  | inr past ↦ let long = length-replicate n true in let none = get_or_past (replicate n true) c false (rw long past) in grind (arith, nat_tests)
]

-- all chunks are to be copied
pub all_chunks : (n : ℕ) → ◌≡◌ {A = ℕ → Bool} (λ c. get_or (replicate n true) c false) (λ c. nat_lt c n)
all_chunks n = fun_ext (all_chunks_at n)
