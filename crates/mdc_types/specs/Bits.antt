-- Sets of small numbers, one bit each, the lowest bit for 0.
use Rattle.std.specs.Prelude.{ℕ, ◌^◌, ◌==◌, Bool}
use Rattle.std.specs.Int.{bit_at}
use Rattle.std.specs.Int.Bits.{bit_or}

-- whether k is in the set
abbrev pub has_bit : ℕ → ℕ → Bool
has_bit set k = bit_at set k == 1

-- the set with k in it
abbrev pub with_bit : ℕ → ℕ → ℕ
with_bit set k = bit_or set (2 ^ k)
