-- The first, or least, number that passes a test.
use Rattle.std.specs.Prelude.{zero, suc, ◌+◌, ℕ, Bool, not, is_none, if◌then◌else◌, Option, Some, None}

-- the first number from i on, among n of them, that passes
unfoldable pub first_such : (ℕ → Bool) → ℕ → ℕ → Option ℕ
first_such p i zero = None
first_such p i (suc n) = if p i then Some i else first_such p (i + 1) n

-- whether each number from i on, among n of them, passes
abbrev pub each_such : (ℕ → Bool) → ℕ → ℕ → Bool
each_such p i n = is_none (first_such (λ k. not (p k)) i n)
