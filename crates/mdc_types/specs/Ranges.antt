-- Ranges of sectors.
use Rattle.std.specs.Prelude.{ℕ, nat_lt, nat_le, Bool, ◌&&◌}

-- whether s is in the range from lo up to hi
abbrev pub holds : ℕ → ℕ → ℕ → Bool
holds lo hi s = nat_le lo s && nat_lt s hi
