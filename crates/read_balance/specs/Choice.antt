-- The leg that a read goes to.
use Rattle.std.specs.Prelude.{ℕ, ◌+◌, ◌-◌, nat_le, Bool, not, ◌&&◌, ◌||◌, if◌then◌else◌, Option, Some, None}
use Rattle.dlm_modes.specs.First.{first_such, each_such}

-- how far apart two sectors are
abbrev pub distance : ℕ → ℕ → ℕ
distance s t = (s - t) + (t - s)

-- the leg works, and no working leg's head is nearer to the sector
abbrev pub is_nearest : (ℕ → Bool) → (ℕ → ℕ) → ℕ → ℕ → Bool
is_nearest works head s l = works l && each_such (λ j. not (works j) || nat_le (distance s (head l)) (distance s (head j))) 0 8

-- the least such leg
abbrev pub nearest_leg : (ℕ → Bool) → (ℕ → ℕ) → ℕ → Option ℕ
nearest_leg works head s = first_such (is_nearest works head s) 0 8

-- the least leg that works
abbrev pub least_leg : (ℕ → Bool) → Option ℕ
least_leg works = first_such works 0 8

abbrev pub chosen_leg : (ℕ → Bool) → (ℕ → ℕ) → ℕ → Bool → Option ℕ
chosen_leg works head s first_only = if first_only then least_leg works else nearest_leg works head s

-- of the leg found before, if there is one, and leg l the one whose head is nearer, the first where
-- both are as near
abbrev pub nearer_leg : (ℕ → ℕ) → ℕ → Option ℕ → ℕ → ℕ
nearer_leg head s None l = l
nearer_leg head s (Some k) l = if nat_le (distance s (head k)) (distance s (head l)) then k else l
