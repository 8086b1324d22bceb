-- Paths from sixteen nodes to eight legs.
use Rattle.std.specs.Prelude.{ℕ, ◌==◌, Bool, true, false, not, ◌&&◌, ◌||◌, List, [], get_or}

-- which paths are cut: for each node a flag for each leg
abbrev pub Paths : Type 0
Paths = List (List Bool)

-- whether the path is open, by node and leg
abbrev pub path_open : Paths → ℕ → ℕ → Bool
path_open paths n l = not (get_or (get_or paths n []) l false)

abbrev pub all_open : ℕ → ℕ → Bool
all_open n l = true

-- the path from node n to leg l is cut, and the others stay
abbrev pub cut_path : (ℕ → ℕ → Bool) → ℕ → ℕ → ℕ → ℕ → Bool
cut_path is_open n l m k = is_open m k && not (m == n && k == l)

-- that path is open again
abbrev pub mend_path : (ℕ → ℕ → Bool) → ℕ → ℕ → ℕ → ℕ → Bool
mend_path is_open n l m k = is_open m k || (m == n && k == l)
