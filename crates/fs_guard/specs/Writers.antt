-- The live writes of all nodes, by their sectors: at most one of a sector.
use Rattle.std.specs.Prelude.{◌≡◌, ℕ, ◌==◌, ◌&&◌, if◌then◌else◌, List, [], ◌∷◌, Option, Some, None}
use Rattle.dlm_modes.specs.Points.{with_at}
use Rattle.fs_guard.specs.declared.Writer.{Writer}

-- node n has a live write of sector s
abbrev pub writer : ℕ → ℕ → Writer
writer s n = record { sector = s; node = n }

-- the node with a live write of sector s
abbrev pub holder : ℕ → List Writer → Option ℕ
holder s [] = None
holder s (w ∷ ws) = if w.sector == s then Some w.node else holder s ws

-- the rest after node n's write of sector s has ended
abbrev pub without : ℕ → ℕ → List Writer → List Writer
without s n [] = []
without s n (w ∷ ws) = if w.sector == s && w.node == n then without s n ws else w ∷ without s n ws

-- the rest after the death of node n
abbrev pub without_node : ℕ → List Writer → List Writer
without_node n [] = []
without_node n (w ∷ ws) = if w.node == n then without_node n ws else w ∷ without_node n ws

-- one live write of a sector, over all nodes
abbrev pub AreApart : List Writer → Type 0
AreApart [] = Unit {0}
AreApart (w ∷ ws) = (holder w.sector ws ≡ None) × AreApart ws

-- The same by sector.

-- the node with a live write of each sector
abbrev pub holders_of : List Writer → ℕ → Option ℕ
holders_of ws s = holder s ws

-- what is left of a sector's node where it is n that goes
abbrev pub unless_node : ℕ → Option ℕ → Option ℕ
unless_node n None = None
unless_node n (Some m) = if m == n then None else Some m

-- node n's write of sector s begins, or ends; node n dies
abbrev pub begun : (ℕ → Option ℕ) → ℕ → ℕ → ℕ → Option ℕ
begun holders s n = with_at holders s (Some n)

abbrev pub ended : (ℕ → Option ℕ) → ℕ → ℕ → ℕ → Option ℕ
ended holders s n = with_at holders s (unless_node n (holders s))

abbrev pub died : (ℕ → Option ℕ) → ℕ → ℕ → Option ℕ
died holders n s = unless_node n (holders s)
