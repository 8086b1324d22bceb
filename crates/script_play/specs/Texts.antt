-- Lines of text.
use Rattle.std.specs.Prelude.{ℕ, List, ◌++◌, ◌∷◌, [], codes}

-- a text with its line feed
abbrev pub printed : List ℕ → List ℕ
printed text = text ++ 10 ∷ []

abbrev pub trace_full_line : List ℕ
trace_full_line = printed (codes "trace-full")
