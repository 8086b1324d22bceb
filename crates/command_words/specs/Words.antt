-- Words that are there, just so many.
use Rattle.std.specs.Prelude.{ℕ, List, [], ◌∷◌, Option, Some, None}

abbrev pub one : List (List ℕ) → Option (List ℕ)
one (a ∷ []) = Some a
one words = None

abbrev pub two : List (List ℕ) → Option (List ℕ × List ℕ)
two (a ∷ b ∷ []) = Some (a, b)
two words = None
