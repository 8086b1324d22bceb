-- Live writes, taken by their numbers.
use Rattle.std.specs.Prelude.{◌≡◌, ℕ, ◌+◌, ◌<◌, ◌≤◌, nat_le, if◌then◌else◌, List, [], ◌∷◌, Some}
use Rattle.mirror_io.specs.Flight.{write_in}
use Rattle.mirror_io.specs.declared.live.LiveWrite.{LiveWrite}

-- the writes from the first on whose number is f or more
abbrev pub writes_from : ℕ → List LiveWrite → List LiveWrite
writes_from f [] = []
writes_from f (w ∷ ws) = if nat_le f w.number then w ∷ ws else writes_from f ws

-- the first whose number is f or more is w, with number k, and those after it have greater ones
pub record IsNext (f k : ℕ) (ws : List LiveWrite) (w : LiveWrite) : Type 0 where
  pub number : w.number ≡ k
  pub from : f ≤ k
  pub found : write_in k ws ≡ Some w
  pub rest : writes_from f ws ≡ w ∷ writes_from (k + 1) ws
