-- The place of a request in a list.
use Rattle.std.specs.Prelude.{ℕ, ◌≡◌, ◌<◌, List, length}
use Rattle.std.specs.List.{HoldsAt}
use Rattle.mirror_io.specs.declared.live.LiveWrite.{LiveWrite}
use Rattle.mirror_io.specs.declared.live.LiveRead.{LiveRead}

-- the write at place i has this number
pub record IsWritePlace (k : ℕ) (ws : List LiveWrite) (i : ℕ) : Type 0 where
  pub within : i < length ws
  pub number : HoldsAt (λ w. w.number ≡ k) ws i

pub record IsReadPlace (k : ℕ) (rs : List LiveRead) (i : ℕ) : Type 0 where
  pub within : i < length rs
  pub number : HoldsAt (λ r. r.number ≡ k) rs i
