-- Letting go of all, as a list of releases.
use Rattle.std.specs.Prelude.{◌≡◌, ℕ, zero, suc, ◌<◌, ◌≤◌, if◌then◌else◌, List, [], ◌∷◌, is_some, None}
use Rattle.dlm_space.specs.Locks.{Lock, all_let_go}
use Rattle.dlm_space.specs.Calls.{Call, Releases, locks_from, AreAcceptedFrom}
use Rattle.dlm_space.specs.Orderly.{IsOrderly}

-- a release without a value of each resource below k that the node holds
unfoldable pub releases_below : (ℕ → Lock) → ℕ → ℕ → List Call
releases_below locks n zero = []
releases_below locks n (suc r) = if is_some ((locks r).held n) then Releases n r None ∷ releases_below locks n r else releases_below locks n r

abbrev pub releases_of : (ℕ → Lock) → ℕ → List Call
releases_of locks n = releases_below locks n 21

-- these releases are accepted one after another, and then the node has let go of all resources
pub record AreReleased (locks : ℕ → Lock) (n : ℕ) : Type 0 where
  pub accepted : AreAcceptedFrom locks (releases_of locks n)
  pub let_go : (r : ℕ) → r < 21 → locks_from locks (releases_of locks n) r ≡ all_let_go locks n r
  -- a space has no resource past these
  pub others : (r : ℕ) → 21 ≤ r → locks_from locks (releases_of locks n) r ≡ locks r

abbrev pub LettingGoReleases : Type 0
LettingGoReleases = (locks : ℕ → Lock) (n : ℕ) → n < 16 → ((r : ℕ) → IsOrderly (locks r)) → AreReleased locks n
