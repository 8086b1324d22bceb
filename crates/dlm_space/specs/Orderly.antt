-- What holds of a lock along every list of accepted calls.
use Rattle.std.specs.Prelude.{◌≡◌, ◌≢◌, ℕ, ◌≤◌, Bool, true, not, Option, Some, None, is_some}
use Rattle.dlm_modes.specs.declared.mode.Mode.{Mode}
use Rattle.dlm_space.specs.Queues.{asks}
use Rattle.dlm_space.specs.Locks.{Lock, disagrees}
use Rattle.dlm_space.specs.Parts.{IsQueue}
use Rattle.dlm_space.specs.Calls.{Call, locks_after, AreAccepted}
use Rattle.std.specs.Prelude.{List}

-- what two nodes hold may be held at once
abbrev pub agree : Option Mode → Option Mode → Bool
agree None b = true
agree (Some mode) b = not (disagrees mode b)

pub record IsOrderly (lock : Lock) : Type 0 where
  -- holders are below 16, as the askers are
  pub holders : (n : ℕ) → 16 ≤ n → lock.held n ≡ None
  pub agree : (n m : ℕ) → n ≢ m → agree (lock.held n) (lock.held m) ≡ true
  pub conversions : IsQueue lock.conversions
  pub requests : IsQueue lock.requests
  -- who converts holds, and who requests holds nothing
  pub converter : (n : ℕ) → asks n lock.conversions ≡ true → is_some (lock.held n) ≡ true
  pub requester : (n : ℕ) → asks n lock.requests ≡ true → lock.held n ≡ None

abbrev pub LocksAreOrderly : Type 0
LocksAreOrderly = (past : List Call) → AreAccepted past → (r : ℕ) → IsOrderly (locks_after past r)
