-- A table of the transfers that fail.
use Rattle.std.specs.Prelude.{◌≡◌, ℕ, List, Option}
use Rattle.leg_store.specs.Plans.{entry_for}
use Rattle.leg_store.specs.declared.memory.Left.{Left}

-- the table has at each number what the first entry for it in the list says
abbrev pub HasFirsts : (ℕ → Option Left) → List (ℕ × Left) → Type 0
HasFirsts table listed = (number : ℕ) → table number ≡ entry_for number listed
