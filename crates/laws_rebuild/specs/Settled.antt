-- By node and sector: the node settled the sector in the pass that it has, and in the window that
-- it has open, as the entries tell.
use Rattle.std.specs.Prelude.{ℕ, ◌==◌, ◌&&◌, ◌||◌, Bool, false, is_some, List, [], ◌∷◌}
use Rattle.mdc_types.specs.declared.events.Event.{Event}
use Rattle.mdc_types.specs.declared.events.Event.TheVariants.{Settle}
use Rattle.mdc_types.specs.declared.outcomes.Entry.{Entry}
use Rattle.mdc_types.specs.declared.outcomes.Outcome.{Outcome}
use Rattle.mdc_types.specs.declared.outcomes.Outcome.TheVariants.{Settled}
use Rattle.suspend_ranges.specs.Suspended.{suspends}
use Rattle.cluster_model.specs.Opening.{Origin}
use Rattle.laws_locks.specs.Following.{core_after}

-- the node settles the sector
abbrev pub settles : Event → Outcome → ℕ → ℕ → Bool
settles (Settle m) (Settled t v) n s = (n == m) && (s == t)
settles e o n s = false

-- the node has a pass, and settled the sector since it has
abbrev pub settled_in_pass : Origin → List Entry → ℕ → ℕ → Bool
settled_in_pass o [] n s = false
settled_in_pass o (x ∷ past) n s =
    is_some ((core_after o (x ∷ past)).copy n).pass
    && (settles x.event x.outcome n s || settled_in_pass o past n s)

-- the node has a window open that holds the sector, and settled it since it has
abbrev pub settled_in_window : Origin → List Entry → ℕ → ℕ → Bool
settled_in_window o [] n s = false
settled_in_window o (x ∷ past) n s =
    suspends s ((core_after o (x ∷ past)).copy n).window
    && (settles x.event x.outcome n s || settled_in_window o past n s)
