-- By node and sector: the sector was settled, by whichever node, since the node began to recover
-- last.
use Rattle.std.specs.Prelude.{ℕ, ◌==◌, Bool, true, false, if◌then◌else◌, List, [], ◌∷◌}
use Rattle.mdc_types.specs.declared.events.Event.{Event}
use Rattle.mdc_types.specs.declared.events.Event.TheVariants.{Settle, Recover}
use Rattle.mdc_types.specs.declared.outcomes.Entry.{Entry}
use Rattle.mdc_types.specs.declared.outcomes.Outcome.{Outcome}
use Rattle.mdc_types.specs.declared.outcomes.Outcome.TheVariants.{Settled}

-- after one entry more
abbrev pub since_step : Event → Outcome → (ℕ → ℕ → Bool) → ℕ → ℕ → Bool
since_step (Settle n) (Settled s v) since m t = if t == s then true else since m t
since_step (Recover n d) o since m t = if m == n then false else since m t
since_step e o since m t = since m t

-- after these entries, the newest first
abbrev pub since_in : List Entry → ℕ → ℕ → Bool
since_in [] n s = false
since_in (x ∷ past) n s = since_step x.event x.outcome (since_in past) n s
