-- What a call and a run of calls do to an actor.
use Rattle.std.specs.Prelude.{◌≡◌, ℕ, ◌+◌, Bool, true, false}
use Rattle.node_workers.specs.declared.actors.Called.{Called}
use Rattle.node_workers.specs.declared.actors.Called.TheVariants.{Done, Again, Ended}

-- the calls done before and after, and whether the actor has ended then
abbrev pub Moves : Called → ℕ → ℕ → Bool → Type 0
Moves Done old new ended = (new ≡ old + 1) × (ended ≡ false)
Moves Again old new ended = (new ≡ old) × (ended ≡ false)
Moves Ended old new ended = (new ≡ old) × (ended ≡ true)
