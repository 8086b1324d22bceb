-- That the message rounds of the mirror can go on: while one is open, something brings its end
-- nearer, and each such event does.
use Rattle.std.specs.Prelude.{◌≡◌, ◌≢◌, ◌⊎◌, ℕ, ◌*◌, ◌<◌, ◌≤◌, List, [], Some, None}
use Rattle.mdc_types.specs.declared.events.Event.{Event}
use Rattle.mdc_types.specs.declared.events.Event.TheVariants as events
use Rattle.mdc_types.specs.declared.outcomes.Entry.{Entry}
use Rattle.mdc_types.specs.declared.outcomes.Outcome.{Outcome}
use Rattle.mdc_types.specs.declared.refusals.Refusal.TheVariants.{Draining}
use Rattle.mdc_types.specs.declared.resources.Res.TheVariants as resources
use Rattle.msg_rounds.specs.Locks.{message_res}
use Rattle.laws_rounds.specs.Going.{IsOpen, live_below}
use Rattle.laws_rounds.specs.News.{told_rank}
use Rattle.cluster_model.specs.State.{State, Core}
use Rattle.cluster_model.specs.Table.{refusal}
use Rattle.cluster_model.specs.Opening.{Origin, IsOrigin, core_at}
use Rattle.cluster_model.specs.Run.{Step, Run}
use Rattle.laws_locks.specs.Following.{rounds_at}

-- an event that brings a round nearer to its end: a grant of `ack`, or of a conversion on
-- `message`, the sender's finish, and the receivers' calls
abbrev pub EndsRound : Core → Event → Type 0
EndsRound core (events.Grant resources.Ack) = Unit {0}
EndsRound core (events.Grant resources.Message) = (core.locks message_res).conversions ≢ []
EndsRound core (events.FinishRound n) = Unit {0}
EndsRound core (events.Take n) = Unit {0}
EndsRound core (events.Processed n) = Unit {0}
EndsRound core (events.Resume n) = Unit {0}
EndsRound core (events.DropMessage n) = Unit {0}
EndsRound core e = ⊥

-- a receiver has the message, and waits for nothing but its own writes in the told range
abbrev pub Drains : Core → Event → Type 0
Drains core (events.Processed n) =
    (write : ℕ) × (refusal core (events.Processed n) ≡ Some (Draining write))
Drains core e = ⊥

-- the calls and grants that are ahead of a round, by the phases of its nodes
abbrev pub round_rank : Core → ℕ
round_rank core = told_rank (rounds_at core)

pub record CanGoOn (state : State) : Type 0 where
  -- while a sender is published or granted, or a receiver isn't idle
  pub unstuck : IsOpen (rounds_at state.core) → (e : Event)
      × (EndsRound state.core e × ((refusal state.core e ≡ None) ⊎ Drains state.core e))
  pub falls : (e : Event) (o : Outcome) (next : State) → EndsRound state.core e
      → Step state e o next → round_rank next.core < round_rank state.core
  pub bounded : round_rank state.core ≤ 8 * live_below (rounds_at state.core) 16

abbrev pub OpenRoundsGoOn : Type 0
OpenRoundsGoOn = (o : Origin) (start end : State) (past : List Entry)
    → IsOrigin o → start.core ≡ core_at o → Run start past end → CanGoOn end
