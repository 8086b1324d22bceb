-- What is said of the message rounds of each run of the mirror.
use Rattle.std.specs.Prelude.{◌≡◌, List}
use Rattle.mdc_types.specs.declared.outcomes.Entry.{Entry}
use Rattle.laws_rounds.specs.Sound.{RoundSound}
use Rattle.laws_rounds.specs.Following.{Reaches}
use Rattle.laws_rounds.specs.News.{GoesOnTold}
use Rattle.cluster_model.specs.State.{State, Core}
use Rattle.cluster_model.specs.Opening.{Origin, IsOrigin, is_member, core_at}
use Rattle.cluster_model.specs.Run.{Run}
use Rattle.laws_locks.specs.Following.{rounds_at, rounds_in}
use Rattle.laws_locks.specs.Rounded.{Rounded}
use Rattle.laws_locks.specs.Others.{OtherLocks}
use Rattle.laws_locks.specs.Unblocked.{Unblocked}
use Rattle.laws_locks.specs.Empties.{UpOnly}
use Rattle.dlm_space.specs.Calls.{locks_after, AreAccepted}
use Rattle.dlm_space.specs.Sound.{LockSound}
use Rattle.laws_locks.specs.Called.{calls_in}

-- The rounds of a run.
pub record RoundsHold (o : Origin) (past : List Entry) (core : Core) : Type 0 where
  -- its rounds' entries are accepted in their turn, and lead to the rounds of the core
  pub follows : Reaches (is_member o) (rounds_in o past) (rounds_at core)
  -- so all holds of them that holds of rounds, and they can go on; each grant is told at once
  pub sound : RoundSound (is_member o) (rounds_in o past)
  pub going : GoesOnTold (rounds_at core)
  -- what follows of the phases and locks
  pub rounded : Rounded core

abbrev pub RoundsFollow : Type 0
RoundsFollow = (o : Origin) (start end : State) (past : List Entry)
    → IsOrigin o → start.core ≡ core_at o → Run start past end → RoundsHold o past end.core

-- The other locks at each place.
abbrev pub OtherLocksHold : Type 0
OtherLocksHold = (o : Origin) (start end : State) (past : List Entry)
    → IsOrigin o → start.core ≡ core_at o → Run start past end
    → OtherLocks end.core

abbrev pub NothingIsBlocked : Type 0
NothingIsBlocked = (o : Origin) (start end : State) (past : List Entry)
    → IsOrigin o → start.core ≡ core_at o → Run start past end
    → Unblocked end.core

abbrev pub OnlyUpNodesWork : Type 0
OnlyUpNodesWork = (o : Origin) (start end : State) (past : List Entry)
    → IsOrigin o → start.core ≡ core_at o → Run start past end
    → UpOnly end.core

-- The calls on the lock space of a run: all were accepted in their turn, and led to the locks
-- of the core. So all holds of them that holds of a lock space.
pub record CallsHold (o : Origin) (past : List Entry) (core : Core) : Type 0 where
  pub accepted : AreAccepted (calls_in o past)
  pub leads : locks_after (calls_in o past) ≡ core.locks
  pub sound : LockSound (calls_in o past)

abbrev pub CallsAreMade : Type 0
CallsAreMade = (o : Origin) (start end : State) (past : List Entry)
    → IsOrigin o → start.core ≡ core_at o → Run start past end
    → CallsHold o past end.core
