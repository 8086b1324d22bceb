-- What each run of the machine has, whatever its events are, whichever transfers fail and whoever
-- dies: the headline.
use Rattle.std.specs.Prelude.{◌≡◌, ◌≢◌, List, ◌++◌}
use Rattle.mdc_types.specs.declared.outcomes.Entry.{Entry}
use Rattle.plain_history.specs.History.{Legal, candidates, values_at}
use Rattle.cluster_model.specs.State.{State}
use Rattle.cluster_model.specs.Contents.{Opens, AllTell, SoundOpening}
use Rattle.cluster_model.specs.Opening.{Origin}
use Rattle.cluster_model.specs.Recovered.{Place}
use Rattle.cluster_model.specs.Run.{Run}
use Rattle.cluster_model.specs.Served.{Shut}
use Rattle.laws_locks.specs.Going.{CanGoOn}
use Rattle.laws_locks.specs.Laws.{CallsHold, RoundsHold}
use Rattle.laws_roles.specs.Laws.{Tells, LegIsLeft, Superblocks}
use Rattle.laws_promises.specs.Legs.{PagesRead}
use Rattle.laws_promises.specs.Promises.{Promises}

-- a place of a run: each leg tells its contents there, and all is as promised
pub record AtPlace (o : Origin) (start : State) (before later : List Entry) (end : State)
    : Type 0 where
  pub place : Place start before later end
  pub told : AllTell o place.state.legs
  pub promises : Promises (candidates (values_at o.base) before) start before place.state

-- the reads and writes are one legal history, and at each place all is as promised
pub record Promised (o : Origin) (start : State) (past : List Entry) (end : State)
    : Type 0 where
  pub legal : Legal (values_at o.base) past
  pub places : (before later : List Entry) → past ≡ later ++ before
      → AtPlace o start before later end

-- where legs tell their contents: a leg that is given up is read by nobody, and each leg has a
-- superblock of the array, and pages of slots that can be read
pub record ToldPromises (o : Origin) (end : State) : Type 0 where
  pub shut : Shut end
  pub supers : Superblocks end
  pub pages : PagesRead o.sizes o.uuid end.legs

-- What a run guarantees where it stands.
pub record Guarantees (o : Origin) (start : State) (past : List Entry) (end : State)
    : Type 0 where
  -- its calls on the locks are those of a lock space, its rounds are message rounds, and a round
  -- that is open can go on
  pub locks : CallsHold o past end.core
  pub rounds : RoundsHold o past end.core
  pub goes_on : CanGoOn end
  -- each node that is in has a leg to read from
  pub leg : LegIsLeft end
  pub told : Tells o start → ToldPromises o end
  pub sound : SoundOpening o start → Tells o start → Promised o start past end

-- along each run from an opening
abbrev pub RunsKeepTheirPromises : Type 0
RunsKeepTheirPromises = (o : Origin) (start end : State) (past : List Entry)
    → Opens o start → Run start past end → Guarantees o start past end

-- the opening of a header, which has members, is sound where the legs tell their contents
abbrev pub HeadersKeepTheirPromises : Type 0
HeadersKeepTheirPromises = (o : Origin) (start end : State) (past : List Entry)
    → Opens o start → o.members ≢ 0 → Run start past end → AllTell o end.legs
    → Promised o start past end
