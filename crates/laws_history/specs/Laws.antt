-- Places of runs, of any events.
use Rattle.std.specs.Prelude.{◌≡◌, ℕ, List, ◌++◌}
use Rattle.mdc_types.specs.declared.outcomes.Entry.{Entry}
use Rattle.cluster_model.specs.State.{State}
use Rattle.cluster_model.specs.Run.{Run}
use Rattle.cluster_model.specs.Recovered.{Place}

-- a run may be cut at each place: up to there it is a run, and from there on
abbrev pub RunsHavePlaces : Type 0
RunsHavePlaces =
    (start : State) (past later : List Entry) (end : State)
    → Run start (later ++ past) end → Place start past later end

-- a leg tells what it has all along a run, or never
abbrev pub LegsKeepTelling : Type 0
LegsKeepTelling =
    (start : State) (past : List Entry) (end : State)
    → Run start past end → (l : ℕ) → end.legs.told l ≡ start.legs.told l
