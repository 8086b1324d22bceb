-- The array's size: no node falls behind what another was sure of.
use Rattle.std.specs.Prelude.{◌≡◌, ℕ, ◌<◌, ◌≤◌, true, List, ◌++◌, Some}
use Rattle.mdc_types.specs.declared.events.Event.{Event}
use Rattle.mdc_types.specs.declared.events.Event.TheVariants.{AskWrite, AskRead}
use Rattle.mdc_types.specs.declared.outcomes.Entry.{Entry}
use Rattle.mdc_types.specs.declared.roles.NodeState.TheVariants.{Up}
use Rattle.md_superblock.specs.Arrays.{Says}
use Rattle.cluster_model.specs.State.{State, Core, sizes}
use Rattle.cluster_model.specs.Phases.{is_in}
use Rattle.cluster_model.specs.Recovered.{Place}
use Rattle.cluster_model.specs.Stored.{super_on}

-- an up node was sure of this size, at some place of the run
pub record WasSure (start : State) (past : List Entry) (end : State) (size : ℕ) : Type 0 where
  pub before : List Entry
  pub later : List Entry
  pub split : past ≡ later ++ before
  pub place : Place start before later end
  pub node : ℕ
  pub up : place.state.core.state node ≡ Up
  pub sure : (place.state.core.view node).sure_size ≡ size

pub record Size (start : State) (past : List Entry) (end : State) : Type 0 where
  pub nodes : (size n : ℕ) → WasSure start past end size → is_in (end.core.state n) ≡ true
      → size ≤ (end.core.view n).size
  pub supers : (size k : ℕ) (says : Says) → WasSure start past end size → k < (sizes end.core).legs
      → super_on end.core.array end.legs k ≡ Some says → says.events ≡ end.core.members.completed
      → size ≤ says.size

-- a request names a sector that its node is sure of
abbrev pub NamesSure : Core → Event → Type 0
NamesSure core (AskWrite n s v) = s < (core.view n).sure_size
NamesSure core (AskRead n s) = s < (core.view n).sure_size
NamesSure core e = Unit {0}
