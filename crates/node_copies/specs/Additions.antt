-- The devices that all nodes have on their way in or out, as plain data, and what it stands for.
use Rattle.std.specs.Prelude.{◌≡◌, ℕ, List, [], get_or}
use Rattle.mdc_types.specs.Geometry.{Sizes}
use Rattle.disk_addition.specs.declared.addition.Addition.TheVariants.{Nothing}
use Rattle.slot_gathering.specs.Kept.{Kept, gathering_of}
use Rattle.cluster_model.specs.State.{Adding}
use Rattle.cluster_model.specs.Changes.{not_adding}
use Rattle.node_copies.specs.Places.{no_sizes}
use Rattle.node_copies.specs.declared.places.NodeAdding.{NodeAdding}

abbrev pub adding_in : NodeAdding → Adding
adding_in x = record { addition = x.addition; gathering = gathering_of x.gathering }

abbrev pub no_gathering : Kept
no_gathering = record { sizes = no_sizes; next = 0; gathered = [] }

abbrev pub no_place : NodeAdding
no_place = record { addition = Nothing; gathering = no_gathering }

pub record Addings : Type 0 where
  -- those of the array
  pub sizes : Sizes
  -- by node
  pub places : List NodeAdding

-- by node
abbrev pub adding_of : Addings → ℕ → Adding
adding_of t n = adding_in (get_or t.places n no_place)

-- the gathering is one of an array of these sizes
pub record IsOf (g : Sizes) (x : NodeAdding) : Type 0 where
  pub sizes : x.gathering.sizes ≡ g

-- no device is on its way
pub record IsNew (g : Sizes) (x : NodeAdding) : Type 0 where
  pub sizes : x.gathering.sizes ≡ g
  pub adding : adding_in x ≡ not_adding
