-- What all nodes have of copying, as plain data, and what it stands for.
use Rattle.std.specs.Prelude.{◌≡◌, ℕ, Bool, false, List, [], get_or, Option, Some, None}
use Rattle.dlm_modes.specs.First.{first_such}
use Rattle.mdc_types.specs.Geometry.{Sizes, chunks_of}
use Rattle.resync_worker.specs.Copying.{Copying, Passing, passing_of, first_todo}
use Rattle.cluster_model.specs.State.{Copy}
use Rattle.cluster_model.specs.State as machine
use Rattle.cluster_model.specs.Changes.{no_copy}
use Rattle.node_copies.specs.Places.{some_if, no_sizes, AreAll}
use Rattle.node_copies.specs.declared.places.Turn.{Turn}
use Rattle.node_copies.specs.declared.places.Turn.TheVariants.{NotAsked, Asked, Held}
use Rattle.node_copies.specs.declared.places.NodeCopy.{NodeCopy}

abbrev pub turn_of : Turn → machine.Turn
turn_of NotAsked = machine.NotAsked
turn_of Asked = machine.Asked
turn_of Held = machine.Held

abbrev pub copy_of : NodeCopy → Copy
copy_of x = record {
  turn = turn_of x.turn;
  pass = some_if x.begun (passing_of x.pass);
  window = x.window;
}

-- a pass of no array
abbrev pub no_pass : Copying
no_pass = record { sizes = no_sizes; todo = []; covered = 0; reached = 0; buffer = None }

abbrev pub no_place : NodeCopy
no_place = record { turn = NotAsked; begun = false; pass = no_pass; window = None }

pub record Copyings : Type 0 where
  -- those of the array
  pub sizes : Sizes
  -- by node
  pub places : List NodeCopy
  -- a set of chunks that is on no node's account
  pub chunks : List Bool

-- by node
abbrev pub copies_of : Copyings → ℕ → Copy
copies_of t n = copy_of (get_or t.places n no_place)

-- the pass is one of an array of these sizes
pub record IsOf (g : Sizes) (x : NodeCopy) : Type 0 where
  pub sizes : x.pass.sizes ≡ g

-- nothing is copied yet
pub record IsNew (g : Sizes) (x : NodeCopy) : Type 0 where
  pub sizes : x.pass.sizes ≡ g
  pub copy : copy_of x ≡ no_copy

-- sixteen places and a set, all of an array of these sizes
pub record AreCopies (g : Sizes) (places : List NodeCopy) (chunks : ℕ) : Type 0 where
  pub nodes : AreAll NodeCopy (IsOf g) no_place 16 places
  pub set : chunks ≡ chunks_of g

-- the first chunk that a pass, if there is one, is still to copy
abbrev pub first_left : Sizes → Option Passing → Option ℕ
first_left g None = None
first_left g (Some p) = first_todo g p

-- the first leg that a pass, if there is one, covers
abbrev pub first_covered : Option Passing → Option ℕ
first_covered None = None
first_covered (Some p) = first_such p.covered 0 8
