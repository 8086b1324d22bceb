-- The recoveries of all nodes, as plain data, and what they stand for.
use Rattle.std.specs.Prelude.{◌≡◌, ℕ, Bool, false, List, [], get_or, Option, Some, None}
use Rattle.mdc_types.specs.Geometry.{Sizes, chunks_of, pages_of}
use Rattle.node_recovery.specs.Progress.{Progress, Recovering, recovering_of, HasSize, unread, uncleared, unread_leg, uncleared_leg}
use Rattle.node_copies.specs.Places.{some_if}
use Rattle.node_copies.specs.declared.places.NodeRecovery.{NodeRecovery}

abbrev pub recovery_of : NodeRecovery → Option Recovering
recovery_of x = some_if x.begun (recovering_of x.recovery)

abbrev pub no_progress : Progress
no_progress = record { slot = 0; read = []; cleared = []; found = [] }

abbrev pub no_place : NodeRecovery
no_place = record { begun = false; recovery = no_progress }

pub record Progresses : Type 0 where
  -- those of the array
  pub sizes : Sizes
  -- by node
  pub places : List NodeRecovery

-- by node
abbrev pub recoveries_of : Progresses → ℕ → Option Recovering
recoveries_of t n = recovery_of (get_or t.places n no_place)

-- the recovery is one of an array of these sizes
pub record IsOf (g : Sizes) (x : NodeRecovery) : Type 0 where
  pub size : HasSize x.recovery (pages_of g) (chunks_of g)

-- nothing is recovered yet
pub record IsNew (g : Sizes) (x : NodeRecovery) : Type 0 where
  pub size : HasSize x.recovery (pages_of g) (chunks_of g)
  pub recovery : recovery_of x ≡ None

-- what is left, where there is a recovery

abbrev pub first_unread : Sizes → Option Recovering → (ℕ → Bool) → Option ℕ
first_unread g None legs = None
first_unread g (Some r) legs = unread_leg g r legs

abbrev pub first_uncleared : Sizes → Option Recovering → (ℕ → Bool) → Option ℕ
first_uncleared g None legs = None
first_uncleared g (Some r) legs = uncleared_leg g r legs

abbrev pub page_unread : Sizes → Option Recovering → (ℕ → Bool) → Option (ℕ × ℕ)
page_unread g None legs = None
page_unread g (Some r) legs = unread g r legs

abbrev pub page_uncleared : Sizes → Option Recovering → (ℕ → Bool) → Option (ℕ × ℕ)
page_uncleared g None legs = None
page_uncleared g (Some r) legs = uncleared g r legs
