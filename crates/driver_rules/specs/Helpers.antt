-- The list of helping events of a node, and the steps of `auto`.
use Rattle.std.specs.Prelude.{ℕ, Bool, not, ◌&&◌, is_some, List, [], ◌∷◌, Option, Some, None}
use Rattle.dlm_modes.specs.First.{first_such}
use Rattle.mdc_types.specs.Geometry.{nodes_of}
use Rattle.mdc_types.specs.declared.events.Event.{Event}
use Rattle.cluster_model.specs.State.{Core, sizes}
use Rattle.cluster_model.specs.Guards.{is_out}
use Rattle.driver_rules.specs.Lines.{receiving, granting, joining, sending, asking, marking}
use Rattle.driver_rules.specs.Lines.{flying, recovering, copying, beginning, ending, turning}
use Rattle.driver_rules.specs.Lines.{cleaning}

-- what was found, in its order
abbrev pub found : {A : Type 0} → List (Option A) → List A
found [] = []
found (None ∷ rest) = found rest
found (Some a ∷ rest) = a ∷ found rest

abbrev pub lines : Core → ℕ → List (Option Event)
lines core n =
    receiving core n ∷ granting core n ∷ joining core n ∷ sending core n ∷ asking core n
    ∷ marking core n ∷ flying core n ∷ recovering core n ∷ copying core n ∷ beginning core n
    ∷ ending core n ∷ turning core n ∷ cleaning core n ∷ []

-- at most one event of each line
abbrev pub enabled : Core → ℕ → List Event
enabled core n = found (lines core n)

abbrev pub first_in : {A : Type 0} → List A → Option A
first_in [] = None
first_in (a ∷ rest) = Some a

abbrev pub first_enabled : Core → ℕ → Option Event
first_enabled core n = first_in (enabled core n)

abbrev pub is_live : Core → ℕ → Bool
is_live core n = not (is_out (core.state n))

abbrev pub has_help : Core → ℕ → Bool
has_help core n = is_live core n && is_some (first_enabled core n)

-- the least live node that has a helping event
abbrev pub helped_node : Core → Option ℕ
helped_node core = first_such (has_help core) 0 (nodes_of (sizes core))

abbrev pub first_of_node : Core → Option ℕ → Option Event
first_of_node core None = None
first_of_node core (Some n) = first_enabled core n

-- what `auto` does next
abbrev pub next_help : Core → Option Event
next_help core = first_of_node core (helped_node core)
