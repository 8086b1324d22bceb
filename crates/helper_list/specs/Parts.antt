-- The lines of a node in three parts.
use Rattle.std.specs.Prelude.{ℕ, List, [], ◌∷◌, Option}
use Rattle.mdc_types.specs.declared.events.Event.{Event}
use Rattle.cluster_model.specs.State.{Core}
use Rattle.driver_rules.specs.Lines.{receiving, granting, joining, sending, asking, marking}
use Rattle.driver_rules.specs.Lines.{flying, recovering, copying, beginning, ending, turning}
use Rattle.driver_rules.specs.Lines.{cleaning}

abbrev pub of_messages : Core → ℕ → List (Option Event)
of_messages core n =
    receiving core n ∷ granting core n ∷ joining core n ∷ sending core n ∷ asking core n ∷ []

abbrev pub of_transfers : Core → ℕ → List (Option Event)
of_transfers core n = marking core n ∷ flying core n ∷ recovering core n ∷ copying core n ∷ []

abbrev pub of_passes : Core → ℕ → List (Option Event)
of_passes core n = beginning core n ∷ ending core n ∷ turning core n ∷ cleaning core n ∷ []
