-- What the withdrawal of losses is for.
use Rattle.std.specs.Prelude.{◌≡◌, ℕ, ◌<◌, true}
use Rattle.mdc_types.specs.Roles.{is_working}
use Rattle.mdc_types.specs.declared.roles.Role.{Role}
use Rattle.leg_failure.specs.Views.{NodeView, works, taken}

-- the node reads from one of the legs
abbrev pub HasLeg : NodeView → Type 0
HasLeg v = (l : ℕ) × (l < 8) × (works v l ≡ true)

-- whatever the node lost, it has a leg after it took roles that call one working
abbrev pub TakersHaveLegs : Type 0
TakersHaveLegs = (v : NodeView) (r : ℕ → Role) (size l : ℕ) → l < 8 → is_working (r l) ≡ true → HasLeg (taken v r size)
