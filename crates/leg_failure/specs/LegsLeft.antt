-- A node that has a leg to read from keeps one: what it loses, proposes and finishes leaves it one.
use Rattle.std.specs.Prelude.{◌≡◌, ◌↔◌, ℕ, ◌<◌, true, false, IsTrue, is_some}
use Rattle.dlm_modes.specs.Points.{with_at}
use Rattle.mdc_types.specs.Roles.{is_working, some_works}
use Rattle.mdc_types.specs.declared.roles.Role.{Role}
use Rattle.leg_failure.specs.Views.{NodeView, working_leg, is_last, proposed, lost_one, finished}
use Rattle.leg_failure.specs.Withdrawals.{HasLeg}

-- the roles call a leg working
abbrev pub HasWorkingRole : (ℕ → Role) → Type 0
HasWorkingRole r = (l : ℕ) × (l < 8) × (is_working (r l) ≡ true)

-- each leg that works by the roles r does so by the roles q
abbrev pub KeepsWorking : (ℕ → Role) → (ℕ → Role) → Type 0
KeepsWorking r q = (l : ℕ) → is_working (r l) ≡ true → is_working (q l) ≡ true

-- the later view has the roles of the earlier one, and all that it lost, and maybe more
pub record LostSince (earlier later : NodeView) : Type 0 where
  pub roles : later.role ≡ earlier.role
  pub lost : (l : ℕ) → earlier.lost l ≡ true → later.lost l ≡ true

-- losing a leg that isn't the last leaves one
abbrev pub LosersHaveLegs : Type 0
LosersHaveLegs = (v : NodeView) (l : ℕ) → HasLeg v → is_last v l ≡ false → HasLeg (lost_one v l)

-- who has a leg proposes roles that call one working
abbrev pub ProposersHaveLegs : Type 0
ProposersHaveLegs = (v : NodeView) → HasLeg v → HasWorkingRole (proposed v)

-- a change of the role of a leg that doesn't work keeps those that do
abbrev pub ChangesKeepWorking : Type 0
ChangesKeepWorking = (r : ℕ → Role) (l : ℕ) (role : Role) → is_working (r l) ≡ false
    → KeepsWorking r (with_at r l role)

-- a round began with the roles that the node proposed, or with these and others working; whatever the
-- node lost since, if it still has a leg at the end, it has one after it finished the round
abbrev pub FinishersHaveLegs : Type 0
FinishersHaveLegs = (earlier later : NodeView) (r : ℕ → Role) (size : ℕ) → LostSince earlier later
    → KeepsWorking (proposed earlier) r → HasLeg later → HasLeg (finished later r size)

-- what the look-ups find: a view has a leg where a least working leg is found, and roles call one
-- working where some works by them
abbrev pub LegsAreFound : Type 0
LegsAreFound = (v : NodeView) → HasLeg v ↔ IsTrue (is_some (working_leg v))

abbrev pub RolesAreFound : Type 0
RolesAreFound = (r : ℕ → Role) → HasWorkingRole r ↔ IsTrue (some_works r)
