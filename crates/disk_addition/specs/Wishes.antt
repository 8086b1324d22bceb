-- What a wish asks of the addition and of its leg's role.
use Rattle.std.specs.Prelude.{ℕ, ◌<◌, ◌==◌, Bool, true, false, ◌&&◌, ◌||◌, Option, None}
use Rattle.dlm_modes.specs.Guards.{unless, or_then}
use Rattle.mdc_types.specs.Roles.{is_faulty, is_rebuilding, is_spare}
use Rattle.mdc_types.specs.declared.events.Wish.{Wish}
use Rattle.mdc_types.specs.declared.events.Wish.TheVariants as wishes
use Rattle.mdc_types.specs.declared.refusals.Part.TheVariants as parts
use Rattle.mdc_types.specs.declared.refusals.Refusal.{Refusal}
use Rattle.mdc_types.specs.declared.refusals.Refusal.TheVariants.{NotPhase, NotRole}
use Rattle.mdc_types.specs.declared.roles.Role.{Role}
use Rattle.disk_addition.specs.Additions.{word_of}
use Rattle.disk_addition.specs.declared.addition.Addition.{Addition}
use Rattle.disk_addition.specs.declared.addition.Addition.TheVariants.{Announced, Removing, ReAdd}

-- the wish's leg, if it has one, is one of eight
abbrev pub HasLeg : Wish → Type 0
HasLeg (wishes.Spare l) = l < 8
HasLeg (wishes.Rebuild l) = l < 8
HasLeg (wishes.Work l) = l < 8
HasLeg (wishes.NewDisk l) = l < 8
HasLeg (wishes.Remove l) = l < 8
HasLeg (wishes.ReAdd l) = l < 8
HasLeg wish = Unit {0}

-- leg l is being removed
abbrev pub is_removing : Addition → ℕ → Bool
is_removing (Removing m) l = m == l
is_removing a l = false

-- leg l is being added again
abbrev pub is_readd : Addition → ℕ → Bool
is_readd (ReAdd m) l = m == l
is_readd a l = false

-- leg l is announced
abbrev pub is_announced : Addition → ℕ → Bool
is_announced (Announced m) l = m == l
is_announced a l = false

-- the addition is the one that the wish needs; an announced leg may rebuild only where the node
-- holds EX on no-new-dev
abbrev pub suits : Addition → Bool → Wish → Bool
suits a holds_ex (wishes.Spare l) = is_removing a l
suits a holds_ex (wishes.Rebuild l) = (is_announced a l && holds_ex) || is_readd a l
suits a holds_ex wish = true

-- refuses where the test of the leg's role fails
abbrev pub unless_role : (Role → Bool) → ℕ → Role → Option Refusal
unless_role test l r = unless (test r) (NotRole l r)

-- refuses where the wish's leg has another role than the wish wants
abbrev pub role_refusal : Addition → (ℕ → Role) → Wish → Option Refusal
role_refusal a role (wishes.Spare l) = unless_role is_faulty l (role l)
role_refusal a role (wishes.Rebuild l) = unless_role (λ r. is_spare r || (is_faulty r && is_readd a l)) l (role l)
role_refusal a role (wishes.Work l) = unless_role is_rebuilding l (role l)
role_refusal a role (wishes.NewDisk l) = unless_role is_spare l (role l)
role_refusal a role (wishes.Remove l) = unless_role is_faulty l (role l)
role_refusal a role (wishes.ReAdd l) = unless_role is_faulty l (role l)
role_refusal a role wish = None

-- what refuses a wish: the addition, then the role of its leg
abbrev pub wish_refusal : Addition → (ℕ → Role) → Bool → Wish → Option Refusal
wish_refusal a role holds_ex wish =
    or_then (unless (suits a holds_ex wish) (NotPhase parts.Addition (word_of a))) (role_refusal a role wish)
