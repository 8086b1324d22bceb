-- Whether a leg goes with the legs before it, by their superblocks.
use Rattle.std.specs.Prelude.{ℕ, ◌==◌, Bool, not, ◌&&◌, Option, is_none}
use Rattle.std.specs.Str.{bytes_eq}
use Rattle.dlm_modes.specs.First.{first_such, each_such}
use Rattle.dlm_modes.specs.Guards.{unless}
use Rattle.mdc_types.specs.Roles.{role_of, is_role}
use Rattle.mdc_types.specs.declared.roles.Roles.{Roles}
use Rattle.md_superblock.specs.declared.superblock.Super.{Super}
use Rattle.image_faults.specs.declared.faults.ImageFault.{ImageFault}
use Rattle.image_faults.specs.declared.faults.ImageFault.TheVariants.{Geometry}

-- it is one of the array of the other, as device l
abbrev pub is_of_array : Super → ℕ → Super → Bool
is_of_array first l s =
    (s.geometry_legs == first.geometry_legs) && (s.room == first.room)
    && (s.version == first.version) && bytes_eq s.name first.name && bytes_eq s.uuid first.uuid
    && (s.device == l)

abbrev pub same_role_at : Roles → Roles → ℕ → Bool
same_role_at a b l = is_role (role_of a l) (role_of b l)

abbrev pub same_roles : Roles → Roles → Bool
same_roles a b = each_such (same_role_at a b) 0 8

-- it says other roles or another size than the other, at the same events number
abbrev pub contradicts : Super → Super → Bool
contradicts s other =
    (s.events == other.events) && not ((s.sectors == other.sectors) && same_roles s.roles other.roles)

-- none of the legs below l says other things at the same events number
abbrev pub agrees_below : (ℕ → Super) → ℕ → Super → Bool
agrees_below super l s = is_none (first_such (λ k. contradicts s (super k)) 0 l)

-- the fault of leg l against the legs before it, where those have the superblocks. Leg 0 has it where
-- it isn't device 0
abbrev pub agreement_fault : (ℕ → Super) → ℕ → Option ImageFault
agreement_fault super l =
    unless (is_of_array (super 0) l (super l) && agrees_below super l (super l)) Geometry
