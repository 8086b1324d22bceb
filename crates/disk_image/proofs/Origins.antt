-- The opening of new images is in range.
use Rattle.std.proofs.Common.{◌≡◌, ℕ, ◌<◌, ◌≤◌, ◌^◌, ◌&&◌, Bool, true, false, not, arith, inl, inr, ◌∙◌, ap, sym, length, if◌then◌else◌, nat_lt}
use Rattle.std.proofs.Math.Nat.{one-le-pow}
use Rattle.std.proofs.Math.Path.{fun_ext}
use Rattle.std.proofs.lemmas.Bool.{cases_lt}
use Rattle.std.proofs.lemmas.Bool.Decides.{nat_tests}
use Rattle.leg_failure.proofs.SetLaws.{has_bit-zero}
use Rattle.mdc_types.specs.Bits.{has_bit}
use Rattle.mdc_types.specs.Geometry.{IsGeometry, nodes_of}
use Rattle.mdc_types.specs.Names.{is_name}
use Rattle.mdc_types.specs.Roles.{role_of, some_works, eight}
use Rattle.mdc_types.specs.declared.roles.Roles.{Roles}
use Rattle.mdc_types.specs.declared.roles.Role.TheVariants.{Spare, Working}
use Rattle.mdc_types.proofs.RolesLaws.{role_of-eight, role_of-eight_past, some_works-leg}
use Rattle.md_superblock.specs.Superblock.{IsSuper}
use Rattle.md_superblock.specs.Arrays.{Array, super_for, version_of}
use Rattle.cluster_model.specs.Opening.{Origin, IsOrigin, header_role, array_of, says_of}
use Rattle.disk_image.specs.Created.{created_at, new_role}

at_role : (legs l : ℕ) (b : Bool) → b ≡ false → (if nat_lt l legs && not b then Working else Spare) ≡ new_role legs l
at_role legs l b is = grind (arith, nat_tests, is)

-- no leg opens as a spare
pub roles_are : (legs : ℕ) → header_role legs 0 ≡ new_role legs
roles_are legs = fun_ext (λ l. at_role legs l (has_bit 0 l) (has_bit-zero l))

pub new_roles : (a : Array) → (created_at a).roles ≡ eight (new_role a.sizes.legs)
new_roles a = ap eight (roles_are a.sizes.legs)

past_role : (legs l : ℕ) → legs ≤ l → new_role legs l ≡ Spare
past_role legs l le = grind (arith, nat_tests)

role_past : (legs l : ℕ) → legs ≤ l → role_of (eight (new_role legs)) l ≡ Spare
role_past legs l le = elim (cases_lt l 8) [
  | inl below ↦ role_of-eight (new_role legs) l below ∙ past_role legs l le
  | inr past ↦ role_of-eight_past (new_role legs) l past
]

pub role_below : (legs l : ℕ) → l < legs → legs ≤ 8 → role_of (eight (new_role legs)) l ≡ Working
role_below legs l lt most = role_of-eight (new_role legs) l (omega arith) ∙ grind (arith, nat_tests)

first_role : (legs : ℕ) → 2 ≤ legs → new_role legs 0 ≡ Working
first_role legs le = grind (arith, nat_tests)

first_works : (legs : ℕ) → 2 ≤ legs → some_works (role_of (eight (new_role legs))) ≡ true
first_works legs le = some_works-leg (role_of (eight (new_role legs))) 0 (omega arith)
    (role_of-eight (new_role legs) 0 (omega arith) ∙ first_role legs le)

pub role_at_created : (a : Array) (l : ℕ) → role_of (created_at a).roles l ≡ role_of (eight (new_role a.sizes.legs)) l
role_at_created a l = ap (λ roles. role_of roles l) (new_roles a)

positive : (n : ℕ) → 0 < 2 ^ n
positive n = omega (arith, one-le-pow n 2 (omega arith))

pub created_origin : (a : Array) → IsGeometry a.sizes → is_name a.name ≡ true → length a.name ≡ 32 → length a.uuid ≡ 16
    → IsOrigin (created_at a)
created_origin a sound name size uuid = record {
  sizes = sound;
  name = name;
  lengths = (size, uuid);
  members = positive (nodes_of a.sizes);
  pending = positive (nodes_of a.sizes);
  clean = λ n is. has_bit-zero n;
  events = (omega arith, omega arith);
  leg = ap (λ roles. some_works (role_of roles)) (new_roles a) ∙ first_works a.sizes.legs sound.legs.0;
  legs = λ l past. role_at_created a l ∙ role_past a.sizes.legs l past;
}

version_in : (second : Bool) → (1 ≤ version_of second) × (version_of second ≤ 2)
version_in true = (omega arith, omega arith)
version_in false = (omega arith, omega arith)

-- the superblock of each leg is in its ranges
pub is_super : (o : Origin) (l : ℕ) → IsOrigin o → l < o.sizes.legs → IsSuper (super_for (array_of o) l (says_of o))
is_super o l origin lt = record {
  name = origin.name;
  size = origin.sizes.sectors;
  room = origin.sizes.room;
  raid_disks = origin.sizes.legs;
  version = version_in o.sizes.second;
  device = lt;
  events = origin.events;
  spares = λ k past below. origin.legs k past;
  working = origin.leg;
}

-- what the superblocks of new images say
pub new_says : (a : Array) (roles : Roles) (size : ℕ) → roles ≡ eight (new_role a.sizes.legs) → size ≡ a.sizes.sectors
    → record { events = 1; roles = roles; size = size } ≡ says_of (created_at a)
new_says a roles size e f = ap (λ r. record { events = 1; roles = r; size = size }) (e ∙ sym (new_roles a))
    ∙ ap (λ s. record { events = 1; roles = (created_at a).roles; size = s }) f
