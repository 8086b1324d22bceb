-- What the superblocks and the slots of all legs say of an array.
use Rattle.std.specs.Prelude.{◌≡◌, ℕ, ◌<◌, ◌≤◌, nat_lt, Bool, true, false, ◌&&◌, List, length}
use Rattle.std.specs.Prelude.{is_some}
use Rattle.dlm_modes.specs.First.{first_such}
use Rattle.mdc_types.specs.Bits.{has_bit}
use Rattle.mdc_types.specs.Geometry.{nodes_of, chunks_of}
use Rattle.mdc_types.specs.Roles.{role_of, is_working}
use Rattle.mdc_types.specs.declared.roles.Roles.{Roles}
use Rattle.mdc_types.specs.declared.numbers.Sector.{Sector}
use Rattle.image_faults.specs.declared.legs.LegImage.{LegImage}
use Rattle.cluster_model.specs.Opening.{Origin}
use Rattle.image_array.specs.Legs.{super_at, sizes_at, mark_at}
use Rattle.image_array.specs.declared.heads.Head.{Head}

-- leg l has the greatest events number, and is the least leg with it
pub record IsNewest (images : List LegImage) (l : ℕ) : Type 0 where
  pub there : l < length images
  pub greatest : (k : ℕ) → k < length images → (super_at images k).events ≤ (super_at images l).events
  pub least : (k : ℕ) → k < l → (super_at images k).events < (super_at images l).events

abbrev pub works : Roles → ℕ → Bool
works roles l = is_working (role_of roles l)

-- a leg that works is there
pub record AreWithin (images : List LegImage) (roles : Roles) : Type 0 where
  pub leg : (l : ℕ) → l < 8 → works roles l ≡ true → l < length images

-- slot k marks some chunk on leg l
abbrev pub has_marks : List LegImage → ℕ → ℕ → Bool
has_marks images k l =
    is_some (first_such (mark_at images l k) 0 (chunks_of (sizes_at images l)))

-- slot k marks some chunk on a leg that works
abbrev pub is_pending : List LegImage → Roles → ℕ → Bool
is_pending images roles k =
    is_some (first_such (λ l. works roles l && has_marks images k l) 0 8)

-- what is said: by the newest superblock, and by the slots on the legs that it calls working
pub record IsHead (images : List LegImage) (h : Head) : Type 0 where
  pub newest : ℕ
  pub is_newest : IsNewest images newest
  pub sizes : h.geometry ≡ sizes_at images newest
  pub name : h.name ≡ (super_at images newest).name
  pub uuid : h.uuid ≡ (super_at images newest).uuid
  pub roles : h.roles ≡ (super_at images newest).roles
  pub events : h.events ≡ (super_at images newest).events
  pub pending : (k : ℕ)
      → has_bit h.pending k ≡ (nat_lt k (nodes_of h.geometry) && is_pending images h.roles k)

-- what the array opens with
abbrev pub origin_of : Head → List (List Sector) → Origin
origin_of h base = record {
  sizes = h.geometry;
  name = h.name;
  uuid = h.uuid;
  members = 0;
  pending = h.pending;
  warm = false;
  roles = h.roles;
  events = h.events;
  base = base;
}
