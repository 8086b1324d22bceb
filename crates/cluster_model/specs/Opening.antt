-- The state before any event.
use Rattle.std.specs.Prelude.{length, ◌≡◌, ℕ, ◌^◌, ◌<◌, ◌≤◌, ◌+◌, ◌-◌, nat_lt, Bool, true, false, not}
use Rattle.std.specs.Prelude.{◌&&◌, is_some, if◌then◌else◌, List, [], ◌∷◌, ◌++◌, replicate, codes}
use Rattle.std.specs.Prelude.{Some, None, ◌==◌}
use Rattle.dlm_modes.specs.First.{first_such}
use Rattle.dlm_modes.specs.Points.{with_at}
use Rattle.dlm_modes.specs.declared.mode.Mode.{Mode}
use Rattle.dlm_modes.specs.declared.mode.Mode.TheVariants.{CR, PW}
use Rattle.mdc_types.specs.Bits.{has_bit}
use Rattle.mdc_types.specs.Geometry.{Sizes, IsGeometry, nodes_of, pages_of, chunks_of}
use Rattle.mdc_types.specs.Names.{is_name}
use Rattle.mdc_types.specs.Roles.{role_of, is_working, some_works, eight}
use Rattle.mdc_types.specs.Sectors.{zero_sector}
use Rattle.mdc_types.specs.declared.numbers.Sector.{Sector}
use Rattle.mdc_types.specs.declared.roles.Roles.{Roles}
use Rattle.mdc_types.specs.declared.roles.Role.{Role}
use Rattle.mdc_types.specs.declared.roles.Role.TheVariants.{Working, Spare}
use Rattle.mdc_types.specs.declared.roles.NodeState.TheVariants.{Up, Out}
use Rattle.dlm_space.specs.Locks.{Lock, new_lock, new_locks}
use Rattle.md_superblock.specs.Arrays.{Array, Says}
use Rattle.msg_rounds.specs.Locks.{ack_res}
use Rattle.msg_rounds.specs.Phases.{new_receiving}
use Rattle.msg_rounds.specs.declared.phases.SenderPhase.TheVariants as senders
use Rattle.node_member.specs.Members.{new_members}
use Rattle.leg_failure.specs.Views.{NodeView, new_view}
use Rattle.node_bitmaps.specs.Bitmap.{Bitmap, empty}
use Rattle.cluster_model.specs.State.{Core, Untried}
use Rattle.cluster_model.specs.Changes.{no_new_dev, no_view, no_copy, not_adding}

-- what an array opens with
pub record Origin : Type 0 where
  pub sizes : Sizes
  pub name : List ℕ
  pub uuid : List ℕ
  -- one bit a node: the members, and the nodes whose slots are pending
  pub members : ℕ
  pub pending : ℕ
  -- whether the members' bits are all set
  pub warm : Bool
  pub roles : Roles
  -- the events number of the superblocks, of several the greatest
  pub events : ℕ
  -- by data sector: the values that the working legs have there
  pub base : List (List Sector)

abbrev pub array_of : Origin → Array
array_of o = record { sizes = o.sizes; name = o.name; uuid = o.uuid }

-- what the newest superblock says
abbrev pub says_of : Origin → Says
says_of o = record { events = o.events; roles = o.roles; size = o.sizes.sectors }

abbrev pub is_member : Origin → ℕ → Bool
is_member o n = nat_lt n (nodes_of o.sizes) && has_bit o.members n

-- of a member, and of another node
abbrev pub of_member : {A : Type 0} → Origin → ℕ → A → A → A
of_member o n here there = if is_member o n then here else there

-- members hold PW on their bitmaps, and CR on `ack` and on `no-new-dev`
abbrev pub held_by_members : Origin → Mode → Lock
held_by_members o mode = record new_lock { held = λ n. of_member o n (Some mode) None }

abbrev pub bitmap_lock : Origin → ℕ → Lock
bitmap_lock o r = record new_lock {
  held = λ n. if (n == r) && is_member o n then Some PW else None;
}

abbrev pub locks_at : Origin → ℕ → Lock
locks_at o r =
    if r == ack_res then held_by_members o CR
    else if r == no_new_dev then held_by_members o CR
    else bitmap_lock o r

-- the bits that a member's slot opens with
abbrev pub opening_set : Origin → ℕ → ℕ → Bool
opening_set o n c = is_member o n && o.warm && nat_lt c (chunks_of o.sizes)

-- they stand on every leg, and all pages of members are fresh
abbrev pub bitmap_at : Origin → ℕ → Bitmap
bitmap_at o n = record empty {
  set = opening_set o n;
  marks = λ c l. opening_set o n c && nat_lt l o.sizes.legs;
  fresh = λ p l. is_member o n && nat_lt p (pages_of o.sizes) && nat_lt l o.sizes.legs;
}

-- members are up and idle, with the opening's roles and size; nothing is lost, cut or in flight
abbrev pub core_at : Origin → Core
core_at o = record {
  array = array_of o;
  state = λ n. of_member o n Up Out;
  view = λ n. of_member o n (new_view (role_of o.roles) o.sizes.sectors (λ l. false)) no_view;
  head = λ n l. 0;
  writes = λ n. [];
  reads = λ n. [];
  writes_made = λ n. 0;
  reads_made = λ n. 0;
  locks = locks_at o;
  sender = λ n. senders.Idle;
  offer = λ n. None;
  receiver = λ n. new_receiving;
  heard = λ n. None;
  tried = λ n l. Untried;
  members = new_members o.members o.pending o.events;
  cut = λ n l. false;
  bitmap = bitmap_at o;
  suspended = λ n owner. None;
  copy = λ n. no_copy;
  recovery = λ n. None;
  adding = λ n. not_adding;
}

-- its numbers are in range, no member's slot is pending, a leg works, and no role is past the legs
pub record IsOrigin (o : Origin) : Type 0 where
  pub sizes : IsGeometry o.sizes
  pub name : is_name o.name ≡ true
  pub lengths : (length o.name ≡ 32) × (length o.uuid ≡ 16)
  pub members : o.members < 2 ^ nodes_of o.sizes
  pub pending : o.pending < 2 ^ nodes_of o.sizes
  pub clean : (n : ℕ) → is_member o n ≡ true → has_bit o.pending n ≡ false
  pub events : (1 ≤ o.events) × (o.events ≤ 2 ^ 63)
  pub leg : some_works (role_of o.roles) ≡ true
  pub legs : (l : ℕ) → o.sizes.legs ≤ l → role_of o.roles l ≡ Spare

-- the role of a leg at the opening of a header: it works unless it opens as a spare, one bit a leg
abbrev pub header_role : ℕ → ℕ → ℕ → Role
header_role legs spares l = if nat_lt l legs && not (has_bit spares l) then Working else Spare

-- the opening of a header: the first nodes are members, and all data sectors are zero
abbrev pub header_at : Sizes → ℕ → Bool → ℕ → Origin
header_at sizes nodes warm spares = record {
  sizes = sizes;
  name = codes "array" ++ replicate 27 0;
  uuid = replicate 16 0;
  members = 2 ^ nodes - 1;
  pending = 0;
  warm = warm;
  roles = eight (header_role sizes.legs spares);
  events = 1;
  base = replicate sizes.room (zero_sector ∷ []);
}
