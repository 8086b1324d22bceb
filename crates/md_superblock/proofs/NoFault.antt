-- A sector without a fault: each test passes.
use Rattle.std.proofs.Common.{◌≡◌, ℕ, ◌^◌, ◌<◌, ◌≤◌, ◌==◌, nat_lt, nat_le, nat_eq, true, not, ◌||◌, List, None, refl, arith}
use Rattle.std.specs.Prelude.{slice_range, is_some}
use Rattle.std.specs.Cmp.Lexicographic.{pointwise}
use Rattle.std.specs.Option.{option_map}
use Rattle.std.proofs.lemmas.Bool.{and_parts, and_from, leb-true, le-leb, ltb-true}
use Rattle.dlm_modes.specs.First.{first_such}
use Rattle.md_superblock.specs.declared.faults.Field.TheVariants as field
use Rattle.md_superblock.specs.declared.faults.SuperFault.TheVariants.{Magic, Version, Sum, Level, Range, Role}
use Rattle.md_superblock.specs.Layout.{number_at, checksum_of}
use Rattle.mdc_types.specs.Names.{is_name, device_uuid}
use Rattle.md_superblock.specs.Faults.{is_within, head_fault, array_fault, device_fault, state_fault, range_fault, rest_is_zero, has_role, is_working_at, role_fault, fault_of}
use Rattle.md_superblock.proofs.GuardLaws.{three_pass, four_pass, five_pass, three_none, option_map_none, then_none}

pub record HeadPasses (bytes : List ℕ) : Type 0 where
  pub magic : (number_at bytes 0 4 == 0xa92b4efc) ≡ true
  pub major_version : (number_at bytes 4 4 == 1) ≡ true
  pub checksum : (number_at bytes 216 4 == checksum_of bytes) ≡ true
  pub level : (number_at bytes 72 4 == 1) ≡ true

pub record ArrayPasses (bytes : List ℕ) : Type 0 where
  pub feature_map : (number_at bytes 8 4 == 1) ≡ true
  pub name : is_name (slice_range bytes 32 64) ≡ true
  pub size : is_within 1 131072 (number_at bytes 80 8) ≡ true
  pub raid_disks : is_within 2 8 (number_at bytes 92 4) ≡ true
  pub bitmap_offset : (number_at bytes 96 4 == 8) ≡ true

pub record DevicePasses (bytes : List ℕ) : Type 0 where
  pub data_offset : (number_at bytes 128 8 == 80 || number_at bytes 128 8 == 272) ≡ true
  pub data_size : is_within (number_at bytes 80 8) 131072 (number_at bytes 136 8) ≡ true
  pub superblock_offset : (number_at bytes 144 8 == 8) ≡ true
  pub device_number : nat_lt (number_at bytes 160 4) (number_at bytes 92 4) ≡ true
  pub uuid : pointwise nat_eq (slice_range bytes 168 184) (device_uuid (slice_range bytes 16 32) (number_at bytes 160 4)) ≡ true

pub record StatePasses (bytes : List ℕ) : Type 0 where
  pub events : is_within 1 (2 ^ 63) (number_at bytes 200 8) ≡ true
  pub max_dev : (number_at bytes 220 4 == 8) ≡ true
  pub rest : rest_is_zero bytes ≡ true

pub record RolesPass (bytes : List ℕ) : Type 0 where
  pub each : first_such (λ l. not (has_role bytes l)) 0 8 ≡ None
  pub working : is_some (first_such (is_working_at bytes) 0 8) ≡ true

pub record HasNoFault (bytes : List ℕ) : Type 0 where
  pub head : HeadPasses bytes
  pub array : ArrayPasses bytes
  pub device : DevicePasses bytes
  pub state : StatePasses bytes
  pub roles : RolesPass bytes

head_passes : (bytes : List ℕ) → head_fault bytes ≡ None → HeadPasses bytes
unfolding head_fault
head_passes bytes e =
    let p = four_pass (number_at bytes 0 4 == 0xa92b4efc) (number_at bytes 4 4 == 1) (number_at bytes 216 4 == checksum_of bytes) (number_at bytes 72 4 == 1)
    (Magic (number_at bytes 0 4)) (Version (number_at bytes 4 4)) (Sum (number_at bytes 216 4) (checksum_of bytes)) (Level (number_at bytes 72 4)) e in
    record { magic = p.0; major_version = p.1; checksum = p.2; level = p.3 }

pub array_passes : (bytes : List ℕ) → array_fault bytes ≡ None → ArrayPasses bytes
unfolding array_fault
array_passes bytes e =
    let p = five_pass (number_at bytes 8 4 == 1) (is_name (slice_range bytes 32 64)) (is_within 1 131072 (number_at bytes 80 8)) (is_within 2 8 (number_at bytes 92 4)) (number_at bytes 96 4 == 8)
    field.FeatureMap field.Name field.Size field.RaidDisks field.BitmapOffset e in
    record { feature_map = p.0; name = p.1; size = p.2; raid_disks = p.3; bitmap_offset = p.4 }

device_passes : (bytes : List ℕ) → device_fault bytes ≡ None → DevicePasses bytes
unfolding device_fault
device_passes bytes e =
    let p = five_pass (number_at bytes 128 8 == 80 || number_at bytes 128 8 == 272) (is_within (number_at bytes 80 8) 131072 (number_at bytes 136 8)) (number_at bytes 144 8 == 8) (nat_lt (number_at bytes 160 4) (number_at bytes 92 4)) (pointwise nat_eq (slice_range bytes 168 184) (device_uuid (slice_range bytes 16 32) (number_at bytes 160 4)))
    field.DataOffset field.DataSize field.SuperblockOffset field.DeviceNumber field.DeviceUuid e in
    record { data_offset = p.0; data_size = p.1; superblock_offset = p.2; device_number = p.3; uuid = p.4 }

state_passes : (bytes : List ℕ) → state_fault bytes ≡ None → StatePasses bytes
unfolding state_fault
state_passes bytes e =
    let p = three_pass (is_within 1 (2 ^ 63) (number_at bytes 200 8)) (number_at bytes 220 4 == 8) (rest_is_zero bytes) field.Events field.MaxDev field.Rest e in
    record { events = p.0; max_dev = p.1; rest = p.2 }

-- each test of a sector without a fault passes
pub tests_pass : (bytes : List ℕ) → fault_of bytes ≡ None → HasNoFault bytes
unfolding fault_of
tests_pass bytes e =
    let all = three_none (head_fault bytes) (option_map Range (range_fault bytes)) (option_map Role (role_fault bytes)) e in
    let ranges = three_none (array_fault bytes) (device_fault bytes) (state_fault bytes) (option_map_none Range (range_fault bytes) all.1) in
    let roles = then_none (first_such (λ l. not (has_role bytes l)) 0 8) (is_some (first_such (is_working_at bytes) 0 8)) 8 (option_map_none Role (role_fault bytes) all.2) in
    record {
      head = head_passes bytes all.0;
      array = array_passes bytes ranges.0;
      device = device_passes bytes ranges.1;
      state = state_passes bytes ranges.2;
      roles = record { each = roles.0; working = roles.1 };
    }

head_none : (bytes : List ℕ) → HeadPasses bytes → head_fault bytes ≡ None
unfolding head_fault
head_none bytes p = rw (p.magic, p.major_version, p.checksum, p.level) refl

array_none : (bytes : List ℕ) → ArrayPasses bytes → array_fault bytes ≡ None
unfolding array_fault
array_none bytes p = rw (p.feature_map, p.name, p.size, p.raid_disks, p.bitmap_offset) refl

device_none : (bytes : List ℕ) → DevicePasses bytes → device_fault bytes ≡ None
unfolding device_fault
device_none bytes p = rw (p.data_offset, p.data_size, p.superblock_offset, p.device_number, p.uuid) refl

state_none : (bytes : List ℕ) → StatePasses bytes → state_fault bytes ≡ None
unfolding state_fault
state_none bytes p = rw (p.events, p.max_dev, p.rest) refl

-- where each test passes there is no fault
pub no_fault : (bytes : List ℕ) → HasNoFault bytes → fault_of bytes ≡ None
unfolding fault_of
no_fault bytes p = rw (head_none bytes p.head, array_none bytes p.array, device_none bytes p.device, state_none bytes p.state, p.roles.each, p.roles.working) refl

within_above : (least most n : ℕ) → is_within least most n ≡ true → n ≤ most
within_above least most n e = leb-true n most (and_parts (nat_le least n) (nat_le n most) e).1

pub within_parts : (least most n : ℕ) → is_within least most n ≡ true → (least ≤ n) × (n ≤ most)
within_parts least most n e =
    let parts = and_parts (nat_le least n) (nat_le n most) e in
    (leb-true least n parts.0, leb-true n most parts.1)

pub within_from : (least most n : ℕ) → least ≤ n → n ≤ most → is_within least most n ≡ true
within_from least most n low high = and_from (nat_le least n) (nat_le n most) (le-leb least n low) (le-leb n most high)

pub legs_fit : (bytes : List ℕ) → array_fault bytes ≡ None → number_at bytes 92 4 ≤ 8
legs_fit bytes e = within_above 2 8 (number_at bytes 92 4) (array_passes bytes e).raid_disks

-- what is read fits its type
pub record Fits (bytes : List ℕ) : Type 0 where
  pub legs : number_at bytes 92 4 ≤ 8
  pub sectors : number_at bytes 80 8 ≤ 131072
  pub room : number_at bytes 136 8 ≤ 131072
  pub device : number_at bytes 160 4 < 8

pub fields_fit : (bytes : List ℕ) → fault_of bytes ≡ None → Fits bytes
fields_fit bytes e =
    let p = tests_pass bytes e in
    let legs = within_above 2 8 (number_at bytes 92 4) p.array.raid_disks in
    let below = ltb-true (number_at bytes 160 4) (number_at bytes 92 4) p.device.device_number in
    record {
      legs = legs;
      sectors = within_above 1 131072 (number_at bytes 80 8) p.array.size;
      room = within_above (number_at bytes 80 8) 131072 (number_at bytes 136 8) p.device.data_size;
      device = omega arith;
    }
