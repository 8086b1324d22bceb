-- A sector without a fault spells what is read of it, and what is spelled has no fault and is read so.
use Rattle.std.proofs.Common.{◌≡◌, inl, inr, ℕ, ◌^◌, ◌<◌, ◌≤◌, ◌==◌, true, false, not, ◌||◌, List, Option, Some, None, refl, sym, ap, ◌∙◌, arith, if◌then◌else◌}
use Rattle.std.specs.Prelude.{is_some, is_none, slice_index, slice_range}
use Rattle.std.specs.Cmp.Lexicographic.{same_text}
use Rattle.std.proofs.lemmas.Cmp.{nat_list_eq_equiv}
use Rattle.std.proofs.lemmas.Bool.{eqb-true, eq-eqb, ltb-true, lt-ltb, or_cases, not-false, cases_Bool}
use Rattle.std.proofs.lemmas.Bool.Decides.{nat_tests}
use Rattle.dlm_modes.specs.First.{first_such}
use Rattle.dlm_modes.proofs.FirstLaws.{first_such_none}
use Rattle.mdc_types.specs.Roles.{role_of, role_code, is_working}
use Rattle.md_superblock.specs.declared.superblock.Super.{Super}
use Rattle.mdc_types.specs.Sectors.{IsSector}
use Rattle.md_superblock.specs.Layout.{number_at, checksum_of, is_named}
use Rattle.mdc_types.specs.Geometry.{data_offset_of}
use Rattle.mdc_types.specs.Names.{is_name, device_uuid}
use Rattle.md_superblock.specs.Superblock.{IsSuper, IsWritten, role_number, roles_of, super_of}
use Rattle.md_superblock.specs.Faults.{is_stray, rest_is_zero, has_role, is_working_at}
use Rattle.md_superblock.proofs.NoFault.{HasNoFault, within_parts, within_from}
use Rattle.md_superblock.proofs.RoleNumbers.{first_such_agree, none_such, IsRole, role_is, role_of-roles_of, is_working-role, is_working-code, has_role-written, roles_written}

none_from_is_none : {A : Type 0} (o : Option A) → is_none o ≡ true → o ≡ None
none_from_is_none None e = refl
none_from_is_none (Some x) e = cc

-- an offset of an image version is that of the version which it tells
offset_told : (offset : ℕ) → (offset == 80 || offset == 272) ≡ true → offset ≡ data_offset_of ((if offset == 272 then 2 else 1) == 2)
offset_told offset e = grind (arith, nat_tests, or_cases (offset == 80) (offset == 272) e)

version_told : (version : ℕ) → 1 ≤ version → version ≤ 2 → (if data_offset_of (version == 2) == 272 then 2 else 1) ≡ version
version_told version low high = grind (arith, nat_tests)

offset_taken : (version : ℕ) → (data_offset_of (version == 2) == 80 || data_offset_of (version == 2) == 272) ≡ true
offset_taken version = grind (arith, nat_tests)

version_in : (offset : ℕ) → (1 ≤ (if offset == 272 then 2 else 1)) × ((if offset == 272 then 2 else 1) ≤ 2)
version_in offset = grind (arith, nat_tests)

role_in : (bytes : List ℕ) (l : ℕ) → HasNoFault bytes → l < 8 → IsRole bytes l
role_in bytes l p lt = role_is bytes l lt p.roles.each

-- what is read of a sector without a fault is in range
pub read_in_range : (bytes : List ℕ) → HasNoFault bytes → IsSuper (super_of bytes)
unfolding super_of
read_in_range bytes p =
    let size = within_parts 1 131072 (number_at bytes 80 8) p.array.size in
    let room = within_parts (number_at bytes 80 8) 131072 (number_at bytes 136 8) p.device.data_size in
    let works : first_such (is_working_at bytes) 0 8 ≡ first_such (λ l. is_working (role_of (roles_of bytes) l)) 0 8
    = first_such_agree (is_working_at bytes) (λ l. is_working (role_of (roles_of bytes) l)) 0 8
    (λ k le lt. sym (is_working-role k (role_number bytes k)) ∙ ap is_working (sym (role_of-roles_of bytes k lt))) in
    record {
      name = p.array.name;
      size = (size.0, room.0);
      room = room.1;
      raid_disks = within_parts 2 8 (number_at bytes 92 4) p.array.raid_disks;
      version = version_in (number_at bytes 128 8);
      device = ltb-true (number_at bytes 160 4) (number_at bytes 92 4) p.device.device_number;
      events = within_parts 1 (2 ^ 63) (number_at bytes 200 8) p.state.events;
      spares = λ l le lt. role_of-roles_of bytes l lt ∙ (role_in bytes l p lt).spare le;
      working = ap is_some (sym works) ∙ p.roles.working;
    }

zero_rest : (bytes : List ℕ) → rest_is_zero bytes ≡ true → (i : ℕ) → i < 512 → is_named i ≡ false → slice_index bytes i ≡ 0
zero_rest bytes e i lt free =
    let fails = first_such_none (is_stray bytes) 0 512 (none_from_is_none (first_such (is_stray bytes) 0 512) e) i (omega arith) (omega arith) in
    let either = or_cases (is_named i) (slice_index bytes i == 0) (not-false (is_named i || slice_index bytes i == 0) fails) in
    elim either [ inl named ↦ cc | inr zero ↦ eqb-true (slice_index bytes i) 0 zero ]

-- a sector without a fault spells what is read of it
pub read_is_spelled : (bytes : List ℕ) → IsSector bytes → HasNoFault bytes → IsWritten (super_of bytes) bytes
unfolding super_of
read_is_spelled bytes sector p = record {
  sector = sector;
  magic = eqb-true (number_at bytes 0 4) 0xa92b4efc p.head.magic;
  major_version = eqb-true (number_at bytes 4 4) 1 p.head.major_version;
  feature_map = eqb-true (number_at bytes 8 4) 1 p.array.feature_map;
  array_uuid = refl;
  name = refl;
  level = eqb-true (number_at bytes 72 4) 1 p.head.level;
  size = refl;
  raid_disks = refl;
  bitmap_offset = eqb-true (number_at bytes 96 4) 8 p.array.bitmap_offset;
  data_offset = offset_told (number_at bytes 128 8) p.device.data_offset;
  data_size = refl;
  superblock_offset = eqb-true (number_at bytes 144 8) 8 p.device.superblock_offset;
  device_number = refl;
  device_uuid = same_text (slice_range bytes 168 184) (device_uuid (slice_range bytes 16 32) (number_at bytes 160 4)) (sym p.device.uuid);
  events = refl;
  checksum = eqb-true (number_at bytes 216 4) (checksum_of bytes) p.head.checksum;
  max_dev = eqb-true (number_at bytes 220 4) 8 p.state.max_dev;
  roles = λ l lt. (role_in bytes l p lt).code ∙ ap (role_code l) (sym (role_of-roles_of bytes l lt));
  devices = refl;
  rest = zero_rest bytes p.state.rest;
}

stray_none : (bytes : List ℕ) → ((i : ℕ) → i < 512 → is_named i ≡ false → slice_index bytes i ≡ 0) → (i : ℕ) → i < 512 → is_stray bytes i ≡ false
stray_none bytes rest i lt = elim (cases_Bool (is_named i)) [
  | inl named ↦ rw named refl
  | inr free ↦ rw (free, rest i lt free) refl
]

-- what is spelled has no fault
pub spelled_passes : (s : Super) (bytes : List ℕ) → IsSuper s → IsWritten s bytes → HasNoFault bytes
spelled_passes s bytes in_range w =
    let size = w.size in
    let legs = w.raid_disks in
    let room = w.data_size in
    let device = w.device_number in
    let works : first_such (is_working_at bytes) 0 8 ≡ first_such (λ l. is_working (role_of s.roles l)) 0 8
    = first_such_agree (is_working_at bytes) (λ l. is_working (role_of s.roles l)) 0 8
    (λ k le lt. ap (λ (code : ℕ). code == k) (w.roles k lt) ∙ is_working-code k (role_of s.roles k) lt) in
    record {
      head = record {
        magic = eq-eqb (number_at bytes 0 4) 0xa92b4efc w.magic;
        major_version = eq-eqb (number_at bytes 4 4) 1 w.major_version;
        checksum = eq-eqb (number_at bytes 216 4) (checksum_of bytes) w.checksum;
        level = eq-eqb (number_at bytes 72 4) 1 w.level;
      };
      array = record {
        feature_map = eq-eqb (number_at bytes 8 4) 1 w.feature_map;
        name = ap is_name w.name ∙ in_range.name;
        size = within_from 1 131072 (number_at bytes 80 8) (omega (arith, in_range.size.0)) (omega (arith, in_range.size.1, in_range.room));
        raid_disks = within_from 2 8 (number_at bytes 92 4) (omega (arith, in_range.raid_disks.0)) (omega (arith, in_range.raid_disks.1));
        bitmap_offset = eq-eqb (number_at bytes 96 4) 8 w.bitmap_offset;
      };
      device = record {
        data_offset = ap (λ (o : ℕ). o == 80 || o == 272) w.data_offset ∙ offset_taken s.version;
        data_size = within_from (number_at bytes 80 8) 131072 (number_at bytes 136 8) (omega (arith, in_range.size.1)) (omega (arith, in_range.room));
        superblock_offset = eq-eqb (number_at bytes 144 8) 8 w.superblock_offset;
        device_number = lt-ltb (number_at bytes 160 4) (number_at bytes 92 4) (omega (arith, in_range.device));
        uuid = rw (w.device_uuid, w.array_uuid, device) (nat_list_eq_equiv.refl (device_uuid s.uuid s.device));
      };
      state = record {
        events = within_from 1 (2 ^ 63) (number_at bytes 200 8) (omega (arith, w.events, in_range.events.0)) (omega (arith, w.events, in_range.events.1));
        max_dev = eq-eqb (number_at bytes 220 4) 8 w.max_dev;
        rest = ap is_none (none_such (is_stray bytes) 0 512 (λ k le lt. stray_none bytes w.rest k lt));
      };
      roles = record {
        each = none_such (λ l. not (has_role bytes l)) 0 8 (λ k le lt. ap not (has_role-written bytes k (role_of s.roles k) lt (w.roles k lt) (λ past. in_range.spares k (omega arith) lt)));
        working = ap is_some works ∙ in_range.working;
      };
    }

-- and it is read so
pub spelled_is_read : (s : Super) (bytes : List ℕ) → IsSuper s → IsWritten s bytes → super_of bytes ≡ s
unfolding super_of
spelled_is_read s bytes in_range w =
    let version : (if number_at bytes 128 8 == 272 then 2 else 1) ≡ s.version = ap (λ (o : ℕ). if o == 272 then 2 else 1) w.data_offset ∙ version_told s.version in_range.version.0 in_range.version.1 in
    let roles : roles_of bytes ≡ s.roles = roles_written bytes s.roles w.devices w.roles in
    rw (w.raid_disks, w.size, w.data_size, version, w.name, w.array_uuid, w.device_number, w.events, roles) refl
