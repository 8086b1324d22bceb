-- What sectors say of an array, and the sector that says it.
use Rattle.std.proofs.Common.{◌≡◌, ◌==◌, ℕ, ◌<◌, true, false, if◌then◌else◌, List, [], ◌∷◌, ◌++◌, inl, inr, length, get_or, Some, None, refl, sym, ap, subst, ◌∙◌, arith, lit<}
use Rattle.std.specs.Prelude.{◌↔◌, is_none, option_and_then}
use Rattle.std.specs.Str.{bytes_eq}
use Rattle.std.proofs.lemmas.Bool.{and_parts, eqb-true, eq-eqb, cases_eq, cases_lt}
use Rattle.std.proofs.lemmas.List.{length-replicate, get_or-replicate, get_or-set_same, get_or-set_other, get_or_past}
use Rattle.std.proofs.lemmas.Slice.Eq.{bytes_eq-Decides}
use Rattle.std.proofs.Math.Nat.{mod-lt}
use Rattle.mdc_types.specs.Geometry.{data_offset_of}
use Rattle.mdc_types.specs.Names.{device_uuid}
use Rattle.mdc_types.specs.Sectors.{IsSector}
use Rattle.mdc_types.specs.Roles.{role_of, role_code}
use Rattle.md_superblock.specs.declared.faults.SuperFault.{SuperFault}
use Rattle.md_superblock.specs.declared.superblock.Super.{Super}
use Rattle.md_superblock.specs.Layout.{with_bytes, checksum_of}
use Rattle.md_superblock.specs.Superblock.{IsSuper, IsWritten, super_of}
use Rattle.md_superblock.specs.Pieces.{Piece, number, with_pieces}
use Rattle.md_superblock.specs.Faults.{fault_of}
use Rattle.md_superblock.specs.Arrays as arrays
use Rattle.md_superblock.specs.Arrays.{Array, Says, version_of, super_for, spelled, super_in, is_of, says_of, says_in, HasArrays, IsWritable, Holds}
use Rattle.md_superblock.proofs.NoFault.{tests_pass, no_fault}
use Rattle.md_superblock.proofs.Spelled.{read_in_range, read_is_spelled, spelled_passes, spelled_is_read}
use Rattle.md_superblock.proofs.Places.{sector-with_bytes, bytes_of-lt}
use Rattle.md_superblock.proofs.PieceLaws.{AllFit}
use Rattle.md_superblock.proofs.Written.{HasSizes, zeros, unsummed, all_fit, before_sum, written, written_spells, role_pieces-eight, sum_writes}

-- Sectors of pieces.

AllBytes : List Piece → Type 0
AllBytes [] = Unit {0}
AllBytes (p ∷ ps) = ((i : ℕ) → get_or p.bytes i 0 < 256) × AllBytes ps

sector-with_pieces : (bytes : List ℕ) (ps : List Piece) → IsSector bytes → AllFit ps → AllBytes ps → IsSector (with_pieces bytes ps)
unfolding AllBytes
sector-with_pieces bytes [] sector fit each = sector
sector-with_pieces bytes (p ∷ ps) sector fit each =
    sector-with_pieces (with_bytes bytes p.at p.bytes) ps (sector-with_bytes bytes p.at p.size p.bytes sector fit.1 fit.0 each.0) fit.2 each.1

zero_sector : IsSector zeros
zero_sector = record {
  size = length-replicate {A = ℕ} 512 0;
  each = λ i. elim (cases_lt i 512) [
    | inl lt ↦ let e = get_or-replicate {A = ℕ} 512 i 0 0 lt in omega (arith, e)
    | inr past ↦ let e = get_or_past zeros i 0 (omega (arith, past, length-replicate {A = ℕ} 512 0)) in omega (arith, e)
  ];
}

device_bytes : (uuid : List ℕ) (l : ℕ) → ((i : ℕ) → get_or uuid i 0 < 256) → length uuid ≡ 16 → l < 256 → (i : ℕ) → get_or (device_uuid uuid l) i 0 < 256
device_bytes uuid l each size lt i = elim (cases_eq i 15) [
  | inl last ↦ let e = get_or-set_same uuid 15 l 0 (omega arith) in rw (last, e) lt
  | inr other ↦ let e = get_or-set_other uuid 15 i l 0 other in rw e (each i)
]

fit_front : (ps qs : List Piece) → AllFit (ps ++ qs) → AllFit ps
fit_front [] qs fit = tt
fit_front (p ∷ ps) qs fit = (fit.0, fit.1, fit_front ps qs fit.2)

all_bytes : (s : Super) → HasArrays s → s.device < 256 → AllBytes (unsummed s)
unfolding AllBytes
all_bytes s is low =
    (bytes_of-lt 4 0xa92b4efc, (bytes_of-lt 4 1, (bytes_of-lt 4 1, (is.uuid.each, (is.name.each, (bytes_of-lt 4 1, (bytes_of-lt 8 s.sectors, (bytes_of-lt 4 s.geometry_legs, (bytes_of-lt 4 8, (bytes_of-lt 8 (data_offset_of (s.version == 2)), (bytes_of-lt 8 s.room, (bytes_of-lt 8 8, (bytes_of-lt 4 s.device, (device_bytes s.uuid s.device is.uuid.each is.uuid.size low, (bytes_of-lt 8 s.events, (bytes_of-lt 4 8, (bytes_of-lt 2 (role_code 0 (role_of s.roles 0)), (bytes_of-lt 2 (role_code 1 (role_of s.roles 1)), (bytes_of-lt 2 (role_code 2 (role_of s.roles 2)), (bytes_of-lt 2 (role_code 3 (role_of s.roles 3)), (bytes_of-lt 2 (role_code 4 (role_of s.roles 4)), (bytes_of-lt 2 (role_code 5 (role_of s.roles 5)), (bytes_of-lt 2 (role_code 6 (role_of s.roles 6)), (bytes_of-lt 2 (role_code 7 (role_of s.roles 7)), tt))))))))))))))))))))))))

sizes : (s : Super) → HasArrays s → HasSizes s
sizes s is = record { uuid = is.uuid.size; name = is.name.size; roles = is.roles }

before_sector : (s : Super) → HasArrays s → s.device < 256 → IsSector (before_sum s)
unfolding before_sum
before_sector s is low = sector-with_pieces zeros (unsummed s) zero_sector (fit_front (unsummed s) (number 216 4 0 ∷ []) (all_fit s 0 (sizes s is))) (all_bytes s is low)

-- What is spelled.

unsummed_is : (s : Super) → arrays.unsummed s ≡ before_sum s
unfolding arrays.unsummed before_sum
unsummed_is s = rw (role_pieces-eight s.roles) refl

pub spelled_is : (s : Super) → spelled s ≡ written s (checksum_of (before_sum s))
unfolding spelled
spelled_is s = rw (unsummed_is s) (sum_writes s (checksum_of (before_sum s)))

pub spelled_is_written : (s : Super) → IsWritable s → IsWritten s (spelled s)
spelled_is_written s is =
    let device = is.ranges.device in
    let legs = is.ranges.raid_disks.1 in
    let low : s.device < 256 = omega arith in
    rw (spelled_is s) (written_spells s (checksum_of (before_sum s)) (sizes s is.arrays) is.ranges (before_sector s is.arrays low) (mod-lt _ (lit< tt)) refl)

-- What is said.

pub says_the_super : (s : Super) (bytes : List ℕ) → IsSector bytes → (super_in bytes ≡ Some s) ↔ (IsSuper s × IsWritten s bytes)
unfolding super_in
says_the_super s bytes sector = (
  λ e. elim (fault_of bytes) as (λ f. fault_of bytes ≡ f → (if is_none f then Some (super_of bytes) else None) ≡ Some s → IsSuper s × IsWritten s bytes) [
    | None ↦ λ none is.
        let same : super_of bytes ≡ s = cc in
        let passes = tests_pass bytes none in
        let Is : Super → Type 0 = λ t. IsSuper t × IsWritten t bytes in
        subst Is same (read_in_range bytes passes, read_is_spelled bytes sector passes)
    | Some fault ↦ λ some is. cc
  ] refl e,
  λ is.
      let none = no_fault bytes (spelled_passes s bytes is.0 is.1) in
      rw (none, spelled_is_read s bytes is.0 is.1) refl,
)

same_super : (a : Array) (l : ℕ) (s : Super) → is_of a l s ≡ true → s ≡ super_for a l (says_of s)
same_super a l s e =
    let five = and_parts _ (s.device == l) e in
    let four = and_parts _ (bytes_eq s.uuid a.uuid) five.0 in
    let three = and_parts _ (bytes_eq s.name a.name) four.0 in
    let two = and_parts _ (s.version == version_of a.sizes.second) three.0 in
    let one = and_parts (s.geometry_legs == a.sizes.legs) (s.room == a.sizes.room) two.0 in
    let legs = eqb-true s.geometry_legs a.sizes.legs one.0 in
    let room = eqb-true s.room a.sizes.room one.1 in
    let version = eqb-true s.version (version_of a.sizes.second) two.1 in
    let name = (bytes_eq-Decides s.name a.name).0 three.1 in
    let uuid = (bytes_eq-Decides s.uuid a.uuid).0 four.1 in
    let device = eqb-true s.device l five.1 in
    λ i. record {
      geometry_legs = legs i;
      sectors = s.sectors;
      room = room i;
      version = version i;
      name = name i;
      uuid = uuid i;
      device = device i;
      events = s.events;
      roles = s.roles;
    }

is_of-own : (a : Array) (l : ℕ) (says : Says) → is_of a l (super_for a l says) ≡ true
is_of-own a l says =
    rw (
      eq-eqb a.sizes.legs a.sizes.legs refl,
      eq-eqb a.sizes.room a.sizes.room refl,
      eq-eqb (version_of a.sizes.second) (version_of a.sizes.second) refl,
      (bytes_eq-Decides a.name a.name).1 refl,
      (bytes_eq-Decides a.uuid a.uuid).1 refl,
      eq-eqb l l refl,
    ) refl

pub says_the_state : (a : Array) (l : ℕ) (says : Says) (bytes : List ℕ) → IsSector bytes
    → (says_in a l bytes ≡ Some says) ↔ (IsSuper (super_for a l says) × IsWritten (super_for a l says) bytes)
unfolding says_in
says_the_state a l says bytes sector = (
  λ e. elim (super_in bytes) as (λ o. super_in bytes ≡ o → option_and_then (λ s. if is_of a l s then Some (says_of s) else None) o ≡ Some says → IsSuper (super_for a l says) × IsWritten (super_for a l says) bytes) [
    | None ↦ λ none is. cc
    | Some s ↦ λ some is. elim (is_of a l s) as (λ t. is_of a l s ≡ t → (if t then Some (says_of s) else None) ≡ Some says → IsSuper (super_for a l says) × IsWritten (super_for a l says) bytes) [
      | true ↦ λ own same.
          let said : says_of s ≡ says = cc in
          let super : s ≡ super_for a l says = same_super a l s own ∙ ap (super_for a l) said in
          let Is : Super → Type 0 = λ t. IsSuper t × IsWritten t bytes in
          subst Is super ((says_the_super s bytes sector).0 some)
      | false ↦ λ other same. cc
    ] refl is
  ] refl e,
  λ is. rw ((says_the_super (super_for a l says) bytes sector).1 is, is_of-own a l says) refl,
)

pub says_again : (a : Array) (l : ℕ) (says : Says) → IsWritable (super_for a l says) → says_in a l (spelled (super_for a l says)) ≡ Some says
says_again a l says is =
    let w = spelled_is_written (super_for a l says) is in
    (says_the_state a l says (spelled (super_for a l says)) w.sector).1 (is.ranges, w)

-- What a reader finds on its way.

pub says_own : (a : Array) (l : ℕ) (bytes : List ℕ) (s : Super) → None ≡ fault_of bytes → s ≡ super_of bytes → true ≡ is_of a l s → Some (says_of s) ≡ says_in a l bytes
unfolding says_in super_in
says_own a l bytes s none is own =
    let own' : is_of a l (super_of bytes) ≡ true = ap (is_of a l) (sym is) ∙ sym own in
    rw (sym none, own', is) refl

pub says_others : (a : Array) (l : ℕ) (bytes : List ℕ) (s : Super) → None ≡ fault_of bytes → s ≡ super_of bytes → false ≡ is_of a l s → None ≡ says_in a l bytes
unfolding says_in super_in
says_others a l bytes s none is other =
    let other' : is_of a l (super_of bytes) ≡ false = ap (is_of a l) (sym is) ∙ sym other in
    rw (sym none, other') refl

pub says_nothing : (a : Array) (l : ℕ) (bytes : List ℕ) (fault : SuperFault) → Some fault ≡ fault_of bytes → None ≡ says_in a l bytes
unfolding says_in super_in
says_nothing a l bytes fault some = rw (sym some) refl

pub held : (a : Array) (l : ℕ) (s : Super) (bytes : List ℕ) → is_of a l s ≡ true → IsSuper s × IsWritten s bytes → Holds a l (says_of s) bytes
held a l s bytes own is = let Is : Super → Type 0 = λ t. IsSuper t × IsWritten t bytes in subst Is (same_super a l s own) is
