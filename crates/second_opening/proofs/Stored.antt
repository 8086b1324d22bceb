-- What the files of upgraded images open with.
use Rattle.std.proofs.Common.{◌≡◌, ℕ, ◌+◌, ◌-◌, ◌*◌, ◌/◌, ◌%◌, ◌^◌, ◌<◌, ◌≤◌, ◌==◌, nat_lt, nat_le, if◌then◌else◌, Bool, true, false, List, [], length, get_or, take, drop, map, refl, ap, sym, ◌∙◌, subst, arith, inl, inr, unwrap_or}
use Rattle.std.specs.List.{range_with_len}
use Rattle.std.proofs.lemmas.Bool.{cases_lt}
use Rattle.std.proofs.lemmas.List.{get_or_past, length-take, length-drop}
use Rattle.std.proofs.lemmas.List.FromFn.{get_or-map-range_with_len, length-map-range_with_len}
use Rattle.mdc_types.specs.Geometry.{Sizes, length_of, data_offset}
use Rattle.mdc_types.specs.Sectors.{zero_sector}
use Rattle.mdc_types.specs.declared.numbers.Sector.{Sector}
use Rattle.md_superblock.specs.Arrays.{super_for, spelled}
use Rattle.md_superblock.proofs.ArrayLaws.{spelled_is_written}
use Rattle.slot_pages.specs.Slot.{spelled_page, byte_of_page, page_has}
use Rattle.leg_shelf.specs.Images.{sector_at, sectors_in, whole_sectors}
use Rattle.leg_shelf.specs.Shelves.{Files}
use Rattle.cluster_model.specs.State.{Legs}
use Rattle.cluster_model.specs.Opening.{Origin, array_of}
use Rattle.cluster_model.specs.Contents.{HasImages}
use Rattle.disk_image.proofs.Sectors.{AreWhole, sectors_read}
use Rattle.image_faults.specs.Legs.{first_page}
use Rattle.image_faults.specs.declared.legs.LegImage.{LegImage}
use Rattle.image_array.specs.Legs.{super_at, sizes_at}
use Rattle.image_second.specs.Second.{WasRead, second_sizes, second_super, second_head, second_sector, second_image, slot_set}
use Rattle.second_opening.specs.Laws.{second_origin, read_at, AreMade, AreStoredNew, OpenAlike}
use Rattle.second_opening.proofs.Alike.{Known, known, second_for, writable, same_at, opens_alike}
use Rattle.second_opening.proofs.Chunk.{chunk_is, page_is}
use Rattle.second_opening.proofs.Names.{name_bytes, uuid_bytes}

-- The sizes of sectors.

either_size : (b : Bool) (u v : Sector) → length u.bytes ≡ 512 → length v.bytes ≡ 512 → length (if b then u else v).bytes ≡ 512
either_size true u v e f = e
either_size false u v e f = f

page_size : (g : Sizes) (uuid : List ℕ) (p : ℕ) (set : ℕ → Bool) → length (spelled_page g uuid p set) ≡ 512
unfolding spelled_page
page_size g uuid p set = length-map-range_with_len (byte_of_page g uuid p set) 0 512

long_enough : (size k : ℕ) → k < whole_sectors size → 512 * k + 512 ≤ size
long_enough size k lt = omega arith

part_size : (bytes : List ℕ) (k : ℕ) → 512 * k + 512 ≤ length bytes → length (take ((512 * k + 512) - 512 * k) (drop (512 * k) bytes)) ≡ 512
part_size bytes k le = omega (arith, le, length-take ((512 * k + 512) - 512 * k) (drop (512 * k) bytes), length-drop (512 * k) bytes)

-- a sector of a file, or past its last
sector_size : (bytes : List ℕ) (k : ℕ) → length (get_or (sectors_in bytes) k zero_sector).bytes ≡ 512
sector_size bytes k =
    let n : ℕ = whole_sectors (length bytes) in
    elim (cases_lt k n) [
      | inl there ↦ ap (λ s. length s.bytes) (get_or-map-range_with_len (sector_at bytes) 0 n k k zero_sector there (omega arith))
          ∙ part_size bytes k (long_enough (length bytes) k there)
      | inr past ↦ ap (λ s. length s.bytes) (get_or_past (sectors_in bytes) k zero_sector (subst (λ m. m ≤ k) (sym (length-map-range_with_len (sector_at bytes) 0 n)) past))
    ]

second_size : (r : WasRead) (bytes : List ℕ) (at : ℕ) → length (spelled (second_super r.superblock)) ≡ 512
    → length (second_sector r (sectors_in bytes) at).bytes ≡ 512
second_size r bytes at super =
    either_size (nat_lt at 272) (second_head r at) (get_or (sectors_in bytes) (at - 272 + data_offset r.sizes) zero_sector)
    (either_size (at == 8) (record { bytes = spelled (second_super r.superblock) })
    (if nat_le 16 at then record { bytes = spelled_page (second_sizes r.sizes) r.superblock.uuid ((at - 16) % 16) (slot_set r ((at - 16) / 16)) } else zero_sector) super
    (either_size (nat_le 16 at) (record { bytes = spelled_page (second_sizes r.sizes) r.superblock.uuid ((at - 16) % 16) (slot_set r ((at - 16) / 16)) }) zero_sector
    (page_size (second_sizes r.sizes) r.superblock.uuid ((at - 16) % 16) (slot_set r ((at - 16) / 16))) refl))
    (sector_size bytes (at - 272 + data_offset r.sizes))

-- the new image of a leg is read as its sectors
image_read : (r : WasRead) (bytes : List ℕ) (n at : ℕ) → length (spelled (second_super r.superblock)) ≡ 512 → n < 2 ^ 32
    → length_of (second_sizes r.sizes) ≡ n → at < n
    → get_or (sectors_in (second_image r (sectors_in bytes))) at zero_sector ≡ second_sector r (sectors_in bytes) at
image_read r bytes n at super few is lt =
    let f : ℕ → Sector = second_sector r (sectors_in bytes) in
    let m : ℕ = length_of (second_sizes r.sizes) in
    let count : length (map f (range_with_len 0 m)) ≡ m = length-map-range_with_len f 0 m in
    let within : at < m = omega (arith, is, lt) in
    let whole : AreWhole (map f (range_with_len 0 m)) = record {
      each = λ k below.
          let there : k < m = subst (λ j. k < j) count below in
          ap (λ s. length s.bytes) (get_or-map-range_with_len f 0 m k k zero_sector there (omega arith)) ∙ second_size r bytes k super;
    } in
    sectors_read (map f (range_with_len 0 m)) at (subst (λ j. at < j) (sym count) within) whole (omega (arith, count, is, few))
    ∙ get_or-map-range_with_len f 0 m at at zero_sector within (omega arith)

-- The legs.

-- the legs that the new images are, as they were made
abbrev ideal : List LegImage → (ℕ → List ℕ) → Legs
ideal images bytes = record { told = λ l. true; content = λ l at. second_sector (read_at images l) (sectors_in (bytes l)) at }

made_of : (o : Origin) (images : List LegImage) (old new : Legs) (files : Files) (to : List ℕ)
    → (m : AreStoredNew o images old files to) → HasImages o old
    → ((l at : ℕ) → l < o.sizes.legs → at < length_of (second_sizes o.sizes) → new.content l at ≡ second_sector (read_at images l) (sectors_in (m.bytes l)) at)
    → AreMade o images old new
made_of o images old new files to m h content = record {
  origin = m.origin;
  first = m.first;
  name = name_bytes o.name m.origin.name m.origin.lengths.0;
  uuid = let p = page_is o images old files to m h in
      uuid_bytes o.sizes o.uuid (first_page (sectors_in (m.bytes 0))) (page_has o.sizes 0 (first_page (sectors_in (m.bytes 0)))) m.origin.lengths.1 p.fit p.is;
  all = m.all;
  legs = m.legs;
  chunk = chunk_is o images old files to m h;
  leg = λ l. sectors_in (m.bytes l);
  size = m.size;
  read = m.read;
  old_content = m.old_content;
  new_content = content;
}

pub files_open_alike : OpenAlike
files_open_alike o images old files to new m hold h =
    let first : AreMade o images old (ideal images m.bytes) = made_of o images old (ideal images m.bytes) files to m h (λ l at lt within. refl) in
    let k : Known o images old (ideal images m.bytes) h.says = known o images old (ideal images m.bytes) first h in
    let content : (l at : ℕ) → l < o.sizes.legs → at < length_of (second_sizes o.sizes) → new.content l at ≡ second_sector (read_at images l) (sectors_in (m.bytes l)) at =
    λ l at lt within.
    let super : length (spelled (second_super (super_at images l))) ≡ 512 =
    ap (λ s. length (spelled s)) (second_for o l (super_at images l) (h.says l) (k.for l lt) (k.said l lt))
    ∙ (spelled_is_written (super_for (array_of (second_origin o)) l (h.says l)) (writable o images old (ideal images m.bytes) h.says k l lt)).sector.size in
    let room : (sizes_at images l).room ≡ o.sizes.room = (same_at o images old (ideal images m.bytes) h.says k l lt).room in
    let most : o.sizes.room ≤ 131072 = m.origin.sizes.room in
    hold l at lt
    ∙ ap (λ found. get_or (sectors_in (unwrap_or found [])) at zero_sector) (m.stored l lt)
    ∙ image_read (read_at images l) (m.bytes l) (272 + o.sizes.room) at super (omega (arith, most)) (ap (λ n. 272 + n) room) within in
    opens_alike o images old new (made_of o images old new files to m h content) h
