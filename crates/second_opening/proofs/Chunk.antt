-- The chunk that the first page of slot 0 says.
use Rattle.std.proofs.Common.{◌≡◌, ℕ, ◌+◌, ◌*◌, ◌/◌, ◌%◌, ◌^◌, ◌<◌, ◌≤◌, ◌==◌, nat_lt, if◌then◌else◌, Bool, true, List, length, get_or, refl, false, ap, ◌∙◌, subst, arith}
use Rattle.std.proofs.lemmas.Bool.Decides.{nat_tests}
use Rattle.std.proofs.lemmas.List.FromFn.{get_or-map-range_with_len}
use Rattle.byteorder.specs.Endian.{little_bytes, little_from}
use Rattle.mdc_types.specs.Geometry.{Sizes, chunk_size_test, page_sector}
use Rattle.mdc_types.specs.Sectors.{zero_sector}
use Rattle.mdc_types.specs.declared.numbers.Sector.{Sector}
use Rattle.slot_pages.specs.Slot.{spelled_page, byte_of_page, header_byte, page_has, bits_below, is_set, chunk_of_bit}
use Rattle.leg_shelf.specs.Images.{sectors_in}
use Rattle.leg_shelf.specs.Shelves.{Files}
use Rattle.cluster_model.specs.State.{Legs}
use Rattle.cluster_model.specs.Opening.{Origin}
use Rattle.cluster_model.specs.Contents.{HasImages}
use Rattle.image_faults.specs.Legs.{first_page}
use Rattle.image_faults.specs.Sizes.{chunk_in}
use Rattle.image_faults.specs.declared.legs.LegImage.{LegImage}
use Rattle.image_faults.proofs.LegLaws.{checked_is}
use Rattle.image_array.specs.Legs.{super_at, sizes_at}
use Rattle.second_opening.specs.Laws.{AreStoredNew}

number : (x : ℕ) → x < 2 ^ 32 → x % 256 + 256 * (x / 256 % 256 + 256 * (x / 65536 % 256 + 256 * (x / 16777216 % 256 + 256 * 0))) ≡ x
number x lt = omega (arith, lt)

picked : {X : Type 0} (b : Bool) (u v : X) → b ≡ true → (if b then u else v) ≡ u
picked b u v is = rw is refl

byte : (g : Sizes) (uuid : List ℕ) (set : ℕ → Bool) (i : ℕ) → i < 256 → get_or (spelled_page g uuid 0 set) i 0 ≡ header_byte g uuid i
unfolding spelled_page
byte g uuid set i lt =
    get_or-map-range_with_len (byte_of_page g uuid 0 set) 0 512 i i 0 (omega (arith, lt)) (omega arith)
    ∙ picked (nat_lt i 256) (header_byte g uuid i) (bits_below (λ k. is_set g set (chunk_of_bit 0 i k)) 8) (grind (arith, nat_tests))

in_header : (g : Sizes) (uuid : List ℕ) → length uuid ≡ 16
    → (header_byte g uuid 52 ≡ get_or (little_bytes 4 (512 * g.chunk)) 0 0) × (header_byte g uuid 53 ≡ get_or (little_bytes 4 (512 * g.chunk)) 1 0)
    × (header_byte g uuid 54 ≡ get_or (little_bytes 4 (512 * g.chunk)) 2 0) × (header_byte g uuid 55 ≡ get_or (little_bytes 4 (512 * g.chunk)) 3 0)
in_header g uuid is = (rw is refl, rw is refl, rw is refl, rw is refl)

most : (c : ℕ) → chunk_size_test c ≡ true → c ≤ 1024
most c is = grind (arith, nat_tests, is)

-- what is spelled says its chunk
said : (g : Sizes) (uuid : List ℕ) (set : ℕ → Bool) → length uuid ≡ 16 → chunk_size_test g.chunk ≡ true → chunk_in (spelled_page g uuid 0 set) ≡ g.chunk
said g uuid set long is =
    let x : ℕ = 512 * g.chunk in
    let few : g.chunk ≤ 1024 = most g.chunk is in
    let h = in_header g uuid long in
    let a = byte g uuid set 52 (omega arith) ∙ h.0 in
    let b = byte g uuid set 53 (omega arith) ∙ h.1 in
    let c = byte g uuid set 54 (omega arith) ∙ h.2 in
    let d = byte g uuid set 55 (omega arith) ∙ h.3 in
    let e : little_from 52 4 (spelled_page g uuid 0 set) ≡ x = rw (a, b, c, d) (number x (omega (arith, few))) in
    ap (λ n. n / 512) e ∙ omega arith

-- the first page of slot 0 on leg 0
pub record FirstPage (o : Origin) (page : List ℕ) : Type 0 where
  pub fit : (i : ℕ) → get_or page i 0 < 256
  pub is : page ≡ spelled_page o.sizes o.uuid 0 (page_has o.sizes 0 page)

some_legs : (o : Origin) (images : List LegImage) (old : Legs) (files : Files) (to : List ℕ) → AreStoredNew o images old files to → 0 < o.sizes.legs
some_legs o images old files to m = let two = m.origin.sizes.legs.0 in omega (arith, two)

some_nodes : (second : Bool) → 0 < (if second then 16 else 8)
some_nodes true = omega arith
some_nodes false = omega arith

first_place : (g : Sizes) → page_sector g 0 0 ≡ 16
first_place g = omega arith

pub page_is : (o : Origin) (images : List LegImage) (old : Legs) (files : Files) (to : List ℕ) → (m : AreStoredNew o images old files to) → HasImages o old
    → FirstPage o (first_page (sectors_in (m.bytes 0)))
page_is o images old files to m h =
    let some = some_legs o images old files to m in
    let leg : List Sector = sectors_in (m.bytes 0) in
    let same : (old.content 0 (page_sector o.sizes 0 0)).bytes ≡ first_page leg =
    ap (λ n. (old.content 0 n).bytes) (first_place o.sizes) ∙ ap (λ (s : Sector). s.bytes) (m.old_content 0 16 some) in
    let sector = (m.read 0 some).pages 0 (some_nodes (sizes_at images 0).second) 0 (some_nodes (sizes_at images 0).second) in
    record {
      fit = λ i. subst (λ at. get_or (get_or leg at zero_sector).bytes i 0 < 256) (first_place (sizes_at images 0)) (sector.each i);
      is = subst (λ p. p ≡ spelled_page o.sizes o.uuid 0 (page_has o.sizes 0 p)) same (h.pages 0 0 0 some (some_nodes o.sizes.second) (some_nodes o.sizes.second));
    }

-- the chunk that was read of leg 0 is the array's
pub chunk_is : (o : Origin) (images : List LegImage) (old : Legs) (files : Files) (to : List ℕ) → (m : AreStoredNew o images old files to) → HasImages o old
    → (sizes_at images 0).chunk ≡ o.sizes.chunk
chunk_is o images old files to m h =
    let page : List ℕ = first_page (sectors_in (m.bytes 0)) in
    let super = super_at images 0 in
    let sizes = checked_is (sizes_at images 0) (record { legs = super.geometry_legs; sectors = super.sectors; room = super.room; chunk = chunk_in page; second = super.version == 2 }) (m.read 0 (some_legs o images old files to m)).sizes in
    ap (λ (g : Sizes). g.chunk) sizes
    ∙ ap chunk_in (page_is o images old files to m h).is
    ∙ said o.sizes o.uuid (page_has o.sizes 0 page) m.origin.lengths.1 m.origin.sizes.chunk
