-- New images are without a fault, and their opening is sound.
use Rattle.std.proofs.Common.{◌≡◌, ℕ, zero, suc, ◌+◌, ◌-◌, ◌*◌, ◌/◌, ◌%◌, ◌^◌, ◌<◌, ◌≤◌, ◌&&◌, ◌==◌, nat_lt, nat_le, if◌then◌else◌, Bool, true, false, List, [], ◌∷◌, length, get_or, map, refl, ap, sym, ◌∙◌, subst, arith, inl, inr, Some, is_some}
use Rattle.std.specs.Prelude.{unwrap_or}
use Rattle.std.proofs.Math.Path.{fun_ext}
use Rattle.std.proofs.lemmas.Bool.{cases_lt}
use Rattle.std.proofs.lemmas.Bool.Decides.{nat_tests}
use Rattle.std.proofs.lemmas.List.{get_or-replicate}
use Rattle.std.proofs.lemmas.List.FromFn.{get_or-map-range_with_len, length-map-range_with_len}
use Rattle.std.proofs.lemmas.Slice.Eq.{bytes_eq-Decides}
use Rattle.std.specs.List.{range_with_len}
use Rattle.std.specs.Str.{bytes_eq}
use Rattle.dlm_modes.specs.First.{first_such}
use Rattle.leg_failure.proofs.SetLaws.{has_bit-zero}
use Rattle.mdc_types.specs.Bits.{has_bit}
use Rattle.mdc_types.specs.Geometry.{Sizes, length_of, data_offset, nodes_of, slot_pages, chunks_of, page_of, page_sector, most_chunks}
use Rattle.mdc_types.specs.Sectors.{zero_sector}
use Rattle.mdc_types.specs.Roles.{role_of, is_working}
use Rattle.mdc_types.specs.declared.numbers.Sector.{Sector}
use Rattle.mdc_types.specs.declared.roles.Role.TheVariants.{Working, Faulty}
use Rattle.md_superblock.specs.Arrays.{Array, super_for, spelled, says_in, IsWritable}
use Rattle.md_superblock.proofs.ArrayLaws.{says_again, spelled_is_written}
use Rattle.slot_pages.specs.Slot.{spelled_page, page_has, byte_of_page}
use Rattle.slot_pages.proofs.Spelled.{has_the_set}
use Rattle.leg_shelf.specs.Shelves.{Files}
use Rattle.leg_shelf.specs.Images.{sectors_in}
use Rattle.cluster_model.specs.State.{Legs}
use Rattle.cluster_model.specs.Opening.{says_of, opening_set}
use Rattle.cluster_model.specs.Contents.{HasImages, IsImages, header_sector, slot_sector, works_at, some_mark, is_marked_slot, values_on, with_new}
use Rattle.cluster_model.specs.Stored.{super_on, bit_on, data_on}
use Rattle.disk_image.specs.Files.{leg_name, legs_in}
use Rattle.disk_image.specs.Created.{created_at, image_of}
use Rattle.disk_image.specs.Laws.{IsArray, HaveNewImages, NewImagesAreSound}
use Rattle.disk_image.proofs.Sectors.{AreWhole, sectors_read}
use Rattle.disk_image.proofs.Placed.{placed, placed_is, placed_at}
use Rattle.disk_image.proofs.Origins.{created_origin, is_super, role_below, role_at_created}

-- What the files hold, sector by sector.

page_size : (g : Sizes) (uuid : List ℕ) (p : ℕ) (set : ℕ → Bool) → length (spelled_page g uuid p set) ≡ 512
unfolding spelled_page
page_size g uuid p set = length-map-range_with_len (byte_of_page g uuid p set) 0 512

writable : (a : Array) (l : ℕ) → IsArray a → l < a.sizes.legs → IsWritable (super_for a l (says_of (created_at a)))
writable a l is lt = record {
  ranges = is_super (created_at a) l (created_origin a is.sizes is.name is.bytes.size is.uuid.size) lt;
  arrays = record { uuid = is.uuid; name = is.bytes; roles = refl };
}

either_size : (b : Bool) (u v : Sector) → length u.bytes ≡ 512 → length v.bytes ≡ 512 → length (if b then u else v).bytes ≡ 512
either_size true u v e f = e
either_size false u v e f = f

sector_size : (a : Array) (l at : ℕ) → IsArray a → l < a.sizes.legs → length (header_sector (created_at a) l at).bytes ≡ 512
sector_size a l at is lt =
    let o = created_at a in
    either_size (at == 8) (record { bytes = spelled (super_for a l (says_of o)) }) (if nat_le 16 at && nat_lt at (data_offset o.sizes) then slot_sector o at else zero_sector)
    (spelled_is_written (super_for a l (says_of o)) (writable a l is lt)).sector.size
    (either_size (nat_le 16 at && nat_lt at (data_offset o.sizes)) (slot_sector o at) zero_sector
    (page_size o.sizes o.uuid ((at - 16) % slot_pages o.sizes) (opening_set o ((at - 16) / slot_pages o.sizes))) refl)

whole : (a : Array) (l : ℕ) → IsArray a → l < a.sizes.legs
    → AreWhole (map (header_sector (created_at a) l) (range_with_len 0 (length_of a.sizes)))
whole a l is lt =
    let f : ℕ → Sector = header_sector (created_at a) l in
    let n : ℕ = length_of a.sizes in
    record {
      each = λ k below.
          let within : k < n = subst (λ m. k < m) (length-map-range_with_len f 0 n) below in
          ap (λ s. length s.bytes) (get_or-map-range_with_len f 0 n k k zero_sector within (omega arith)) ∙ sector_size a l k is lt;
    }

offset_most : (second : Bool) (room : ℕ) → room ≤ 131072 → (if second then 272 else 80) + room < 2 ^ 32
offset_most true room le = omega arith
offset_most false room le = omega arith

image_read : (a : Array) (l at : ℕ) → IsArray a → l < a.sizes.legs → at < length_of a.sizes
    → get_or (sectors_in (image_of (created_at a) l)) at zero_sector ≡ header_sector (created_at a) l at
image_read a l at is lt within =
    let f : ℕ → Sector = header_sector (created_at a) l in
    let n : ℕ = length_of a.sizes in
    let count : length (map f (range_with_len 0 n)) ≡ n = length-map-range_with_len f 0 n in
    sectors_read (map f (range_with_len 0 n)) at (subst (λ m. at < m) (sym count) within) (whole a l is lt)
    (subst (λ m. m < 2 ^ 32) (sym count) (offset_most a.sizes.second a.sizes.room is.sizes.room))
    ∙ get_or-map-range_with_len f 0 n at at zero_sector within (omega arith)

files_are : (files placed : Files) → Some files ≡ Some placed → files ≡ placed
files_are files placed e = cc

-- all that the law needs of the legs
pub record AreNew (a : Array) (legs : Legs) : Type 0 where
  pub told : (l : ℕ) → legs.told l ≡ true
  pub each : (l at : ℕ) → l < a.sizes.legs → at < length_of a.sizes → legs.content l at ≡ header_sector (created_at a) l at

are_new : (a : Array) (name : List ℕ) (files : Files) → IsArray a → HaveNewImages a name files → AreNew a (legs_in files name)
are_new a name files is have =
    let o = created_at a in
    let same : files ≡ placed have.0 name o a.sizes.legs = files_are files (placed have.0 name o a.sizes.legs) (have.1 ∙ placed_is have.0 name o a.sizes.legs) in
    record {
      told = λ l. refl;
      each = λ l at lt within.
          ap (λ found. get_or (sectors_in (unwrap_or found [])) at zero_sector)
          (ap (λ f. f (leg_name name l)) same ∙ placed_at have.0 name o a.sizes.legs l lt)
          ∙ image_read a l at is lt within;
    }

-- The superblocks, the pages and the data.

eight_at : (a : Array) → 8 < length_of a.sizes
eight_at a = inner a.sizes.second where
  inner : (second : Bool) → 8 < (if second then 272 else 80) + a.sizes.room
  inner true = omega arith
  inner false = omega arith

supers : (a : Array) (legs : Legs) (l : ℕ) → IsArray a → AreNew a legs → l < a.sizes.legs
    → super_on a legs l ≡ Some (says_of (created_at a))
supers a legs l is new lt =
    ap (λ s. says_in a l s.bytes) (new.each l 8 lt (eight_at a))
    ∙ says_again a l (says_of (created_at a)) (writable a l is lt)

last_off : (b : Bool) → (b && false) ≡ false
last_off true = refl
last_off false = refl

off : (x y z w : Bool) → y ≡ false → ((x && y) && z && w) ≡ false
off x y z w is = grind (arith, is)

-- no slot has a chunk
no_chunks : (a : Array) (n : ℕ) → opening_set (created_at a) n ≡ (λ c. false)
no_chunks a n = fun_ext (λ c. off (nat_lt n (nodes_of a.sizes)) (has_bit 0 n) false (nat_lt c (chunks_of a.sizes)) (has_bit-zero n))

second_of : (b c : Bool) (u v w : Sector) → b ≡ false → c ≡ true → (if b then u else if c then v else w) ≡ v
second_of b c u v w e f = rw (e, f) refl

third_of : (b c : Bool) (u v w : Sector) → b ≡ false → c ≡ false → (if b then u else if c then v else w) ≡ w
third_of b c u v w e f = rw (e, f) refl

not_eight : (at : ℕ) → 16 ≤ at → (at == 8) ≡ false
not_eight at le = grind (arith, nat_tests)

in_slots : (at end : ℕ) → 16 ≤ at → at < end → (nat_le 16 at && nat_lt at end) ≡ true
in_slots at end le lt = grind (arith, nat_tests)

past_slots : (at end : ℕ) → end ≤ at → (nat_le 16 at && nat_lt at end) ≡ false
past_slots at end le = grind (arith, nat_tests)

page_in : (second : Bool) (n p : ℕ) → n < (if second then 16 else 8) → p < (if second then 16 else 8)
    → (16 + (if second then 16 else 8) * n + p < (if second then 272 else 80))
    × ((16 + (if second then 16 else 8) * n + p - 16) % (if second then 16 else 8) ≡ p)
page_in true n p lt below = (omega arith, omega arith)
page_in false n p lt below = (omega arith, omega arith)

-- what stands at a page
page_here : (a : Array) (l n p : ℕ) → n < nodes_of a.sizes → p < slot_pages a.sizes
    → header_sector (created_at a) l (page_sector a.sizes n p) ≡ record { bytes = spelled_page a.sizes a.uuid p (λ c. false) }
page_here a l n p lt below =
    let o = created_at a in
    let at : ℕ = page_sector a.sizes n p in
    let places = page_in a.sizes.second n p lt below in
    second_of (at == 8) (nat_le 16 at && nat_lt at (data_offset o.sizes)) (record { bytes = spelled (super_for a l (says_of o)) }) (slot_sector o at) zero_sector
    (not_eight at (omega arith)) (in_slots at (data_offset o.sizes) (omega arith) places.0)
    ∙ ap (λ set. record { bytes = spelled_page a.sizes a.uuid ((at - 16) % slot_pages a.sizes) set }) (no_chunks a ((at - 16) / slot_pages a.sizes))
    ∙ ap (λ q. record { bytes = spelled_page a.sizes a.uuid q (λ c. false) }) places.1

nothing_there : (g : Sizes) (uuid : List ℕ) (p c : ℕ) → page_has g p (spelled_page g uuid p (λ c. false)) c ≡ false
nothing_there g uuid p c = has_the_set g uuid p (λ c. false) c ∙ last_off (nat_lt c (chunks_of g) && (page_of c == p))

spells_itself : (g : Sizes) (uuid : List ℕ) (p : ℕ)
    → spelled_page g uuid p (λ c. false) ≡ spelled_page g uuid p (page_has g p (spelled_page g uuid p (λ c. false)))
spells_itself g uuid p = ap (spelled_page g uuid p) (sym (fun_ext (nothing_there g uuid p)))

offset_in : (second : Bool) (room at : ℕ) → at < (if second then 272 else 80) → at < (if second then 272 else 80) + room
offset_in second room at lt = omega arith

page_read : (a : Array) (legs : Legs) (l n p : ℕ) → AreNew a legs → l < a.sizes.legs → n < nodes_of a.sizes → p < slot_pages a.sizes
    → legs.content l (page_sector a.sizes n p) ≡ record { bytes = spelled_page a.sizes a.uuid p (λ c. false) }
page_read a legs l n p new lt node below =
    new.each l (page_sector a.sizes n p) lt (offset_in a.sizes.second a.sizes.room _ (page_in a.sizes.second n p node below).0)
    ∙ page_here a l n p node below

pages : (a : Array) (legs : Legs) (l n p : ℕ) → AreNew a legs → l < a.sizes.legs → n < nodes_of a.sizes → p < slot_pages a.sizes
    → let page = (legs.content l (page_sector a.sizes n p)).bytes in page ≡ spelled_page a.sizes a.uuid p (page_has a.sizes p page)
pages a legs l n p new lt node below =
    subst (λ s. s.bytes ≡ spelled_page a.sizes a.uuid p (page_has a.sizes p s.bytes)) (sym (page_read a legs l n p new lt node below))
    (spells_itself a.sizes a.uuid p)

page_below : (second : Bool) (c : ℕ) → c < (if second then 63488 else 30720) → (if nat_lt c 2048 then 0 else 1 + (c - 2048) / 4096) < (if second then 16 else 8)
page_below true c lt = grind (arith, nat_tests)
page_below false c lt = grind (arith, nat_tests)

no_bit : (a : Array) (legs : Legs) (k c l : ℕ) → IsArray a → AreNew a legs → l < a.sizes.legs → k < nodes_of a.sizes → c < chunks_of a.sizes
    → bit_on a.sizes legs k c l ≡ false
no_bit a legs k c l is new lt node below =
    let small : c < most_chunks a.sizes = let m = is.sizes.bits in omega (arith, m) in
    ap (λ s. page_has a.sizes (page_of c) s.bytes c) (page_read a legs l k (page_of c) new lt node (page_below a.sizes.second c small))
    ∙ nothing_there a.sizes a.uuid (page_of c) c

none_found : (p : ℕ → Bool) (i n : ℕ) → ((k : ℕ) → i ≤ k → k < i + n → p k ≡ false) → is_some (first_such p i n) ≡ false
unfolding first_such
none_found p i zero fails = refl
none_found p i (suc n) fails =
    let here : p i ≡ false = fails i (omega arith) (omega arith) in
    rw here (none_found p (i + 1) n (λ k le lt. fails k (omega arith) (omega arith)))

works_below : (a : Array) (l : ℕ) → IsArray a → l < a.sizes.legs → works_at (created_at a) l ≡ true
works_below a l is lt = ap is_working (role_at_created a l ∙ role_below a.sizes.legs l lt is.sizes.legs.1)

works_not_past : (a : Array) (l : ℕ) → IsArray a → a.sizes.legs ≤ l → works_at (created_at a) l ≡ false
works_not_past a l is le = ap is_working ((created_origin a is.sizes is.name is.bytes.size is.uuid.size).legs l le)

no_mark : (a : Array) (legs : Legs) (k c : ℕ) → IsArray a → AreNew a legs → k < nodes_of a.sizes → c < chunks_of a.sizes
    → some_mark (created_at a) legs k c ≡ false
no_mark a legs k c is new node below = none_found (λ l. works_at (created_at a) l && bit_on a.sizes legs k c l) 0 8 (λ l le lt. elim (cases_lt l a.sizes.legs) [
  | inl there ↦ ap (λ b. works_at (created_at a) l && b) (no_bit a legs k c l is new there node below) ∙ last_off (works_at (created_at a) l)
  | inr past ↦ ap (λ b. b && bit_on a.sizes legs k c l) (works_not_past a l is past)
])

pending : (a : Array) (legs : Legs) (k : ℕ) → IsArray a → AreNew a legs → k < nodes_of a.sizes
    → has_bit 0 k ≡ is_marked_slot (created_at a) legs k
pending a legs k is new node = has_bit-zero k
    ∙ sym (none_found (some_mark (created_at a) legs k) 0 (chunks_of a.sizes) (λ c le lt. no_mark a legs k c is new node (omega arith)))

data_in : (second : Bool) (room s : ℕ) → s < room → ((if second then 272 else 80) + s < (if second then 272 else 80) + room) × (16 ≤ (if second then 272 else 80) + s)
data_in true room s lt = (omega arith, omega arith)
data_in false room s lt = (omega arith, omega arith)

data_read : (a : Array) (legs : Legs) (l s : ℕ) → AreNew a legs → l < a.sizes.legs → s < a.sizes.room → data_on a.sizes legs l s ≡ zero_sector
data_read a legs l s new lt within =
    let o = created_at a in
    let at : ℕ = data_offset a.sizes + s in
    let places = data_in a.sizes.second a.sizes.room s within in
    new.each l at lt places.0
    ∙ third_of (at == 8) (nat_le 16 at && nat_lt at (data_offset o.sizes)) (record { bytes = spelled (super_for a l (says_of o)) }) (slot_sector o at) zero_sector
    (not_eight at places.1) (past_slots at (data_offset o.sizes) (omega arith))

with_same : (z : Sector) → with_new z (z ∷ []) ≡ z ∷ []
with_same z = let e : bytes_eq z.bytes z.bytes ≡ true = (bytes_eq-Decides z.bytes z.bytes).1 refl in rw e refl

value_step : (z : Sector) (b : Bool) (v : Sector) (vs : List Sector) → vs ≡ z ∷ [] → (b ≡ true → v ≡ z)
    → (if b then with_new v vs else vs) ≡ z ∷ []
value_step z true v vs e same = let f : v ≡ z = same refl in rw (e, f) (with_same z)
value_step z false v vs e same = e

works_means : (a : Array) (l : ℕ) → IsArray a → works_at (created_at a) l ≡ true → l < a.sizes.legs
works_means a l is works = elim (cases_lt l a.sizes.legs) [
  | inl below ↦ below
  | inr past ↦ let no = works_not_past a l is past in absurd (cc (works, no))
]

values : (a : Array) (legs : Legs) (s n : ℕ) → IsArray a → AreNew a legs → s < a.sizes.room
    → values_on (created_at a) legs s (suc n) ≡ zero_sector ∷ []
unfolding values_on
values a legs s zero is new within =
    let first : 0 < a.sizes.legs = let m = is.sizes.legs.0 in omega (arith, m) in
    let works = works_below a 0 is first in
    rw works (ap (λ v. v ∷ []) (data_read a legs 0 s new first within))
values a legs s (suc n) is new within =
    value_step zero_sector (works_at (created_at a) (suc n)) (data_on a.sizes legs (suc n) s) (values_on (created_at a) legs s (suc n))
    (values a legs s n is new within)
    (λ works. data_read a legs (suc n) s new (works_means a (suc n) is works) within)

base_at : (a : Array) (s : ℕ) → s < a.sizes.room → get_or (created_at a).base s [] ≡ zero_sector ∷ []
base_at a s lt = get_or-replicate a.sizes.room s (zero_sector ∷ []) [] lt

one_value : (a : Array) (s : ℕ) → s < a.sizes.room → 1 < length (get_or (created_at a).base s []) → ⊥
one_value a s lt more = let e : length (get_or (created_at a).base s []) ≡ 1 = ap length (base_at a s lt) in omega (arith, e, more)

has_images : (a : Array) (legs : Legs) → IsArray a → AreNew a legs → HasImages (created_at a) legs
has_images a legs is new = record {
  says = λ l. says_of (created_at a);
  supers = λ l lt. supers a legs l is new lt;
  newest = 0;
  is_newest = (let m = is.sizes.legs.0 in omega (arith, m), refl);
  greatest = λ l lt. omega arith;
  same = λ l k lt below e. refl;
  pages = λ l n p lt node below. pages a legs l n p new lt node below;
  pending = λ k node. pending a legs k is new node;
  base = λ s lt. base_at a s lt ∙ sym (values a legs s 7 is new lt);
  marked = λ s lt more. absurd (one_value a s lt more);
}

no_faulty : (a : Array) (l : ℕ) → IsArray a → l < a.sizes.legs → role_of (created_at a).roles l ≡ Faulty → ⊥
no_faulty a l is lt faulty = let works : role_of (created_at a).roles l ≡ Working = role_at_created a l ∙ role_below a.sizes.legs l lt is.sizes.legs.1 in cc (works, faulty)

pub new_images : NewImagesAreSound
new_images a name files is have =
    let new = are_new a name files is have in
    let legs = legs_in files name in
    let origin = created_origin a is.sizes is.name is.bytes.size is.uuid.size in
    let has = has_images a legs is new in
    let images : IsImages (created_at a) legs = record { nobody = (refl, refl); contents = λ told. has } in (
      origin,
      images,
      has,
      record {
        opens = record { origin = origin; core = refl; contents = inr images };
        told = λ l lt. refl;
        base = λ s lt more. absurd (one_value a s lt more);
        faulty = λ l s lt faulty within. absurd (no_faulty a l is lt faulty);
      },
    )
