-- What upgraded images open with.
use Rattle.std.proofs.Common.{◌≡◌, ℕ, zero, suc, ◌+◌, ◌-◌, ◌*◌, ◌/◌, ◌%◌, ◌^◌, ◌<◌, ◌≤◌, ◌&&◌, ◌==◌, nat_lt, nat_le, if◌then◌else◌, Bool, true, false, List, [], ◌∷◌, length, get_or, replicate, refl, ap, sym, ◌∙◌, subst, arith, inl, inr, Option, Some, None, is_some}
use Rattle.std.specs.Prelude.{is_none, option_and_then}
use Rattle.std.proofs.Math.Path.{fun_ext}
use Rattle.std.proofs.lemmas.Bool.{cases_lt, eqb-true}
use Rattle.std.proofs.lemmas.Bool.Decides.{nat_tests}
use Rattle.std.proofs.lemmas.List.{length-replicate}
use Rattle.std.proofs.lemmas.Slice.Eq.{bytes_eq-Decides}
use Rattle.std.specs.Str.{bytes_eq}
use Rattle.dlm_modes.specs.First.{first_such}
use Rattle.dlm_modes.proofs.FirstLaws.{first_such_some, first_such_has, first_such_same}
use Rattle.leg_failure.proofs.SetLaws.{has_bit-past}
use Rattle.mdc_types.specs.Bits.{has_bit}
use Rattle.mdc_types.specs.Geometry.{Sizes, data_offset, nodes_of, chunks_of, page_of, page_sector, chunk_of}
use Rattle.mdc_types.specs.Sectors.{zero_sector}
use Rattle.mdc_types.specs.Roles.{is_working}
use Rattle.mdc_types.specs.declared.numbers.Sector.{Sector}
use Rattle.md_superblock.specs.Arrays.{Array, Says, super_for, spelled, says_in, says_of, super_in, is_of, version_of, AreBytes, IsWritable}
use Rattle.md_superblock.specs.Faults.{fault_of}
use Rattle.md_superblock.specs.Superblock.{IsSuper, super_of}
use Rattle.md_superblock.specs.declared.superblock.Super.{Super}
use Rattle.md_superblock.proofs.ArrayLaws.{says_again}
use Rattle.slot_pages.specs.Slot.{spelled_page, page_has, chunk_bit}
use Rattle.slot_pages.proofs.Spelled.{has_the_set, spells_the_set, spells_its_bits}
use Rattle.slot_pages.proofs.GrammarLaws.{spelled_is_faultless}
use Rattle.cluster_model.specs.State.{Legs}
use Rattle.cluster_model.specs.Opening.{Origin, IsOrigin, array_of}
use Rattle.cluster_model.specs.Contents.{HasImages, works_at, some_mark, is_marked_slot, values_on, with_new}
use Rattle.cluster_model.specs.Stored.{super_on, bit_on, data_on}
use Rattle.image_faults.specs.declared.legs.LegImage.{LegImage}
use Rattle.image_faults.specs.Legs.{super_bytes}
use Rattle.image_array.specs.Legs.{super_at, sizes_at, slots_at}
use Rattle.image_array.proofs.AgreementLaws.{both}
use Rattle.image_array.proofs.HeadLaws.{SameSizes, sizes_are, chunks_same}
use Rattle.image_second.specs.Second.{WasRead, second_sizes, second_super, second_head, second_sector, slot_set}
use Rattle.second_opening.specs.Laws.{second_origin, read_at, AreMade, UpgradedImagesOpenAlike}

-- Superblocks.

some_if : (b : Bool) (s : Super) (f : Super → Option Says) (says : Says)
    → option_and_then f (if b then Some s else None) ≡ Some says → f s ≡ Some says
some_if true s f says e = e
some_if false s f says e = absurd (cc e)

says_if : (b : Bool) (u says : Says) → (let r : Option Says = (if b then Some u else None) in r) ≡ Some says → (b ≡ true) × (u ≡ says)
says_if true u says e = (refl, cc e)
says_if false u says e = absurd (cc e)

-- a superblock that says this of the array is of it
unpacked : (a : Array) (l : ℕ) (bytes : List ℕ) (says : Says) → says_in a l bytes ≡ Some says
    → (is_of a l (super_of bytes) ≡ true) × (says_of (super_of bytes) ≡ says)
unfolding says_in super_in
unpacked a l bytes says e =
    says_if (is_of a l (super_of bytes)) (says_of (super_of bytes)) says
    (some_if (is_none (fault_of bytes)) (super_of bytes) (λ s. if is_of a l s then Some (says_of s) else None) says e)

pub record IsFor (a : Array) (l : ℕ) (s : Super) : Type 0 where
  pub legs : s.geometry_legs ≡ a.sizes.legs
  pub room : s.room ≡ a.sizes.room
  pub version : s.version ≡ version_of a.sizes.second
  pub name : s.name ≡ a.name
  pub uuid : s.uuid ≡ a.uuid
  pub device : s.device ≡ l

is_for : (a : Array) (l : ℕ) (s : Super) → is_of a l s ≡ true → IsFor a l s
is_for a l s e =
    let five = both ((s.geometry_legs == a.sizes.legs) && (s.room == a.sizes.room) && (s.version == version_of a.sizes.second) && bytes_eq s.name a.name && bytes_eq s.uuid a.uuid) (s.device == l) e in
    let four = both ((s.geometry_legs == a.sizes.legs) && (s.room == a.sizes.room) && (s.version == version_of a.sizes.second) && bytes_eq s.name a.name) (bytes_eq s.uuid a.uuid) five.0 in
    let three = both ((s.geometry_legs == a.sizes.legs) && (s.room == a.sizes.room) && (s.version == version_of a.sizes.second)) (bytes_eq s.name a.name) four.0 in
    let two = both ((s.geometry_legs == a.sizes.legs) && (s.room == a.sizes.room)) (s.version == version_of a.sizes.second) three.0 in
    let one = both (s.geometry_legs == a.sizes.legs) (s.room == a.sizes.room) two.0 in
    record {
      legs = eqb-true s.geometry_legs a.sizes.legs one.0;
      room = eqb-true s.room a.sizes.room one.1;
      version = eqb-true s.version (version_of a.sizes.second) two.1;
      name = (bytes_eq-Decides s.name a.name).0 three.1;
      uuid = (bytes_eq-Decides s.uuid a.uuid).0 four.1;
      device = eqb-true s.device l five.1;
    }

-- the new superblock is that of the new array
pub second_for : (o : Origin) (l : ℕ) (s : Super) (says : Says) → IsFor (array_of o) l s → says_of s ≡ says
    → second_super s ≡ super_for (array_of (second_origin o)) l says
second_for o l s says is said =
    subst (λ t. second_super s ≡ super_for (array_of (second_origin o)) l t) said
    (rw (is.legs, is.room, is.name, is.uuid, is.device) refl)

is_super2 : (s : Super) → IsSuper s → IsSuper (second_super s)
is_super2 s is = record {
  name = is.name;
  size = is.size;
  room = is.room;
  raid_disks = is.raid_disks;
  version = (omega arith, omega arith);
  device = is.device;
  events = is.events;
  spares = is.spares;
  working = is.working;
}

eight_roles : (bytes : List ℕ) → length (super_of bytes).roles.legs ≡ 8
unfolding super_of
eight_roles bytes = refl

pub within : (o : Origin) (images : List LegImage) (old new : Legs) → AreMade o images old new → (l : ℕ) → l < o.sizes.legs → l < length images
within o images old new m l lt = subst (λ n. l < n) (sym m.all) lt

-- what was read of a leg is of the array, and says what its superblock says
is_for_at : (o : Origin) (images : List LegImage) (old new : Legs) → AreMade o images old new → (says : ℕ → Says)
    → ((l : ℕ) → l < o.sizes.legs → super_on (array_of o) old l ≡ Some (says l))
    → (l : ℕ) → l < o.sizes.legs → IsFor (array_of o) l (super_at images l) × (says_of (super_at images l) ≡ says l)
is_for_at o images old new m says supers l lt =
    let bytes : List ℕ = super_bytes (m.leg l) in
    let e : says_in (array_of o) l bytes ≡ Some (says l) = ap (λ s. says_in (array_of o) l s.bytes) (sym (m.old_content l 8 lt)) ∙ supers l lt in
    let u = unpacked (array_of o) l bytes (says l) e in
    subst (λ s. IsFor (array_of o) l s × (says_of s ≡ says l)) (sym (m.read l lt).superblock)
    (is_for (array_of o) l (super_of bytes) u.0, u.1)

-- all that is known of the legs
pub record Known (o : Origin) (images : List LegImage) (old new : Legs) (says : ℕ → Says) : Type 0 where
  pub made : AreMade o images old new
  pub for : (l : ℕ) → l < o.sizes.legs → IsFor (array_of o) l (super_at images l)
  pub said : (l : ℕ) → l < o.sizes.legs → says_of (super_at images l) ≡ says l

pub known : (o : Origin) (images : List LegImage) (old new : Legs) → AreMade o images old new → (h : HasImages o old) → Known o images old new h.says
known o images old new m h = record {
  made = m;
  for = λ l lt. (is_for_at o images old new m h.says h.supers l lt).0;
  said = λ l lt. (is_for_at o images old new m h.says h.supers l lt).1;
}

pub writable : (o : Origin) (images : List LegImage) (old new : Legs) (says : ℕ → Says) → Known o images old new says
    → (l : ℕ) → l < o.sizes.legs → IsWritable (super_for (array_of (second_origin o)) l (says l))
writable o images old new says k l lt =
    let m = k.made in
    let roles : length (says l).roles.legs ≡ 8 =
    ap (λ (s : Says). length s.roles.legs) (sym (k.said l lt)) ∙ ap (λ (s : Super). length s.roles.legs) (m.read l lt).superblock ∙ eight_roles (super_bytes (m.leg l)) in
    record {
      ranges = subst IsSuper (second_for o l (super_at images l) (says l) (k.for l lt) (k.said l lt))
          (is_super2 (super_at images l) (m.legs.each l (within o images old new m l lt)).superblock);
      arrays = record { uuid = m.uuid; name = m.name; roles = roles };
    }

supers : (o : Origin) (images : List LegImage) (old new : Legs) (says : ℕ → Says) → Known o images old new says
    → (l : ℕ) → l < o.sizes.legs → super_on (array_of (second_origin o)) new l ≡ Some (says l)
supers o images old new says k l lt =
    let a : Array = array_of (second_origin o) in
    ap (λ s. says_in a l s.bytes) (k.made.new_content l 8 lt (omega arith))
    ∙ ap (λ s. says_in a l (spelled s)) (second_for o l (super_at images l) (says l) (k.for l lt) (k.said l lt))
    ∙ says_again a l (says l) (writable o images old new says k l lt)

-- Sizes.

version_two : (b : Bool) → (version_of b == 2) ≡ b
version_two true = refl
version_two false = refl

pub same_at : (o : Origin) (images : List LegImage) (old new : Legs) (says : ℕ → Says) → Known o images old new says
    → (l : ℕ) → l < o.sizes.legs → SameSizes (sizes_at images l) o.sizes
same_at o images old new says k l lt =
    let m = k.made in
    let e = sizes_are images l m.legs (within o images old new m l lt) in
    let s = k.for l lt in
    record {
      legs = ap (λ (g : Sizes). g.legs) e ∙ s.legs;
      room = ap (λ (g : Sizes). g.room) e ∙ s.room;
      chunk = ap (λ (g : Sizes). g.chunk) e ∙ m.chunk;
      second = ap (λ (g : Sizes). g.second) e ∙ ap (λ v. v == 2) s.version ∙ version_two o.sizes.second;
    }

with_size : (g h : Sizes) → SameSizes g h → record g { sectors = h.sectors } ≡ h
with_size g h same = λ i. record { legs = same.legs i; sectors = h.sectors; room = same.room i; chunk = same.chunk i; second = same.second i }

any_size : (g : Sizes) (x : ℕ) (uuid : List ℕ) (p : ℕ) (set : ℕ → Bool) → spelled_page g uuid p set ≡ spelled_page (record g { sectors = x }) uuid p set
unfolding spelled_page
any_size g x uuid p set = refl

spelled_like : (g h : Sizes) (uuid : List ℕ) (p : ℕ) (set : ℕ → Bool) → SameSizes g h
    → spelled_page (second_sizes g) uuid p set ≡ spelled_page (second_sizes h) uuid p set
spelled_like g h uuid p set same =
    any_size (second_sizes g) h.sectors uuid p set ∙ ap (λ (k : Sizes). spelled_page (second_sizes k) uuid p set) (with_size g h same)

page_has_like : (g h : Sizes) (p : ℕ) (page : List ℕ) (c : ℕ) → SameSizes g h → page_has g p page c ≡ page_has h p page c
page_has_like g h p page c same = ap (λ n. nat_lt c n && (page_of c == p) && chunk_bit page c) (chunks_same g h same)

page_sector_like : (g h : Sizes) (n p : ℕ) → SameSizes g h → page_sector g n p ≡ page_sector h n p
page_sector_like g h n p same = ap (λ b. 16 + (if b then 16 else 8) * n + p) same.second

-- Pages.

picked : (a b c : Bool) (u v w x : Sector) → a ≡ true → b ≡ false → c ≡ true → (if a then (if b then u else if c then v else w) else x) ≡ v
picked a b c u v w x ea eb ec = rw (ea, eb, ec) refl

place : (n p : ℕ) → n < 16 → p < 16 → (16 + 16 * n + p < 272) × ((16 + 16 * n + p - 16) / 16 ≡ n) × ((16 + 16 * n + p - 16) % 16 ≡ p)
place n p lt below = (omega arith, omega arith, omega arith)

before_data : (at : ℕ) → 16 ≤ at → at < 272 → (nat_lt at 272 ≡ true) × ((at == 8) ≡ false) × (nat_le 16 at ≡ true)
before_data at le lt = (grind (arith, nat_tests), grind (arith, nat_tests), grind (arith, nat_tests))

page_at : (r : WasRead) (leg : List Sector) (n p : ℕ) → n < 16 → p < 16
    → second_sector r leg (16 + 16 * n + p) ≡ record { bytes = spelled_page (second_sizes r.sizes) r.superblock.uuid p (slot_set r n) }
page_at r leg n p lt below =
    let at : ℕ = 16 + 16 * n + p in
    let places = place n p lt below in
    let tests = before_data at (omega arith) places.0 in
    picked (nat_lt at 272) (at == 8) (nat_le 16 at) (record { bytes = spelled (second_super r.superblock) })
    (record { bytes = spelled_page (second_sizes r.sizes) r.superblock.uuid ((at - 16) % 16) (slot_set r ((at - 16) / 16)) }) zero_sector
    (get_or leg (at - 272 + data_offset r.sizes) zero_sector) tests.0 tests.1 tests.2
    ∙ ap (λ k. record { bytes = spelled_page (second_sizes r.sizes) r.superblock.uuid ((at - 16) % 16) (slot_set r k) }) places.1
    ∙ ap (λ q. record { bytes = spelled_page (second_sizes r.sizes) r.superblock.uuid q (slot_set r n) }) places.2

new_page : (o : Origin) (images : List LegImage) (old new : Legs) (says : ℕ → Says) → Known o images old new says
    → (l n p : ℕ) → l < o.sizes.legs → n < 16 → p < 16
    → new.content l (16 + 16 * n + p) ≡ record { bytes = spelled_page (second_sizes o.sizes) o.uuid p (slot_set (read_at images l) n) }
new_page o images old new says k l n p lt node below =
    let r : WasRead = read_at images l in
    k.made.new_content l (16 + 16 * n + p) lt (omega (arith, (place n p node below).0))
    ∙ page_at r (k.made.leg l) n p node below
    ∙ ap (λ u. record { bytes = spelled_page (second_sizes r.sizes) u p (slot_set r n) }) (k.for l lt).uuid
    ∙ ap (λ bs. record { bytes = bs }) (spelled_like r.sizes o.sizes o.uuid p (slot_set r n) (same_at o images old new says k l lt))

-- Sets.

past_end : (xs : List (List Bool)) (n : ℕ) → length xs ≤ n → get_or xs n [] ≡ []
past_end [] n le = refl
past_end (x ∷ xs) zero le = absurd (omega (arith, le))
past_end (x ∷ xs) (suc n) le = past_end xs n (omega arith)

no_flag : (n c : ℕ) → get_or (replicate n false) c false ≡ false
no_flag zero c = refl
no_flag (suc n) zero = refl
no_flag (suc n) (suc c) = no_flag n c

-- the set of a slot, as one flag for each chunk
record IsSet (o : Origin) (set : ℕ → Bool) : Type 0 where
  pub flags : List Bool
  pub long : length flags ≡ chunks_of o.sizes
  pub same : set ≡ (λ c. get_or flags c false)

eight_slots : (o : Origin) (images : List LegImage) (old new : Legs) (says : ℕ → Says) → Known o images old new says
    → (l : ℕ) → l < o.sizes.legs → nodes_of (sizes_at images l) ≡ 8
eight_slots o images old new says k l lt = ap (λ b. if b then 16 else 8) ((same_at o images old new says k l lt).second ∙ k.made.first)

set_of : (o : Origin) (images : List LegImage) (old new : Legs) (says : ℕ → Says) → Known o images old new says
    → (l n : ℕ) → l < o.sizes.legs → IsSet o (slot_set (read_at images l) n)
set_of o images old new says k l n lt =
    let sets = (k.made.legs.each l (within o images old new k.made l lt)).sets in
    let nodes = eight_slots o images old new says k l lt in
    elim (cases_lt n 8) [
      | inl below ↦ record {
        flags = get_or (slots_at images l) n [];
        long = sets.each n (subst (λ m. n < m) (sym nodes) below) ∙ chunks_same (sizes_at images l) o.sizes (same_at o images old new says k l lt);
        same = refl;
      }
      | inr past ↦
          let none : get_or (slots_at images l) n [] ≡ [] = past_end (slots_at images l) n (omega (arith, sets.many, nodes, past)) in
          record {
            flags = replicate (chunks_of o.sizes) false;
            long = length-replicate (chunks_of o.sizes) false;
            same = fun_ext (λ c. ap (λ xs. get_or xs c false) none ∙ sym (no_flag (chunks_of o.sizes) c));
          }
    ]

spells_itself : (o : Origin) (p : ℕ) (set : ℕ → Bool) → AreBytes 16 o.uuid → IsSet o set
    → (let page = spelled_page (second_sizes o.sizes) o.uuid p set in page ≡ spelled_page (second_sizes o.sizes) o.uuid p (page_has (second_sizes o.sizes) p page))
spells_itself o p set uuid is =
    let g : Sizes = second_sizes o.sizes in
    subst (λ f. spelled_page g o.uuid p f ≡ spelled_page g o.uuid p (page_has g p (spelled_page g o.uuid p f))) (sym is.same)
    (let page : List ℕ = spelled_page g o.uuid p (λ c. get_or is.flags c false) in
    let spells = spells_the_set g o.uuid p is.flags (record { bytes = uuid.size; fit = uuid.each }) is.long in
    spells_its_bits g o.uuid p page spells.0 (spelled_is_faultless g o.uuid p is.flags page spells.1))

pages : (o : Origin) (images : List LegImage) (old new : Legs) (says : ℕ → Says) → Known o images old new says
    → (l n p : ℕ) → l < o.sizes.legs → n < 16 → p < 16
    → (let page = (new.content l (16 + 16 * n + p)).bytes in page ≡ spelled_page (second_sizes o.sizes) o.uuid p (page_has (second_sizes o.sizes) p page))
pages o images old new says k l n p lt node below =
    subst (λ s. s.bytes ≡ spelled_page (second_sizes o.sizes) o.uuid p (page_has (second_sizes o.sizes) p s.bytes))
    (sym (new_page o images old new says k l n p lt node below))
    (spells_itself o p (slot_set (read_at images l) n) k.made.uuid (set_of o images old new says k l n lt))

-- Bits.

has_past : (g : Sizes) (p : ℕ) (page : List ℕ) (c : ℕ) → chunks_of g ≤ c → page_has g p page c ≡ false
has_past g p page c le = let e : nat_lt c (chunks_of g) ≡ false = grind (arith, nat_tests) in rw e refl

page_below : (c : ℕ) → c < 30720 → page_of c < 16
page_below c lt = grind (arith, nat_tests)

all_three : (a b c : Bool) → a ≡ true → b ≡ true → (a && b && c) ≡ c
all_three a b c ea eb = rw (ea, eb) refl

own_page : (c : ℕ) → (page_of c == page_of c) ≡ true
own_page c = grind (arith, nat_tests)

few_chunks : (o : Origin) → IsOrigin o → o.sizes.second ≡ false → chunks_of o.sizes ≤ 30720
few_chunks o is first = subst (λ b. chunks_of o.sizes ≤ (if b then 63488 else 30720)) first is.sizes.bits

new_bit : (o : Origin) (images : List LegImage) (old new : Legs) (says : ℕ → Says) → Known o images old new says
    → (l n c : ℕ) → l < o.sizes.legs → n < 16 → c < chunks_of o.sizes
    → bit_on (second_sizes o.sizes) new n c l ≡ slot_set (read_at images l) n c
new_bit o images old new says k l n c lt node below =
    let g : Sizes = second_sizes o.sizes in
    let few : chunks_of o.sizes ≤ 30720 = few_chunks o k.made.origin k.made.first in
    let there : nat_lt c (chunks_of o.sizes) ≡ true = grind (arith, nat_tests) in
    ap (λ s. page_has g (page_of c) s.bytes c) (new_page o images old new says k l n (page_of c) lt node (page_below c (omega arith)))
    ∙ has_the_set g o.uuid (page_of c) (slot_set (read_at images l) n) c
    ∙ all_three (nat_lt c (chunks_of g)) (page_of c == page_of c) (slot_set (read_at images l) n c) there (own_page c)

old_bit : (o : Origin) (images : List LegImage) (old new : Legs) (says : ℕ → Says) → Known o images old new says
    → (l n c : ℕ) → l < o.sizes.legs → n < 8 → bit_on o.sizes old n c l ≡ slot_set (read_at images l) n c
old_bit o images old new says k l n c lt node =
    let same = same_at o images old new says k l lt in
    let p : ℕ = page_of c in
    ap (λ s. page_has o.sizes p s.bytes c) (k.made.old_content l (page_sector o.sizes n p) lt)
    ∙ ap (λ at. page_has o.sizes p (get_or (k.made.leg l) at zero_sector).bytes c) (sym (page_sector_like (sizes_at images l) o.sizes n p same))
    ∙ sym (page_has_like (sizes_at images l) o.sizes p (get_or (k.made.leg l) (page_sector (sizes_at images l) n p) zero_sector).bytes c same)
    ∙ sym ((k.made.read l lt).bits.each n c (subst (λ m. n < m) (sym (eight_slots o images old new says k l lt)) node))

same_bit : (o : Origin) (images : List LegImage) (old new : Legs) (says : ℕ → Says) → Known o images old new says
    → (l n c : ℕ) → l < o.sizes.legs → n < 8 → bit_on (second_sizes o.sizes) new n c l ≡ bit_on o.sizes old n c l
same_bit o images old new says k l n c lt node = elim (cases_lt c (chunks_of o.sizes)) [
  | inl below ↦ new_bit o images old new says k l n c lt (omega arith) below ∙ sym (old_bit o images old new says k l n c lt node)
  | inr past ↦ has_past (second_sizes o.sizes) (page_of c) (new.content l (page_sector (second_sizes o.sizes) n (page_of c))).bytes c past
      ∙ sym (has_past o.sizes (page_of c) (old.content l (page_sector o.sizes n (page_of c))).bytes c past)
]

no_bit : (o : Origin) (images : List LegImage) (old new : Legs) (says : ℕ → Says) → Known o images old new says
    → (l n c : ℕ) → l < o.sizes.legs → 8 ≤ n → n < 16 → c < chunks_of o.sizes → bit_on (second_sizes o.sizes) new n c l ≡ false
no_bit o images old new says k l n c lt le node below =
    let sets = (k.made.legs.each l (within o images old new k.made l lt)).sets in
    let nodes = eight_slots o images old new says k l lt in
    let none : get_or (slots_at images l) n [] ≡ [] = past_end (slots_at images l) n (omega (arith, sets.many, nodes, le)) in
    new_bit o images old new says k l n c lt node below ∙ ap (λ xs. get_or xs c false) none

-- Marks.

idle_past : (o : Origin) → IsOrigin o → (l : ℕ) → o.sizes.legs ≤ l → works_at o l ≡ false
idle_past o is l le = ap is_working (is.legs l le)

both_idle : (a b c : Bool) → a ≡ false → (a && b) ≡ (a && c)
both_idle a b c e = rw e refl

last_off : (b : Bool) → (b && false) ≡ false
last_off true = refl
last_off false = refl

same_mark : (o : Origin) (images : List LegImage) (old new : Legs) (says : ℕ → Says) → Known o images old new says
    → (n c : ℕ) → n < 8 → some_mark (second_origin o) new n c ≡ some_mark o old n c
same_mark o images old new says k n c node = ap is_some (first_such_same
    (λ l. works_at o l && bit_on (second_sizes o.sizes) new n c l) (λ l. works_at o l && bit_on o.sizes old n c l) 0 8
    (λ l le lt. elim (cases_lt l o.sizes.legs) [
      | inl there ↦ ap (λ b. works_at o l && b) (same_bit o images old new says k l n c there node)
      | inr past ↦ both_idle (works_at o l) (bit_on (second_sizes o.sizes) new n c l) (bit_on o.sizes old n c l) (idle_past o k.made.origin l past)
    ]))

none_found : (p : ℕ → Bool) (i n : ℕ) → ((k : ℕ) → i ≤ k → k < i + n → p k ≡ false) → is_some (first_such p i n) ≡ false
unfolding first_such
none_found p i zero fails = refl
none_found p i (suc n) fails =
    let here : p i ≡ false = fails i (omega arith) (omega arith) in
    rw here (none_found p (i + 1) n (λ k le lt. fails k (omega arith) (omega arith)))

no_mark : (o : Origin) (images : List LegImage) (old new : Legs) (says : ℕ → Says) → Known o images old new says
    → (n c : ℕ) → 8 ≤ n → n < 16 → c < chunks_of o.sizes → some_mark (second_origin o) new n c ≡ false
no_mark o images old new says k n c le node below = none_found (λ l. works_at o l && bit_on (second_sizes o.sizes) new n c l) 0 8
    (λ l from lt. elim (cases_lt l o.sizes.legs) [
      | inl there ↦ ap (λ b. works_at o l && b) (no_bit o images old new says k l n c there le node below) ∙ last_off (works_at o l)
      | inr past ↦ ap (λ b. b && bit_on (second_sizes o.sizes) new n c l) (idle_past o k.made.origin l past)
    ])

eight_nodes : (o : Origin) → o.sizes.second ≡ false → nodes_of o.sizes ≡ 8
eight_nodes o first = ap (λ b. if b then 16 else 8) first

pending : (o : Origin) (images : List LegImage) (old new : Legs) (says : ℕ → Says) → Known o images old new says
    → ((n : ℕ) → n < nodes_of o.sizes → has_bit o.pending n ≡ is_marked_slot o old n)
    → (n : ℕ) → n < 16 → has_bit o.pending n ≡ is_marked_slot (second_origin o) new n
pending o images old new says k was n node = elim (cases_lt n 8) [
  | inl below ↦ was n (subst (λ m. n < m) (sym (eight_nodes o k.made.first)) below)
      ∙ ap is_some (first_such_same (some_mark o old n) (some_mark (second_origin o) new n) 0 (chunks_of o.sizes)
      (λ c le lt. sym (same_mark o images old new says k n c below)))
  | inr past ↦ has_bit-past o.pending n (subst (λ m. o.pending < 2 ^ m) (eight_nodes o k.made.first) k.made.origin.pending) past
      ∙ sym (none_found (some_mark (second_origin o) new n) 0 (chunks_of o.sizes) (λ c le lt. no_mark o images old new says k n c past node (omega arith)))
]

-- Data.

past_head : (b : Bool) (u v : Sector) → b ≡ false → (if b then u else v) ≡ v
past_head b u v e = rw e refl

data_is : (o : Origin) (images : List LegImage) (old new : Legs) (says : ℕ → Says) → Known o images old new says
    → (l s : ℕ) → l < o.sizes.legs → s < o.sizes.room → data_on (second_sizes o.sizes) new l s ≡ data_on o.sizes old l s
data_is o images old new says k l s lt inside =
    let r : WasRead = read_at images l in
    let leg = k.made.leg l in
    let off : nat_lt (272 + s) 272 ≡ false = grind (arith, nat_tests) in
    let offset : data_offset r.sizes ≡ data_offset o.sizes = ap (λ b. if b then 272 else 80) (same_at o images old new says k l lt).second in
    let at : 272 + s - 272 + data_offset r.sizes ≡ data_offset o.sizes + s = omega (arith, offset) in
    k.made.new_content l (272 + s) lt (omega (arith, inside))
    ∙ past_head (nat_lt (272 + s) 272) (second_head r (272 + s)) (get_or leg (272 + s - 272 + data_offset r.sizes) zero_sector) off
    ∙ ap (λ n. get_or leg n zero_sector) at
    ∙ sym (k.made.old_content l (data_offset o.sizes + s) lt)

value_step : (b : Bool) (v w : Sector) (vs us : List Sector) → vs ≡ us → (b ≡ true → v ≡ w)
    → (if b then with_new v vs else vs) ≡ (if b then with_new w us else us)
value_step true v w vs us e same = ap (λ x. with_new x vs) (same refl) ∙ ap (with_new w) e
value_step false v w vs us e same = e

works_means : (o : Origin) → IsOrigin o → (l : ℕ) → works_at o l ≡ true → l < o.sizes.legs
works_means o is l works = elim (cases_lt l o.sizes.legs) [
  | inl below ↦ below
  | inr past ↦ let no = idle_past o is l past in absurd (cc (works, no))
]

values : (o : Origin) (images : List LegImage) (old new : Legs) (says : ℕ → Says) → Known o images old new says
    → (s n : ℕ) → s < o.sizes.room → values_on (second_origin o) new s n ≡ values_on o old s n
unfolding values_on
values o images old new says k s zero inside = refl
values o images old new says k s (suc n) inside =
    value_step (works_at o n) (data_on (second_sizes o.sizes) new n s) (data_on o.sizes old n s) (values_on (second_origin o) new s n) (values_on o old s n)
    (values o images old new says k s n inside)
    (λ works. data_is o images old new says k n s (works_means o k.made.origin n works) inside)

passing_in : (p : ℕ → Bool) (n : ℕ) (r : Option ℕ) → first_such p 0 n ≡ r → is_some r ≡ true → (k : ℕ) × (k < n) × (p k ≡ true)
passing_in p n None e some = absurd (cc some)
passing_in p n (Some k) e some = let first = first_such_some p 0 n k e in (k, let m = first.below in omega arith, first.passes)

marked : (o : Origin) (images : List LegImage) (old new : Legs) (says : ℕ → Says) → Known o images old new says
    → (c : ℕ) → is_some (first_such (λ n. some_mark o old n c) 0 (nodes_of o.sizes)) ≡ true
    → is_some (first_such (λ n. some_mark (second_origin o) new n c) 0 16) ≡ true
marked o images old new says k c was =
    let found = passing_in (λ n. some_mark o old n c) (nodes_of o.sizes) (first_such (λ n. some_mark o old n c) 0 (nodes_of o.sizes)) refl was in
    let below : found.0 < 8 = subst (λ m. found.0 < m) (eight_nodes o k.made.first) found.1 in
    first_such_has (λ n. some_mark (second_origin o) new n c) 0 16 found.0 (omega arith) (omega arith)
    (same_mark o images old new says k found.0 c below ∙ found.2)

pub opens_alike : UpgradedImagesOpenAlike
opens_alike o images old new m h =
    let k = known o images old new m h in
    record {
      says = h.says;
      supers = λ l lt. supers o images old new h.says k l lt;
      newest = h.newest;
      is_newest = h.is_newest;
      greatest = h.greatest;
      same = h.same;
      pages = λ l n p lt node below. pages o images old new h.says k l n p lt node below;
      pending = λ n node. pending o images old new h.says k h.pending n node;
      base = λ s lt. h.base s lt ∙ sym (values o images old new h.says k s 8 lt);
      marked = λ s lt more. marked o images old new h.says k (chunk_of o.sizes s) (h.marked s lt more);
    }
