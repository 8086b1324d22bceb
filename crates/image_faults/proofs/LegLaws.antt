-- A leg's slots, one after another, and its faults.
use Rattle.std.specs.Prelude.{Bool, true, Result, if◌then◌else◌, unwrap_or, nat_lt, ◌||◌, not}
use Rattle.std.proofs.Common.{◌≡◌, ℕ, ◌==◌, ◌+◌, ◌-◌, ◌/◌, ◌<◌, ◌≤◌, ◌&&◌, false, List, [], ◌∷◌, ◌++◌, length, get_or, replicate, Option, Some, None, Ok, Err, refl, ap, sym, ◌∙◌, arith, inl, inr, subst}
use Rattle.std.specs.Option.{option_map}
use Rattle.std.proofs.lemmas.Bool.{cases_lt}
use Rattle.std.proofs.lemmas.Bool.Decides.{nat_tests}
use Rattle.std.proofs.lemmas.List.{get_or-replicate, get_or_past, length-replicate, get_or_append_left, get_or_push, length_push}
use Rattle.dlm_modes.specs.First.{first_such}
use Rattle.dlm_modes.proofs.FirstLaws.{first_such_more, first_such_found, first_such_end}
use Rattle.dlm_modes.specs.Guards.{first_of}
use Rattle.std.proofs.Common.{Vec, Global}
use Rattle.std.proofs.lemmas.Option.{get_or_from_slice_get}
use Rattle.leg_store.specs.Leg.{Gives}
use Rattle.mdc_types.specs.Sectors.{zero_sector}
use Rattle.slot_pages.specs.Slot.{chunk_bit}
use Rattle.mdc_types.specs.declared.geometry.GeomError.{GeomError}
use Rattle.mdc_types.specs.declared.geometry.GeomError.TheVariants.{Legs, Sectors, Room, Chunk, Bits}
use Rattle.mdc_types.specs.declared.chunks.ChunkSet.{ChunkSet}
use Rattle.md_superblock.specs.Faults.{fault_of}
use Rattle.md_superblock.specs.Layout.{number_at}
use Rattle.md_superblock.specs.Superblock.{IsSuper}
use Rattle.md_superblock.specs.Superblock.{super_of}
use Rattle.md_superblock.specs.declared.superblock.Super.{Super}
use Rattle.mdc_types.specs.Geometry.{Sizes, nodes_of, chunks_of, page_of, slot_pages, checked, most_chunks, chunk_size_test}
use Rattle.mdc_types.specs.declared.numbers.Sector.{Sector}
use Rattle.image_faults.specs.Slots.{slot_is_wrong, slot_bit, page_bytes, ArePages, JudgesSlot, AddsSlot}
use Rattle.image_faults.specs.Legs.{FitsSuper, HaveSets, ReadsSlot, ReadsSlots, ReadsLeg, first_wrong_slot, slots_fault, leg_fault, super_bytes, first_page, own_chunk}
use Rattle.image_faults.specs.Sizes.{length_fault, sizes_of}
use Rattle.image_faults.specs.declared.faults.ImageFault.{ImageFault}
use Rattle.image_faults.specs.declared.faults.ImageFault.TheVariants.{Slot, Super as FaultOfSuper}
use Rattle.image_faults.specs.declared.legs.LegEnd.{LegEnd}
use Rattle.image_faults.specs.declared.legs.LegEnd.TheVariants.{Fault, Failed, Memory}

-- so far no slot below k was wrong, and these are their bits
pub record SlotsTo (leg : List Sector) (g : Sizes) (uuid : List ℕ) (k : ℕ) (slots : List (List Bool)) : Type 0 where
  pub many : length slots ≡ k
  pub judged : first_wrong_slot g uuid leg ≡ first_such (slot_is_wrong g uuid leg) k (nodes_of g - k)
  pub bits : (j c : ℕ) → j < k → get_or (get_or slots j []) c false ≡ slot_bit g leg j c

abbrev pub ReadsTo : Option (List Sector) → Sizes → List ℕ → ℕ → List (List Bool) → Type 0
ReadsTo None g uuid k slots = length slots ≡ k
ReadsTo (Some leg) g uuid k slots = SlotsTo leg g uuid k slots

pub reads_none : (told : Option (List Sector)) (g : Sizes) (uuid : List ℕ) → ReadsTo told g uuid 0 []
reads_none None g uuid = refl
reads_none (Some leg) g uuid = record {
  many = refl;
  judged = let e : nodes_of g ≡ nodes_of g - 0 = omega arith in ap (first_such (slot_is_wrong g uuid leg) 0) e;
  bits = λ j c lt. absurd (omega (arith, lt));
}

pub reads_more : (told : Option (List Sector)) (g : Sizes) (uuid : List ℕ) (k : ℕ) (slots : List (List Bool)) (set : List Bool)
    → k < nodes_of g → ReadsSlot told g uuid k (Ok set) → ReadsTo told g uuid k slots → ReadsTo told g uuid (k + 1) (slots ++ set ∷ [])
reads_more None g uuid k slots set lt read so_far = length_push slots set ∙ ap (λ n. n + 1) so_far
reads_more (Some leg) g uuid k slots set lt read so_far = record {
  many = length_push slots set ∙ ap (λ n. n + 1) so_far.many;
  judged = so_far.judged ∙ first_such_more (slot_is_wrong g uuid leg) k (nodes_of g) lt read.0;
  bits = λ j c below. elim (cases_lt j k) [
    | inl under ↦ ap (λ s. get_or s c false) (get_or_append_left slots (set ∷ []) [] j (subst (λ n. j < n) (sym so_far.many) under)) ∙ so_far.bits j c under
    | inr past ↦ let last : k ≡ j = omega arith in
        ap (λ s. get_or s c false) (get_or_push slots set [] j (so_far.many ∙ last)) ∙ read.1 c ∙ ap (λ n. slot_bit g leg n c) last
  ];
}

pub reads_wrong : (told : Option (List Sector)) (g : Sizes) (uuid : List ℕ) (k : ℕ) (slots : List (List Bool)) (e : LegEnd)
    → k < nodes_of g → ReadsSlot told g uuid k (Err e) → ReadsTo told g uuid k slots → ReadsSlots told g uuid (Err e)
reads_wrong None g uuid k slots e lt read so_far = tt
reads_wrong (Some leg) g uuid k slots (Fault f) lt read so_far =
    ap (option_map Slot) (so_far.judged ∙ first_such_found (slot_is_wrong g uuid leg) k (nodes_of g) lt read.0) ∙ ap Some (sym read.1)
reads_wrong (Some leg) g uuid k slots Failed lt read so_far = tt
reads_wrong (Some leg) g uuid k slots (Memory e) lt read so_far = tt

pub reads_all : (told : Option (List Sector)) (g : Sizes) (uuid : List ℕ) (k : ℕ) (slots : List (List Bool))
    → nodes_of g ≡ k → ReadsTo told g uuid k slots → ReadsSlots told g uuid (Ok slots)
reads_all None g uuid k slots is so_far = tt
reads_all (Some leg) g uuid k slots is so_far = (
  so_far.judged ∙ first_such_end (slot_is_wrong g uuid leg) k (nodes_of g) (omega (arith, is)),
  record { each = λ j c lt. so_far.bits j c (subst (λ n. j < n) is lt) },
)

pub many_more : (slots new : List (List Bool)) (set : List Bool) (k : ℕ) → new ≡ slots ++ set ∷ [] → length slots ≡ k → length new ≡ k + 1
many_more slots new set k is many = ap length is ∙ length_push slots set ∙ ap (λ n. n + 1) many

pub sets_more : (g : Sizes) (slots new : List (List Bool)) (set : List Bool) (k : ℕ) → new ≡ slots ++ set ∷ [] → length slots ≡ k → length set ≡ chunks_of g
    → ((j : ℕ) → j < k → length (get_or slots j []) ≡ chunks_of g) → (j : ℕ) → j < k + 1 → length (get_or new j []) ≡ chunks_of g
sets_more g slots new set k is many size before j lt = elim (cases_lt j k) [
  | inl under ↦ ap (λ xs. length (get_or xs j [])) is ∙ ap length (get_or_append_left slots (set ∷ []) [] j (subst (λ n. j < n) (sym many) under)) ∙ before j under
  | inr past ↦ let last : k ≡ j = omega arith in
      ap (λ xs. length (get_or xs j [])) is ∙ ap length (get_or_push slots set [] j (many ∙ last)) ∙ size
]

pub pages_more_slots : (told : Option (List Sector)) (g : Sizes) (k : ℕ) → ArePages told g k (slot_pages g)
    → ((j : ℕ) → j < k → ArePages told g j (slot_pages g)) → (j : ℕ) → j < k + 1 → ArePages told g j (slot_pages g)
pages_more_slots told g k here before j lt = elim (cases_lt j k) [
  | inl under ↦ before j under
  | inr past ↦ let last : k ≡ j = omega arith in subst (λ n. ArePages told g n (slot_pages g)) last here
]

-- What is known of a leg once its superblock and its first page were read.

pub record IsKnown (leg : List Sector) (chunk : Option ℕ) (size : ℕ) (s : Super) (n : ℕ) : Type 0 where
  pub sound : fault_of (super_bytes leg) ≡ None
  pub superblock : s ≡ super_of (super_bytes leg)
  pub length : length_fault s size ≡ None
  pub chunk_is : n ≡ own_chunk chunk (first_page leg)

abbrev pub Known : Option (List Sector) → Option ℕ → ℕ → Super → ℕ → Type 0
Known None chunk size s n = Unit {0}
Known (Some leg) chunk size s n = IsKnown leg chunk size s n

pub known : (told : Option (List Sector)) (chunk : Option ℕ) (size : ℕ) (s : Super) (n : ℕ) (block page : Sector)
    → Gives told 8 block → Gives told 16 page → fault_of block.bytes ≡ None → s ≡ super_of block.bytes
    → length_fault s size ≡ None → n ≡ own_chunk chunk page.bytes → Known told chunk size s n
known None chunk size s n block page gives there sound is fits has = tt
known (Some leg) chunk size s n block page gives there sound is fits has =
    let e : get_or leg 8 zero_sector ≡ block = get_or_from_slice_get leg 8 block zero_sector gives in
    let f : get_or leg 16 zero_sector ≡ page = get_or_from_slice_get leg 16 page zero_sector there in
    record {
      sound = ap (λ v. fault_of v.bytes) e ∙ sound;
      superblock = is ∙ ap (λ v. super_of v.bytes) (sym e);
      length = fits;
      chunk_is = has ∙ ap (λ v. own_chunk chunk v.bytes) (sym f);
    }

third : (a b c : Option ImageFault) → a ≡ None → b ≡ None → first_of (a ∷ b ∷ c ∷ []) ≡ c
third a b None e f = rw (e, f) refl
third a b (Some x) e f = rw (e, f) refl

-- the fault is that of the slots
at_slots : (leg : List Sector) (chunk : Option ℕ) (size : ℕ) (s : Super) (n : ℕ) → IsKnown leg chunk size s n
    → leg_fault chunk size leg ≡ slots_fault (sizes_of s n) s.uuid leg
at_slots leg chunk size s n is =
    third (option_map FaultOfSuper (fault_of (super_bytes leg))) (length_fault (super_of (super_bytes leg)) size)
    (slots_fault (sizes_of (super_of (super_bytes leg)) (own_chunk chunk (first_page leg))) (super_of (super_bytes leg)).uuid leg)
    (ap (option_map FaultOfSuper) is.sound)
    (ap (λ t. length_fault t size) (sym is.superblock) ∙ is.length)
    ∙ ap (λ t. slots_fault (sizes_of t (own_chunk chunk (first_page leg))) t.uuid leg) (sym is.superblock)
    ∙ ap (λ k. slots_fault (sizes_of s k) s.uuid leg) (sym is.chunk_is)

pub read_refused : (told : Option (List Sector)) (chunk : Option ℕ) (size : ℕ) (s : Super) (n : ℕ) (x : GeomError)
    → Known told chunk size s n → Err x ≡ sizes_of s n → ReadsLeg told chunk size (Err (Fault (Slot 0)))
read_refused None chunk size s n x is refused = tt
read_refused (Some leg) chunk size s n x is refused = at_slots leg chunk size s n is ∙ ap (λ r. slots_fault r s.uuid leg) (sym refused)

pub read_ended : (told : Option (List Sector)) (chunk : Option ℕ) (size : ℕ) (s : Super) (n : ℕ) (g : Sizes) (e : LegEnd)
    → Known told chunk size s n → Ok g ≡ sizes_of s n → ReadsSlots told g s.uuid (Err e) → ReadsLeg told chunk size (Err e)
read_ended None chunk size s n g e is sizes ended = tt
read_ended (Some leg) chunk size s n g (Fault f) is sizes ended =
    at_slots leg chunk size s n is ∙ ap (λ r. slots_fault r s.uuid leg) (sym sizes) ∙ ended
read_ended (Some leg) chunk size s n g Failed is sizes ended = tt
read_ended (Some leg) chunk size s n g (Memory m) is sizes ended = tt

-- the checksum that stands in the superblock, where the leg tells it
abbrev pub Summed : Option (List Sector) → ℕ → Type 0
Summed None sum = Unit {0}
Summed (Some leg) sum = sum ≡ number_at (super_bytes leg) 216 4

pub summed : (told : Option (List Sector)) (sum : ℕ) (block : Sector) → Gives told 8 block → sum ≡ number_at block.bytes 216 4 → Summed told sum
summed None sum block gives is = tt
summed (Some leg) sum block gives is =
    is ∙ ap (λ v. number_at v.bytes 216 4) (sym (get_or_from_slice_get leg 8 block zero_sector gives))

pub read_done : (told : Option (List Sector)) (chunk : Option ℕ) (size : ℕ) (s : Super) (n sum : ℕ) (g : Sizes) (slots : Vec ChunkSet Global)
    → Known told chunk size s n → Ok g ≡ sizes_of s n → Summed told sum → ReadsSlots told g s.uuid (Ok slots.items)
    → ReadsLeg told chunk size (Ok (record { superblock = s; sum = sum; geometry = g; slots = slots }))
read_done None chunk size s n sum g slots is sizes total done = tt
read_done (Some leg) chunk size s n sum g slots is sizes total done = record {
  sum = total;
  sound = at_slots leg chunk size s n is ∙ ap (λ r. slots_fault r s.uuid leg) (sym sizes) ∙ ap (option_map Slot) done.0;
  superblock = is.superblock;
  sizes = sizes ∙ ap (sizes_of s) is.chunk_is;
  bits = done.1;
}

off : (n : ℕ) (c : ℕ) → get_or (replicate n false) c false ≡ false
off n c = elim (cases_lt c n) [
  | inl below ↦ get_or-replicate n c false false below
  | inr past ↦ get_or_past (replicate n false) c false (omega (arith, length-replicate n false, past))
]

page_within : (second : Bool) (c n : ℕ) → n ≤ (if second then 63488 else 30720) → c < n → page_of c < (if second then 16 else 8)
page_within true c n most lt = elim (cases_lt c 2048) [
  | inl low ↦ grind (arith, nat_tests, low)
  | inr high ↦ let b : 1 + (c - 2048) / 4096 < 16 = omega (arith, most, lt, high) in grind (arith, nat_tests, high, b)
]
page_within false c n most lt = elim (cases_lt c 2048) [
  | inl low ↦ grind (arith, nat_tests, low)
  | inr high ↦ let b : 1 + (c - 2048) / 4096 < 8 = omega (arith, most, lt, high) in grind (arith, nat_tests, high, b)
]

bit_added : (b e : Bool) (c n p s : ℕ) → b ≡ false → (c < n → p < s) → e ≡ (nat_lt c n && e) → (b || (nat_lt p s && e)) ≡ e
bit_added b e c n p s is within of = elim (cases_lt c n) [
  | inl lt ↦ let w = within lt in grind (arith, nat_tests, is, w, lt, of)
  | inr past ↦ grind (arith, nat_tests, is, past, of)
]

in_array : (x y z : Bool) → (x && y && z) ≡ (x && (x && y && z))
in_array x y z = grind arith

-- the chunks that were added to none are those of the slot
pub slot_read : (told : Option (List Sector)) (g : Sizes) (uuid : List ℕ) (k n : ℕ) (set : List Bool) → chunks_of g ≤ most_chunks g
    → JudgesSlot told g uuid k true → AddsSlot told g k (replicate n false) set → ReadsSlot told g uuid k (Ok set)
slot_read None g uuid k n set most judged adds = tt
slot_read (Some leg) g uuid k n set most judged adds = (
  let e : slot_is_wrong g uuid leg k ≡ false = grind (arith, judged) in e,
  λ c. adds.each c
      ∙ bit_added (get_or (replicate n false) c false) (slot_bit g leg k c) c (chunks_of g) (page_of c) (slot_pages g) (off n c)
      (λ lt. page_within g.second c (chunks_of g) most lt)
      (in_array (nat_lt c (chunks_of g)) (page_of c == page_of c) (chunk_bit (page_bytes g leg k (page_of c)) c)),
)

-- what isn't there is None
pub not_there : {X : Type 0} (o : Option X) → ((x : X) → o ≡ Some x → ⊥) → o ≡ None
not_there None absent = refl
not_there (Some x) absent = absurd (absent x refl)

-- Sizes that were checked are what they were.

checked_as : (a b c d e : Bool) (g h : Sizes)
    → Ok g ≡ (if a then Err Legs else if b then Err Sectors else if c then Err Room else if d then Err Chunk else if e then Err Bits else Ok h) → g ≡ h
checked_as true b c d e g h is = absurd (cc is)
checked_as false true c d e g h is = absurd (cc is)
checked_as false false true d e g h is = absurd (cc is)
checked_as false false false true e g h is = absurd (cc is)
checked_as false false false false true g h is = absurd (cc is)
checked_as false false false false false g h is = cc

pub checked_is : (g h : Sizes) → Ok g ≡ checked h → g ≡ h
checked_is g h is =
    checked_as (nat_lt h.legs 2 || nat_lt 8 h.legs) (nat_lt h.sectors 1 || nat_lt 131072 h.sectors) (nat_lt h.room h.sectors || nat_lt 131072 h.room)
    (not (chunk_size_test h.chunk)) (nat_lt (most_chunks h) (chunks_of h)) g h is

given_is : (chunk : Option ℕ) (n k : ℕ) (page : List ℕ) → n ≡ own_chunk chunk page → k ≡ n → unwrap_or chunk k ≡ k
given_is None n k page has is = refl
given_is (Some c) n k page has is = sym (is ∙ has)

pub fits_super : (chunk : Option ℕ) (size : ℕ) (s : Super) (n sum : ℕ) (g : Sizes) (slots : Vec ChunkSet Global) (page : List ℕ)
    → IsSuper s → length_fault s size ≡ None → Ok g ≡ sizes_of s n → n ≡ own_chunk chunk page → HaveSets g slots.items
    → FitsSuper chunk size (record { superblock = s; sum = sum; geometry = g; slots = slots })
fits_super chunk size s n sum g slots page is long sizes has sets =
    let e : g.chunk ≡ n = ap (λ h. h.chunk) (checked_is g (record { legs = s.geometry_legs; sectors = s.sectors; room = s.room; chunk = n; second = s.version == 2 }) sizes) in
    record {
      superblock = is;
      long = long;
      sizes = sizes ∙ ap (sizes_of s) (sym e);
      given = given_is chunk n g.chunk page has e;
      sets = sets;
    }
