-- What the legs hold at an opening: that of a header, or images.
use Rattle.std.specs.Prelude.{zero, suc, ◌≡◌, ◌≢◌, ◌⊎◌, ◌↔◌, ℕ, ◌<◌, ◌≤◌, ◌+◌, ◌-◌, ◌/◌, ◌%◌, ◌==◌}
use Rattle.std.specs.Prelude.{nat_lt, nat_le, Bool, true, false, ◌&&◌, ◌||◌, not, is_some}
use Rattle.std.specs.Prelude.{if◌then◌else◌, get_or, length, List, [], ◌∷◌, ◌++◌, Option, Some}
use Rattle.std.specs.Prelude.{None, suc}
use Rattle.std.specs.Str.{bytes_eq}
use Rattle.dlm_modes.specs.First.{first_such}
use Rattle.mdc_types.specs.Bits.{has_bit}
use Rattle.mdc_types.specs.Geometry.{Sizes, data_offset, length_of, slot_pages, chunks_of}
use Rattle.mdc_types.specs.Geometry.{chunk_of, nodes_of, page_sector}
use Rattle.mdc_types.specs.Roles.{role_of, is_working, is_faulty}
use Rattle.mdc_types.specs.Sectors.{zero_sector}
use Rattle.mdc_types.specs.declared.numbers.Sector.{Sector}
use Rattle.mdc_types.specs.declared.roles.Role.TheVariants.{Working, Faulty}
use Rattle.md_superblock.specs.Arrays.{Says, super_for, spelled}
use Rattle.slot_pages.specs.Slot.{spelled_page, page_has}
use Rattle.plain_history.specs.History.{IsIn}
use Rattle.cluster_model.specs.State.{State, Legs}
use Rattle.cluster_model.specs.Stored.{super_on, bit_on, data_on}
use Rattle.cluster_model.specs.Opening.{Origin, IsOrigin, array_of, says_of, header_at, core_at}
use Rattle.cluster_model.specs.Opening.{opening_set}

-- Headers.

-- the slot and the page of a sector before the data
abbrev pub slot_sector : Origin → ℕ → Sector
slot_sector o at =
    let slot = (at - 16) / slot_pages o.sizes in
    let page = (at - 16) % slot_pages o.sizes in
    record { bytes = spelled_page o.sizes o.uuid page (opening_set o slot) }

-- each sector of leg l: its superblock, the slots, and else zeros
abbrev pub header_sector : Origin → ℕ → ℕ → Sector
header_sector o l at =
    if at == 8 then record { bytes = spelled (super_for (array_of o) l (says_of o)) }
    else if nat_le 16 at && nat_lt at (data_offset o.sizes) then slot_sector o at
    else zero_sector

-- the opening is that of a header, and each leg that tells its contents has those of the header
pub record IsHeader (o : Origin) (legs : Legs) : Type 0 where
  pub nodes : ℕ
  pub spares : ℕ
  pub some : (1 ≤ nodes) × (nodes ≤ nodes_of o.sizes)
  pub header : o ≡ header_at o.sizes nodes o.warm spares
  pub contents : (l at : ℕ) → l < o.sizes.legs → at < length_of o.sizes → legs.told l ≡ true
      → legs.content l at ≡ header_sector o l at

-- Images.

abbrev pub works_at : Origin → ℕ → Bool
works_at o l = is_working (role_of o.roles l)

-- the distinct values, in rising order of the legs below n that work
abbrev pub with_new : Sector → List Sector → List Sector
with_new v [] = v ∷ []
with_new v (u ∷ us) = if bytes_eq v.bytes u.bytes then u ∷ us else u ∷ with_new v us

unfoldable pub values_on : Origin → Legs → ℕ → ℕ → List Sector
values_on o legs s zero = []
values_on o legs s (suc n) =
    if works_at o n then with_new (data_on o.sizes legs n s) (values_on o legs s n)
    else values_on o legs s n

-- one slot has the bit of chunk c on some leg that works
abbrev pub some_mark : Origin → Legs → ℕ → ℕ → Bool
some_mark o legs k c = is_some (first_such (λ l. works_at o l && bit_on o.sizes legs k c l) 0 8)

-- the slot marks some chunk on a leg that works
abbrev pub is_marked_slot : Origin → Legs → ℕ → Bool
is_marked_slot o legs k = is_some (first_such (some_mark o legs k) 0 (chunks_of o.sizes))

-- what the legs have is without a fault, and the opening is what it says
pub record HasImages (o : Origin) (legs : Legs) : Type 0 where
  -- each leg has its superblock
  pub says : ℕ → Says
  pub supers : (l : ℕ) → l < o.sizes.legs → super_on (array_of o) legs l ≡ Some (says l)
  -- the opening is that of the greatest events number, and legs of one number say the same
  pub newest : ℕ
  pub is_newest : (newest < o.sizes.legs) × (says newest ≡ says_of o)
  pub greatest : (l : ℕ) → l < o.sizes.legs → (says l).events ≤ o.events
  pub same : (l k : ℕ) → l < o.sizes.legs → k < o.sizes.legs → (says l).events ≡ (says k).events
      → says l ≡ says k
  -- each page of each slot is in the grammar
  pub pages : (l n p : ℕ) → l < o.sizes.legs → n < nodes_of o.sizes → p < slot_pages o.sizes
      → let page = (legs.content l (page_sector o.sizes n p)).bytes in
      page ≡ spelled_page o.sizes o.uuid p (page_has o.sizes p page)
  pub pending : (k : ℕ) → k < nodes_of o.sizes → has_bit o.pending k ≡ is_marked_slot o legs k
  pub base : (s : ℕ) → s < o.sizes.room → get_or o.base s [] ≡ values_on o legs s 8
  -- where legs that work differ, a slot on one of them marks the chunk
  pub marked : (s : ℕ) → s < o.sizes.room → 1 < length (get_or o.base s [])
      → let marks : ℕ → Bool = λ k. some_mark o legs k (chunk_of o.sizes s) in
      is_some (first_such marks 0 (nodes_of o.sizes)) ≡ true

abbrev pub AllTell : Origin → Legs → Type 0
AllTell o legs = (l : ℕ) → l < o.sizes.legs → legs.told l ≡ true

-- nobody is in, and the opening is that of the legs where they tell their contents
pub record IsImages (o : Origin) (legs : Legs) : Type 0 where
  pub nobody : (o.members ≡ 0) × (o.warm ≡ false)
  pub contents : AllTell o legs → HasImages o legs

-- the state belongs to the opening
pub record Opens (o : Origin) (start : State) : Type 0 where
  pub origin : IsOrigin o
  pub core : start.core ≡ core_at o
  pub contents : IsHeader o start.legs ⊎ IsImages o start.legs

-- Sound openings.

-- one slot marks the chunk of s on every leg that works
abbrev pub MarksOnAll : Origin → Legs → ℕ → Type 0
MarksOnAll o legs s =
    (k : ℕ) × (k < nodes_of o.sizes)
    × ((l : ℕ) → role_of o.roles l ≡ Working → bit_on o.sizes legs k (chunk_of o.sizes s) l ≡ true)

-- what legs that work differ in, and what a faulty leg has not, is marked
pub record SoundOpening (o : Origin) (start : State) : Type 0 where
  pub opens : Opens o start
  pub told : AllTell o start.legs
  pub base : (s : ℕ) → s < o.sizes.room → 1 < length (get_or o.base s [])
      → MarksOnAll o start.legs s
  pub faulty : (l s : ℕ) → l < o.sizes.legs → role_of o.roles l ≡ Faulty → s < o.sizes.room
      → IsIn (data_on o.sizes start.legs l s) (get_or o.base s []) ⊎ MarksOnAll o start.legs s
