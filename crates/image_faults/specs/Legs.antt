-- What is wrong with the image of a leg by itself.
use Rattle.std.specs.Prelude.{◌≡◌, ℕ, ◌<◌, Bool, true, false, List, [], ◌∷◌, get_or}
use Rattle.std.specs.Prelude.{Option, Some, None, Result, Ok, Err, length, unwrap_or}
use Rattle.std.specs.Option.{option_map}
use Rattle.dlm_modes.specs.First.{first_such}
use Rattle.dlm_modes.specs.Guards.{first_of}
use Rattle.mdc_types.specs.Geometry.{Sizes, nodes_of, slot_pages, chunks_of}
use Rattle.mdc_types.specs.Sectors.{zero_sector}
use Rattle.mdc_types.specs.declared.geometry.GeomError.{GeomError}
use Rattle.mdc_types.specs.declared.numbers.Sector.{Sector}
use Rattle.md_superblock.specs.Faults.{fault_of}
use Rattle.md_superblock.specs.Layout.{number_at}
use Rattle.md_superblock.specs.Superblock.{super_of, IsSuper}
use Rattle.image_faults.specs.Sizes.{length_fault, chunk_in, sizes_of}
use Rattle.image_faults.specs.Slots.{slot_is_wrong, slot_bit, ArePages}
use Rattle.image_faults.specs.declared.faults.ImageFault.{ImageFault}
use Rattle.image_faults.specs.declared.faults.ImageFault.TheVariants.{Super, Slot}
use Rattle.image_faults.specs.declared.legs.LegEnd.{LegEnd}
use Rattle.image_faults.specs.declared.legs.LegEnd.TheVariants.{Fault, Failed, Memory}
use Rattle.image_faults.specs.declared.legs.LegImage.{LegImage}

-- sector 8, and the first page of slot 0
abbrev pub super_bytes : List Sector → List ℕ
super_bytes leg = (get_or leg 8 zero_sector).bytes

abbrev pub first_page : List Sector → List ℕ
first_page leg = (get_or leg 16 zero_sector).bytes

-- the chunk of leg 0 is its own
abbrev pub own_chunk : Option ℕ → List ℕ → ℕ
own_chunk None page = chunk_in page
own_chunk (Some chunk) page = chunk

-- the first slot that is wrong; slot 0 where there are no such sizes
abbrev pub first_wrong_slot : Sizes → List ℕ → List Sector → Option ℕ
first_wrong_slot g uuid leg = first_such (slot_is_wrong g uuid leg) 0 (nodes_of g)

abbrev pub slots_fault : Result Sizes GeomError → List ℕ → List Sector → Option ImageFault
slots_fault (Err e) uuid leg = Some (Slot 0)
slots_fault (Ok g) uuid leg = option_map Slot (first_wrong_slot g uuid leg)

-- the first fault of a leg that is there, of so many bytes
abbrev pub leg_fault : Option ℕ → ℕ → List Sector → Option ImageFault
leg_fault chunk size leg =
    let s = super_of (super_bytes leg) in
    first_of (
    option_map Super (fault_of (super_bytes leg))
    ∷ length_fault s size
    ∷ slots_fault (sizes_of s (own_chunk chunk (first_page leg))) s.uuid leg
    ∷ [])

-- the bits of each slot
pub record HaveBits (g : Sizes) (leg : List Sector) (slots : List (List Bool)) : Type 0 where
  pub each : (k c : ℕ) → k < nodes_of g
      → get_or (get_or slots k []) c false ≡ slot_bit g leg k c

-- a slot was judged and read, where the leg tells what it holds
abbrev pub ReadsSlot : Option (List Sector) → Sizes → List ℕ → ℕ → Result (List Bool) LegEnd
    → Type 0
ReadsSlot None g uuid k r = Unit {0}
ReadsSlot (Some leg) g uuid k (Ok set) =
    (slot_is_wrong g uuid leg k ≡ false)
    × ((c : ℕ) → get_or set c false ≡ slot_bit g leg k c)
ReadsSlot (Some leg) g uuid k (Err (Fault f)) = (slot_is_wrong g uuid leg k ≡ true) × (f ≡ Slot k)
ReadsSlot (Some leg) g uuid k (Err Failed) = Unit {0}
ReadsSlot (Some leg) g uuid k (Err (Memory e)) = Unit {0}

-- the slots were judged and read, where the leg tells what it holds
abbrev pub ReadsSlots : Option (List Sector) → Sizes → List ℕ
    → Result (List (List Bool)) LegEnd → Type 0
ReadsSlots None g uuid r = Unit {0}
ReadsSlots (Some leg) g uuid (Ok slots) = (first_wrong_slot g uuid leg ≡ None) × HaveBits g leg slots
ReadsSlots (Some leg) g uuid (Err (Fault f)) = option_map Slot (first_wrong_slot g uuid leg) ≡ Some f
ReadsSlots (Some leg) g uuid (Err Failed) = Unit {0}
ReadsSlots (Some leg) g uuid (Err (Memory e)) = Unit {0}

-- a leg without a fault, and what was read of it
pub record IsRead (chunk : Option ℕ) (size : ℕ) (leg : List Sector) (image : LegImage) : Type 0 where
  pub sound : leg_fault chunk size leg ≡ None
  pub superblock : image.superblock ≡ super_of (super_bytes leg)
  pub sum : image.sum ≡ number_at (super_bytes leg) 216 4
  pub sizes : Ok image.geometry ≡ sizes_of image.superblock (own_chunk chunk (first_page leg))
  pub bits : HaveBits image.geometry leg image.slots.items

-- the leg was judged
abbrev pub ReadsLeg : Option (List Sector) → Option ℕ → ℕ → Result LegImage LegEnd → Type 0
ReadsLeg None chunk size r = Unit {0}
ReadsLeg (Some leg) chunk size (Ok image) = IsRead chunk size leg image
ReadsLeg (Some leg) chunk size (Err (Fault f)) = leg_fault chunk size leg ≡ Some f
ReadsLeg (Some leg) chunk size (Err Failed) = Unit {0}
ReadsLeg (Some leg) chunk size (Err (Memory e)) = Unit {0}

-- the leg failed
abbrev pub is_leg_failure : LegEnd → Bool
is_leg_failure Failed = true
is_leg_failure e = false

-- one set for each slot, each of the array's chunks
pub record HaveSets (g : Sizes) (slots : List (List Bool)) : Type 0 where
  pub many : length slots ≡ nodes_of g
  pub each : (k : ℕ) → k < nodes_of g → length (get_or slots k []) ≡ chunks_of g

-- all pages of all slots are sectors, where the leg tells what it holds
abbrev pub AllPages : Option (List Sector) → Sizes → Type 0
AllPages told g = (k : ℕ) → k < nodes_of g → ArePages told g k (slot_pages g)

-- of any leg, what it tells or not: its superblock is in its ranges, its file has the length and the
-- sizes that this says, and there is a set for each slot
pub record FitsSuper (chunk : Option ℕ) (size : ℕ) (image : LegImage) : Type 0 where
  pub superblock : IsSuper image.superblock
  pub long : length_fault image.superblock size ≡ None
  pub sizes : Ok image.geometry ≡ sizes_of image.superblock image.geometry.chunk
  pub given : unwrap_or chunk image.geometry.chunk ≡ image.geometry.chunk
  pub sets : HaveSets image.geometry image.slots.items
