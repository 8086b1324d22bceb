-- The legs of an array that were judged so far, in rising order.
use Rattle.std.specs.Prelude.{◌≡◌, ℕ, zero, suc, ◌<◌, Bool, false, List, [], ◌∷◌, ◌++◌, map, length}
use Rattle.std.specs.Prelude.{get_or, Option, Some, None, Result, Ok, Err}
use Rattle.dlm_modes.specs.Guards.{or_then}
use Rattle.mdc_types.specs.Geometry.{Sizes}
use Rattle.mdc_types.specs.declared.numbers.Sector.{Sector}
use Rattle.mdc_types.specs.Roles.{eight}
use Rattle.mdc_types.specs.declared.roles.Role.TheVariants.{Spare}
use Rattle.md_superblock.specs.Layout.{number_at}
use Rattle.md_superblock.specs.Superblock.{IsSuper, super_of}
use Rattle.md_superblock.specs.declared.superblock.Super.{Super}
use Rattle.image_faults.specs.Legs.{leg_fault, super_bytes, first_page, own_chunk, HaveSets, HaveBits, AllPages}
use Rattle.image_faults.specs.Sizes.{sizes_of}
use Rattle.image_faults.specs.declared.faults.ImageFault.{ImageFault}
use Rattle.image_faults.specs.declared.legs.LegEnd.{LegEnd}
use Rattle.image_faults.specs.declared.legs.LegEnd.TheVariants.{Fault, Failed, Memory}
use Rattle.image_faults.specs.declared.legs.LegImage.{LegImage}
use Rattle.image_array.specs.Agreement.{agreement_fault}

-- what is looked up past the legs
abbrev pub no_super : Super
no_super = record {
  geometry_legs = 0;
  sectors = 0;
  room = 0;
  version = 0;
  name = [];
  uuid = [];
  device = 0;
  events = 0;
  roles = eight (λ l. Spare);
}

abbrev pub no_sizes : Sizes
no_sizes = record { legs = 0; sectors = 0; room = 0; chunk = 0; second = false }

abbrev pub supers_of : List LegImage → List Super
supers_of images = map (λ image. image.superblock) images

-- the superblock of leg l, its sizes, and the bits of its slots
abbrev pub super_at : List LegImage → ℕ → Super
super_at images l = get_or (supers_of images) l no_super

abbrev pub sizes_at : List LegImage → ℕ → Sizes
sizes_at images l = get_or (map (λ image. image.geometry) images) l no_sizes

abbrev pub slots_at : List LegImage → ℕ → List (List Bool)
slots_at images l = get_or (map (λ image. image.slots.items) images) l []

-- the checksum that stands in its superblock
abbrev pub sum_at : List LegImage → ℕ → ℕ
sum_at images l = get_or (map (λ image. image.sum) images) l 0

-- chunk c is marked in slot k on leg l
abbrev pub mark_at : List LegImage → ℕ → ℕ → ℕ → Bool
mark_at images l k c = get_or (get_or (slots_at images l) k []) c false

-- the chunk that leg l has to hold: that of leg 0, which has its own
abbrev pub leg_chunk : List LegImage → ℕ → Option ℕ
leg_chunk images zero = None
leg_chunk images (suc l) = Some (sizes_at images 0).chunk

-- what is known of a leg of an array, whatever it tells: its superblock and its sizes are in their
-- ranges, it has a set for each slot, and it goes with the legs before it
pub record IsLeg (images : List LegImage) (l : ℕ) : Type 0 where
  pub superblock : IsSuper (super_at images l)
  pub sizes : Ok (sizes_at images l) ≡ sizes_of (super_at images l) (sizes_at images 0).chunk
  pub sets : HaveSets (sizes_at images l) (slots_at images l)
  pub agrees : agreement_fault (super_at images) l ≡ None

-- these are the first legs of an array
pub record AreLegs (images : List LegImage) : Type 0 where
  pub each : (l : ℕ) → l < length images → IsLeg images l

-- these are all its legs
pub record AreAll (images : List LegImage) : Type 0 where
  pub some : 0 < length images
  pub legs : AreLegs images
  pub all : length images ≡ (super_at images 0).geometry_legs

-- what was read of leg l, whose file has so many bytes, is what stands there
pub record IsReadAs (leg : List Sector) (size : ℕ) (images : List LegImage) (l : ℕ) : Type 0 where
  pub sound : leg_fault (leg_chunk images l) size leg ≡ None
  pub superblock : super_at images l ≡ super_of (super_bytes leg)
  pub sum : sum_at images l ≡ number_at (super_bytes leg) 216 4
  pub sizes : Ok (sizes_at images l)
      ≡ sizes_of (super_at images l) (own_chunk (leg_chunk images l) (first_page leg))
  pub bits : HaveBits (sizes_at images l) leg (slots_at images l)
  pub pages : AllPages (Some leg) (sizes_at images l)

-- the same where the leg tells what it holds
abbrev pub ReadAs : Option (List Sector) → ℕ → List LegImage → ℕ → Type 0
ReadAs None size images l = Unit {0}
ReadAs (Some leg) size images l = IsReadAs leg size images l

-- a leg more
abbrev pub AddsLeg : List LegImage → List LegImage → Type 0
AddsLeg old new = (image : LegImage) × (new ≡ old ++ image ∷ [])

-- the superblocks with one more
abbrev pub supers_with : List LegImage → Super → ℕ → Super
supers_with images s k = get_or (supers_of images) k s

-- the first fault of the next leg, by itself and then against those before it
abbrev pub next_fault : List LegImage → ℕ → List Sector → Option ImageFault
next_fault images size leg =
    or_then (leg_fault (leg_chunk images (length images)) size leg)
    (agreement_fault (supers_with images (super_of (super_bytes leg))) (length images))

-- the next leg was judged, where it tells what it holds
abbrev pub ReadsNext : Option (List Sector) → List LegImage → ℕ → Result (Unit {0}) LegEnd → Type 0
ReadsNext None images size r = Unit {0}
ReadsNext (Some leg) images size (Ok u) = next_fault images size leg ≡ None
ReadsNext (Some leg) images size (Err (Fault f)) = next_fault images size leg ≡ Some f
ReadsNext (Some leg) images size (Err Failed) = Unit {0}
ReadsNext (Some leg) images size (Err (Memory e)) = Unit {0}
