-- Worked lines.
use Rattle.std.proofs.Common.{◌≡◌, ℕ, true, false, List, [], ◌∷◌, ◌++◌, codes, replicate, refl}
use Rattle.std.specs.Fmt.{digits}
use Rattle.mdc_types.specs.declared.roles.Role.TheVariants.{Working, Rebuilding, Faulty, Spare}
use Rattle.mdc_types.specs.declared.roles.Roles.{Roles}
use Rattle.md_superblock.specs.declared.faults.Field.TheVariants as field
use Rattle.md_superblock.specs.declared.faults.SuperFault.TheVariants.{Magic, Sum, Range, Role}
use Rattle.md_superblock.specs.declared.superblock.Super.{Super}
use Rattle.image_faults.specs.declared.faults.ImageFault.TheVariants.{Missing, Short, Super as NoSuper, Slot, Geometry, Unmarked, Upgraded}
use Rattle.image_texts.specs.Lines.{created_line, created_text, upgraded_line, image_line, shelf_line, shelf_text}
use Rattle.image_texts.specs.Sets.{sum_word}
use Rattle.image_texts.specs.Shown.{leg_line, slot_line}

abbrev demo : List ℕ
demo = codes "demo"

created : created_line demo 1 ≡ codes "created demo.1"
created = refl

created_all : created_text demo 2 ≡ codes "created demo.0" ++ 10 ∷ codes "created demo.1" ++ 10 ∷ []
created_all = refl

upgraded : upgraded_line demo 0 ≡ codes "upgraded demo.0"
upgraded = refl

shelf : shelf_line demo 7 ≡ codes "shelf demo.7"
shelf = refl

missing : image_line 7 Missing ≡ codes "image 7 missing"
unfolding digits
missing = refl

short : image_line 1 Short ≡ codes "image 1 short"
unfolding digits
short = refl

sums : image_line 0 (NoSuper (Sum 412726511 412726510)) ≡ codes "image 0 sum 412726511 412726510"
unfolding digits
sums = refl

magic : image_line 0 (NoSuper (Magic 0)) ≡ codes "image 0 magic 0"
unfolding digits
magic = refl

range : image_line 0 (NoSuper (Range field.RaidDisks)) ≡ codes "image 0 range raid-disks"
unfolding digits
range = refl

rest : image_line 0 (NoSuper (Range field.Rest)) ≡ codes "image 0 range rest"
unfolding digits
rest = refl

no_role : image_line 0 (NoSuper (Role 8)) ≡ codes "image 0 role 8"
unfolding digits
no_role = refl

slot : image_line 1 (Slot 3) ≡ codes "image 1 slot 3"
unfolding digits
slot = refl

geometry : image_line 1 Geometry ≡ codes "image 1 geometry"
unfolding digits
geometry = refl

unmarked : image_line 1 (Unmarked 5) ≡ codes "image 1 unmarked 5"
unfolding digits
unmarked = refl

already : image_line 0 Upgraded ≡ codes "image 0 upgraded"
unfolding digits
already = refl

abbrev some_super : ℕ → ℕ → Roles → Super
some_super legs events roles = record {
  geometry_legs = legs;
  sectors = 16;
  room = 16;
  version = 1;
  name = demo ++ replicate 28 0;
  uuid = replicate 16 0;
  device = 0;
  events = events;
  roles = roles;
}

abbrev both : Roles
both = record { legs = Working ∷ Working ∷ Spare ∷ Spare ∷ Spare ∷ Spare ∷ Spare ∷ Spare ∷ [] }

-- a new array of two legs
new_leg : leg_line 0 (some_super 2 1 both) 412726511 ≡ codes "leg 0 events 1 roles WW sum 1899b4ef"
unfolding digits
new_leg = refl

abbrev mixed : Roles
mixed = record { legs = Working ∷ Rebuilding ∷ Faulty ∷ Spare ∷ Spare ∷ Spare ∷ Spare ∷ Spare ∷ [] }

mixed_leg : leg_line 3 (some_super 4 12 mixed) 255 ≡ codes "leg 3 events 12 roles WRFS sum 000000ff"
unfolding digits
mixed_leg = refl

-- no digit of a checksum is left out
low_sum : sum_word 0 ≡ codes "00000000"
low_sum = refl

high_sum : sum_word 4294967295 ≡ codes "ffffffff"
high_sum = refl

empty_slot : slot_line 0 15 (false ∷ false ∷ []) ≡ codes "slot 0 15 set -"
unfolding digits
empty_slot = refl

some_slot : slot_line 1 2 (true ∷ false ∷ false ∷ true ∷ true ∷ []) ≡ codes "slot 1 2 set 0,3,4"
unfolding digits
some_slot = refl
