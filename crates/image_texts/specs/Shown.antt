-- What is shown of the images of an array.
use Rattle.std.specs.Prelude.{◌≡◌, ℕ, ◌+◌, List, [], ◌∷◌, ◌++◌, Bool, codes, decimal, get_or, length}
use Rattle.mdc_types.specs.Geometry.{nodes_of}
use Rattle.md_superblock.specs.declared.superblock.Super.{Super}
use Rattle.image_faults.specs.declared.legs.LegImage.{LegImage}
use Rattle.image_texts.specs.Lines.{lines_to, printed}
use Rattle.image_texts.specs.Sets.{chunks_word, roles_word, sum_word}

-- what the superblock of leg l says, and its checksum
abbrev pub leg_line : ℕ → Super → ℕ → List ℕ
leg_line l s sum =
    codes "leg " ++ decimal l
    ++ codes " events " ++ decimal s.events
    ++ codes " roles " ++ roles_word s.roles s.geometry_legs
    ++ codes " sum " ++ sum_word sum

-- the chunks that slot k of leg l marks
abbrev pub slot_line : ℕ → ℕ → List Bool → List ℕ
slot_line l k set = codes "slot " ++ decimal l ++ codes " " ++ decimal k ++ codes " set " ++ chunks_word set

-- a line for each slot of leg l: eight in image version 1, sixteen in version 2
abbrev pub slot_lines : ℕ → LegImage → List ℕ
slot_lines l image = lines_to (λ k. slot_line l k (get_or image.slots.items k [])) (nodes_of image.geometry)

abbrev pub leg_text : ℕ → LegImage → List ℕ
leg_text l image = printed (leg_line l image.superblock image.sum) ++ slot_lines l image

-- the legs' texts, from leg l on
abbrev pub legs_text : ℕ → List LegImage → List ℕ
legs_text l [] = []
legs_text l (image ∷ images) = leg_text l image ++ legs_text (l + 1) images

abbrev pub show_text : List LegImage → List ℕ
show_text images = legs_text 0 images

-- there is a set for each slot
abbrev pub HasSlots : LegImage → Type 0
HasSlots image = length image.slots.items ≡ nodes_of image.geometry
