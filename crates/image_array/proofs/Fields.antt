-- What is looked up of a leg.
use Rattle.std.proofs.Common.{◌≡◌, ℕ, ◌<◌, List, [], length, get_or, sym, ap, ◌∙◌}
use Rattle.std.proofs.lemmas.List.{get_or-map}
use Rattle.image_faults.specs.declared.legs.LegImage.{LegImage}
use Rattle.image_array.specs.Legs.{super_at, sizes_at, slots_at, no_super, no_sizes}

pub super_is : (images : List LegImage) (l : ℕ) (x : LegImage) → l < length images → x ≡ get_or images l x → super_at images l ≡ x.superblock
super_is images l x lt is = get_or-map (λ image. image.superblock) images l x no_super lt ∙ ap (λ image. image.superblock) (sym is)

pub sizes_is : (images : List LegImage) (l : ℕ) (x : LegImage) → l < length images → x ≡ get_or images l x → sizes_at images l ≡ x.geometry
sizes_is images l x lt is = get_or-map (λ image. image.geometry) images l x no_sizes lt ∙ ap (λ image. image.geometry) (sym is)

pub slots_is : (images : List LegImage) (l : ℕ) (x : LegImage) → l < length images → x ≡ get_or images l x → slots_at images l ≡ x.slots.items
slots_is images l x lt is = get_or-map (λ image. image.slots.items) images l x [] lt ∙ ap (λ image. image.slots.items) (sym is)
