-- One leg among all.
use Rattle.std.proofs.Common.{◌≡◌, ℕ, ◌<◌, List, [], length, get_or, map, Bool, ap, sym, ◌∙◌, subst, arith}
use Rattle.std.proofs.Math.ListN.{set}
use Rattle.std.proofs.Common.{get_or-set_same}
use Rattle.std.proofs.lemmas.List.{map-set, length-map}
use Rattle.mdc_types.specs.Geometry.{Sizes}
use Rattle.md_superblock.specs.declared.superblock.Super.{Super}
use Rattle.image_faults.specs.declared.legs.LegImage.{LegImage}
use Rattle.image_files.proofs.RowLaws.{mapped_at}
use Rattle.image_array.specs.Legs.{super_at, sizes_at, no_super, no_sizes}
use Rattle.image_second.specs.Second.{WasRead, read_of}
use Rattle.image_upgrade.specs.Stored.{read_at}

abbrev with_read : Super → Sizes → List (List Bool) → WasRead
with_read s g k = record { superblock = s; sizes = g; slots = k }

-- what was read of leg l is what stands in its image
read_is : (images : List LegImage) (l : ℕ) (x : LegImage) → l < length images → x ≡ get_or images l x → read_of x ≡ read_at images l
read_is images l x lt is =
    let p = mapped_at (λ (i : LegImage). i.superblock) images l x x lt is no_super in
    let q = mapped_at (λ (i : LegImage). i.geometry) images l x x lt is no_sizes in
    let r = mapped_at (λ (i : LegImage). i.slots.items) images l x x lt is [] in
    ap (λ s. with_read s x.geometry x.slots.items) (sym p)
    ∙ ap (λ g. with_read (super_at images l) g x.slots.items) (sym q)
    ∙ ap (with_read (super_at images l) (sizes_at images l)) (sym r)

pub read_there : (images : List LegImage) (i l : ℕ) (x : LegImage) → i ≡ l → l < length images → x ≡ get_or images i x → read_of x ≡ read_at images l
read_there images i l x same lt is = read_is images l x lt (subst (λ k. x ≡ get_or images k x) same is)

-- what is said of the leg that was called
pub mapped_here : {X Y : Type 0} (f : X → Y) (xs : List X) (i l : ℕ) (old : X) (d : Y) → i ≡ l → i < length xs → old ≡ get_or xs i old
    → f old ≡ get_or (map f xs) l d
mapped_here f xs i l old d same lt is = sym (mapped_at f xs i old old lt is d) ∙ ap (λ k. get_or (map f xs) k d) same

-- and after the call
pub set_here : {X Y : Type 0} (f : X → Y) (xs : List X) (i l : ℕ) (new : X) (d : Y) → i ≡ l → i < length xs → f new ≡ get_or (map f (set xs i new)) l d
set_here f xs i l new d same lt =
    let lt_map : i < length (map f xs) = omega (arith, lt, length-map xs f) in
    sym (ap (λ ys. get_or ys l d) (map-set f xs i new)
    ∙ ap (λ k. get_or (set (map f xs) i (f new)) k d) (sym same)
    ∙ get_or-set_same (map f xs) i (f new) d lt_map)
