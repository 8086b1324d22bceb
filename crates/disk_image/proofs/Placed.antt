-- What stands under the names of new images.
use Rattle.std.proofs.Common.{◌≡◌, ℕ, zero, suc, ◌+◌, ◌<◌, ◌≤◌, Bool, true, false, List, [], ◌∷◌, length, get_or, refl, ap, sym, ◌∙◌, arith, inl, inr, Option, Some, None, Err, cond}
use Rattle.std.proofs.lemmas.Bool.{cases_lt, false_from_ne_true}
use Rattle.std.proofs.lemmas.Slice.Eq.{bytes_eq-Decides}
use Rattle.std.specs.Map.{update}
use Rattle.std.specs.Str.{bytes_eq}
use Rattle.leg_shelf.specs.Shelves.{Files, OthersStay, is_fault}
use Rattle.leg_shelf.proofs.Kept.{put_same}
use Rattle.cluster_model.specs.Opening.{Origin}
use Rattle.disk_image.specs.Files.{leg_name}
use Rattle.mdc_types.specs.Faults.{HasCause, Rose}
use Rattle.leg_shelf.specs.declared.shelf.ShelfEnd.TheVariants.{Failed}
use Rattle.image_faults.specs.declared.faults.ImageError.TheVariants.{Shelf}
use Rattle.disk_image.specs.Created.{image_of, with_images, is_shelf_fault}

last_of : (name : List ℕ) (l : ℕ) → get_or (leg_name name l) (suc (length name)) 0 ≡ 48 + l
last_of [] l = refl
last_of (b ∷ name) l = last_of name l

names_differ : (name : List ℕ) (l k : ℕ) → leg_name name l ≡ leg_name name k → l ≡ k
names_differ name l k same =
    let e : 48 + l ≡ 48 + k = sym (last_of name l) ∙ ap (λ xs. get_or xs (suc (length name)) 0) same ∙ last_of name k in omega (arith, e)

-- the files with the images of the first n legs
unfoldable pub placed : Files → List ℕ → Origin → ℕ → Files
placed old name o zero = old
placed old name o (suc n) = update bytes_eq (placed old name o n) (leg_name name n) (Some (image_of o n))

pub placed_is : (old : Files) (name : List ℕ) (o : Origin) (n : ℕ) → with_images (Some old) name o n ≡ Some (placed old name o n)
unfolding placed
placed_is old name o zero = refl
placed_is old name o (suc n) = rw (placed_is old name o n) refl

here : (b : Bool) (u v : Option (List ℕ)) → b ≡ true → cond b u v ≡ u
here true u v is = refl
here false u v is = absurd (cc is)

there : (b : Bool) (u v : Option (List ℕ)) → b ≡ false → cond b u v ≡ v
there true u v is = absurd (cc is)
there false u v is = refl

-- each leg's file has its image
pub placed_at : (old : Files) (name : List ℕ) (o : Origin) (n l : ℕ) → l < n → placed old name o n (leg_name name l) ≡ Some (image_of o l)
unfolding placed
placed_at old name o zero l lt = absurd (omega (arith, lt))
placed_at old name o (suc n) l lt = elim (cases_lt l n) [
  | inl below ↦ there (bytes_eq (leg_name name n) (leg_name name l)) (Some (image_of o n)) (placed old name o n (leg_name name l))
      (false_from_ne_true _ (λ t. let e : n ≡ l = names_differ name n l ((bytes_eq-Decides (leg_name name n) (leg_name name l)).0 t) in omega (arith, e, below)))
      ∙ placed_at old name o n l below
  | inr past ↦ let last : n ≡ l = omega arith in
      here (bytes_eq (leg_name name n) (leg_name name l)) (Some (image_of o n)) (placed old name o n (leg_name name l))
      ((bytes_eq-Decides (leg_name name n) (leg_name name l)).1 (ap (leg_name name) last))
      ∙ ap (λ k. Some (image_of o k)) last
]

-- the other names stay where all names do
pub others_same : (old : Option Files) (name : List ℕ) → OthersStay old name old
others_same None name = (None, refl)
others_same (Some files) name = (files name, put_same files name)

rose_from : (before mid now : ℕ) → before ≤ mid → Rose mid now → Rose before now
rose_from before mid now le r = omega (arith, r)

-- a fault of the shelf is handed on with its leg
pub shelf_cause : {T U : Type 0} (before mid now l : ℕ) → before ≤ mid → HasCause {T = T} is_fault mid now (Err Failed)
    → HasCause {T = U} is_shelf_fault before now (Err (Shelf l))
shelf_cause before mid now l le cause = record {
  later = let m : mid ≤ now = cause.later in omega arith;
  failed = λ e is fault. let r : Rose mid now = cause.failed Failed refl refl in rose_from before mid now le r;
}
