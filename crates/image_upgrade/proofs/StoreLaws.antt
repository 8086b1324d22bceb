-- New images that were stored leave the old files as they were.
use Rattle.std.proofs.Common.{◌≡◌, ◌≢◌, ℕ, zero, suc, ◌+◌, ◌<◌, ◌≤◌, List, [], ◌∷◌, ◌++◌, length, get_or, take, Option, Some, None, Err, refl, ap, sym, ◌∙◌, subst, arith, Bool, true, false, cond, add-one}
use Rattle.std.proofs.Math.Seq.{take-append_seam}
use Rattle.std.proofs.lemmas.Bool.{false_from_ne_true}
use Rattle.std.proofs.lemmas.List.{length-append}
use Rattle.std.proofs.lemmas.List.FromFn.{get_or-map-range_with_len}
use Rattle.std.proofs.lemmas.Slice.Eq.{bytes_eq-Decides}
use Rattle.std.specs.Str.{bytes_eq}
use Rattle.mdc_types.specs.declared.numbers.Sector.{Sector}
use Rattle.leg_shelf.specs.Shelves.{Files, put_file, OthersStay}
use Rattle.disk_image.specs.Files.{leg_name}
use Rattle.disk_image.proofs.Placed.{others_same}
use Rattle.image_faults.specs.declared.legs.LegImage.{LegImage}
use Rattle.image_files.specs.Laws.{WereOpened}
use Rattle.image_files.specs.Names.{file_of, leg_names}
use Rattle.image_files.specs.Opened.{IsOpened, OpensFile}
use Rattle.image_second.specs.Second.{WasRead, second_image}
use Rattle.image_upgrade.specs.Ends.{IsStoreEnd}
use Rattle.image_upgrade.specs.declared.ends.UpgradeError.{UpgradeError}
use Rattle.image_upgrade.specs.declared.ends.UpgradeError.TheVariants.{Old, New}
use Rattle.image_faults.specs.declared.faults.ImageError.TheVariants as errors
use Rattle.image_upgrade.specs.Stored.{PutsNew, AreStored, StoredBelow, StoredSome, read_at}

-- Names.

two : (a : List ℕ) (x y : ℕ) → length (a ++ x ∷ y ∷ []) ≡ length a + 2
two a x y = length-append a (x ∷ y ∷ [])

-- the files of two arrays have other names
pub names_apart : (a b : List ℕ) (l n : ℕ) → a ≢ b → leg_name a l ≢ leg_name b n
names_apart a b l n apart same =
    let e : length a + 2 ≡ length b + 2 = sym (two a 46 (48 + l)) ∙ ap length same ∙ two b 46 (48 + n) in
    let long : length a ≡ length b = omega (arith, e) in
    apart (sym (take-append_seam a (46 ∷ (48 + l) ∷ []))
    ∙ ap (take (length a)) same
    ∙ ap (λ k. take k (leg_name b n)) long
    ∙ take-append_seam b (46 ∷ (48 + n) ∷ []))

pub file_is : (name : List ℕ) (l : ℕ) → l < 8 → file_of (leg_names name) l ≡ leg_name name l
file_is name l lt = get_or-map-range_with_len (leg_name name) 0 8 l l [] lt (omega arith)

-- Opened files.

there : (b : Bool) (u v : Option (List ℕ)) → b ≡ false → cond b u v ≡ v
there true u v is = absurd (cc is)
there false u v is = refl

-- what stands under another name is as before
put_other : (files : Files) (file name : List ℕ) (left : Option (List ℕ)) (new : Option Files) → name ≢ file
    → new ≡ put_file (Some files) file left → (leg : Option (List Sector)) (size : ℕ) → IsOpened files name leg size → OpensFile new name leg size
put_other files file name left new apart is leg size opened =
    let no : bytes_eq file name ≡ false = false_from_ne_true (bytes_eq file name) (λ t. apart (sym ((bytes_eq-Decides file name).0 t))) in
    subst (λ f. OpensFile f name leg size) (sym is) (record {
      bytes = opened.bytes;
      there = there (bytes_eq file name) left (files name) no ∙ opened.there;
      sectors = opened.sectors;
      many = opened.many;
    })

opened_put : (old : Option Files) (file name : List ℕ) (new : Option Files) (leg : Option (List Sector)) (size : ℕ) → name ≢ file
    → OthersStay old file new → OpensFile old name leg size → OpensFile new name leg size
opened_put None file name new leg size apart stay opened = subst (λ f. OpensFile f name leg size) (sym stay.1) tt
opened_put (Some files) file name new leg size apart stay opened = put_other files file name stay.0 new apart stay.1 leg size opened

-- legs that were opened still have their files
pub opened_still : (old : Option Files) (from file : List ℕ) (new : Option Files) (told : List (Option (List Sector))) (sizes : ℕ → ℕ)
    → length told ≤ 8 → ((l : ℕ) → leg_name from l ≢ file) → OthersStay old file new
    → WereOpened old (leg_names from) told sizes → WereOpened new (leg_names from) told sizes
opened_still old from file new told sizes few apart stay were = record {
  each = λ l lt.
      let small : l < 8 = omega arith in
      opened_put old file (file_of (leg_names from) l) new (get_or told l None) (sizes l)
      (λ same. apart l (sym (file_is from l small) ∙ same)) stay (were.each l lt);
}

-- a new image changed its own name alone
pub puts_others : (old : Option Files) (file : List ℕ) (r : WasRead) (told : Option (List Sector)) (new : Option Files)
    → PutsNew old file r told new → OthersStay old file new
puts_others old file r None new puts = puts
puts_others old file r (Some leg) new puts = (Some (second_image r leg), puts)

-- legs that were opened still have their files once new images were stored
pub stored_still : (old : Option Files) (from to : List ℕ) (images : List LegImage) (n : ℕ) (new : Option Files)
    (told : List (Option (List Sector))) (sizes : ℕ → ℕ) → from ≢ to → length told ≤ 8
    → AreStored to images told n old new
    → WereOpened old (leg_names from) told sizes → WereOpened new (leg_names from) told sizes
stored_still old from to images zero new told sizes apart few stored were = subst (λ f. WereOpened f (leg_names from) told sizes) (sym stored) were
stored_still old from to images (suc n) new told sizes apart few (mid, stored, puts) were =
    opened_still mid from (leg_name to n) new told sizes few (λ l. names_apart from to l n apart)
    (puts_others mid (leg_name to n) (read_at images n) (get_or told n None) new puts)
    (stored_still old from to images n mid told sizes apart few stored were)

-- Storing.

-- one more was stored
pub stored_more : (to : List ℕ) (images : List LegImage) (told : List (Option (List Sector))) (n : ℕ) (old mid new : Option Files)
    → AreStored to images told n old mid → PutsNew mid (leg_name to n) (read_at images n) (get_or told n None) new
    → AreStored to images told (n + 1) old new
stored_more to images told n old mid new stored puts =
    subst (λ k. AreStored to images told k old new) (sym (add-one n)) (mid, stored, puts)

-- none was
pub stored_none : (to : List ℕ) (images : List LegImage) (told : List (Option (List Sector))) (old : Option Files)
    → StoredBelow to images told 0 old old
stored_none to images told old = (old, omega arith, refl, others_same old (leg_name to 0))

-- all were
pub stored_all : (to : List ℕ) (images : List LegImage) (told : List (Option (List Sector))) (old new : Option Files)
    → AreStored to images told (length images) old new → StoredBelow to images told (length images) old new
stored_all to images told old new stored = (new, omega arith, stored, others_same new (leg_name to (length images)))

-- the next one wasn't
pub stored_err : (T : Type 0) (to : List ℕ) (images : List LegImage) (told : List (Option (List Sector))) (n : ℕ) (old mid new : Option Files) (e : UpgradeError)
    → n ≤ length images → AreStored to images told n old mid → OthersStay mid (leg_name to n) new → IsStoreEnd n e
    → StoredSome {T = T} to images told old (Err e) new
stored_err T to images told n old mid new (Old (errors.Device k)) le stored others is = (n, (mid, le, stored, others))
stored_err T to images told n old mid new (Old (errors.Memory e)) le stored others is = (n, (mid, le, stored, others))
stored_err T to images told n old mid new (Old (errors.Image k f)) le stored others is = absurd is
stored_err T to images told n old mid new (Old (errors.Shelf k)) le stored others is = absurd is
stored_err T to images told n old mid new (New k) le stored others is =
    subst (λ m. StoredBelow to images told m old new) (sym is) (mid, le, stored, others)
