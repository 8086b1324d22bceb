-- The new images, opened again.
use Rattle.std.proofs.Common.{◌≡◌, ℕ, zero, suc, ◌+◌, ◌<◌, ◌≤◌, Bool, true, false, List, [], ◌∷◌, length, get_or, refl, ap, sym, ◌∙◌, subst, arith, inl, inr, Option, Some, None, unwrap_or, cond}
use Rattle.std.proofs.lemmas.Bool.{cases_lt, false_from_ne_true}
use Rattle.std.proofs.lemmas.Slice.Eq.{bytes_eq-Decides}
use Rattle.std.specs.Map.{update}
use Rattle.std.specs.Str.{bytes_eq}
use Rattle.mdc_types.specs.Sectors.{zero_sector}
use Rattle.mdc_types.specs.declared.numbers.Sector.{Sector}
use Rattle.leg_shelf.specs.Images.{sectors_in}
use Rattle.leg_shelf.specs.Shelves.{Files, put_file}
use Rattle.cluster_model.specs.Opening.{Origin}
use Rattle.disk_image.specs.Files.{leg_name, legs_in}
use Rattle.world_state.specs.Told.{legs_of, sectors_of}
use Rattle.image_faults.specs.declared.legs.LegImage.{LegImage}
use Rattle.image_files.specs.Laws.{WereOpened}
use Rattle.image_files.specs.Names.{file_of, leg_names}
use Rattle.image_files.specs.Opened.{IsOpened}
use Rattle.image_array.specs.Legs.{ReadAs}
use Rattle.image_opening.specs.Opened.{AreOpened, bytes_at}
use Rattle.image_second.specs.Second.{second_image}
use Rattle.second_opening.specs.Laws.{OpenAlike, HoldFiles}
use Rattle.image_upgrade.specs.Stored.{AreStored, PutsNew, read_at}
use Rattle.image_upgrade.specs.Upgrading.{AreOld, StandAlike}
use Rattle.image_upgrade.proofs.StoreLaws.{file_is}

last_of : (name : List ℕ) (l : ℕ) → get_or (leg_name name l) (suc (length name)) 0 ≡ 48 + l
last_of [] l = refl
last_of (b ∷ name) l = last_of name l

-- the files of an array have different names
names_differ : (name : List ℕ) (l k : ℕ) → leg_name name l ≡ leg_name name k → l ≡ k
names_differ name l k same =
    let e : 48 + l ≡ 48 + k = sym (last_of name l) ∙ ap (λ xs. get_or xs (suc (length name)) 0) same ∙ last_of name k in omega (arith, e)

here : (b : Bool) (u v : Option (List ℕ)) → b ≡ true → cond b u v ≡ u
here true u v is = refl
here false u v is = absurd (cc is)

there : (b : Bool) (u v : Option (List ℕ)) → b ≡ false → cond b u v ≡ v
there true u v is = absurd (cc is)
there false u v is = refl

-- the new images of the legs below n stand in these files
record StandNew (to : List ℕ) (images : List LegImage) (leg : ℕ → List Sector) (n : ℕ) (new : Option Files) : Type 0 where
  pub files : Files
  pub told : new ≡ Some files
  pub each : (l : ℕ) → l < n → files (leg_name to l) ≡ Some (second_image (read_at images l) (leg l))

-- one more
one_more : (to : List ℕ) (images : List LegImage) (leg : ℕ → List Sector) (n : ℕ) (mid new : Option Files) → StandNew to images leg n mid
    → new ≡ put_file mid (leg_name to n) (Some (second_image (read_at images n) (leg n))) → StandNew to images leg (suc n) new
one_more to images leg n mid new stand puts =
    let image : Option (List ℕ) = Some (second_image (read_at images n) (leg n)) in
    record {
      files = update bytes_eq stand.files (leg_name to n) image;
      told = puts ∙ ap (λ f. put_file f (leg_name to n) image) stand.told;
      each = λ l lt. elim (cases_lt l n) [
        | inl below ↦ there (bytes_eq (leg_name to n) (leg_name to l)) image (stand.files (leg_name to l))
            (false_from_ne_true _ (λ t. let e : n ≡ l = names_differ to n l ((bytes_eq-Decides (leg_name to n) (leg_name to l)).0 t) in omega (arith, e, below)))
            ∙ stand.each l below
        | inr past ↦ let last : n ≡ l = omega arith in
            here (bytes_eq (leg_name to n) (leg_name to l)) image (stand.files (leg_name to l))
            ((bytes_eq-Decides (leg_name to n) (leg_name to l)).1 (ap (leg_name to) last))
            ∙ ap (λ k. Some (second_image (read_at images k) (leg k))) last
      ];
    }

all_stand : (files : Files) (to : List ℕ) (images : List LegImage) (told : List (Option (List Sector))) (leg : ℕ → List Sector) (n : ℕ) (new : Option Files)
    → ((l : ℕ) → l < n → get_or told l None ≡ Some (leg l)) → AreStored to images told n (Some files) new → StandNew to images leg n new
all_stand files to images told leg zero new tells stored = record {
  files = files;
  told = stored;
  each = λ l lt. absurd (omega (arith, lt));
}
all_stand files to images told leg (suc n) new tells (mid, stored, puts) =
    one_more to images leg n mid new (all_stand files to images told leg n mid (λ l lt. tells l (omega (arith, lt))) stored)
    (subst (λ t. PutsNew mid (leg_name to n) (read_at images n) t new) (tells n (omega arith)) puts)

-- a leg that was opened has the sectors of its file
opened_leg : (files : Files) (name : List ℕ) (told : Option (List Sector)) (size : ℕ) → IsOpened files name told size → told ≡ Some (sectors_in (unwrap_or (files name) []))
opened_leg files name told size opened = opened.sectors ∙ ap (λ found. Some (sectors_in (unwrap_or found []))) (sym opened.there)

held : (files : Files) (to : List ℕ) (told : List (Option (List Sector))) (sizes : ℕ → ℕ) (n : ℕ) → n ≤ 8 → length told ≡ n
    → WereOpened (Some files) (leg_names to) told sizes → HoldFiles n files to (legs_of told)
held files to told sizes n few many opened l at lt =
    ap (λ t. get_or (sectors_of t) at zero_sector)
    (opened_leg files (file_of (leg_names to) l) (get_or told l None) (sizes l) (opened.each l (omega (arith, many, lt))))
    ∙ ap (λ name. get_or (sectors_in (unwrap_or (files name) [])) at zero_sector) (file_is to l (omega (arith, lt, few)))

-- where the shelf tells its files
stand_told : OpenAlike → (files : Files) (from to : List ℕ) (images : List LegImage) (told : List (Option (List Sector))) (new : Option Files)
    → (old : AreOld (Some files) from images told) → AreStored to images told (length images) (Some files) new → StandAlike old.opening (Some files) to new
stand_told law files from to images told new old stored tells again sizes many opened =
    let o : Origin = old.opening in
    let bytes : ℕ → List ℕ = λ l. unwrap_or (files (file_of (leg_names from) l)) [] in
    let in_told : (l : ℕ) → l < length images → l < length told = λ l lt. omega (arith, lt, old.opened.many.0) in
    let leg_is : (l : ℕ) → l < length images → get_or told l None ≡ Some (sectors_in (bytes l)) =
    λ l lt. opened_leg files (file_of (leg_names from) l) (get_or told l None) (bytes_at old.lengths l) (old.opened.opened.each l (in_told l lt)) in
    let within : (l : ℕ) → l < o.sizes.legs → l < length images = λ l lt. omega (arith, lt, old.all) in
    let stand = all_stand files to images told (λ l. sectors_in (bytes l)) (length images) new leg_is stored in
    let few : o.sizes.legs ≤ 8 = old.origin.sizes.legs.1 in
    law o images (legs_of told) stand.files to (legs_of again) (record {
      origin = old.origin;
      first = old.first;
      all = old.all;
      legs = old.opened.legs;
      bytes = bytes;
      size = bytes_at old.lengths;
      read = λ l lt. subst (λ t. ReadAs t (bytes_at old.lengths l) images l) (leg_is l (within l lt)) (old.opened.read.read l (within l lt));
      old_content = λ l at lt. ap (λ t. get_or (sectors_of t) at zero_sector) (leg_is l (within l lt));
      stored = λ l lt. stand.each l (within l lt);
    })
    (held stand.files to again sizes o.sizes.legs few many (subst (λ f. WereOpened f (leg_names to) again sizes) stand.told opened))
    (old.sound refl)

pub stand_alike : OpenAlike → (files : Option Files) (from to : List ℕ) (images : List LegImage) (told : List (Option (List Sector))) (new : Option Files)
    → (old : AreOld files from images told) → AreStored to images told (length images) files new → StandAlike old.opening files to new
stand_alike law (Some files) from to images told new old stored = stand_told law files from to images told new old stored
stand_alike law None from to images told new old stored = λ tells. absurd (cc tells)
