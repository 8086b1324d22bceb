-- Legs that were opened, whose new images were stored, and that were given back.
use Rattle.std.proofs.Common.{◌≡◌, ◌≢◌, ℕ, ◌<◌, ◌≤◌, List, length, Option, Result, Ok, Err, true, false, refl, sym, ap, ◌∙◌, subst, arith, inl, inr}
use Rattle.mdc_types.specs.Faults.{HasCause, Rose}
use Rattle.mdc_types.specs.declared.numbers.Sector.{Sector}
use Rattle.leg_shelf.specs.Shelves.{Files}
use Rattle.cluster_model.specs.Opening.{Origin, IsOrigin}
use Rattle.cluster_model.specs.Contents.{HasImages}
use Rattle.world_state.specs.Told.{legs_of}
use Rattle.image_faults.specs.declared.faults.ImageError.{ImageError}
use Rattle.image_faults.specs.declared.faults.ImageError.TheVariants as errors
use Rattle.image_faults.specs.declared.legs.LegImage.{LegImage}
use Rattle.image_files.specs.Closed.{Closes, NeverFalls, OnlyTheseChange, counted_all}
use Rattle.image_files.specs.Closed as closed
use Rattle.image_files.specs.Names.{leg_names}
use Rattle.image_files.proofs.Backs.{as_they_were}
use Rattle.image_files.proofs.GivenBack.{closes_changes, changes_all, counted_falls_not}
use Rattle.image_array.specs.Legs.{AreLegs}
use Rattle.image_opening.specs.Faults.{TellsFault}
use Rattle.image_opening.specs.Opened.{AreOpened, TellsFiles, bytes_at}
use Rattle.image_opening.specs.declared.versions.Versions.TheVariants.{First}
use Rattle.image_second.specs.Second.{IsReadable}
use Rattle.image_texts.specs.Lines.{upgraded_text}
use Rattle.image_ends.specs.Seen.{ShelfSeen}
use Rattle.image_upgrade.proofs.StoreLaws.{stored_still, stored_all}
use Rattle.second_opening.proofs.Stored.{files_open_alike}
use Rattle.image_upgrade.proofs.StandLaws.{stand_alike}
use Rattle.image_upgrade.specs.Ends.{IsNewEnd, IsOfLeg, is_shelf_fault}
use Rattle.image_upgrade.specs.Stored.{AreReadable, AreStored, StoredBelow, StoredSome, read_at}
use Rattle.image_upgrade.specs.Upgrading.{AreOld, AreUpgraded, OthersStand, UpgradeErrs}
use Rattle.image_upgrade.specs.declared.ends.UpgradeError.{UpgradeError}
use Rattle.image_upgrade.specs.declared.ends.UpgradeError.TheVariants.{Old, New}

-- Opened legs.

readable : (images : List LegImage) (l : ℕ) → AreLegs images → l < length images → IsReadable (read_at images l)
readable images l legs lt = let leg = legs.each l lt in record { superblock = leg.superblock; sets = leg.sets }

-- of each leg that was opened a new image can be made
pub all_readable : (files : Option Files) (names : List (List ℕ)) (images : List LegImage) (told : List (Option (List Sector))) (lengths : List ℕ)
    → AreOpened files names images told lengths → AreReadable images lengths
all_readable files names images told lengths opened = record {
  each = λ l lt. readable images l opened.legs lt;
  long = opened.read.long;
}

-- there are eight at most
pub few_images : (files : Option Files) (from : List ℕ) (images : List LegImage) (told : List (Option (List Sector)))
    → AreOld files from images told → length images ≤ 8
few_images files from images told old = let a = old.origin.sizes.legs.1 in let b = old.all in omega (arith, a, b)

few_told : (files : Option Files) (from : List ℕ) (images : List LegImage) (told : List (Option (List Sector)))
    → AreOld files from images told → length told ≤ 8
few_told files from images told old = let a = few_images files from images told old in let b = old.opened.many.0 in omega (arith, a, b)

-- All was stored.

-- given back, the old legs are as they were
pub upgraded_is : (h : ShelfSeen) (from to text : List ℕ) (images : List LegImage) (told : List (Option (List Sector))) (mid : Option Files)
    → from ≢ to → AreOld h.files from images told → AreStored to images told (length images) h.files mid
    → Closes (leg_names from) told (length told) mid (Ok tt) h.files_after → text ≡ upgraded_text to (length images)
    → AreUpgraded h from to text
upgraded_is h from to text images told mid apart old stored closes is =
    let still = stored_still h.files from to images (length images) mid told (bytes_at old.lengths) apart (few_told h.files from images told old) stored old.opened.opened in
    let same : h.files_after ≡ mid = as_they_were mid h.files_after (leg_names from) told (bytes_at old.lengths) still closes in
    let stand : AreStored to images told (length images) h.files h.files_after = subst (AreStored to images told (length images) h.files) (sym same) stored in
    (images, (told, (old, stand, stand_alike files_open_alike h.files from to images told h.files_after old stand, is)))

-- Errors.

pub of_leg : (e : UpgradeError) → IsNewEnd e → IsOfLeg e
of_leg (Old (errors.Device l)) is = is
of_leg (Old (errors.Memory e)) is = tt
of_leg (Old (errors.Image l f)) is = absurd is
of_leg (Old (errors.Shelf l)) is = absurd is
of_leg (New l) is = is

-- why the images weren't opened
pub open_errs : (h : ShelfSeen) (from to : List ℕ) (e : ImageError) → TellsFault h.files (leg_names from) First e → OthersStand h from
    → ((l : ℕ) → e ≡ errors.Device l → Rose h.leg_faults h.leg_faults_after)
    → (closed.is_shelf_fault e ≡ true → Rose h.faults h.faults_after) → UpgradeErrs h from to (Old e)
open_errs h from to (errors.Image l f) fault others device shelf = (fault, others)
open_errs h from to (errors.Shelf l) fault others device shelf = (shelf refl, inl others)
open_errs h from to (errors.Device l) fault others device shelf = (device l refl, inl others)
open_errs h from to (errors.Memory e) fault others device shelf = inl others

-- why the new images weren't stored: not by the shelf
pub old_errs : (T : Type 0) (h : ShelfSeen) (from to : List ℕ) (images : List LegImage) (told : List (Option (List Sector))) (mid : Option Files) (e : ImageError)
    → AreOld h.files from images told → StoredSome {T = T} to images told h.files (Err (Old e)) mid
    → OnlyTheseChange (leg_names from) 0 8 mid h.files_after → IsNewEnd (Old e)
    → ((l : ℕ) → e ≡ errors.Device l → Rose h.leg_faults h.leg_faults_after) → UpgradeErrs h from to (Old e)
old_errs T h from to images told mid (errors.Device l) old (n, stored) others is device =
    (device l refl, inr (n, (images, (told, (mid, (old, stored, others))))))
old_errs T h from to images told mid (errors.Memory e) old (n, stored) others is device =
    inr (n, (images, (told, (mid, (old, stored, others)))))
old_errs T h from to images told mid (errors.Image l f) old stored others is device = absurd is
old_errs T h from to images told mid (errors.Shelf l) old stored others is device = absurd is

-- by the shelf
pub new_errs : (h : ShelfSeen) (from to : List ℕ) (images : List LegImage) (told : List (Option (List Sector))) (mid : Option Files) (l : ℕ)
    (r : Result (Unit {0}) ImageError)
    → AreOld h.files from images told → StoredBelow to images told l h.files mid
    → Closes (leg_names from) told (length told) mid r h.files_after → Rose h.faults h.faults_after → UpgradeErrs h from to (New l)
new_errs h from to images told mid l r old stored closes rose =
    let few = few_told h.files from images told old in (
      rose,
      (images, (told, (mid, (old, stored, changes_all (leg_names from) (length told) mid h.files_after few (closes_changes (leg_names from) told (length told) mid r h.files_after closes))))),
    )

-- why the old legs weren't given back once all was stored
pub close_errs : (h : ShelfSeen) (from to : List ℕ) (images : List LegImage) (told : List (Option (List Sector))) (mid : Option Files) (e : ImageError)
    → AreOld h.files from images told → AreStored to images told (length images) h.files mid
    → Closes (leg_names from) told (length told) mid (Err e) h.files_after
    → (closed.is_shelf_fault e ≡ true → Rose h.faults h.faults_after) → UpgradeErrs h from to (Old e)
close_errs h from to images told mid (errors.Shelf l) old stored closes shelf =
    let few = few_told h.files from images told old in
    let n = length told in (
      shelf refl,
      inr (length images, (images, (told, (mid, (old, stored_all to images told h.files mid stored, changes_all (leg_names from) n mid h.files_after few (closes_changes (leg_names from) told n mid (Err (errors.Shelf l)) h.files_after closes)))))),
    )
close_errs h from to images told mid (errors.Memory e) old stored closes shelf =
    let few = few_told h.files from images told old in
    let n = length told in
    inr (length images, (images, (told, (mid, (old, stored_all to images told h.files mid stored, changes_all (leg_names from) n mid h.files_after few (closes_changes (leg_names from) told n mid (Err (errors.Memory e)) h.files_after closes))))))
close_errs h from to images told mid (errors.Image l f) old stored closes shelf = absurd closes
close_errs h from to images told mid (errors.Device l) old stored closes shelf = absurd closes

pub are_old : (files : Option Files) (from : List ℕ) (o : Origin) (images : List LegImage) (told : List (Option (List Sector))) (lengths : List ℕ)
    → IsOrigin o → o.sizes.second ≡ false → length images ≡ o.sizes.legs → AreOpened files (leg_names from) images told lengths
    → (TellsFiles files → HasImages o (legs_of told)) → AreOld files from images told
are_old files from o images told lengths origin first all opened sound = record {
  opening = o;
  origin = origin;
  first = first;
  all = all;
  lengths = lengths;
  opened = opened;
  sound = sound;
}

-- legs that were closed, by what they told when they were opened
pub closes_as : (names other : List (List ℕ)) (given told : List (Option (List Sector))) (n : ℕ) (old : Option Files) (r : Result (Unit {0}) ImageError) (new : Option Files)
    → names ≡ other → given ≡ told → length given ≡ n → Closes names given n old r new → Closes other told (length told) old r new
closes_as names other given told n old r new same is long closes =
    subst (λ ns. Closes ns told (length told) old r new) same
    (subst (λ t. Closes names t (length t) old r new) is
    (subst (λ k. Closes names given k old r new) (sym long) closes))

-- the count of the legs' faults never falls
pub counts_on : (before mid now : ℕ) (faults : List ℕ) → mid ≡ before → now ≡ counted_all mid faults → NeverFalls before now
counts_on before mid now faults same is = subst (NeverFalls before) (sym (is ∙ ap (λ k. counted_all k faults) same)) (counted_falls_not before faults)

pub rose_later : (before mid now : ℕ) → before ≤ mid → Rose mid now → Rose before now
rose_later before mid now le r = omega (arith, r)

-- What the ends of the calls say of the error.

pub old_ends : (T : Type 0) (h : ShelfSeen) (from to : List ℕ) (images seen : List LegImage) (told given : List (Option (List Sector))) (opened mid : Option Files)
    (x : UpgradeError) (e end : ImageError)
    → AreOld h.files from images told → seen ≡ images → given ≡ told → opened ≡ h.files → x ≡ Old end → e ≡ end
    → StoredSome {T = T} to seen given opened (Err x) mid → OnlyTheseChange (leg_names from) 0 8 mid h.files_after → IsNewEnd x
    → ((l : ℕ) → end ≡ errors.Device l → Rose h.leg_faults h.leg_faults_after) → UpgradeErrs h from to (Old e)
old_ends T h from to images seen told given opened mid x e end old same_images same_told same is same_end some others new device =
    subst (λ y. UpgradeErrs h from to (Old y)) (sym same_end)
    (old_errs T h from to images told mid end old
    (subst (λ y. StoredSome {T = T} to images told h.files (Err y) mid) is
    (subst (λ f. StoredSome {T = T} to images told f (Err x) mid) same
    (subst (λ xs. StoredSome {T = T} to xs told opened (Err x) mid) same_images
    (subst (λ ts. StoredSome {T = T} to seen ts opened (Err x) mid) same_told some))))
    others (subst IsNewEnd is new) device)

pub new_ends : (T : Type 0) (h : ShelfSeen) (from to : List ℕ) (images seen : List LegImage) (told given : List (Option (List Sector))) (opened mid : Option Files)
    (x : UpgradeError) (l : ℕ) (r : Result (Unit {0}) ImageError)
    → AreOld h.files from images told → seen ≡ images → given ≡ told → opened ≡ h.files → x ≡ New l
    → StoredSome {T = T} to seen given opened (Err x) mid → Closes (leg_names from) told (length told) mid r h.files_after
    → Rose h.faults h.faults_after → UpgradeErrs h from to (New l)
new_ends T h from to images seen told given opened mid x l r old same_images same_told same is some closes rose =
    new_errs h from to images told mid l r old
    (subst (λ y. StoredSome {T = T} to images told h.files (Err y) mid) is
    (subst (λ f. StoredSome {T = T} to images told f (Err x) mid) same
    (subst (λ xs. StoredSome {T = T} to xs told opened (Err x) mid) same_images
    (subst (λ ts. StoredSome {T = T} to seen ts opened (Err x) mid) same_told some))))
    closes rose

-- the shelf failed as an image was stored, after the legs were opened and before they were given back
pub rose_between : {T : Type 0} (before opened stored now : ℕ) (x : UpgradeError) (l : ℕ) → x ≡ New l → before ≤ opened
    → HasCause {T = T} is_shelf_fault opened stored (Err x) → stored ≤ now → Rose before now
rose_between before opened stored now x l is le cause later =
    let r : Rose opened stored = cause.failed x refl (ap is_shelf_fault is) in omega (arith, r, le, later)
