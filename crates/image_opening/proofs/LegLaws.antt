-- One leg: its file's length, and why it wasn't opened or read.
use Rattle.std.proofs.Common.{◌≡◌, ℕ, ◌+◌, ◌-◌, ◌*◌, ◌/◌, ◌^◌, ◌<◌, ◌≤◌, ◌==◌, min, nat_le, Bool, true, false, List, [], ◌∷◌, ◌++◌, length, get_or, map, Option, Some, None, Result, Err, refl, ap, sym, ◌∙◌, subst, arith}
use Rattle.std.specs.declared.alloc.AllocError.{AllocError}
use Rattle.std.specs.Prelude.{unwrap_or}
use Rattle.std.proofs.lemmas.Bool.Decides.{nat_tests}
use Rattle.std.proofs.lemmas.List.{length_push, get_or_push, length-map, map_push}
use Rattle.std.proofs.lemmas.List.FromFn.{length-map-range_with_len}
use Rattle.dlm_modes.specs.Guards.{unless, first_of, or_then}
use Rattle.mdc_types.specs.Faults.{HasCause, Rose}
use Rattle.mdc_types.specs.Geometry.{Sizes, data_offset_of, length_of}
use Rattle.mdc_types.specs.declared.numbers.Sector.{Sector}
use Rattle.md_superblock.specs.declared.superblock.Super.{Super}
use Rattle.leg_store.specs.Leg.{HasLength}
use Rattle.leg_shelf.specs.Images.{sector_at, sectors_in, whole_sectors}
use Rattle.leg_shelf.specs.Shelves.{Files}
use Rattle.image_faults.specs.Legs.{is_leg_failure}
use Rattle.image_faults.specs.Sizes.{size_fault, length_fault, file_size}
use Rattle.image_faults.specs.declared.faults.ImageError.{ImageError}
use Rattle.image_faults.specs.declared.faults.ImageError.TheVariants.{Image, Shelf, Device, Memory}
use Rattle.image_faults.specs.declared.faults.ImageFault.{ImageFault}
use Rattle.image_faults.specs.declared.faults.ImageFault.TheVariants.{Short, Long}
use Rattle.image_faults.specs.declared.legs.LegEnd.{LegEnd}
use Rattle.image_faults.specs.declared.legs.LegEnd.TheVariants as ends
use Rattle.image_faults.specs.declared.legs.LegImage.{LegImage}
use Rattle.image_files.specs.Names.{file_of}
use Rattle.image_files.specs.Ends.{HasFailed}
use Rattle.image_files.specs.Opened.{OpensFile, RefusesFile}
use Rattle.image_array.specs.Legs.{AreLegs, AddsLeg, ReadsNext, next_fault, sizes_at, super_at}
use Rattle.image_array.proofs.HeadLaws.{sizes_are}
use Rattle.image_opening.specs.Faults.{TellsNext, TellsFile, IsNextEnd, LegFailed, leg_error, file_fault}

-- The length of a leg.

both_none : (a b : Bool) → first_of (unless a Short ∷ unless b Long ∷ []) ≡ None → (a ≡ true) × (b ≡ true)
both_none true true e = (refl, refl)
both_none true false e = absurd (cc e)
both_none false b e = absurd (cc e)

is_most : (a b : ℕ) → nat_le a b ≡ true → a ≤ b
is_most a b is = grind (arith, nat_tests)

whole_bytes : (s : Super) (size : ℕ) → length_fault s size ≡ None → size ≡ file_size s
whole_bytes s size none =
    let both = both_none (nat_le (file_size s) size) (nat_le size (file_size s)) none in
    omega (arith, is_most (file_size s) size both.0, is_most size (file_size s) both.1)

offset_most : (second : Bool) → data_offset_of second ≤ 272
offset_most true = omega arith
offset_most false = omega arith

long_most : (images : List LegImage) (l : ℕ) → AreLegs images → l < length images → length_of (sizes_at images l) ≤ 131344
long_most images l legs lt =
    let e : length_of (sizes_at images l) ≡ data_offset_of ((super_at images l).version == 2) + (super_at images l).room =
    ap length_of (sizes_are images l legs lt) in
    omega (arith, e, offset_most ((super_at images l).version == 2), (legs.each l lt).superblock.room)

divided : (n k size : ℕ) → n ≡ min (size / 512) (2 ^ 32 - 1) → size ≡ 512 * k → k ≤ 131344 → n ≡ k
divided n k size is bytes most = omega arith

more_legs : (old new : List LegImage) → AddsLeg old new → length old < length new
more_legs old new (image, is) = omega (arith, ap length is, length_push old image)

-- a leg that was read has so many sectors as its superblock says
pub long_read : (old new : List LegImage) (size n : ℕ) → AddsLeg old new → AreLegs new → length_fault (super_at new (length old)) size ≡ None
    → n ≡ min (size / 512) (2 ^ 32 - 1) → n ≡ length_of (sizes_at new (length old))
long_read old new size n adds legs none is =
    let lt = more_legs old new adds in
    let bytes : size ≡ 512 * length_of (sizes_at new (length old)) =
    whole_bytes (super_at new (length old)) size none ∙ ap (λ (g : Sizes). 512 * length_of g) (sym (sizes_are new (length old) legs lt)) in
    divided n (length_of (sizes_at new (length old))) size is bytes (long_most new (length old) legs lt)

-- and its file has no other bytes
pub bytes_read : (old new : List LegImage) (size n : ℕ) → AddsLeg old new → AreLegs new → length_fault (super_at new (length old)) size ≡ None
    → n ≡ min (size / 512) (2 ^ 32 - 1) → size ≡ 512 * n
bytes_read old new size n adds legs none is =
    let lt = more_legs old new adds in
    whole_bytes (super_at new (length old)) size none ∙ ap (λ (g : Sizes). 512 * length_of g) (sym (sizes_are new (length old) legs lt))
    ∙ ap (λ k. 512 * k) (sym (long_read old new size n adds legs none is))

-- Why a leg wasn't read.

pub tells_next : (told : Option (List Sector)) (images : List LegImage) (size l : ℕ) (e : LegEnd) → ReadsNext told images size (Err e)
    → TellsNext told images size l (leg_error l e)
tells_next None images size l (ends.Fault f) reads = refl
tells_next None images size l ends.Failed reads = refl
tells_next None images size l (ends.Memory m) reads = tt
tells_next (Some leg) images size l (ends.Fault f) reads = (refl, λ long. reads)
tells_next (Some leg) images size l ends.Failed reads = refl
tells_next (Some leg) images size l (ends.Memory m) reads = tt

pub leg_failed : (before now l : ℕ) (r : Result (Unit {0}) LegEnd) (e : LegEnd) → r ≡ Err e → HasCause is_leg_failure before now r → LegFailed now (leg_error l e)
leg_failed before now l r (ends.Fault f) is cause = tt
leg_failed before now l r ends.Failed is cause = let rose : Rose before now = cause.failed ends.Failed is refl in omega (arith, rose)
leg_failed before now l r (ends.Memory m) is cause = tt

-- a leg that tells its file's sectors has so many
pub tells_size : (told : Option (List Sector)) (images : List LegImage) (size l n : ℕ) (f : ImageFault) (r : Option ImageFault)
    → HasLength told n → r ≡ Some f → (n ≡ min (size / 512) (2 ^ 32 - 1) → r ≡ None) → TellsNext told images size l (Image l f)
tells_size None images size l n f r long is none = refl
tells_size (Some leg) images size l n f r long is none = (refl, λ whole. let e : Some f ≡ None = sym is ∙ none (sym long ∙ whole) in absurd (cc e))

-- Why a file wasn't opened or read.

pub tells_refused : (files : Option Files) (names : List (List ℕ)) (images : List LegImage) (l : ℕ) (e : ImageError)
    → RefusesFile files (file_of names l) l e → TellsFile files names images l e
tells_refused None names images l (Image k f) refuses = refuses
tells_refused None names images l (Shelf k) refuses = refuses
tells_refused None names images l (Memory m) refuses = tt
tells_refused None names images l (Device k) refuses = absurd refuses
tells_refused (Some files) names images l (Image k f) refuses = (
  refuses.0,
  ap (λ r. or_then r (next_fault images (length (unwrap_or (files (file_of names l)) [])) (sectors_in (unwrap_or (files (file_of names l)) [])))) refuses.1,
)
tells_refused (Some files) names images l (Shelf k) refuses = refuses
tells_refused (Some files) names images l (Memory m) refuses = tt
tells_refused (Some files) names images l (Device k) refuses = absurd refuses

pub refused_failed : (files : Option Files) (name : List ℕ) (l : ℕ) (faults : List ℕ) (e : ImageError) → RefusesFile files name l e → HasFailed faults e
refused_failed None name l faults (Image k f) refuses = tt
refused_failed None name l faults (Shelf k) refuses = tt
refused_failed None name l faults (Memory m) refuses = tt
refused_failed None name l faults (Device k) refuses = absurd refuses
refused_failed (Some files) name l faults (Image k f) refuses = tt
refused_failed (Some files) name l faults (Shelf k) refuses = tt
refused_failed (Some files) name l faults (Memory m) refuses = tt
refused_failed (Some files) name l faults (Device k) refuses = absurd refuses

whole : (bytes : List ℕ) → length (sectors_in bytes) ≡ min (length bytes / 512) (2 ^ 32 - 1)
whole bytes = length-map-range_with_len (sector_at bytes) 0 (whole_sectors (length bytes))

large : (size : ℕ) → 40960 ≤ size → size_fault (Some size) ≡ None
large size le = let e : nat_le 40960 size ≡ true = grind (arith, nat_tests) in ap (λ b. unless b Short) e

told_fault : (files : Files) (names : List (List ℕ)) (images : List LegImage) (l size : ℕ) (bytes : List ℕ) (f : ImageFault)
    → files (file_of names l) ≡ Some bytes → size ≡ length bytes → 40960 ≤ size
    → next_fault images size (sectors_in bytes) ≡ Some f → file_fault images (files (file_of names l)) ≡ Some f
told_fault files names images l size bytes f there many least is =
    ap (file_fault images) there
    ∙ ap (λ r. or_then r (next_fault images (length bytes) (sectors_in bytes))) (large (length bytes) (subst (λ n. 40960 ≤ n) many least))
    ∙ ap (λ n. next_fault images n (sectors_in bytes)) (sym many) ∙ is

told_file : (files : Files) (names : List (List ℕ)) (images : List LegImage) (l size : ℕ) (bytes : List ℕ) (e : ImageError)
    → files (file_of names l) ≡ Some bytes → size ≡ length bytes → 40960 ≤ size
    → TellsNext (Some (sectors_in bytes)) images size l e → TellsFile (Some files) names images l e
told_file files names images l size bytes (Image k f) there many least told =
    (told.0, told_fault files names images l size bytes f there many least (told.1 (whole bytes ∙ ap (λ n. min (n / 512) (2 ^ 32 - 1)) (sym many))))
told_file files names images l size bytes (Shelf k) there many least told = absurd told
told_file files names images l size bytes (Device k) there many least told = told
told_file files names images l size bytes (Memory m) there many least told = tt

untold_file : (told : Option (List Sector)) (names : List (List ℕ)) (images : List LegImage) (l size : ℕ) (e : ImageError)
    → TellsNext told images size l e → TellsFile None names images l e
untold_file None names images l size (Image k f) tells = tells
untold_file None names images l size (Shelf k) tells = absurd tells
untold_file None names images l size (Device k) tells = tells
untold_file None names images l size (Memory m) tells = tt
untold_file (Some leg) names images l size (Image k f) tells = tells.0
untold_file (Some leg) names images l size (Shelf k) tells = absurd tells
untold_file (Some leg) names images l size (Device k) tells = tells
untold_file (Some leg) names images l size (Memory m) tells = tt

-- what is told of a leg that was opened is told of its file
pub tells_opened : (files : Option Files) (names : List (List ℕ)) (images : List LegImage) (l size : ℕ) (told : Option (List Sector)) (e : ImageError)
    → OpensFile files (file_of names l) told size → 40960 ≤ size → TellsNext told images size l e → TellsFile files names images l e
tells_opened None names images l size told e opens least tells = untold_file told names images l size e tells
tells_opened (Some files) names images l size told e opens least tells =
    told_file files names images l size opens.bytes e opens.there opens.many least (subst (λ t. TellsNext t images size l e) opens.sectors tells)

failed_at : (faults : List ℕ) (n k l : ℕ) → length faults ≡ l → k ≡ l → 0 < n → 0 < get_or (faults ++ n ∷ []) k 0
failed_at faults n k l many is some =
    let e : get_or (faults ++ n ∷ []) k 0 ≡ n = get_or_push faults n 0 k (many ∙ sym is) in omega (arith, e, some)

-- the last leg has failed where it is told
pub last_failed : (told : Option (List Sector)) (images : List LegImage) (size l : ℕ) (faults : List ℕ) (n : ℕ) (e : ImageError)
    → length faults ≡ l → TellsNext told images size l e → LegFailed n e → HasFailed (faults ++ n ∷ []) e
last_failed None images size l faults n (Image k f) many tells failed = tt
last_failed None images size l faults n (Shelf k) many tells failed = tt
last_failed None images size l faults n (Device k) many tells failed = failed_at faults n k l many tells failed
last_failed None images size l faults n (Memory m) many tells failed = tt
last_failed (Some leg) images size l faults n (Image k f) many tells failed = tt
last_failed (Some leg) images size l faults n (Shelf k) many tells failed = tt
last_failed (Some leg) images size l faults n (Device k) many tells failed = failed_at faults n k l many tells failed
last_failed (Some leg) images size l faults n (Memory m) many tells failed = tt

-- there was no memory for it
pub next_no_memory : (files : Option Files) (names : List (List ℕ)) (images : List LegImage) (l : ℕ) (faults : List ℕ) (m : AllocError) → IsNextEnd files names images l faults (Memory m)
next_no_memory None names images l faults m = record { told = tt; failed = tt }
next_no_memory (Some files) names images l faults m = record { told = tt; failed = tt }

-- its file wasn't opened
pub next_refused : (files : Option Files) (names : List (List ℕ)) (images : List LegImage) (l : ℕ) (faults : List ℕ) (e : ImageError)
    → RefusesFile files (file_of names l) l e → IsNextEnd files names images l faults e
next_refused files names images l faults e refuses = record {
  told = tells_refused files names images l e refuses;
  failed = refused_failed files (file_of names l) l faults e refuses;
}

-- it was opened, and not read
pub next_unread : {L : Type 0} (count : L → ℕ) (files : Option Files) (names : List (List ℕ)) (images : List LegImage) (l size : ℕ) (told : Option (List Sector)) (legs new : List L) (leg : L)
    (e : ImageError) → length legs ≡ l → new ≡ legs ++ leg ∷ [] → OpensFile files (file_of names l) told size → 40960 ≤ size → TellsNext told images size l e → LegFailed (count leg) e
    → IsNextEnd files names images l (map count new) e
next_unread count files names images l size told legs new leg e many is opens least tells failed = record {
  told = tells_opened files names images l size told e opens least tells;
  failed = subst (λ fs. HasFailed fs e) (sym (ap (map count) is ∙ map_push count legs leg))
      (last_failed told images size l (map count legs) (count leg) e (length-map legs count ∙ many) tells failed);
}
