-- A leg more that was opened and read.
use Rattle.std.proofs.Common.{◌≡◌, ℕ, ◌+◌, ◌*◌, ◌<◌, ◌==◌, Bool, true, false, List, [], ◌∷◌, ◌++◌, length, get_or, map, Option, Some, None, Result, Ok, Err, refl, ap, sym, ◌∙◌, subst, arith, inl, inr}
use Rattle.std.specs.Prelude.{not, IfErr, IsErrAnd, OnOk}
use Rattle.std.proofs.lemmas.Bool.{cases_lt}
use Rattle.std.proofs.lemmas.List.{length_push, length-map, get_or_push, get_or_append_left, map_push}
use Rattle.dlm_modes.specs.Guards.{unless}
use Rattle.mdc_types.specs.Geometry.{length_of}
use Rattle.mdc_types.specs.declared.numbers.Sector.{Sector}
use Rattle.md_superblock.specs.declared.superblock.Super.{Super}
use Rattle.leg_shelf.specs.Shelves.{Files}
use Rattle.image_faults.specs.declared.faults.ImageError.{ImageError}
use Rattle.image_faults.specs.declared.faults.ImageError.TheVariants.{Image, Shelf, Device, Memory}
use Rattle.image_faults.specs.declared.faults.ImageFault.{ImageFault}
use Rattle.image_faults.specs.declared.faults.ImageFault.TheVariants.{Upgraded}
use Rattle.image_faults.specs.declared.legs.LegImage.{LegImage}
use Rattle.image_files.specs.Names.{file_of}
use Rattle.image_files.specs.Ends.{IsOfLeg}
use Rattle.image_files.specs.Opened.{OpensFile}
use Rattle.image_array.specs.Legs.{AreLegs, AddsLeg, ReadAs, sizes_at, super_at, no_sizes}
use Rattle.image_array.proofs.NextLegs.{read_kept}
use Rattle.image_opening.specs.Opened.{AreOpened, bytes_at}
use Rattle.image_opening.specs.Faults.{HasNext, IsNextEnd, IsOpenEnd, TellsFault, TellsFile, file_fault, version_fault}
use Rattle.image_opening.specs.declared.versions.Versions.{Versions}
use Rattle.image_opening.specs.declared.versions.Versions.TheVariants.{Any, First}

-- none yet
pub opened_none : (files : Option Files) (names : List (List ℕ)) (images : List LegImage) (told : List (Option (List Sector))) (lengths : List ℕ)
    → images ≡ [] → told ≡ [] → lengths ≡ [] → AreOpened files names images told lengths
opened_none files names images told lengths e f h =
    let i : length images ≡ 0 = ap length e in
    let t : length told ≡ 0 = ap length f in
    let s : length lengths ≡ 0 = ap length h in
    record {
      legs = record { each = λ l lt. absurd (omega (arith, lt, i)) };
      many = (t ∙ sym i, s ∙ sym i);
      opened = record { each = λ l lt. absurd (omega (arith, lt, t)) };
      read = record { read = λ l lt. absurd (omega (arith, lt, i)); long = λ l lt. absurd (omega (arith, lt, i)) };
    }

-- what stood at a place stays there
pub field_kept : {A : Type 0} (f : LegImage → A) (old new : List LegImage) (d : A) (l : ℕ) → AddsLeg old new → l < length old
    → get_or (map f new) l d ≡ get_or (map f old) l d
field_kept f old new d l (image, is) lt =
    ap (λ xs. get_or (map f xs) l d) is ∙ ap (λ xs. get_or xs l d) (map_push f old image)
    ∙ get_or_append_left (map f old) (f image ∷ []) d l (let e = length-map old f in omega (arith, e, lt))

pub one_more : (old new : List LegImage) → AddsLeg old new → length new ≡ length old + 1
one_more old new (image, is) = ap length is ∙ length_push old image

read_later : (t : Option (List Sector)) (size : ℕ) (old new : List LegImage) (l : ℕ) → AddsLeg old new → l < length old → ReadAs t size old l → ReadAs t size new l
read_later t size old new l (image, is) lt was = read_kept t size old new image l is lt was

-- a leg more
pub opened_more : (files : Option Files) (names : List (List ℕ)) (old new : List LegImage) (told : List (Option (List Sector))) (lengths : List ℕ)
    (t : Option (List Sector)) (n size : ℕ) → AreOpened files names old told lengths → AddsLeg old new → AreLegs new
    → OpensFile files (file_of names (length old)) t size → size ≡ 512 * n → n ≡ length_of (sizes_at new (length old))
    → ReadAs t size new (length old) → AreOpened files names new (told ++ t ∷ []) (lengths ++ n ∷ [])
opened_more files names old new told lengths t n size was adds legs opens bytes long read =
    let count = one_more old new adds in
    let told_here : (l : ℕ) → length old ≡ l → t ≡ get_or (told ++ t ∷ []) l None = λ l e. sym (get_or_push told t None l (was.many.0 ∙ e)) in
    let long_here : (l : ℕ) → length old ≡ l → n ≡ get_or (lengths ++ n ∷ []) l 0 = λ l e. sym (get_or_push lengths n 0 l (was.many.1 ∙ e)) in
    let told_left : (l : ℕ) → l < length old → get_or told l None ≡ get_or (told ++ t ∷ []) l None =
    λ l lt. sym (get_or_append_left told (t ∷ []) None l (let e = was.many.0 in omega (arith, e, lt))) in
    let long_left : (l : ℕ) → l < length old → get_or lengths l 0 ≡ get_or (lengths ++ n ∷ []) l 0 =
    λ l lt. sym (get_or_append_left lengths (n ∷ []) 0 l (let e = was.many.1 in omega (arith, e, lt))) in
    record {
      legs = legs;
      many = (length_push told t ∙ ap (λ k. k + 1) was.many.0 ∙ sym count, length_push lengths n ∙ ap (λ k. k + 1) was.many.1 ∙ sym count);
      opened = record {
        each = λ l lt. elim (cases_lt l (length old)) [
          | inl below ↦
              subst (λ k. OpensFile files (file_of names l) (get_or (told ++ t ∷ []) l None) (512 * k)) (long_left l below)
              (subst (λ u. OpensFile files (file_of names l) u (bytes_at lengths l)) (told_left l below)
              (was.opened.each l (let e = was.many.0 in omega (arith, e, below))))
          | inr past ↦
              let here : length old ≡ l = let e = was.many.0 in let f = length_push told t in omega (arith, e, f, lt, past) in
              subst (λ k. OpensFile files (file_of names l) (get_or (told ++ t ∷ []) l None) (512 * k)) (long_here l here)
              (subst (λ u. OpensFile files (file_of names l) u (512 * n)) (told_here l here)
              (subst (λ k. OpensFile files (file_of names k) t (512 * n)) here
              (subst (OpensFile files (file_of names (length old)) t) bytes opens)))
        ];
      };
      read = record {
        read = λ l lt. elim (cases_lt l (length old)) [
          | inl below ↦
              subst (λ k. ReadAs (get_or (told ++ t ∷ []) l None) (512 * k) new l) (long_left l below)
              (subst (λ u. ReadAs u (bytes_at lengths l) new l) (told_left l below)
              (read_later (get_or told l None) (bytes_at lengths l) old new l adds below (was.read.read l below)))
          | inr past ↦
              let here : length old ≡ l = omega (arith, count, lt, past) in
              subst (λ k. ReadAs (get_or (told ++ t ∷ []) l None) (512 * k) new l) (long_here l here)
              (subst (λ u. ReadAs u (512 * n) new l) (told_here l here)
              (subst (λ k. ReadAs t (512 * n) new k) here
              (subst (λ k. ReadAs t k new (length old)) bytes read)))
        ];
        long = λ l lt. elim (cases_lt l (length old)) [
          | inl below ↦ sym (long_left l below) ∙ was.read.long l below ∙ ap length_of (sym (field_kept (λ image. image.geometry) old new no_sizes l adds below))
          | inr past ↦
              let here : length old ≡ l = omega (arith, count, lt, past) in
              sym (long_here l here) ∙ long ∙ ap (λ k. length_of (sizes_at new k)) here
        ];
      };
    }

-- the same of legs
pub opened_push : {L : Type 0} (contents : L → Option (List Sector)) (size : L → ℕ) (files : Option Files) (names : List (List ℕ)) (images : List LegImage) (legs : List L) (leg : L)
    → AreOpened files names images (map contents legs ++ contents leg ∷ []) (map size legs ++ size leg ∷ [])
    → AreOpened files names images (map contents (legs ++ leg ∷ [])) (map size (legs ++ leg ∷ []))
opened_push contents size files names images legs leg opened =
    subst (AreOpened files names images (map contents (legs ++ leg ∷ []))) (sym (map_push size legs leg))
    (subst (λ told. AreOpened files names images told (map size legs ++ size leg ∷ [])) (sym (map_push contents legs leg)) opened)

-- Ends.

of_leg : (l k : ℕ) → l < 8 → k ≡ l → k < 8
of_leg l k lt is = omega (arith, lt, is)

leg_of : (files : Option Files) (names : List (List ℕ)) (images : List LegImage) (l : ℕ) (e : ImageError) → l < 8 → TellsFile files names images l e → IsOfLeg e
leg_of None names images l (Image k f) lt tells = of_leg l k lt tells
leg_of None names images l (Shelf k) lt tells = of_leg l k lt tells
leg_of None names images l (Device k) lt tells = of_leg l k lt tells
leg_of None names images l (Memory m) lt tells = tt
leg_of (Some files) names images l (Image k f) lt tells = of_leg l k lt tells.0
leg_of (Some files) names images l (Shelf k) lt tells = of_leg l k lt tells
leg_of (Some files) names images l (Device k) lt tells = of_leg l k lt tells
leg_of (Some files) names images l (Memory m) lt tells = tt

fault_of : (files : Option Files) (names : List (List ℕ)) (versions : Versions) (images : List LegImage) (told : List (Option (List Sector))) (lengths : List ℕ) (l : ℕ) (e : ImageError)
    → AreOpened files names images told lengths → length images ≡ l → HasNext versions images → TellsFile files names images l e → TellsFault files names versions e
fault_of None names versions images told lengths l e opened many next tells = tt
fault_of (Some files) names versions images told lengths l (Image k f) opened many next tells = inl (record {
  images = images;
  told = told;
  lengths = lengths;
  opened = opened;
  before = many ∙ sym tells.0;
  has_next = next;
  fault = subst (λ j. file_fault images (files (file_of names j)) ≡ Some f) (sym tells.0) tells.1;
})
fault_of (Some files) names versions images told lengths l (Shelf k) opened many next tells = tt
fault_of (Some files) names versions images told lengths l (Device k) opened many next tells = tt
fault_of (Some files) names versions images told lengths l (Memory m) opened many next tells = tt

-- why the next leg wasn't opened or read is why all weren't
pub open_end : (files : Option Files) (names : List (List ℕ)) (versions : Versions) (images : List LegImage) (told : List (Option (List Sector))) (lengths : List ℕ) (l : ℕ)
    (faults : List ℕ) (e : ImageError) → AreOpened files names images told lengths → length images ≡ l → HasNext versions images → l < 8
    → IsNextEnd files names images l faults e → IsOpenEnd files names versions faults e
open_end files names versions images told lengths l faults e opened many next lt end = record {
  leg = leg_of files names images l e lt end.told;
  failed = end.failed;
  fault = fault_of files names versions images told lengths l e opened many next end.told;
}

pub next_none : (versions : Versions) (images : List LegImage) → length images ≡ 0 → HasNext versions images
next_none versions images none = record { within = λ some. absurd (omega (arith, some, none)); taken = λ some. absurd (omega (arith, some, none)) }

version_told : (files : Option Files) (names : List (List ℕ)) (versions : Versions) (images : List LegImage) (told : List (Option (List Sector))) (lengths : List ℕ) (f : ImageFault)
    → AreOpened files names images told lengths → length images ≡ 1 → version_fault versions (super_at images 0) ≡ Some f → TellsFault files names versions (Image 0 f)
version_told None names versions images told lengths f opened one is = tt
version_told (Some files) names versions images told lengths f opened one is = inr (inl (record {
  images = images;
  told = told;
  lengths = lengths;
  opened = opened;
  one = one;
  first = refl;
  fault = is;
}))

-- the version of leg 0 isn't taken
pub version_end : (files : Option Files) (names : List (List ℕ)) (versions : Versions) (images : List LegImage) (told : List (Option (List Sector))) (lengths faults : List ℕ) (f : ImageFault)
    → AreOpened files names images told lengths → length images ≡ 1 → version_fault versions (super_at images 0) ≡ Some f → IsOpenEnd files names versions faults (Image 0 f)
version_end files names versions images told lengths faults f opened one is = record {
  leg = omega arith;
  failed = tt;
  fault = version_told files names versions images told lengths f opened one is;
}

-- only version 1 is taken
pub first_version : (versions : Versions) (s : Super) → version_fault versions s ≡ None → versions ≡ First → (s.version == 2) ≡ false
first_version Any s none is = absurd (cc is)
first_version First s none is = not_second (s.version == 2) none where
  not_second : (b : Bool) → unless (not b) Upgraded ≡ None → b ≡ false
  not_second true e = absurd (cc e)
  not_second false e = refl

-- the next leg of several was opened and read
pub opened_legs : {L : Type 0} (contents : L → Option (List Sector)) (sectors : L → ℕ) (files : Option Files) (names : List (List ℕ)) (old new : List LegImage) (legs pushed : List L) (before leg : L)
    (l size : ℕ) → AreOpened files names old (map contents legs) (map sectors legs) → length old ≡ l → pushed ≡ legs ++ leg ∷ [] → contents leg ≡ contents before → sectors leg ≡ sectors before
    → OpensFile files (file_of names l) (contents before) size → AddsLeg old new → ReadAs (contents before) size new (length old) → size ≡ 512 * sectors before
    → sectors before ≡ length_of (sizes_at new (length old)) → AreLegs new
    → AreOpened files names new (map contents pushed) (map sectors pushed)
opened_legs contents sectors files names old new legs pushed before leg l size was number is same long opens adds read bytes fits all =
    let here : OpensFile files (file_of names (length old)) (contents before) size = subst (λ k. OpensFile files (file_of names k) (contents before) size) (sym number) opens in
    let more = opened_more files names old new (map contents legs) (map sectors legs) (contents before) (sectors before) size was adds all here bytes fits read in
    let mine : AreOpened files names new (map contents legs ++ contents leg ∷ []) (map sectors legs ++ sectors leg ∷ []) =
    subst (λ n. AreOpened files names new (map contents legs ++ contents leg ∷ []) (map sectors legs ++ n ∷ [])) (sym long)
    (subst (λ t. AreOpened files names new (map contents legs ++ t ∷ []) (map sectors legs ++ sectors before ∷ [])) (sym same) more) in
    subst (λ xs. AreOpened files names new (map contents xs) (map sectors xs)) (sym is) (opened_push contents sectors files names new legs leg mine)

-- what follows where five facts hold on Ok
pub all_ok : {T E A B C D F G : Type 0} (r : Result T E) → OnOk r A → OnOk r B → OnOk r C → OnOk r D → OnOk r F → (A → B → C → D → F → G) → OnOk r G
all_ok (Ok v) a b c d f follows = follows a b c d f
all_ok (Err e) a b c d f follows = tt

pub both_err : {T E : Type 0} {A B C : E → Type 0} (r : Result T E) → IfErr r A → IfErr r B → ((e : E) → A e → B e → C e) → IfErr r C
both_err (Ok v) a b follows = tt
both_err (Err e) a b follows = follows e a b

pub each_err : {T E : Type 0} {A C : E → Type 0} (r : Result T E) → IfErr r A → ((e : E) → A e → C e) → IfErr r C
each_err (Ok v) a follows = tt
each_err (Err e) a follows = follows e a

-- an error that is handed on
pub handed_on : {T E : Type 0} (C : E → Type 0) (r : Result T E) (e : E) → IsErrAnd r (λ x. x ≡ e) → C e → IfErr r C
handed_on C (Ok v) e is c = absurd is
handed_on C (Err x) e is c = subst C (sym is) c

-- there is a leg more
pub has_next : (versions : Versions) (images first : List LegImage) (l end : ℕ) → length images ≡ l → super_at images 0 ≡ super_at first 0 → end ≡ (super_at first 0).geometry_legs → l < end
    → version_fault versions (super_at first 0) ≡ None → HasNext versions images
has_next versions images first l end many same last lt taken = record {
  within = λ some. let e : (super_at images 0).geometry_legs ≡ (super_at first 0).geometry_legs = ap (λ (s : Super). s.geometry_legs) same in omega (arith, many, lt, last, e);
  taken = λ some. ap (version_fault versions) same ∙ taken;
}
