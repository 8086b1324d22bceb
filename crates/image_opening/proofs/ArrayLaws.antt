-- What all legs open with, and why an array wasn't opened.
use Rattle.std.proofs.Common.{◌≡◌, ℕ, ◌<◌, ◌==◌, true, List, length, get_or, Option, Some, None, refl, ap, sym, ◌∙◌, subst, arith, inr}
use Rattle.std.specs.declared.alloc.AllocError.{AllocError}
use Rattle.std.specs.Prelude.{is_some}
use Rattle.mdc_types.specs.Geometry.{Sizes, length_of}
use Rattle.mdc_types.specs.declared.numbers.Sector.{Sector}
use Rattle.leg_shelf.specs.Shelves.{Files}
use Rattle.image_faults.specs.declared.faults.ImageError.{ImageError}
use Rattle.image_faults.specs.declared.faults.ImageError.TheVariants.{Image, Shelf, Device, Memory}
use Rattle.image_faults.specs.declared.legs.LegImage.{LegImage}
use Rattle.image_files.specs.Names.{file_of}
use Rattle.image_files.specs.Opened.{OpensFile}
use Rattle.cluster_model.specs.Contents.{HasImages, IsImages}
use Rattle.cluster_model.specs.Opening.{Origin}
use Rattle.world_state.specs.Told.{Fits, legs_of, sectors_of}
use Rattle.image_array.specs.Legs.{AreAll, IsReadAs, ReadAs, sizes_at, super_at}
use Rattle.image_array.specs.Heads.{IsHead, origin_of}
use Rattle.image_array.specs.Laws.{AreRead}
use Rattle.image_array.specs.declared.heads.Head.{Head}
use Rattle.image_array.proofs.HeadLaws.{same_sizes, sizes_are}
use Rattle.image_array.proofs.Opened.{opens_images}
use Rattle.image_opening.specs.Opened.{AllLegsTell, AreOpened, AreReadOf, TellsFiles, bytes_at}
use Rattle.image_opening.specs.Faults.{HaveBase, IsArrayEnd, IsOpenEnd, TellsData, TellsFault, version_fault}
use Rattle.image_opening.specs.declared.versions.Versions.{Versions}

-- What they open with.

read_of : (t : Option (List Sector)) (size : ℕ) (images : List LegImage) (l : ℕ) → is_some t ≡ true → ReadAs t size images l → IsReadAs (sectors_of t) size images l
read_of None size images l tells read = absurd (cc tells)
read_of (Some leg) size images l tells read = read

are_read : (images : List LegImage) (told : List (Option (List Sector))) (lengths : List ℕ) → length told ≡ length images → AreReadOf images told lengths → AllLegsTell told
    → AreRead images (legs_of told)
are_read images told lengths many read tell = record {
  leg = λ l. sectors_of (get_or told l None);
  size = bytes_at lengths;
  read = λ l lt. read_of (get_or told l None) (bytes_at lengths l) images l (tell l (subst (λ n. l < n) (sym many) lt)) (read.read l lt);
  content = λ l at lt. refl;
}

-- where all tell, the opening is that of the legs
pub images_are : (images : List LegImage) (h : Head) (base : List (List Sector)) (told : List (Option (List Sector))) (lengths : List ℕ)
    → AreAll images → IsHead images h → h.geometry.legs ≡ length images → length told ≡ length images → AreReadOf images told lengths
    → HaveBase told h images h.geometry.room base → IsImages (origin_of h base) (legs_of told)
images_are images h base told lengths all head count many read have = record {
  nobody = (refl, refl);
  contents = λ tells.
      let tell : AllLegsTell told = λ l lt. tells l (omega (arith, lt, many, count)) in
      opens_images images h base (legs_of told) all head (are_read images told lengths many read tell) (have.values tell);
}

-- the legs have their sectors
pub fits_are : (images : List LegImage) (h : Head) (told : List (Option (List Sector))) (lengths : List ℕ) → h.geometry.legs ≡ length images → length lengths ≡ length images
    → AreReadOf images told lengths → ((l : ℕ) → l < length images → length_of (sizes_at images l) ≡ length_of h.geometry) → Fits h.geometry lengths
fits_are images h told lengths count many read long = record {
  count = many ∙ sym count;
  each = λ l lt. let below : l < length images = subst (λ n. l < n) count lt in read.long l below ∙ long l below;
}

pub version_is : (images : List LegImage) (h : Head) → AreAll images → IsHead images h → h.geometry.second ≡ ((super_at images 0).version == 2)
version_is images h all head =
    ap (λ (g : Sizes). g.second) head.sizes
    ∙ (same_sizes images head.newest 0 all.legs head.is_newest.there all.some).second
    ∙ ap (λ (g : Sizes). g.second) (sizes_are images 0 all.legs all.some)

-- Ends.

opened_tells : (files : Files) (name : List ℕ) (t : Option (List Sector)) (size : ℕ) → OpensFile (Some files) name t size → is_some t ≡ true
opened_tells files name t size opens = ap is_some opens.sectors

-- the legs of a shelf that tells do so too
pub all_tell : (files : Files) (names : List (List ℕ)) (images : List LegImage) (told : List (Option (List Sector))) (lengths : List ℕ)
    → AreOpened (Some files) names images told lengths → AllLegsTell told
all_tell files names images told lengths opened = λ l lt. opened_tells files (file_of names l) (get_or told l None) (bytes_at lengths l) (opened.opened.each l lt)

all_tell_of : (files : Option Files) (names : List (List ℕ)) (images : List LegImage) (told : List (Option (List Sector))) (lengths : List ℕ)
    → TellsFiles files → AreOpened files names images told lengths → AllLegsTell told
all_tell_of None names images told lengths tells opened = absurd (cc tells)
all_tell_of (Some files) names images told lengths tells opened = all_tell files names images told lengths opened

data_told : (files : Option Files) (names : List (List ℕ)) (versions : Versions) (images : List LegImage) (told : List (Option (List Sector))) (lengths : List ℕ) (h : Head) (e : ImageError)
    → AreOpened files names images told lengths → AreAll images → version_fault versions (super_at images 0) ≡ None → IsHead images h → TellsData told h images e
    → TellsFault files names versions e
data_told None names versions images told lengths h e opened all taken head tells = tt
data_told (Some files) names versions images told lengths h (Image l f) opened all taken head tells = inr (inr (record {
  images = images;
  told = told;
  lengths = lengths;
  opened = opened;
  all = all;
  taken = taken;
  head = h;
  said = head;
  fault = tells (all_tell files names images told lengths opened);
}))
data_told (Some files) names versions images told lengths h (Shelf l) opened all taken head tells = tt
data_told (Some files) names versions images told lengths h (Device l) opened all taken head tells = tt
data_told (Some files) names versions images told lengths h (Memory m) opened all taken head tells = tt

-- why the data wasn't taken in is why the array wasn't opened
pub array_end : (files : Option Files) (names : List (List ℕ)) (versions : Versions) (images : List LegImage) (told : List (Option (List Sector))) (lengths faults : List ℕ) (e : ImageError)
    → AreOpened files names images told lengths → AreAll images → version_fault versions (super_at images 0) ≡ None → IsArrayEnd told images faults e
    → IsOpenEnd files names versions faults e
array_end files names versions images told lengths faults e opened all taken end = record {
  leg = end.end.leg;
  failed = end.end.failed;
  fault = data_told files names versions images told lengths end.head e opened all taken end.said end.end.fault;
}

-- over a shelf that tells, the opening is what the legs have
pub has_images : (files : Option Files) (names : List (List ℕ)) (images : List LegImage) (told : List (Option (List Sector))) (lengths : List ℕ) (o : Origin)
    → TellsFiles files → AreOpened files names images told lengths → Fits o.sizes lengths → IsImages o (legs_of told) → HasImages o (legs_of told)
has_images files names images told lengths o tells opened fits are =
    are.contents (λ l lt. all_tell_of files names images told lengths tells opened l
    (let e = fits.count in let i = opened.many.0 in let j = opened.many.1 in omega (arith, lt, e, i, j)))

pub memory_told : (files : Option Files) (names : List (List ℕ)) (versions : Versions) (m : AllocError) → TellsFault files names versions (Memory m)
memory_told None names versions m = tt
memory_told (Some files) names versions m = tt
