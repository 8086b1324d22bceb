-- A leg more.
use Rattle.std.proofs.Common.{◌≡◌, ℕ, zero, suc, ◌<◌, ◌≤◌, ◌&&◌, Bool, List, [], ◌∷◌, ◌++◌, length, get_or, map, Option, Some, None, Ok, Err, refl, ap, sym, ◌∙◌, subst, arith, inl, inr}
use Rattle.std.specs.Prelude.{unwrap_or, is_none}
use Rattle.std.proofs.lemmas.Bool.{cases_lt}
use Rattle.std.proofs.lemmas.List.{length_push}
use Rattle.dlm_modes.specs.Guards.{or_then, unless}
use Rattle.dlm_modes.proofs.FirstLaws.{first_such_same}
use Rattle.mdc_types.specs.Geometry.{Sizes}
use Rattle.mdc_types.specs.declared.numbers.Sector.{Sector}
use Rattle.md_superblock.specs.Superblock.{IsSuper, super_of}
use Rattle.md_superblock.specs.declared.superblock.Super.{Super}
use Rattle.image_faults.specs.Legs.{leg_fault, super_bytes, first_page, own_chunk, HaveSets, HaveBits, AllPages, ReadsLeg, FitsSuper}
use Rattle.image_faults.specs.Sizes.{length_fault, sizes_of}
use Rattle.image_faults.specs.declared.faults.ImageFault.{ImageFault}
use Rattle.image_faults.specs.declared.faults.ImageFault.TheVariants.{Geometry}
use Rattle.image_faults.specs.declared.legs.LegEnd.{LegEnd}
use Rattle.image_faults.specs.declared.legs.LegEnd.TheVariants.{Fault, Failed, Memory}
use Rattle.image_faults.specs.declared.legs.LegImage.{LegImage}
use Rattle.image_array.specs.Agreement.{agreement_fault, agrees_below, contradicts, is_of_array}
use Rattle.image_array.specs.Legs.{super_at, sizes_at, slots_at, supers_with, leg_chunk, no_super, no_sizes, IsLeg, AreLegs, ReadAs, ReadsNext}
use Rattle.image_array.proofs.AgreementLaws.{agreement-same}

-- Look-ups with a leg more.

at_left : {A : Type 0} (f : LegImage → A) (xs : List LegImage) (x : LegImage) (d : A) (k : ℕ) → k < length xs
    → get_or (map f (xs ++ x ∷ [])) k d ≡ get_or (map f xs) k d
at_left f [] x d k lt = absurd (omega (arith, lt))
at_left f (y ∷ ys) x d zero lt = refl
at_left f (y ∷ ys) x d (suc k) lt = at_left f ys x d k (omega arith)

at_last : {A : Type 0} (f : LegImage → A) (xs : List LegImage) (x : LegImage) (d : A)
    → get_or (map f (xs ++ x ∷ [])) (length xs) d ≡ f x
at_last f [] x d = refl
at_last f (y ∷ ys) x d = at_last f ys x d

-- the superblocks with one more are those of the legs with one more
with_is : (xs : List LegImage) (x : LegImage) (k : ℕ) → k ≤ length xs → super_at (xs ++ x ∷ []) k ≡ supers_with xs x.superblock k
with_is [] x zero le = refl
with_is [] x (suc k) le = absurd (omega (arith, le))
with_is (y ∷ ys) x zero le = refl
with_is (y ∷ ys) x (suc k) le = with_is ys x k (omega arith)

agreement-with : (xs : List LegImage) (x : LegImage)
    → agreement_fault (super_at (xs ++ x ∷ [])) (length xs) ≡ agreement_fault (supers_with xs x.superblock) (length xs)
agreement-with xs x = agreement-same (super_at (xs ++ x ∷ [])) (supers_with xs x.superblock) (length xs) (λ k le. with_is xs x k le)

chunk_last : (xs : List LegImage) (x : LegImage) → leg_chunk (xs ++ x ∷ []) (length xs) ≡ leg_chunk xs (length xs)
chunk_last [] x = refl
chunk_last (y ∷ ys) x = refl

chunk_left : (xs : List LegImage) (x : LegImage) (l : ℕ) → l < length xs → leg_chunk (xs ++ x ∷ []) l ≡ leg_chunk xs l
chunk_left xs x zero lt = refl
chunk_left xs x (suc l) lt = ap (λ (g : Sizes). Some g.chunk) (at_left (λ image. image.geometry) xs x no_sizes 0 (omega arith))

chunk_is : (xs : List LegImage) (x : LegImage) → unwrap_or (leg_chunk xs (length xs)) x.geometry.chunk ≡ x.geometry.chunk
    → (sizes_at (xs ++ x ∷ []) 0).chunk ≡ x.geometry.chunk
chunk_is [] x given = refl
chunk_is (y ∷ ys) x given = given

-- What is known of the legs.

have_sets : (g h : Sizes) (s t : List (List Bool)) → g ≡ h → s ≡ t → HaveSets g s → HaveSets h t
have_sets g h s t e f have = subst (λ u. HaveSets h u) f (subst (λ k. HaveSets k s) e have)

leg_kept : (xs : List LegImage) (x : LegImage) (l : ℕ) → l < length xs → IsLeg xs l → IsLeg (xs ++ x ∷ []) l
leg_kept xs x l lt was =
    let s : super_at (xs ++ x ∷ []) l ≡ super_at xs l = at_left (λ image. image.superblock) xs x no_super l lt in
    let g : sizes_at (xs ++ x ∷ []) l ≡ sizes_at xs l = at_left (λ image. image.geometry) xs x no_sizes l lt in
    let z : sizes_at (xs ++ x ∷ []) 0 ≡ sizes_at xs 0 = at_left (λ image. image.geometry) xs x no_sizes 0 (omega arith) in
    let b : slots_at (xs ++ x ∷ []) l ≡ slots_at xs l = at_left (λ image. image.slots.items) xs x [] l lt in
    record {
      superblock = subst IsSuper (sym s) was.superblock;
      sizes = ap Ok g ∙ was.sizes ∙ ap (λ t. sizes_of t (sizes_at xs 0).chunk) (sym s)
          ∙ ap (λ k. sizes_of (super_at (xs ++ x ∷ []) l) k.chunk) (sym z);
      sets = have_sets (sizes_at xs l) (sizes_at (xs ++ x ∷ []) l) (slots_at xs l) (slots_at (xs ++ x ∷ []) l) (sym g) (sym b) was.sets;
      agrees = agreement-same (super_at (xs ++ x ∷ [])) (super_at xs) l
          (λ k le. at_left (λ image. image.superblock) xs x no_super k (omega arith)) ∙ was.agrees;
    }

leg_new : (xs : List LegImage) (x : LegImage) (size : ℕ) → FitsSuper (leg_chunk xs (length xs)) size x
    → agreement_fault (supers_with xs x.superblock) (length xs) ≡ None → IsLeg (xs ++ x ∷ []) (length xs)
leg_new xs x size fits agrees =
    let s : super_at (xs ++ x ∷ []) (length xs) ≡ x.superblock = at_last (λ image. image.superblock) xs x no_super in
    let g : sizes_at (xs ++ x ∷ []) (length xs) ≡ x.geometry = at_last (λ image. image.geometry) xs x no_sizes in
    let b : slots_at (xs ++ x ∷ []) (length xs) ≡ x.slots.items = at_last (λ image. image.slots.items) xs x [] in
    record {
      superblock = subst IsSuper (sym s) fits.superblock;
      sizes = ap Ok g ∙ fits.sizes ∙ ap (λ t. sizes_of t x.geometry.chunk) (sym s)
          ∙ ap (sizes_of (super_at (xs ++ x ∷ []) (length xs))) (sym (chunk_is xs x fits.given));
      sets = have_sets x.geometry (sizes_at (xs ++ x ∷ []) (length xs)) x.slots.items (slots_at (xs ++ x ∷ []) (length xs)) (sym g) (sym b) fits.sets;
      agrees = agreement-with xs x ∙ agrees;
    }

legs_with : (xs : List LegImage) (x : LegImage) (size : ℕ) → AreLegs xs → FitsSuper (leg_chunk xs (length xs)) size x
    → agreement_fault (supers_with xs x.superblock) (length xs) ≡ None → AreLegs (xs ++ x ∷ [])
legs_with xs x size legs fits agrees = record {
  each = λ l lt. elim (cases_lt l (length xs)) [
    | inl below ↦ leg_kept xs x l below (legs.each l below)
    | inr past ↦
        let last : length xs ≡ l = omega (arith, lt, length_push xs x) in
        subst (IsLeg (xs ++ x ∷ [])) last (leg_new xs x size fits agrees)
  ];
}

pub legs_more : (old new : List LegImage) (x : LegImage) (size : ℕ) → new ≡ old ++ x ∷ [] → AreLegs old → FitsSuper (leg_chunk old (length old)) size x
    → agreement_fault (supers_with old x.superblock) (length old) ≡ None → AreLegs new
legs_more old new x size is legs fits agrees = subst AreLegs (sym is) (legs_with old x size legs fits agrees)

-- What was read of the legs.

read_new : (told : Option (List Sector)) (size : ℕ) (xs : List LegImage) (x : LegImage)
    → ReadsLeg told (leg_chunk xs (length xs)) size (Ok x) → AllPages told x.geometry → ReadAs told size (xs ++ x ∷ []) (length xs)
read_new None size xs x read pages = tt
read_new (Some leg) size xs x read pages =
    let g : sizes_at (xs ++ x ∷ []) (length xs) ≡ x.geometry = at_last (λ image. image.geometry) xs x no_sizes in
    let b : slots_at (xs ++ x ∷ []) (length xs) ≡ x.slots.items = at_last (λ image. image.slots.items) xs x [] in
    record {
      sound = ap (λ chunk. leg_fault chunk size leg) (chunk_last xs x) ∙ read.sound;
      superblock = at_last (λ image. image.superblock) xs x no_super ∙ read.superblock;
      sum = at_last (λ image. image.sum) xs x 0 ∙ read.sum;
      sizes = ap Ok g ∙ read.sizes
          ∙ ap (λ s. sizes_of s (own_chunk (leg_chunk xs (length xs)) (first_page leg))) (sym (at_last (λ image. image.superblock) xs x no_super))
          ∙ ap (λ chunk. sizes_of (super_at (xs ++ x ∷ []) (length xs)) (own_chunk chunk (first_page leg))) (sym (chunk_last xs x));
      bits = subst (HaveBits (sizes_at (xs ++ x ∷ []) (length xs)) leg) (sym b) (subst (λ k. HaveBits k leg x.slots.items) (sym g) read.bits);
      pages = subst (AllPages (Some leg)) (sym g) pages;
    }

pub read_more : (told : Option (List Sector)) (size : ℕ) (old new : List LegImage) (x : LegImage) → new ≡ old ++ x ∷ []
    → ReadsLeg told (leg_chunk old (length old)) size (Ok x) → AllPages told x.geometry → ReadAs told size new (length old)
read_more told size old new x is read pages = subst (λ images. ReadAs told size images (length old)) (sym is) (read_new told size old x read pages)

kept : (told : Option (List Sector)) (size : ℕ) (xs : List LegImage) (x : LegImage) (l : ℕ) → l < length xs
    → ReadAs told size xs l → ReadAs told size (xs ++ x ∷ []) l
kept None size xs x l lt was = tt
kept (Some leg) size xs x l lt was =
    let g : sizes_at (xs ++ x ∷ []) l ≡ sizes_at xs l = at_left (λ image. image.geometry) xs x no_sizes l lt in
    let b : slots_at (xs ++ x ∷ []) l ≡ slots_at xs l = at_left (λ image. image.slots.items) xs x [] l lt in
    record {
      sound = ap (λ chunk. leg_fault chunk size leg) (chunk_left xs x l lt) ∙ was.sound;
      superblock = at_left (λ image. image.superblock) xs x no_super l lt ∙ was.superblock;
      sum = at_left (λ image. image.sum) xs x 0 l lt ∙ was.sum;
      sizes = ap Ok g ∙ was.sizes
          ∙ ap (λ s. sizes_of s (own_chunk (leg_chunk xs l) (first_page leg))) (sym (at_left (λ image. image.superblock) xs x no_super l lt))
          ∙ ap (λ chunk. sizes_of (super_at (xs ++ x ∷ []) l) (own_chunk chunk (first_page leg))) (sym (chunk_left xs x l lt));
      bits = subst (HaveBits (sizes_at (xs ++ x ∷ []) l) leg) (sym b) (subst (λ k. HaveBits k leg (slots_at xs l)) (sym g) was.bits);
      pages = subst (AllPages (Some leg)) (sym g) was.pages;
    }

-- what was read of earlier legs stays
pub read_kept : (told : Option (List Sector)) (size : ℕ) (old new : List LegImage) (x : LegImage) (l : ℕ) → new ≡ old ++ x ∷ [] → l < length old
    → ReadAs told size old l → ReadAs told size new l
read_kept told size old new x l is lt was = subst (λ images. ReadAs told size images l) (sym is) (kept told size old x l lt was)

-- the new leg's file has the length that its superblock says
pub long_new : (old new : List LegImage) (x : LegImage) (chunk : Option ℕ) (size : ℕ) → new ≡ old ++ x ∷ [] → FitsSuper chunk size x
    → length_fault (super_at new (length old)) size ≡ None
long_new old new x chunk size is fits =
    ap (λ images. length_fault (super_at images (length old)) size) is
    ∙ ap (λ s. length_fault s size) (at_last (λ image. image.superblock) old x no_super) ∙ fits.long

-- The judgement.

pub next_ok : (told : Option (List Sector)) (images : List LegImage) (size : ℕ) (x : LegImage)
    → ReadsLeg told (leg_chunk images (length images)) size (Ok x)
    → agreement_fault (supers_with images x.superblock) (length images) ≡ None → ReadsNext told images size (Ok tt)
next_ok None images size x read agrees = tt
next_ok (Some leg) images size x read agrees =
    ap (λ r. or_then r (agreement_fault (supers_with images (super_of (super_bytes leg))) (length images))) read.sound
    ∙ ap (λ s. agreement_fault (supers_with images s) (length images)) (sym read.superblock) ∙ agrees

pub next_disagrees : (told : Option (List Sector)) (images : List LegImage) (size : ℕ) (x : LegImage) (f : ImageFault)
    → ReadsLeg told (leg_chunk images (length images)) size (Ok x)
    → agreement_fault (supers_with images x.superblock) (length images) ≡ Some f → ReadsNext told images size (Err (Fault f))
next_disagrees None images size x f read fault = tt
next_disagrees (Some leg) images size x f read fault =
    ap (λ r. or_then r (agreement_fault (supers_with images (super_of (super_bytes leg))) (length images))) read.sound
    ∙ ap (λ s. agreement_fault (supers_with images s) (length images)) (sym read.superblock) ∙ fault

pub next_ended : (told : Option (List Sector)) (images : List LegImage) (size : ℕ) (e : LegEnd)
    → ReadsLeg told (leg_chunk images (length images)) size (Err e) → ReadsNext told images size (Err e)
next_ended None images size e read = tt
next_ended (Some leg) images size (Fault f) read =
    ap (λ r. or_then r (agreement_fault (supers_with images (super_of (super_bytes leg))) (length images))) read
next_ended (Some leg) images size Failed read = tt
next_ended (Some leg) images size (Memory m) read = tt

-- The judgement in the program.

pub given_none : (xs : List LegImage) → length xs ≡ 0 → leg_chunk xs (length xs) ≡ None
given_none [] none = refl
given_none (x ∷ xs) none = absurd (omega (arith, none))

pub given_some : (xs : List LegImage) → 0 < length xs → leg_chunk xs (length xs) ≡ Some (sizes_at xs 0).chunk
given_some [] some = absurd (omega (arith, some))
given_some (x ∷ xs) some = refl

pub first_none : (xs : List LegImage) (s : Super) → length xs ≡ 0 → supers_with xs s 0 ≡ s
first_none [] s none = refl
first_none (x ∷ xs) s none = absurd (omega (arith, none))

pub first_some : (xs : List LegImage) (s : Super) → 0 < length xs → supers_with xs s 0 ≡ super_at xs 0
first_some [] s some = absurd (omega (arith, some))
first_some (x ∷ xs) s some = refl

last_is : (xs : List LegImage) (s : Super) → supers_with xs s (length xs) ≡ s
last_is [] s = refl
last_is (x ∷ xs) s = last_is xs s

any_default : (xs : List LegImage) (s : Super) (k : ℕ) → k < length xs → super_at xs k ≡ supers_with xs s k
any_default [] s k lt = absurd (omega (arith, lt))
any_default (x ∷ xs) s zero lt = refl
any_default (x ∷ xs) s (suc k) lt = any_default xs s k (omega arith)

pub agrees_with : (xs : List LegImage) (s : Super) → agrees_below (super_at xs) (length xs) s ≡ agrees_below (supers_with xs s) (length xs) s
agrees_with xs s = ap is_none (first_such_same (λ k. contradicts s (super_at xs k)) (λ k. contradicts s (supers_with xs s k)) 0 (length xs)
    (λ k le lt. ap (contradicts s) (any_default xs s k (omega arith))))

pub fault_is : (xs : List LegImage) (s : Super) (b : Bool)
    → b ≡ (is_of_array (supers_with xs s 0) (length xs) s && agrees_below (supers_with xs s) (length xs) s)
    → agreement_fault (supers_with xs s) (length xs) ≡ unless b Geometry
fault_is xs s b is =
    ap (λ t. unless (is_of_array (supers_with xs s 0) (length xs) t && agrees_below (supers_with xs s) (length xs) t) Geometry) (last_is xs s)
    ∙ ap (λ c. unless c Geometry) (sym is)

-- the same of the slice that the legs are
pub chunk_here : (before items : List LegImage) (chunk : Option ℕ) → before ≡ items → chunk ≡ leg_chunk before (length before) → chunk ≡ leg_chunk items (length items)
chunk_here before items chunk is given = given ∙ ap (λ (xs : List LegImage). leg_chunk xs (length xs)) is

pub fault_here : (before items : List LegImage) (s : Super) (r : Option ImageFault) → before ≡ items → r ≡ agreement_fault (supers_with before s) (length before)
    → agreement_fault (supers_with items s) (length items) ≡ r
fault_here before items s r is told = sym (told ∙ ap (λ (xs : List LegImage). agreement_fault (supers_with xs s) (length xs)) is)
