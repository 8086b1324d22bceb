-- Legs given back one after another.
use Rattle.std.proofs.Common.{◌≡◌, ℕ, zero, suc, ◌+◌, ◌-◌, ◌<◌, ◌≤◌, List, [], ◌∷◌, ◌++◌, length, get_or, map, Option, Some, None, Result, Ok, Err, refl, ap, sym, ◌∙◌, subst, arith, add-one, ◌^◌, min}
use Rattle.std.specs.Prelude.{MatchResult, IfErr}
use Rattle.mdc_types.specs.Faults.{HasCause, Rose}
use Rattle.mdc_types.specs.declared.numbers.Sector.{Sector}
use Rattle.leg_shelf.specs.Images.{with_sectors}
use Rattle.leg_shelf.specs.Shelves.{Files, TakesLeg, OthersStay, file_at, counted}
use Rattle.leg_shelf.proofs.Kept.{put_same}
use Rattle.image_faults.specs.declared.faults.ImageError.{ImageError}
use Rattle.image_faults.specs.declared.faults.ImageError.TheVariants.{Image, Shelf, Device, Memory}
use Rattle.image_files.specs.Names.{file_of}
use Rattle.image_files.specs.Ends.{IsOfLeg}
use Rattle.image_files.specs.Closed.{AreGivenBack, OnlyTheseChange, IsFirstRefused, Closes, IsCloseEnd, first_end, counted_all, NeverFalls, CountsAll, is_shelf_fault}

-- a leg that was taken changed its own name alone
pub takes_others : (old : Option Files) (name : List ℕ) (told : Option (List Sector)) (new : Option Files)
    → TakesLeg old name told new → OthersStay old name new
takes_others old name None new takes = takes
takes_others old name (Some sectors) new takes = (Some (with_sectors (file_at old name) sectors), takes)

-- a name more
change_more : (names : List (List ℕ)) (l n : ℕ) (old mid new : Option Files) → l ≤ n → OnlyTheseChange names l (n - l) old mid
    → OthersStay mid (file_of names n) new → OnlyTheseChange names l ((n + 1) - l) old new
change_more names l n old mid new le before here =
    let e : suc (n - l) ≡ (n + 1) - l = omega arith in
    let f : n ≡ l + (n - l) = omega arith in
    subst (λ k. OnlyTheseChange names l k old new) e (mid, before, subst (λ k. OthersStay mid (file_of names k) new) f here)

refused_here : (names : List (List ℕ)) (told : List (Option (List Sector))) (n : ℕ) (old mid new : Option Files)
    → AreGivenBack names told n old mid → OthersStay mid (file_of names n) new → IsFirstRefused names told (n + 1) n old new
refused_here names told n old mid new given here =
    let e : 0 ≡ n - n = omega arith in
    (mid, omega arith, given, change_more names n n mid mid new (omega arith) (subst (λ k. OnlyTheseChange names n k mid mid) e refl) here)

refused_before : (names : List (List ℕ)) (told : List (Option (List Sector))) (n l : ℕ) (old mid new : Option Files)
    → IsFirstRefused names told n l old mid → OthersStay mid (file_of names n) new → IsFirstRefused names told (n + 1) l old new
refused_before names told n l old mid new (m, lt, given, changes) here =
    (m, omega (arith, lt), given, change_more names l n m mid new (omega (arith, lt)) changes here)

given_changes : (names : List (List ℕ)) (told : List (Option (List Sector))) (n : ℕ) (old new : Option Files) → AreGivenBack names told n old new → OnlyTheseChange names 0 n old new
given_changes names told zero old new given = given
given_changes names told (suc n) old new (mid, given, takes) =
    let e : n ≡ 0 + n = omega arith in (
      mid,
      given_changes names told n old mid given,
      subst (λ k. OthersStay mid (file_of names k) new) e (takes_others mid (file_of names n) (get_or told n None) new takes),
    )

changes_next : (names : List (List ℕ)) (n : ℕ) (old mid new : Option Files) → OnlyTheseChange names 0 n old mid → OthersStay mid (file_of names n) new → OnlyTheseChange names 0 (n + 1) old new
changes_next names n old mid new before here =
    let e : suc n ≡ n + 1 = omega arith in
    let f : n ≡ 0 + n = omega arith in
    subst (λ k. OnlyTheseChange names 0 k old new) e (mid, before, subst (λ k. OthersStay mid (file_of names k) new) f here)

-- leg n was given back
abbrev pub GivesBack : List (List ℕ) → List (Option (List Sector)) → ℕ → Option Files → Result (Unit {0}) ImageError → Option Files → Type 0
GivesBack names told n old result new = MatchResult result
    (λ _. TakesLeg old (file_of names n) (get_or told n None) new)
    (λ _. OthersStay old (file_of names n) new)

others : (names : List (List ℕ)) (told : List (Option (List Sector))) (n : ℕ) (old : Option Files) (result : Result (Unit {0}) ImageError) (new : Option Files)
    → GivesBack names told n old result new → OthersStay old (file_of names n) new
others names told n old (Ok u) new gives = takes_others old (file_of names n) (get_or told n None) new gives
others names told n old (Err e) new gives = gives

-- a leg more
pub closes_more : (names : List (List ℕ)) (told : List (Option (List Sector))) (n : ℕ) (old : Option Files) (first : Result (Unit {0}) ImageError) (mid : Option Files)
    (next : Result (Unit {0}) ImageError) (new : Option Files) → Closes names told n old first mid → GivesBack names told n mid next new → IfErr next (IsCloseEnd n)
    → Closes names told (n + 1) old (first_end first next) new
closes_more names told n old (Ok u) mid (Ok v) new was gives end = subst (λ k. AreGivenBack names told k old new) (sym (add-one n)) (mid, was, gives)
closes_more names told n old (Ok u) mid (Err (Shelf l)) new was gives end =
    subst (λ k. IsFirstRefused names told (n + 1) k old new) (sym end) (refused_here names told n old mid new was gives)
closes_more names told n old (Ok u) mid (Err (Memory e)) new was gives end = changes_next names n old mid new (given_changes names told n old mid was) gives
closes_more names told n old (Ok u) mid (Err (Image l f)) new was gives end = absurd end
closes_more names told n old (Ok u) mid (Err (Device l)) new was gives end = absurd end
closes_more names told n old (Err (Shelf l)) mid next new was gives end = refused_before names told n l old mid new was (others names told n mid next new gives)
closes_more names told n old (Err (Memory e)) mid next new was gives end = changes_next names n old mid new was (others names told n mid next new gives)
closes_more names told n old (Err (Image l f)) mid next new was gives end = absurd was
closes_more names told n old (Err (Device l)) mid next new was gives end = absurd was

counted_push : (count : ℕ) (fs : List ℕ) (f : ℕ) → counted_all count (fs ++ f ∷ []) ≡ counted (counted_all count fs) f
counted_push count [] f = refl
counted_push count (x ∷ fs) f = counted_push (counted count x) fs f

pub map_push : {A B : Type 0} (f : A → B) (xs : List A) (x : A) → map f (xs ++ x ∷ []) ≡ map f xs ++ f x ∷ []
map_push f [] x = refl
map_push f (y ∷ xs) x = ap (λ ys. f y ∷ ys) (map_push f xs x)

-- the count with one leg more
pub counted_more : {A : Type 0} (faults : A → ℕ) (count : ℕ) (xs : List A) (x : A) → counted_all count (map faults (xs ++ x ∷ [])) ≡ counted (counted_all count (map faults xs)) (faults x)
counted_more faults count xs x = ap (counted_all count) (map_push faults xs x) ∙ counted_push count (map faults xs) (faults x)

middle : {A B : Type 0} (f : A → B) (xs : List A) (x : A) (rest : List A) (d : B) → get_or (map f (xs ++ (x ∷ rest))) (length xs) d ≡ f x
middle f [] x rest d = refl
middle f (y ∷ xs) x rest d = middle f xs x rest d

-- the leg that comes after so many
pub next_is : {A B : Type 0} (f : A → B) (xs : List A) (x : A) (rest all : List A) (d : B) → xs ++ (x ∷ rest) ≡ all → get_or (map f all) (length xs) d ≡ f x
next_is f xs x rest all d is = ap (λ ys. get_or (map f ys) (length xs) d) (sym is) ∙ middle f xs x rest d

-- the first fault has its cause, and the next one has
pub cause_more : (before mid now : ℕ) (first next : Result (Unit {0}) ImageError) → HasCause is_shelf_fault before mid first → HasCause is_shelf_fault mid now next
    → HasCause is_shelf_fault before now (first_end first next)
cause_more before mid now (Ok u) next was cause = record {
  later = let a : before ≤ mid = was.later in let b : mid ≤ now = cause.later in omega arith;
  failed = λ e is fault. let a : before ≤ mid = was.later in let r : Rose mid now = cause.failed e is fault in omega (arith, r);
}
cause_more before mid now (Err d) next was cause = record {
  later = let a : before ≤ mid = was.later in let b : mid ≤ now = cause.later in omega arith;
  failed = λ e is fault. let b : mid ≤ now = cause.later in let r : Rose before mid = was.failed e is fault in omega (arith, r);
}

-- Counts.

most : (count : ℕ) (fs : List ℕ) → min count (2 ^ 64 - 1) ≤ counted_all count fs
most count [] = omega arith
most count (f ∷ fs) = let e : min (min (count + f) (2 ^ 64 - 1)) (2 ^ 64 - 1) ≤ counted_all (counted count f) fs = most (counted count f) fs in omega (arith, e)

-- the count doesn't fall as legs come back
pub counted_falls_not : (count : ℕ) (fs : List ℕ) → NeverFalls count (counted_all count fs)
counted_falls_not count fs = most count fs

-- it rises where one of them has failed
pub counted_rises : (count : ℕ) (fs : List ℕ) (l : ℕ) → 0 < get_or fs l 0 → Rose count (counted_all count fs)
counted_rises count [] l some = absurd (omega (arith, some))
counted_rises count (f ∷ fs) zero some = let e : min (min (count + f) (2 ^ 64 - 1)) (2 ^ 64 - 1) ≤ counted_all (counted count f) fs = most (counted count f) fs in omega (arith, e, some)
counted_rises count (f ∷ fs) (suc l) some = let e : min (min (count + f) (2 ^ 64 - 1) + 1) (2 ^ 64 - 1) ≤ counted_all (counted count f) fs = counted_rises (counted count f) fs l some in omega (arith, e)

-- Names.

and_then : (names : List (List ℕ)) (l k : ℕ) (old mid new : Option Files) → OnlyTheseChange names 0 l old mid → OnlyTheseChange names l k mid new → OnlyTheseChange names 0 (l + k) old new
and_then names l zero old mid new first then =
    let e : l ≡ l + 0 = omega arith in
    subst (λ f. OnlyTheseChange names 0 (l + 0) old f) (sym then) (subst (λ n. OnlyTheseChange names 0 n old mid) e first)
and_then names l (suc k) old mid new first (m, before, here) =
    let e : suc (l + k) ≡ l + suc k = omega arith in
    let f : l + k ≡ 0 + (l + k) = omega arith in
    subst (λ n. OnlyTheseChange names 0 n old new) e
    (m, and_then names l k old mid m first before, subst (λ n. OthersStay m (file_of names n) new) f here)

refused_changes : (names : List (List ℕ)) (told : List (Option (List Sector))) (n l : ℕ) (old new : Option Files) → IsFirstRefused names told n l old new → OnlyTheseChange names 0 n old new
refused_changes names told n l old new (mid, lt, given, changes) =
    let e : l + (n - l) ≡ n = omega (arith, lt) in
    subst (λ k. OnlyTheseChange names 0 k old new) e (and_then names l (n - l) old mid new (given_changes names told l old mid given) changes)

-- however it ended, no other name was changed
pub closes_changes : (names : List (List ℕ)) (told : List (Option (List Sector))) (n : ℕ) (old : Option Files) (result : Result (Unit {0}) ImageError) (new : Option Files)
    → Closes names told n old result new → OnlyTheseChange names 0 n old new
closes_changes names told n old (Ok u) new closes = given_changes names told n old new closes
closes_changes names told n old (Err (Shelf l)) new closes = refused_changes names told n l old new closes
closes_changes names told n old (Err (Memory e)) new closes = closes
closes_changes names told n old (Err (Image l f)) new closes = absurd closes
closes_changes names told n old (Err (Device l)) new closes = absurd closes

others_same : (old : Option Files) (name : List ℕ) → OthersStay old name old
others_same None name = (None, refl)
others_same (Some files) name = (files name, put_same files name)

-- more names may have changed than did
pub changes_more : (names : List (List ℕ)) (n k : ℕ) (old new : Option Files) → OnlyTheseChange names 0 n old new → OnlyTheseChange names 0 (n + k) old new
changes_more names n zero old new changes = let e : n ≡ n + 0 = omega arith in subst (λ m. OnlyTheseChange names 0 m old new) e changes
changes_more names n (suc k) old new changes =
    let e : suc (n + k) ≡ n + suc k = omega arith in
    subst (λ m. OnlyTheseChange names 0 m old new) e (new, changes_more names n k old new changes, others_same new (file_of names (0 + (n + k))))

pub changes_all : (names : List (List ℕ)) (n : ℕ) (old new : Option Files) → n ≤ 8 → OnlyTheseChange names 0 n old new → OnlyTheseChange names 0 8 old new
changes_all names n old new le changes = let e : n + (8 - n) ≡ 8 = omega (arith, le) in subst (λ m. OnlyTheseChange names 0 m old new) e (changes_more names n (8 - n) old new changes)

-- what became of a leg, by its number and its place among all
pub gives_at : (names : List (List ℕ)) (told : List (Option (List Sector))) (n l : ℕ) (t : Option (List Sector)) (old : Option Files) (result : Result (Unit {0}) ImageError) (new : Option Files)
    → l ≡ n → get_or told n None ≡ t
    → MatchResult result (λ _. TakesLeg old (file_of names l) t new) (λ _. OthersStay old (file_of names l) new)
    → GivesBack names told n old result new
gives_at names told n l t old result new e f gives =
    subst (λ k. MatchResult result (λ _. TakesLeg old (file_of names k) (get_or told n None) new) (λ _. OthersStay old (file_of names k) new)) e
    (subst (λ u. MatchResult result (λ _. TakesLeg old (file_of names l) u new) (λ _. OthersStay old (file_of names l) new)) (sym f) gives)

-- Ends.

-- the leg that wasn't taken is one of eight
pub closes_leg : (names : List (List ℕ)) (told : List (Option (List Sector))) (n : ℕ) (old : Option Files) (result : Result (Unit {0}) ImageError) (new : Option Files)
    → n ≤ 8 → Closes names told n old result new → IfErr result IsOfLeg
closes_leg names told n old (Ok u) new le closes = tt
closes_leg names told n old (Err (Shelf l)) new le closes = let lt : l < n = closes.1 in omega arith
closes_leg names told n old (Err (Memory e)) new le closes = tt
closes_leg names told n old (Err (Image l f)) new le closes = absurd closes
closes_leg names told n old (Err (Device l)) new le closes = absurd closes

-- the counts, whatever the end
pub counts_all : (before : ℕ) (faults : List ℕ) (result : Result (Unit {0}) ImageError) (now : ℕ) → now ≡ counted_all before faults → CountsAll before faults result now
counts_all before faults (Ok u) now is = is
counts_all before faults (Err (Shelf l)) now is = is
counts_all before faults (Err (Image l f)) now is = is
counts_all before faults (Err (Device l)) now is = is
counts_all before faults (Err (Memory e)) now is = subst (NeverFalls before) (sym is) (counted_falls_not before faults)

-- no name was changed
pub changes_none : (names : List (List ℕ)) (n : ℕ) (old : Option Files) → OnlyTheseChange names 0 n old old
changes_none names n old = let e : 0 + n ≡ n = omega arith in subst (λ m. OnlyTheseChange names 0 m old old) e (changes_more names 0 n old old refl)

pub falls_not : (count : ℕ) → NeverFalls count count
falls_not count = omega arith
