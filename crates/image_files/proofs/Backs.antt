-- Legs that are given back as they were opened.
use Rattle.std.proofs.Common.{◌≡◌, ℕ, zero, suc, ◌+◌, ◌-◌, ◌*◌, ◌<◌, List, [], ◌++◌, length, get_or, take, drop, map, Option, Some, None, refl, ap, sym, ◌∙◌, subst, arith, add-one}
use Rattle.std.specs.List.{range_with_len}
use Rattle.std.proofs.Math.Seq.{take-add}
use Rattle.std.proofs.lemmas.List.{take-append-drop}
use Rattle.std.proofs.lemmas.List.{flat_map_more}
use Rattle.std.proofs.lemmas.List.FromFn.{length-map-range_with_len, map-range_with_len_more}
use Rattle.mdc_types.specs.declared.numbers.Sector.{Sector}
use Rattle.leg_shelf.specs.Images.{sector_at, sectors_in, whole_sectors, bytes_of, with_sectors}
use Rattle.leg_shelf.specs.Shelves.{Files, put_file, TakesLeg}
use Rattle.leg_shelf.proofs.Kept.{put_same}
use Rattle.image_files.specs.Names.{file_of}
use Rattle.image_files.specs.Opened.{IsOpened}
use Rattle.image_files.specs.Closed.{AreGivenBack}
use Rattle.image_files.specs.Laws.{OpenedAndClosed}

-- one sector more
one_more : (f : ℕ → Sector) (k : ℕ) → bytes_of (map f (range_with_len 0 k)) ++ (f k).bytes ≡ bytes_of (map f (range_with_len 0 (k + 1)))
one_more f k = flat_map_more (λ s. s.bytes) [] (map f (range_with_len 0 k)) (f k)
    ∙ ap bytes_of (sym (map-range_with_len_more f 0 k k (omega arith)))

-- the bytes of the first n sectors
front : (bytes : List ℕ) (n : ℕ) → bytes_of (map (sector_at bytes) (range_with_len 0 n)) ≡ take (512 * n) bytes
front bytes zero = refl
front bytes (suc n) =
    let e : suc n ≡ n + 1 = sym (add-one n) in
    let f : (512 * n + 512) - 512 * n ≡ 512 = omega arith in
    let h : 512 * n + 512 ≡ 512 * suc n = omega arith in
    ap (λ k. bytes_of (map (sector_at bytes) (range_with_len 0 k))) e
    ∙ sym (one_more (sector_at bytes) n)
    ∙ ap (λ xs. xs ++ take ((512 * n + 512) - 512 * n) (drop (512 * n) bytes)) (front bytes n)
    ∙ ap (λ k. take (512 * n) bytes ++ take k (drop (512 * n) bytes)) f
    ∙ sym (take-add (512 * n) 512 bytes)
    ∙ ap (λ k. take k bytes) h

-- the sectors of a file and what it has past them are the file
pub written_back : (bytes : List ℕ) → with_sectors (Some bytes) (sectors_in bytes) ≡ bytes
written_back bytes =
    let n : ℕ = whole_sectors (length bytes) in
    ap (λ xs. xs ++ drop (512 * length (sectors_in bytes)) bytes) (front bytes n)
    ∙ ap (λ k. take (512 * n) bytes ++ drop (512 * k) bytes) (length-map-range_with_len (sector_at bytes) 0 n)
    ∙ take-append-drop (512 * n) bytes

-- a leg that is as it was leaves its file so
taken_as_it_was : (files : Files) (name bytes : List ℕ) (t : Option (List Sector)) (new : Option Files) → files name ≡ Some bytes → t ≡ Some (sectors_in bytes)
    → TakesLeg (Some files) name t new → new ≡ Some files
taken_as_it_was files name bytes t new there is takes =
    let e : new ≡ put_file (Some files) name (Some (with_sectors (files name) (sectors_in bytes))) = subst (λ s. TakesLeg (Some files) name s new) is takes in
    e
    ∙ ap (λ o. put_file (Some files) name (Some (with_sectors o (sectors_in bytes)))) there
    ∙ ap (λ b. put_file (Some files) name (Some b)) (written_back bytes)
    ∙ ap (put_file (Some files) name) (sym there)
    ∙ sym (put_same files name)

taken_untold : (name : List ℕ) (t : Option (List Sector)) (new : Option Files) → TakesLeg None name t new → new ≡ None
taken_untold name None new takes = takes.1
taken_untold name (Some sectors) new takes = takes

given_untold : (names : List (List ℕ)) (told : List (Option (List Sector))) (n : ℕ) (new : Option Files) → AreGivenBack names told n None new → new ≡ None
given_untold names told zero new given = given
given_untold names told (suc n) new (mid, given, takes) =
    taken_untold (file_of names n) (get_or told n None) new
    (subst (λ m. TakesLeg m (file_of names n) (get_or told n None) new) (given_untold names told n mid given) takes)

given_told : (files : Files) (names : List (List ℕ)) (told : List (Option (List Sector))) (size : ℕ → ℕ) (n : ℕ) (new : Option Files)
    → ((l : ℕ) → l < n → IsOpened files (file_of names l) (get_or told l None) (size l)) → AreGivenBack names told n (Some files) new → new ≡ Some files
given_told files names told size zero new opened given = given
given_told files names told size (suc n) new opened (mid, given, takes) =
    let o : IsOpened files (file_of names n) (get_or told n None) (size n) = opened n (omega arith) in
    let before : mid ≡ Some files = given_told files names told size n mid (λ l lt. opened l (omega arith)) given in
    taken_as_it_was files (file_of names n) o.bytes (get_or told n None) new o.there o.sectors
    (subst (λ m. TakesLeg m (file_of names n) (get_or told n None) new) before takes)

pub as_they_were : OpenedAndClosed
as_they_were None new names told sizes opened closes = given_untold names told (length told) new closes
as_they_were (Some files) new names told sizes opened closes = given_told files names told sizes (length told) new opened.each closes
