-- Rows that grow sector by sector.
use Rattle.std.proofs.Common.{◌≡◌, ℕ, ◌+◌, ◌<◌, List, [], ◌∷◌, ◌++◌, length, get_or, Option, Some, None, ap, sym, ◌∙◌, subst, arith, inl, inr}
use Rattle.std.proofs.lemmas.Bool.{cases_lt}
use Rattle.std.proofs.Common.{map, get_or-set_same, true}
use Rattle.std.proofs.Math.ListN.{set}
use Rattle.std.proofs.Math.Seq.{map-set_same}
use Rattle.std.proofs.lemmas.List.{length_push, get_or_push, get_or_append_left, get_or-map, map-set, length-map}
use Rattle.mdc_types.specs.Faults.{Rose}
use Rattle.std.proofs.lemmas.Option.{get_or_from_slice_get}
use Rattle.mdc_types.specs.Sectors.{zero_sector}
use Rattle.mdc_types.specs.declared.numbers.Sector.{Sector}
use Rattle.leg_store.specs.Leg.{Gives}
use Rattle.mdc_types.specs.declared.roles.Roles.{Roles}
use Rattle.image_faults.specs.declared.faults.ImageError.{ImageError}
use Rattle.image_faults.specs.declared.faults.ImageError.TheVariants.{Image, Shelf, Device, Memory}
use Rattle.image_files.specs.Rows.{GivesRow, works, AreRowsOf, IsReadEnd}
use Rattle.image_files.specs.Ends.{IsOfLeg, HasFailed, IsTransferEnd}

pub row_none : (told : Option (List Sector)) (at : ℕ) (row : List Sector) → row ≡ [] → GivesRow told at row
row_none None at row is = tt
row_none (Some leg) at row is = record { each = λ i lt. let e : length row ≡ 0 = ap length is in absurd (omega (arith, lt, e)) }

-- a sector more
pub row_more : (told : Option (List Sector)) (at i : ℕ) (row new : List Sector) (v : Sector) → GivesRow told at row → length row ≡ i
    → Gives told (at + i) v → new ≡ row ++ v ∷ [] → GivesRow told at new
row_more None at i row new v was many gives is = tt
row_more (Some leg) at i row new v was many gives is = record {
  each = λ k lt.
      let long : length new ≡ length row + 1 = ap length is ∙ length_push row v in
      elim (cases_lt k (length row)) [
        | inl below ↦ ap (λ xs. get_or xs k zero_sector) is ∙ get_or_append_left row (v ∷ []) zero_sector k below ∙ was.each k below
        | inr past ↦
            let last : length row ≡ k = omega (arith, lt, long, past) in
            ap (λ xs. get_or xs k zero_sector) is ∙ get_or_push row v zero_sector k last
            ∙ sym (get_or_from_slice_get leg (at + i) v zero_sector gives) ∙ ap (λ n. get_or leg (at + n) zero_sector) (sym many ∙ last)
      ];
}

-- A leg of several was called.

module _ {X Y : Type 0} (f : X → Y) (xs : List X) (i : ℕ) (old new : X) (lt : i < length xs) (is : old ≡ get_or xs i old) where
  pub mapped_same : f new ≡ f old → map f (set xs i new) ≡ map f xs
  mapped_same same = map-set_same f xs i new old (same ∙ ap f is)

  pub mapped_at : (e : Y) → get_or (map f xs) i e ≡ f old
  mapped_at e = get_or-map f xs i old e lt ∙ ap f (sym is)

-- the count that rose
pub rose_at : {X : Type 0} (f : X → ℕ) (xs : List X) (i l before : ℕ) (new : X) → i ≡ l → i < length xs → Rose before (f new)
    → 0 < get_or (map f (set xs i new)) l 0
rose_at f xs i l before new same lt rose =
    let lt_map : i < length (map f xs) = omega (arith, lt, length-map xs f) in
    let e : get_or (map f (set xs i new)) l 0 ≡ f new =
    ap (λ ys. get_or ys l 0) (map-set f xs i new)
    ∙ ap (λ k. get_or (set (map f xs) i (f new)) k 0) (sym same)
    ∙ get_or-set_same (map f xs) i (f new) 0 lt_map in
    omega (arith, e, rose)

-- The rows of all legs.

-- the first n legs have their rows
pub record RowsTo (told : List (Option (List Sector))) (roles : Roles) (at count n : ℕ) (rows : List (List Sector)) : Type 0 where
  pub many : length rows ≡ n
  pub each : (l : ℕ) → l < n → works roles l ≡ true
      → (length (get_or rows l []) ≡ count) × GivesRow (get_or told l None) at (get_or rows l [])

pub rows_none : (told : List (Option (List Sector))) (roles : Roles) (at count : ℕ) (rows : List (List Sector)) → rows ≡ [] → RowsTo told roles at count 0 rows
rows_none told roles at count rows is = record { many = ap length is; each = λ l lt. absurd (omega (arith, lt)) }

-- a row more
pub rows_more : (told : List (Option (List Sector))) (roles : Roles) (at count n : ℕ) (rows new : List (List Sector)) (row : List Sector)
    → RowsTo told roles at count n rows → new ≡ rows ++ row ∷ []
    → (works roles n ≡ true → length row ≡ count) → (works roles n ≡ true → GivesRow (get_or told n None) at row)
    → RowsTo told roles at count (n + 1) new
rows_more told roles at count n rows new row was is long gives = record {
  many = ap length is ∙ length_push rows row ∙ ap (λ k. k + 1) was.many;
  each = λ l lt w. elim (cases_lt l n) [
    | inl below ↦
        let e : get_or rows l [] ≡ get_or new l [] = sym (ap (λ xs. get_or xs l []) is ∙ get_or_append_left rows (row ∷ []) [] l (subst (λ k. l < k) (sym was.many) below)) in
        subst (λ xs. (length xs ≡ count) × GivesRow (get_or told l None) at xs) e (was.each l below w)
    | inr past ↦
        let last : n ≡ l = omega (arith, lt, past) in
        let e : row ≡ get_or new l [] = sym (ap (λ xs. get_or xs l []) is ∙ get_or_push rows row [] l (was.many ∙ last)) in
        let here : works roles n ≡ true = subst (λ k. works roles k ≡ true) (sym last) w in
        subst (λ xs. (length xs ≡ count) × GivesRow (get_or told l None) at xs) e
        (long here, subst (λ k. GivesRow (get_or told k None) at row) last (gives here))
  ];
}

pub rows_all : (told : List (Option (List Sector))) (roles : Roles) (at count n : ℕ) (rows : List (List Sector)) → RowsTo told roles at count n rows → n ≡ length told
    → AreRowsOf told roles at count rows
rows_all told roles at count n rows was is = record {
  many = was.many ∙ is;
  each = λ l lt w. was.each l (subst (λ k. l < k) (sym is) lt) w;
}

-- an error of a row
pub record IsRowEnd (faults : List ℕ) (e : ImageError) : Type 0 where
  pub leg : IsOfLeg e
  pub failed : HasFailed faults e
  pub end : IsTransferEnd e

pub row_end : (l : ℕ) (faults : List ℕ) (e : ImageError) → l < 8 → IsReadEnd l faults e → IsRowEnd faults e
row_end l faults (Device k) lt is = record {
  leg = subst (λ n. n < 8) (sym is.0) lt;
  failed = subst (λ n. 0 < get_or faults n 0) (sym is.0) is.1;
  end = tt;
}
row_end l faults (Memory e) lt is = record { leg = tt; failed = tt; end = tt }
row_end l faults (Image k f) lt is = absurd is
row_end l faults (Shelf k) lt is = absurd is
