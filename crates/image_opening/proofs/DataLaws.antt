-- The data, block by block.
use Rattle.std.proofs.Common.{◌≡◌, ℕ, ◌+◌, ◌-◌, ◌<◌, ◌≤◌, Bool, true, false, List, [], length, get_or, Option, Some, None, Result, Ok, Err, refl, ap, sym, ◌∙◌, subst, arith, if◌then◌else◌}
use Rattle.std.specs.declared.alloc.AllocError.{AllocError}
use Rattle.std.specs.Prelude.{is_some, unwrap_or, IfErr, OnOk}
use Rattle.std.specs.Option.{option_map}
use Rattle.dlm_modes.specs.First.{first_such}
use Rattle.dlm_modes.proofs.FirstLaws.{first_such_some}
use Rattle.mdc_types.specs.Geometry.{data_offset, chunk_of}
use Rattle.mdc_types.specs.Sectors.{zero_sector}
use Rattle.mdc_types.specs.declared.numbers.Sector.{Sector}
use Rattle.image_faults.specs.declared.faults.ImageError.{ImageError}
use Rattle.image_faults.specs.declared.faults.ImageError.TheVariants.{Image, Shelf, Device, Memory}
use Rattle.image_faults.specs.declared.legs.LegImage.{LegImage}
use Rattle.image_files.specs.Ends.{IsOfLeg, HasFailed, IsTransferEnd}
use Rattle.image_files.specs.Rows.{AreRowsOf, GivesRow}
use Rattle.cluster_model.specs.Stored.{data_on}
use Rattle.world_state.specs.Told.{legs_of, sectors_of}
use Rattle.image_array.specs.Legs.{AreAll}
use Rattle.image_array.specs.Heads.{IsHead, works}
use Rattle.image_array.specs.Values.{AreRows, AddsValues, JudgesData, differing_leg, differs, first_unmarked, in_rows, is_marked, unmarked_error, unmarked_leg}
use Rattle.image_array.specs.declared.heads.Head.{Head}
use Rattle.image_array.proofs.Blocks.{AreOf, base_more, base_none, told_of_all}
use Rattle.image_array.proofs.HeadLaws.{within}
use Rattle.image_opening.specs.Opened.{AllLegsTell}
use Rattle.image_opening.specs.Faults.{HaveBase, IsDataEnd, TellsData}

-- the legs that work have their rows
pub rows_there : (images : List LegImage) (h : Head) (told : List (Option (List Sector))) (at count : ℕ) (rows : List (List Sector))
    → AreAll images → IsHead images h → length told ≡ length images → AreRowsOf told h.roles at count rows → AreRows h.roles count rows
rows_there images h told at count rows all head many are =
    let inside : (l : ℕ) → l < 8 → works h.roles l ≡ true → l < length told = λ l lt w. subst (λ n. l < n) (sym many) ((within images h all head).leg l lt w) in
    record {
      there = λ l lt w. subst (λ n. l < n) (sym are.many) (inside l lt w);
      long = λ l lt w. (are.each l (inside l lt w) w).0;
    }

row_is : (t : Option (List Sector)) (at i : ℕ) (row : List Sector) → is_some t ≡ true → GivesRow t at row → i < length row
    → get_or row i zero_sector ≡ get_or (sectors_of t) (at + i) zero_sector
row_is None at i row tells gives lt = absurd (cc tells)
row_is (Some leg) at i row tells gives lt = gives.each i lt

place : (offset from s : ℕ) → from ≤ s → (offset + from) + (s - from) ≡ offset + s
place offset from s le = omega arith

-- they are the data of the legs
pub rows_are : (images : List LegImage) (h : Head) (told : List (Option (List Sector))) (from count : ℕ) (rows : List (List Sector))
    → AreAll images → IsHead images h → length told ≡ length images → AreRowsOf told h.roles (data_offset h.geometry + from) count rows → AllLegsTell told
    → AreOf h rows from count (data_on h.geometry (legs_of told))
rows_are images h told from count rows all head many are tell = record {
  each = λ l s lt w le below.
      let inside : l < length told = subst (λ n. l < n) (sym many) ((within images h all head).leg l lt w) in
      let row = are.each l inside w in
      row_is (get_or told l None) (data_offset h.geometry + from) (s - from) (get_or rows l []) (tell l inside) row.1 (let e = row.0 in omega (arith, e, le, below))
      ∙ ap (λ n. get_or (sectors_of (get_or told l None)) n zero_sector) (place (data_offset h.geometry) from s le);
}

-- a block more
pub base_grows : (images : List LegImage) (h : Head) (told : List (Option (List Sector))) (from count : ℕ) (rows old new : List (List Sector)) (r : Result (Unit {0}) ImageError)
    → AreAll images → IsHead images h → length told ≡ length images → AreRowsOf told h.roles (data_offset h.geometry + from) count rows
    → JudgesData h images (in_rows rows from) from count r → OnOk r (AddsValues h (in_rows rows from) from count old new) → HaveBase told h images from old
    → OnOk r (HaveBase told h images (from + count) new)
base_grows images h told from count rows old new (Ok u) all head many are judged adds was = record {
  many = adds.many;
  values = λ tell. base_more h images (data_on h.geometry (legs_of told)) rows from count old new (rows_are images h told from count rows all head many are tell)
      judged adds (was.values tell);
}
base_grows images h told from count rows old new (Err e) all head many are judged adds was = tt

pub base_begins : (told : List (Option (List Sector))) (h : Head) (images : List LegImage) (n : ℕ) (base : List (List Sector)) → n ≡ 0 → base ≡ [] → HaveBase told h images n base
base_begins told h images n base none is =
    subst (λ k. HaveBase told h images k base) (sym none) (subst (HaveBase told h images 0) (sym is) (record { many = refl; values = λ tell. base_none h images (data_on h.geometry (legs_of told)) }))

-- Ends.

-- no row of a leg was read
pub rows_end : (told : List (Option (List Sector))) (h : Head) (images : List LegImage) (faults : List ℕ) (e : ImageError)
    → IsOfLeg e → HasFailed faults e → IsTransferEnd e → IsDataEnd told h images faults e
rows_end told h images faults e leg failed end = record { leg = leg; failed = failed; fault = of_transfer e end } where
  of_transfer : (d : ImageError) → IsTransferEnd d → TellsData told h images d
  of_transfer (Image l f) is = absurd is
  of_transfer (Shelf l) is = absurd is
  of_transfer (Device l) is = tt
  of_transfer (Memory m) is = tt

found_below : (p : ℕ → Bool) (r : Option ℕ) → first_such p 0 8 ≡ r → unwrap_or r 0 < 8
found_below p None is = omega arith
found_below p (Some l) is = let b = (first_such_some p 0 8 l is).below in omega (arith, b)

leg_below : (b : Bool) (r : Option ℕ) → unwrap_or r 0 < 8 → unwrap_or (if b then None else r) 0 < 8
leg_below true r lt = omega arith
leg_below false r lt = lt

leg_told : (h : Head) (images : List LegImage) (stored : ℕ → ℕ → Sector) (s : ℕ) → unwrap_or (unmarked_leg h images stored s) 0 < 8
leg_told h images stored s =
    leg_below (is_marked images h.roles (chunk_of h.geometry s)) (differing_leg h.roles (λ l. stored l s))
    (found_below (differs h.roles (λ l. stored l s)) (differing_leg h.roles (λ l. stored l s)) refl)

told_below : (h : Head) (images : List LegImage) (stored : ℕ → ℕ → Sector) (r : Option ℕ) (e : ImageError) → option_map (unmarked_error h images stored) r ≡ Some e → IsOfLeg e
told_below h images stored None e is = absurd (cc is)
told_below h images stored (Some s) e is =
    let same : unmarked_error h images stored s ≡ e = cc in
    subst IsOfLeg same (leg_told h images stored s)

-- a sector is unmarked, or there was no memory
judged_end : (images : List LegImage) (h : Head) (told : List (Option (List Sector))) (from count : ℕ) (rows base : List (List Sector)) (faults : List ℕ) (e : ImageError)
    → AreAll images → IsHead images h → length told ≡ length images → AreRowsOf told h.roles (data_offset h.geometry + from) count rows → from + count ≤ h.geometry.room
    → JudgesData h images (in_rows rows from) from count (Err e) → HaveBase told h images from base → IsDataEnd told h images faults e
judged_end images h told from count rows base faults (Image l f) all head many are most judged was = record {
  leg = told_below h images (in_rows rows from) (first_unmarked h images (in_rows rows from) from count) (Image l f) judged;
  failed = tt;
  fault = λ tell. told_of_all h images (data_on h.geometry (legs_of told)) rows from count h.geometry.room l f base
      (rows_are images h told from count rows all head many are tell) most judged (was.values tell);
}
judged_end images h told from count rows base faults (Memory m) all head many are most judged was = record { leg = tt; failed = tt; fault = tt }
judged_end images h told from count rows base faults (Shelf l) all head many are most judged was = absurd judged
judged_end images h told from count rows base faults (Device l) all head many are most judged was = absurd judged

pub judged_ends : (images : List LegImage) (h : Head) (told : List (Option (List Sector))) (from count : ℕ) (rows base : List (List Sector)) (faults : List ℕ) (r : Result (Unit {0}) ImageError)
    → AreAll images → IsHead images h → length told ≡ length images → AreRowsOf told h.roles (data_offset h.geometry + from) count rows → from + count ≤ h.geometry.room
    → JudgesData h images (in_rows rows from) from count r → HaveBase told h images from base → IfErr r (IsDataEnd told h images faults)
judged_ends images h told from count rows base faults (Ok u) all head many are most judged was = tt
judged_ends images h told from count rows base faults (Err e) all head many are most judged was = judged_end images h told from count rows base faults e all head many are most judged was

pub memory_end : (told : List (Option (List Sector))) (h : Head) (images : List LegImage) (faults : List ℕ) (m : AllocError) → IsDataEnd told h images faults (Memory m)
memory_end told h images faults m = record { leg = tt; failed = tt; fault = tt }
