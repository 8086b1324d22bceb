-- The bits of pages as a function of page and leg, and what it means that none is left.
use Rattle.std.proofs.Common.{◌≡◌, ℕ, ◌<◌, Bool, true, false, not, ◌&&◌, List, Option, Some, None, length, replicate, get_or, refl, ap, arith}
use Rattle.std.specs.Prelude.{is_some, is_none, option_map}
use Rattle.std.proofs.lemmas.Grind.{common_steps}
use Rattle.dlm_modes.specs.First.{first_such}
use Rattle.dlm_modes.proofs.FirstLaws.{first_such_some, first_such_none}
use Rattle.mdc_types.proofs.BitsLaws.{has_bit-with_bit}
use Rattle.mdc_types.specs.Pages.{done_at, none_done, leg_without, with_its_leg, first_page_left, is_whole, leg_left, bits_of, with_page}

not_some : {A : Type 0} → (o : Option A) → is_some o ≡ false → o ≡ None
not_some None e = refl
not_some (Some x) e = cc

no_some : {A : Type 0} → (o : Option A) → is_none o ≡ true → o ≡ None
no_some None e = refl
no_some (Some x) e = cc

-- one more page of a leg
pub bits_of-with_page : (bits : List ℕ) (p l q k : ℕ) → p < length bits → bits_of (with_page bits p l) q k ≡ done_at (bits_of bits) p l q k
bits_of-with_page bits p l q k lt = grind (arith, common_steps, has_bit-with_bit (get_or bits p 0) l k)

-- no page
pub bits_of-replicate : (n q k : ℕ) → bits_of (replicate n 0) q k ≡ none_done q k
bits_of-replicate n q k = grind (arith, common_steps)

-- where no leg is without the page, it is done on each leg of the set
pub leg_without-none : (is_done : ℕ → ℕ → Bool) (in_set : ℕ → Bool) (p : ℕ) → leg_without is_done in_set p ≡ None → (l : ℕ) → l < 8 → in_set l ≡ true → is_done p l ≡ true
leg_without-none is_done in_set p none l lt member =
    let fails : (in_set l && not (is_done p l)) ≡ false = first_such_none (λ k. in_set k && not (is_done p k)) 0 8 none l (omega arith) (omega arith) in
    grind arith

pub record IsLegLeft (is_done : ℕ → ℕ → Bool) (in_set : ℕ → Bool) (p l : ℕ) : Type 0 where
  pub within : l < 8
  pub member : in_set l ≡ true
  pub left : is_done p l ≡ false

pub leg_without-some : (is_done : ℕ → ℕ → Bool) (in_set : ℕ → Bool) (p l : ℕ) → leg_without is_done in_set p ≡ Some l → IsLegLeft is_done in_set p l
leg_without-some is_done in_set p l found =
    let first = first_such_some (λ k. in_set k && not (is_done p k)) 0 8 l found in
    let passes : (in_set l && not (is_done p l)) ≡ true = first.passes in
    record { within = omega arith; member = grind arith; left = grind arith }

abbrev paired : ℕ → Option ℕ → Option (ℕ × ℕ)
paired p o = option_map (λ l. (p, l)) o

-- no page is left only where each page is done on each leg of the set
no_page : (is_done : ℕ → ℕ → Bool) (in_set : ℕ → Bool) (o : Option ℕ) → ((p : ℕ) → o ≡ Some p → is_some (leg_without is_done in_set p) ≡ true) → with_its_leg is_done in_set o ≡ None → o ≡ None
no_page is_done in_set None some none = refl
no_page is_done in_set (Some p) some none =
    elim (leg_without is_done in_set p) as (λ o. is_some o ≡ true → paired p o ≡ None → Some p ≡ None) [
      | None ↦ λ s n. cc
      | Some l ↦ λ s n. cc
    ] (some p refl) none

pub first_page_left-none : (is_done : ℕ → ℕ → Bool) (in_set : ℕ → Bool) (pages : ℕ) → first_page_left is_done in_set pages ≡ None → (p l : ℕ) → p < pages → l < 8 → in_set l ≡ true → is_done p l ≡ true
first_page_left-none is_done in_set pages none p l lt leg member =
    let test = λ (q : ℕ). is_some (leg_without is_done in_set q) in
    let no = no_page is_done in_set (first_such test 0 pages) (λ q found. (first_such_some test 0 pages q found).passes) none in
    let fails : is_some (leg_without is_done in_set p) ≡ false = first_such_none test 0 pages no p (omega arith) (omega arith) in
    leg_without-none is_done in_set p (not_some _ fails) l leg member

pub leg_left-none : (is_done : ℕ → ℕ → Bool) (in_set : ℕ → Bool) (pages : ℕ) → leg_left is_done in_set pages ≡ None → (p l : ℕ) → p < pages → l < 8 → in_set l ≡ true → is_done p l ≡ true
leg_left-none is_done in_set pages none p l lt leg member =
    let fails : (in_set l && not (is_whole is_done pages l)) ≡ false = first_such_none (λ k. in_set k && not (is_whole is_done pages k)) 0 8 none l (omega arith) (omega arith) in
    let whole : is_whole is_done pages l ≡ true = grind arith in
    let done : not (is_done p l) ≡ false = first_such_none (λ q. not (is_done q l)) 0 pages (no_some _ whole) p (omega arith) (omega arith) in
    grind arith

-- what is left is a page in use and a leg of the set on which it isn't done
pub record IsLeft (is_done : ℕ → ℕ → Bool) (in_set : ℕ → Bool) (pages p l : ℕ) : Type 0 where
  pub page : p < pages
  pub leg : IsLegLeft is_done in_set p l

left_at : (is_done : ℕ → ℕ → Bool) (in_set : ℕ → Bool) (pages : ℕ) (o : Option ℕ) → ((p : ℕ) → o ≡ Some p → p < pages) → (p l : ℕ) → with_its_leg is_done in_set o ≡ Some (p, l) → IsLeft is_done in_set pages p l
left_at is_done in_set pages None below p l found = cc
left_at is_done in_set pages (Some q) below p l found =
    elim (leg_without is_done in_set q) as (λ o. leg_without is_done in_set q ≡ o → paired q o ≡ Some (p, l) → IsLeft is_done in_set pages p l) [
      | None ↦ λ is same. cc
      | Some k ↦ λ is same.
          let both : (q, k) ≡ (p, l) = cc in
          let page = ap (λ (x : ℕ × ℕ). x.0) both in
          let leg = ap (λ (x : ℕ × ℕ). x.1) both in
          record { page = rw (← page) (below q refl); leg = rw (← page, ← leg) (leg_without-some is_done in_set q k is) }
    ] refl found

pub first_page_left-some : (is_done : ℕ → ℕ → Bool) (in_set : ℕ → Bool) (pages p l : ℕ) → first_page_left is_done in_set pages ≡ Some (p, l) → IsLeft is_done in_set pages p l
first_page_left-some is_done in_set pages p l found =
    let test = λ (q : ℕ). is_some (leg_without is_done in_set q) in
    left_at is_done in_set pages (first_such test 0 pages) (λ q is. let first = first_such_some test 0 pages q is in omega arith) p l found
