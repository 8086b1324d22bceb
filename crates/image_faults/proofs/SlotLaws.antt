-- Slots, page by page.
use Rattle.std.proofs.Common.{◌≡◌, ℕ, ◌+◌, ◌-◌, ◌<◌, ◌≤◌, ◌==◌, nat_lt, Bool, true, false, not, ◌&&◌, ◌||◌, List, get_or, Option, Some, None, is_some, Result, Ok, Err, ap, sym, ◌∙◌, arith, inl, inr, subst}
use Rattle.std.proofs.lemmas.Bool.{cases_lt}
use Rattle.std.proofs.lemmas.Bool.Decides.{nat_tests}
use Rattle.std.proofs.lemmas.Option.{get_or_from_slice_get}
use Rattle.std.specs.Prelude.{is_err, OnOk}
use Rattle.std.specs.Result.{result_err}
use Rattle.dlm_modes.specs.First.{first_such}
use Rattle.dlm_modes.proofs.FirstLaws.{first_such_more, first_such_found, first_such_end}
use Rattle.mdc_types.specs.Geometry.{Sizes, slot_pages, page_of, page_sector, chunks_of}
use Rattle.mdc_types.specs.Sectors.{zero_sector, IsSector}
use Rattle.mdc_types.specs.declared.numbers.Sector.{Sector}
use Rattle.leg_store.specs.Leg.{Gives}
use Rattle.slot_pages.specs.Faults.{slot_fault}
use Rattle.slot_pages.specs.Slot.{page_has, chunk_bit, AddsPage}
use Rattle.image_faults.specs.Slots.{page_bytes, page_is_wrong, slot_bit, JudgesSlot, AddsTo, ArePages}

-- so far no page below p was wrong
abbrev pub JudgesTo : Option (List Sector) → Sizes → List ℕ → ℕ → ℕ → Type 0
JudgesTo None g uuid k p = Unit {0}
JudgesTo (Some leg) g uuid k p =
    first_such (page_is_wrong g uuid leg k) 0 (slot_pages g)
    ≡ first_such (page_is_wrong g uuid leg k) p (slot_pages g - p)

pub judges_none : (told : Option (List Sector)) (g : Sizes) (uuid : List ℕ) (k : ℕ) → JudgesTo told g uuid k 0
judges_none None g uuid k = tt
judges_none (Some leg) g uuid k = let e : slot_pages g ≡ slot_pages g - 0 = omega arith in ap (first_such (page_is_wrong g uuid leg k) 0) e

there : (leg : List Sector) (g : Sizes) (uuid : List ℕ) (k p : ℕ) (page : Sector) (b : Bool) → Gives (Some leg) (page_sector g k p) page
    → is_some (slot_fault g uuid p page.bytes) ≡ b → page_is_wrong g uuid leg k p ≡ b
there leg g uuid k p page b gives is =
    ap (λ s. is_some (slot_fault g uuid p s.bytes)) (get_or_from_slice_get leg (page_sector g k p) page zero_sector gives) ∙ is

pub judges_more : (told : Option (List Sector)) (g : Sizes) (uuid : List ℕ) (k p : ℕ) (page : Sector) → Gives told (page_sector g k p) page
    → is_some (slot_fault g uuid p page.bytes) ≡ false → p < slot_pages g → JudgesTo told g uuid k p → JudgesTo told g uuid k (p + 1)
judges_more None g uuid k p page gives is lt judged = tt
judges_more (Some leg) g uuid k p page gives is lt judged =
    judged ∙ first_such_more (page_is_wrong g uuid leg k) p (slot_pages g) lt (there leg g uuid k p page false gives is)

pub judges_wrong : (told : Option (List Sector)) (g : Sizes) (uuid : List ℕ) (k p : ℕ) (page : Sector) → Gives told (page_sector g k p) page
    → is_some (slot_fault g uuid p page.bytes) ≡ true → p < slot_pages g → JudgesTo told g uuid k p → JudgesSlot told g uuid k false
judges_wrong None g uuid k p page gives is lt judged = tt
judges_wrong (Some leg) g uuid k p page gives is lt judged =
    let e = judged ∙ first_such_found (page_is_wrong g uuid leg k) p (slot_pages g) lt (there leg g uuid k p page true gives is) in
    sym (ap (λ o. not (is_some o)) e)

pub judges_all : (told : Option (List Sector)) (g : Sizes) (uuid : List ℕ) (k p : ℕ) → slot_pages g ≤ p → JudgesTo told g uuid k p → JudgesSlot told g uuid k true
judges_all None g uuid k p le judged = tt
judges_all (Some leg) g uuid k p le judged =
    let e = judged ∙ first_such_end (page_is_wrong g uuid leg k) p (slot_pages g) le in sym (ap (λ o. not (is_some o)) e)

pub adds_none : (told : Option (List Sector)) (g : Sizes) (k : ℕ) (set : List Bool) → AddsTo told g k 0 set set
adds_none None g k set = tt
adds_none (Some leg) g k set = record { each = λ c. unadded (get_or set c false) (page_of c) (slot_bit g leg k c) } where
  unadded : (b : Bool) (n : ℕ) (d : Bool) → b ≡ (b || (nat_lt n 0 && d))
  unadded b n d = grind (arith, nat_tests)

-- one more page: by whether the chunk is in it
one : (b d e f : Bool) (n p : ℕ) → (n ≡ p → e ≡ d) → e ≡ (f && (n == p) && e)
    → ((b || (nat_lt n p && d)) || e) ≡ (b || (nat_lt n (p + 1) && d))
one b d e f n p same inside = grind (arith, nat_tests, same, inside)

twice : (x y z : Bool) → (x && y && z) ≡ (x && y && (x && y && z))
twice x y z = grind arith

in_page : (leg : List Sector) (g : Sizes) (k p c : ℕ) (page : Sector) → Gives (Some leg) (page_sector g k p) page → page_of c ≡ p
    → page_has g p page.bytes c ≡ slot_bit g leg k c
in_page leg g k p c page gives same =
    ap (λ s. page_has g p s.bytes c) (sym (get_or_from_slice_get leg (page_sector g k p) page zero_sector gives))
    ∙ ap (λ q. page_has g q (page_bytes g leg k q) c) (sym same)

pub adds_more : (told : Option (List Sector)) (g : Sizes) (k p : ℕ) (page : Sector) (old mid new : List Bool) → Gives told (page_sector g k p) page
    → AddsPage g p page.bytes mid new → AddsTo told g k p old mid → AddsTo told g k (p + 1) old new
adds_more None g k p page old mid new gives add adds = tt
adds_more (Some leg) g k p page old mid new gives add adds = record {
  each = λ c.
      add.each c ∙ ap (λ b. b || page_has g p page.bytes c) (adds.each c)
      ∙ one (get_or old c false) (slot_bit g leg k c) (page_has g p page.bytes c) (nat_lt c (chunks_of g)) (page_of c) p
      (in_page leg g k p c page gives) (twice (nat_lt c (chunks_of g)) (page_of c == p) (chunk_bit page.bytes c));
}

-- what a page's reading says of its fault
pub fault_told : {T E : Type 0} (r : Result T E) (f : Option E) (b : Bool) → result_err r ≡ f → is_err r ≡ b → is_some f ≡ b
fault_told (Ok v) f b is e = ap is_some (sym is) ∙ e
fault_told (Err v) f b is e = ap is_some (sym is) ∙ e

pub ok_has : {T E : Type 0} (r : Result T E) (P : Type 0) → is_err r ≡ false → OnOk r P → P
ok_has (Ok v) P is p = p
ok_has (Err v) P is p = absurd (cc is)

pub pages_none : (told : Option (List Sector)) (g : Sizes) (k : ℕ) → ArePages told g k 0
pages_none None g k = tt
pages_none (Some leg) g k = λ p lt. absurd (omega (arith, lt))

pub pages_more : (told : Option (List Sector)) (g : Sizes) (k p : ℕ) (page : Sector) → Gives told (page_sector g k p) page
    → IsSector page.bytes → ArePages told g k p → ArePages told g k (p + 1)
pages_more None g k p page gives is before = tt
pages_more (Some leg) g k p page gives is before = λ q lt. elim (cases_lt q p) [
  | inl below ↦ before q below
  | inr past ↦ let last : p ≡ q = omega arith in
      subst (λ n. IsSector (page_bytes g leg k n)) last
      (subst (λ (s : Sector). IsSector s.bytes) (sym (get_or_from_slice_get leg (page_sector g k p) page zero_sector gives)) is)
]

pub pages_all : (told : Option (List Sector)) (g : Sizes) (k p n : ℕ) → n ≤ p → ArePages told g k p → ArePages told g k n
pages_all None g k p n le are = tt
pages_all (Some leg) g k p n le are = λ q lt. are q (omega arith)
