-- The base, block by block.
use Rattle.std.proofs.Common.{◌≡◌, ℕ, zero, suc, ◌+◌, ◌-◌, ◌<◌, ◌≤◌, Bool, true, false, List, [], ◌∷◌, ◌++◌, length, get_or, Option, Some, None, Ok, Err, refl, ap, sym, ◌∙◌, subst, arith, inl, inr, if◌then◌else◌}
use Rattle.std.specs.Prelude.{is_some, unwrap_or}
use Rattle.std.specs.Option.{option_map}
use Rattle.std.proofs.lemmas.Bool.{cases_lt}
use Rattle.std.proofs.lemmas.List.{get_or_append_left, get_or_push, length_push}
use Rattle.dlm_modes.specs.First.{first_such}
use Rattle.dlm_modes.proofs.FirstLaws.{first_such_same, first_such_some, first_such_more, first_such_found, first_such_end}
use Rattle.mdc_types.specs.Geometry.{chunk_of}
use Rattle.mdc_types.specs.declared.numbers.Sector.{Sector}
use Rattle.image_faults.specs.declared.faults.ImageFault.{ImageFault}
use Rattle.image_faults.specs.declared.faults.ImageFault.TheVariants.{Unmarked}
use Rattle.image_faults.specs.declared.faults.ImageError.{ImageError}
use Rattle.image_faults.specs.declared.faults.ImageError.TheVariants.{Image}
use Rattle.image_faults.specs.declared.legs.LegImage.{LegImage}
use Rattle.image_array.specs.Heads.{works}
use Rattle.image_array.specs.Values.{values_of, is_marked, unmarked_leg, is_unmarked, first_unmarked, unmarked_error, JudgesData, in_rows, AddsValues, IsBase}
use Rattle.image_array.specs.declared.heads.Head.{Head}
use Rattle.image_array.proofs.ValueLaws.{values_of-same, differing_leg-same}

-- Searches, one after another.

step : (p : ℕ → Bool) (i n : ℕ) → first_such p i (suc n) ≡ (if p i then Some i else first_such p (i + 1) n)
unfolding first_such
step p i n = refl

passed : (b : Bool) (i : ℕ) (r : Option ℕ) → (if b then Some i else r) ≡ None → (b ≡ false) × (r ≡ None)
passed true i r e = absurd (cc e)
passed false i r e = (refl, e)

-- past a part in which nothing is found
pub first_such-skip : (p : ℕ → Bool) (i m n : ℕ) → first_such p i m ≡ None → first_such p i (m + n) ≡ first_such p (i + m) n
first_such-skip p i zero n none =
    let e : 0 + n ≡ n = omega arith in
    let f : i ≡ i + 0 = omega arith in
    ap (first_such p i) e ∙ ap (λ j. first_such p j n) f
first_such-skip p i (suc m) n none =
    let e : suc m + n ≡ suc (m + n) = omega arith in
    let f : i + 1 + m ≡ i + suc m = omega arith in
    let past = passed (p i) i (first_such p (i + 1) m) (sym (step p i m) ∙ none) in
    ap (first_such p i) e ∙ step p i (m + n) ∙ ap (λ b. if b then Some i else first_such p (i + 1) (m + n)) past.0
    ∙ first_such-skip p (i + 1) m n past.1 ∙ ap (λ j. first_such p j n) f

found : (b : Bool) (i k : ℕ) (r s : Option ℕ) → (if b then Some i else r) ≡ Some k → (r ≡ Some k → s ≡ Some k) → (if b then Some i else s) ≡ Some k
found true i k r s e further = e
found false i k r s e further = further e

-- what is found in a part is found in more
pub first_such-more : (p : ℕ → Bool) (i m n k : ℕ) → first_such p i m ≡ Some k → first_such p i (m + n) ≡ Some k
unfolding first_such
first_such-more p i zero n k is = absurd (cc is)
first_such-more p i (suc m) n k is =
    let e : suc m + n ≡ suc (m + n) = omega arith in
    ap (first_such p i) e ∙ step p i (m + n)
    ∙ found (p i) i k (first_such p (i + 1) m) (first_such p (i + 1) (m + n)) (sym (step p i m) ∙ is) (λ rest. first_such-more p (i + 1) m n k rest)

-- The rows are the data of the legs that work.

pub record AreOf (h : Head) (rows : List (List Sector)) (from count : ℕ) (stored : ℕ → ℕ → Sector) : Type 0 where
  pub each : (l s : ℕ) → l < 8 → works h.roles l ≡ true → from ≤ s → s < from + count → in_rows rows from l s ≡ stored l s

unmarked_leg-same : (h : Head) (images : List LegImage) (f g : ℕ → ℕ → Sector) (s : ℕ) → ((l : ℕ) → l < 8 → works h.roles l ≡ true → f l s ≡ g l s)
    → unmarked_leg h images f s ≡ unmarked_leg h images g s
unmarked_leg-same h images f g s same =
    ap (λ r. if is_marked images h.roles (chunk_of h.geometry s) then None else r) (differing_leg-same h.roles (λ l. f l s) (λ l. g l s) same)

first_unmarked-same : (h : Head) (images : List LegImage) (f g : ℕ → ℕ → Sector) (from count : ℕ)
    → ((l s : ℕ) → l < 8 → works h.roles l ≡ true → from ≤ s → s < from + count → f l s ≡ g l s)
    → first_unmarked h images f from count ≡ first_unmarked h images g from count
first_unmarked-same h images f g from count same = first_such_same (is_unmarked h images f) (is_unmarked h images g) from count
    (λ s le lt. ap is_some (unmarked_leg-same h images f g s (λ l below is. same l s below is le lt)))

-- a block more
pub base_more : (h : Head) (images : List LegImage) (stored : ℕ → ℕ → Sector) (rows : List (List Sector)) (from count : ℕ) (old new : List (List Sector))
    → AreOf h rows from count stored → JudgesData h images (in_rows rows from) from count (Ok tt)
    → AddsValues h (in_rows rows from) from count old new → IsBase h images stored from old → IsBase h images stored (from + count) new
base_more h images stored rows from count old new are judged adds was = record {
  many = adds.many;
  values = λ s lt. elim (cases_lt s from) [
    | inl below ↦ adds.before s below ∙ was.values s below
    | inr past ↦ adds.values s past lt ∙ values_of-same h.roles (λ l. in_rows rows from l s) (λ l. stored l s) 8 (λ l below is. are.each l s below is past lt)
  ];
  marked =
      first_such-skip (is_unmarked h images stored) 0 from count was.marked
      ∙ ap (λ j. first_such (is_unmarked h images stored) j count) (zero_plus from)
      ∙ sym (first_unmarked-same h images (in_rows rows from) stored from count are.each) ∙ judged;
} where
  zero_plus : (n : ℕ) → 0 + n ≡ n
  zero_plus n = omega arith

pub base_none : (h : Head) (images : List LegImage) (stored : ℕ → ℕ → Sector) → IsBase h images stored 0 []
unfolding first_such
base_none h images stored = record { many = refl; values = λ s lt. absurd (omega (arith, lt)); marked = refl }

error_of : (h : Head) (images : List LegImage) (stored : ℕ → ℕ → Sector) (r : Option ℕ) (e : ImageError) → option_map (unmarked_error h images stored) r ≡ Some e
    → (s : ℕ) × (r ≡ Some s) × (unmarked_error h images stored s ≡ e)
error_of h images stored None e is = absurd (cc is)
error_of h images stored (Some s) e is = (s, refl, cc)

-- what is told of a block is what is to be told of all the data
pub told_of_all : (h : Head) (images : List LegImage) (stored : ℕ → ℕ → Sector) (rows : List (List Sector)) (from count all l : ℕ) (f : ImageFault) (old : List (List Sector))
    → AreOf h rows from count stored → from + count ≤ all → JudgesData h images (in_rows rows from) from count (Err (Image l f))
    → IsBase h images stored from old → JudgesData h images stored 0 all (Err (Image l f))
told_of_all h images stored rows from count all l f old are most judged was =
    let told = error_of h images (in_rows rows from) (first_unmarked h images (in_rows rows from) from count) (Image l f) judged in
    let s : ℕ = told.0 in
    let here : first_unmarked h images stored from count ≡ Some s = sym (first_unmarked-same h images (in_rows rows from) stored from count are.each) ∙ told.1 in
    let inside = first_such_some (is_unmarked h images (in_rows rows from)) from count s told.1 in
    let split : all ≡ from + (count + (all - (from + count))) = omega arith in
    let zero_plus : 0 + from ≡ from = omega arith in
    let found : first_unmarked h images stored 0 all ≡ Some s =
    ap (first_such (is_unmarked h images stored) 0) split
    ∙ first_such-skip (is_unmarked h images stored) 0 from (count + (all - (from + count))) was.marked
    ∙ ap (λ j. first_such (is_unmarked h images stored) j (count + (all - (from + count)))) zero_plus
    ∙ first_such-more (is_unmarked h images stored) from count (all - (from + count)) s here in
    let leg : unmarked_leg h images (in_rows rows from) s ≡ unmarked_leg h images stored s =
    unmarked_leg-same h images (in_rows rows from) stored s (λ k below is. are.each k s below is inside.from inside.below) in
    ap (option_map (unmarked_error h images stored)) found
    ∙ ap (λ r. Some (Image (unwrap_or r 0) (Unmarked s))) (sym leg)
    ∙ ap Some told.2

-- Sector by sector within a block.

pub record AddedTo (h : Head) (images : List LegImage) (stored : ℕ → ℕ → Sector) (from count s : ℕ) (old new : List (List Sector)) : Type 0 where
  pub none : first_unmarked h images stored from count ≡ first_such (is_unmarked h images stored) s ((from + count) - s)
  pub many : length new ≡ s
  pub before : (t : ℕ) → t < from → get_or new t [] ≡ get_or old t []
  pub values : (t : ℕ) → from ≤ t → t < s → get_or new t [] ≡ values_of h.roles (λ l. stored l t) 8

pub added_none : (h : Head) (images : List LegImage) (stored : ℕ → ℕ → Sector) (from count : ℕ) (base : List (List Sector)) → length base ≡ from
    → AddedTo h images stored from count from base base
added_none h images stored from count base long = record {
  none = let f : count ≡ (from + count) - from = omega arith in ap (first_such (is_unmarked h images stored) from) f;
  many = long;
  before = λ t lt. refl;
  values = λ t le lt. absurd (omega (arith, le, lt));
}

push_before : (old new : List (List Sector)) (vs : List Sector) (s : ℕ) → new ≡ old ++ vs ∷ [] → s < length old → get_or new s [] ≡ get_or old s []
push_before old new vs s is lt = ap (λ xs. get_or xs s []) is ∙ get_or_append_left old (vs ∷ []) [] s lt

push_last : (old new : List (List Sector)) (vs : List Sector) (s : ℕ) → new ≡ old ++ vs ∷ [] → length old ≡ s → get_or new s [] ≡ vs
push_last old new vs s is long = ap (λ xs. get_or xs s []) is ∙ get_or_push old vs [] s long

pub added_more : (h : Head) (images : List LegImage) (stored : ℕ → ℕ → Sector) (from count s : ℕ) (old mid new : List (List Sector)) (vs : List Sector)
    → from ≤ s → s < from + count → None ≡ unmarked_leg h images stored s → new ≡ mid ++ vs ∷ [] → vs ≡ values_of h.roles (λ l. stored l s) 8
    → AddedTo h images stored from count s old mid → AddedTo h images stored from count (s + 1) old new
added_more h images stored from count s old mid new vs le lt none is vs_are was = record {
  none = was.none ∙ first_such_more (is_unmarked h images stored) s (from + count) lt (ap is_some (sym none));
  many = ap length is ∙ length_push mid vs ∙ ap (λ n. n + 1) was.many;
  before = λ t below. push_before mid new vs t is (omega (arith, le, below, was.many)) ∙ was.before t below;
  values = λ t past below. elim (cases_lt t s) [
    | inl under ↦ push_before mid new vs t is (omega (arith, under, was.many)) ∙ was.values t past under
    | inr over ↦
        let here : s ≡ t = omega (arith, over, below) in
        push_last mid new vs t is (was.many ∙ here) ∙ vs_are ∙ ap (λ j. values_of h.roles (λ l. stored l j) 8) here
  ];
}

pub added_found : (h : Head) (images : List LegImage) (stored : ℕ → ℕ → Sector) (from count s leg : ℕ) (old new : List (List Sector))
    → s < from + count → Some leg ≡ unmarked_leg h images stored s → AddedTo h images stored from count s old new
    → JudgesData h images stored from count (Err (Image leg (Unmarked s)))
added_found h images stored from count s leg old new lt some was =
    ap (option_map (unmarked_error h images stored)) (was.none ∙ first_such_found (is_unmarked h images stored) s (from + count) lt (ap is_some (sym some)))
    ∙ ap (λ r. Some (Image (unwrap_or r 0) (Unmarked s))) (sym some)

pub added_all : (h : Head) (images : List LegImage) (stored : ℕ → ℕ → Sector) (from count s : ℕ) (old new : List (List Sector))
    → s ≡ from + count → AddedTo h images stored from count s old new → JudgesData h images stored from count (Ok tt)
added_all h images stored from count s old new is was =
    was.none ∙ first_such_end (is_unmarked h images stored) s (from + count) (omega (arith, is))

pub adds_all : (h : Head) (images : List LegImage) (stored : ℕ → ℕ → Sector) (from count s : ℕ) (old new : List (List Sector))
    → s ≡ from + count → AddedTo h images stored from count s old new → AddsValues h stored from count old new
adds_all h images stored from count s old new is was = record {
  many = was.many ∙ is;
  before = was.before;
  values = λ t le lt. was.values t le (subst (λ n. t < n) (sym is) lt);
}
