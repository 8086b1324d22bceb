-- Two of several rows differ where one differs from the first.
use Rattle.std.proofs.Common.{◌≡◌, ℕ, zero, suc, ◌+◌, ◌≤◌, Bool, true, false, not, ◌||◌, if◌then◌else◌, List, [], ◌∷◌, length, get_or, Option, Some, None, refl, sym, ap, subst, ◌∙◌, arith}
use Rattle.std.specs.Str.{bytes_eq}
use Rattle.std.proofs.lemmas.Slice.Eq.{bytes_eq-Decides}
use Rattle.dlm_modes.specs.First.{first_such}
use Rattle.dlm_modes.proofs.FirstLaws.{first_such_some, first_such_same}
use Rattle.mdc_types.specs.Sectors.{zero_sector}
use Rattle.mdc_types.specs.declared.numbers.Sector.{Sector}
use Rattle.image_faults.specs.Compare.{differs_at, first_difference}
use Rattle.crew_check.specs.Rows.{differs_from, two_differ, first_where_two_differ, oldest, Kept, IsKeptOf, lesser}

-- Equal bytes.

bytes_eq-sym : (x y : List ℕ) → bytes_eq x y ≡ bytes_eq y x
bytes_eq-sym x y = elim (bytes_eq x y) as (λ b. bytes_eq x y ≡ b → b ≡ bytes_eq y x) [
  | true ↦ λ t. sym ((bytes_eq-Decides y x).1 (sym ((bytes_eq-Decides x y).0 t)))
  | false ↦ λ f. elim (bytes_eq y x) as (λ b. bytes_eq y x ≡ b → false ≡ b) [
    | true ↦ λ t. let back = (bytes_eq-Decides x y).1 (sym ((bytes_eq-Decides y x).0 t)) in cc
    | false ↦ λ _. refl
  ] refl
] refl

differs-sym : (a b : List Sector) (s : ℕ) → differs_at a b s ≡ differs_at b a s
differs-sym a b s = ap not (bytes_eq-sym (get_or a s zero_sector).bytes (get_or b s zero_sector).bytes)

not_false : (b : Bool) → not b ≡ false → b ≡ true
not_false true h = refl
not_false false h = cc

-- where two don't differ, a third differs from both or from none
differs-same : (a b c : List Sector) (s : ℕ) → differs_at a b s ≡ false → differs_at c b s ≡ differs_at a c s
differs-same a b c s same =
    let bytes : (get_or a s zero_sector).bytes ≡ (get_or b s zero_sector).bytes =
    (bytes_eq-Decides (get_or a s zero_sector).bytes (get_or b s zero_sector).bytes).0 (not_false _ same) in
    differs-sym c b s ∙ ap (λ x. not (bytes_eq x (get_or c s zero_sector).bytes)) (sym bytes)

-- Several rows.

or_left : (x y : Bool) → (x || y) ≡ false → x ≡ false
or_left true y h = cc
or_left false y h = refl

or_right : (x y : Bool) → (x || y) ≡ false → y ≡ false
or_right true y h = cc
or_right false y h = h

or_false : (x : Bool) → (x || false) ≡ x
or_false true = refl
or_false false = refl

or_true : (x : Bool) → (x || true) ≡ true
or_true true = refl
or_true false = refl

or_same : (x : Bool) → (x || x) ≡ x
or_same true = refl
or_same false = refl

-- where no two differ, a row differs from one of them where it differs from the first
differs_from-first : (a row : List Sector) (rows : List (List Sector)) (s : ℕ) → oldest rows ≡ Some a → two_differ rows s ≡ false → differs_from row rows s ≡ differs_at a row s
differs_from-first a row [] s first none = cc
differs_from-first a row (b ∷ []) s first none =
    let same : b ≡ a = cc in
    or_false (differs_at row b s) ∙ differs-sym row b s ∙ ap (λ x. differs_at x row s) same
differs_from-first a row (b ∷ c ∷ rows) s first none =
    let from_b : differs_from b (c ∷ rows) s ≡ false = or_left (differs_from b (c ∷ rows) s) (two_differ (c ∷ rows) s) none in
    let rest : two_differ (c ∷ rows) s ≡ false = or_right (differs_from b (c ∷ rows) s) (two_differ (c ∷ rows) s) none in
    let row_rest : differs_from row (c ∷ rows) s ≡ differs_at a row s = differs_from-first a row (c ∷ rows) s first rest in
    let b_rest : differs_from b (c ∷ rows) s ≡ differs_at a b s = differs_from-first a b (c ∷ rows) s first rest in
    let same : differs_at row b s ≡ differs_at a row s = differs-same a b row s (sym b_rest ∙ from_b) in
    ap (λ x. x || differs_from row (c ∷ rows) s) same ∙ ap (λ x. differs_at a row s || x) row_rest ∙ or_same (differs_at a row s)

-- one row more
two_differ-more : (a row : List Sector) (rows : List (List Sector)) (s : ℕ) → oldest rows ≡ Some a → two_differ (row ∷ rows) s ≡ (two_differ rows s || differs_at a row s)
two_differ-more a row rows s first =
    elim (two_differ rows s) as (λ b. two_differ rows s ≡ b → (differs_from row rows s || b) ≡ (b || differs_at a row s)) [
      | true ↦ λ t. or_true (differs_from row rows s)
      | false ↦ λ f. or_false (differs_from row rows s) ∙ differs_from-first a row rows s first f
    ] refl

-- the lesser of two finds
some_lesser : (i : ℕ) (o : Option ℕ) → ((k : ℕ) → o ≡ Some k → i ≤ k) → lesser (Some i) o ≡ Some i
some_lesser i None above = refl
some_lesser i (Some k) above = let le = above k refl in ap Some (omega arith)

lesser_some : (i : ℕ) (o : Option ℕ) → ((k : ℕ) → o ≡ Some k → i ≤ k) → lesser o (Some i) ≡ Some i
lesser_some i None above = refl
lesser_some i (Some k) above = let le = above k refl in ap Some (omega arith)

first_such-either : (p q : ℕ → Bool) (i n : ℕ) → first_such (λ s. p s || q s) i n ≡ lesser (first_such p i n) (first_such q i n)
unfolding first_such
first_such-either p q i zero = refl
first_such-either p q i (suc n) =
    let rest = first_such-either p q (i + 1) n in
    let later_p : (k : ℕ) → first_such p (i + 1) n ≡ Some k → i ≤ k = λ k is. let f = first_such_some p (i + 1) n k is in omega (arith, f.from) in
    let later_q : (k : ℕ) → first_such q (i + 1) n ≡ Some k → i ≤ k = λ k is. let f = first_such_some q (i + 1) n k is in omega (arith, f.from) in
    elim (p i) as (λ b. (if (b || q i) then Some i else first_such (λ s. p s || q s) (i + 1) n) ≡ lesser (if b then Some i else first_such p (i + 1) n) (if q i then Some i else first_such q (i + 1) n)) [
      | true ↦ elim (q i) as (λ c. Some i ≡ lesser (Some i) (if c then Some i else first_such q (i + 1) n)) [
        | true ↦ sym (some_lesser i (Some i) (λ k is. let e : i ≡ k = cc in omega arith))
        | false ↦ sym (some_lesser i (first_such q (i + 1) n) later_q)
      ]
      | false ↦ elim (q i) as (λ c. (if c then Some i else first_such (λ s. p s || q s) (i + 1) n) ≡ lesser (first_such p (i + 1) n) (if c then Some i else first_such q (i + 1) n)) [
        | true ↦ sym (lesser_some i (first_such p (i + 1) n) later_p)
        | false ↦ rest
      ]
    ]

never : (p : ℕ → Bool) (i n : ℕ) → ((k : ℕ) → p k ≡ false) → first_such p i n ≡ None
unfolding first_such
never p i zero fails = refl
never p i (suc n) fails = rw (fails i) (never p (i + 1) n fails)

-- What is kept.

pub no_rows : (n : ℕ) → IsKeptOf n [] (record { first = None; place = None })
no_rows n = record {
  lengths = λ a is. cc;
  first = refl;
  place = sym (never (two_differ []) 0 n (λ k. refl));
}

no_oldest : (rows : List (List Sector)) → oldest rows ≡ None → rows ≡ []
no_oldest [] e = refl
no_oldest (a ∷ []) e = cc
no_oldest (a ∷ b ∷ rows) e = let more = no_oldest (b ∷ rows) e in cc

oldest-more : (a row : List Sector) (rows : List (List Sector)) → oldest rows ≡ Some a → oldest (row ∷ rows) ≡ Some a
oldest-more a row [] e = cc
oldest-more a row (b ∷ rows) e = e

-- the first row
pub first_row : (n : ℕ) (rows : List (List Sector)) (old new : Kept) (row : List Sector) → old.first ≡ None → new.first ≡ Some row → new.place ≡ old.place → IsKeptOf n rows old → length row ≡ n → IsKeptOf n (row ∷ rows) new
first_row n rows old new row none first place kept long =
    let empty : rows ≡ [] = no_oldest rows (sym kept.first ∙ none) in
    record {
      lengths = λ a is. let same : row ≡ a = cc in subst (λ x. length x ≡ n) same long;
      first = rw empty first;
      place = rw empty (place ∙ kept.place ∙ rw empty (never (two_differ []) 0 n (λ k. refl) ∙ sym (never (two_differ (row ∷ [])) 0 n (λ k. refl))));
    }

-- a further row, which is compared with the first
pub next_row : (n : ℕ) (rows : List (List Sector)) (old new : Kept) (a row : List Sector) → old.first ≡ Some a → new.first ≡ Some a → new.place ≡ lesser old.place (first_difference a row) → IsKeptOf n rows old → length row ≡ n → IsKeptOf n (row ∷ rows) new
next_row n rows old new a row was first place kept long =
    let oldest_a : oldest rows ≡ Some a = sym kept.first ∙ was in
    let size : length a ≡ n = kept.lengths a was in
    record {
      lengths = λ x is. kept.lengths x (was ∙ sym first ∙ is);
      first = first ∙ sym (oldest-more a row rows oldest_a);
      place = place ∙ ap (λ x. lesser x (first_difference a row)) kept.place ∙ ap (λ m. lesser (first_where_two_differ n rows) (first_such (differs_at a row) 0 m)) size
          ∙ sym (first_such-either (two_differ rows) (differs_at a row) 0 n)
          ∙ sym (first_such_same (two_differ (row ∷ rows)) (λ s. two_differ rows s || differs_at a row s) 0 n (λ s from below. two_differ-more a row rows s oldest_a));
    }
