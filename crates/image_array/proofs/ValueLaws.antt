-- The values of a sector, and which legs differ.
use Rattle.std.proofs.Common.{◌≡◌, ℕ, zero, suc, ◌+◌, ◌<◌, ◌≤◌, ◌&&◌, ◌||◌, ◌⊎◌, Bool, true, false, not, List, [], ◌∷◌, ◌++◌, length, get_or, Option, Some, None, refl, ap, sym, ◌∙◌, subst, arith, inl, inr, if◌then◌else◌, add-one}
use Rattle.std.specs.Prelude.{unwrap_or, map}
use Rattle.std.proofs.Common.{Vec, Global}
use Rattle.std.proofs.lemmas.List.{get_or-map, length-map}
use Rattle.std.proofs.lemmas.Bool.{cases_Bool}
use Rattle.std.proofs.lemmas.Slice.Eq.{bytes_eq-Decides}
use Rattle.std.specs.List.{list_any}
use Rattle.std.specs.Str.{bytes_eq}
use Rattle.dlm_modes.specs.First.{first_such}
use Rattle.dlm_modes.proofs.FirstLaws.{first_such_same, first_such_some, first_such_none}
use Rattle.mdc_types.specs.declared.numbers.Sector.{Sector}
use Rattle.mdc_types.specs.declared.roles.Roles.{Roles}
use Rattle.cluster_model.specs.Contents.{with_new}
use Rattle.image_array.specs.Heads.{works}
use Rattle.image_array.specs.Values.{values_of, first_working, differs, differing_leg, AreRows}

-- Leg by leg.

values_of-suc : (roles : Roles) (at : ℕ → Sector) (n : ℕ)
    → values_of roles at (suc n) ≡ (if works roles n then with_new (at n) (values_of roles at n) else values_of roles at n)
unfolding values_of
values_of-suc roles at n = refl

pub values_none : (roles : Roles) (at : ℕ → Sector) → values_of roles at 0 ≡ []
unfolding values_of
values_none roles at = refl

pub values_more : (roles : Roles) (at : ℕ → Sector) (n : ℕ) → works roles n ≡ true → values_of roles at (n + 1) ≡ with_new (at n) (values_of roles at n)
values_more roles at n is =
    ap (values_of roles at) (add-one n) ∙ values_of-suc roles at n
    ∙ ap (λ b. if b then with_new (at n) (values_of roles at n) else values_of roles at n) is

pub values_stay : (roles : Roles) (at : ℕ → Sector) (n : ℕ) → works roles n ≡ false → values_of roles at (n + 1) ≡ values_of roles at n
values_stay roles at n is =
    ap (values_of roles at) (add-one n) ∙ values_of-suc roles at n
    ∙ ap (λ b. if b then with_new (at n) (values_of roles at n) else values_of roles at n) is

-- only the legs that work count
pub values_of-same : (roles : Roles) (f g : ℕ → Sector) (n : ℕ) → ((l : ℕ) → l < n → works roles l ≡ true → f l ≡ g l) → values_of roles f n ≡ values_of roles g n
unfolding values_of
values_of-same roles f g zero same = refl
values_of-same roles f g (suc n) same =
    let rest : values_of roles f n ≡ values_of roles g n = values_of-same roles f g n (λ l lt w. same l (omega arith) w) in
    elim (cases_Bool (works roles n)) [
      | inl is ↦ rw is (ap (λ v. with_new v (values_of roles f n)) (same n (omega arith) is) ∙ ap (with_new (g n)) rest)
      | inr not ↦ rw not rest
    ]

-- A value that is there, and one that isn't.

among_step : (b r : Bool) (u : Sector) (us rest : List Sector) → (b || r) ≡ true → (r ≡ true → rest ≡ us) → (if b then u ∷ us else u ∷ rest) ≡ u ∷ us
among_step true r u us rest e further = refl
among_step false r u us rest e further = ap (λ xs. u ∷ xs) (further e)

pub with_among : (v : Sector) (us : List Sector) → list_any (λ u. bytes_eq v.bytes u.bytes) us ≡ true → with_new v us ≡ us
with_among v [] e = absurd (cc e)
with_among v (u ∷ us) e = among_step (bytes_eq v.bytes u.bytes) (list_any (λ w. bytes_eq v.bytes w.bytes) us) u us (with_new v us) e (λ f. with_among v us f)

other_step : (b r : Bool) (u v : Sector) (us rest : List Sector) → (b || r) ≡ false → (r ≡ false → rest ≡ us ++ v ∷ [])
    → (if b then u ∷ us else u ∷ rest) ≡ u ∷ (us ++ v ∷ [])
other_step true r u v us rest e further = absurd (cc e)
other_step false r u v us rest e further = ap (λ xs. u ∷ xs) (further e)

pub with_other : (v : Sector) (us : List Sector) → list_any (λ u. bytes_eq v.bytes u.bytes) us ≡ false → with_new v us ≡ us ++ v ∷ []
with_other v [] e = refl
with_other v (u ∷ us) e = other_step (bytes_eq v.bytes u.bytes) (list_any (λ w. bytes_eq v.bytes w.bytes) us) u v us (with_new v us) e (λ f. with_other v us f)

-- The leg that differs.

found_is : (roles : Roles) (r : Option ℕ) (l : ℕ) → first_such (works roles) 0 8 ≡ r → l < 8 → works roles l ≡ true
    → (works roles (unwrap_or r 0) ≡ true) × (unwrap_or r 0 < 8)
found_is roles None l e lt is = let no = first_such_none (works roles) 0 8 e l (omega arith) (omega arith) in absurd (cc (no, is))
found_is roles (Some k) l e lt is = let first = first_such_some (works roles) 0 8 k e in (first.passes, let m = first.below in omega arith)

-- where a leg works, the first that works does
pub first_works : (roles : Roles) (l : ℕ) → l < 8 → works roles l ≡ true → (works roles (first_working roles) ≡ true) × (first_working roles < 8)
first_works roles l lt is = found_is roles (first_such (works roles) 0 8) l refl lt is

differs-same : (roles : Roles) (f g : ℕ → Sector) (l : ℕ) → l < 8 → ((k : ℕ) → k < 8 → works roles k ≡ true → f k ≡ g k) → differs roles f l ≡ differs roles g l
differs-same roles f g l lt same = elim (cases_Bool (works roles l)) [
  | inl is ↦
      let first = first_works roles l lt is in
      rw is (ap (λ (v : Sector). not (bytes_eq v.bytes (f (first_working roles)).bytes)) (same l lt is)
      ∙ ap (λ (v : Sector). not (bytes_eq (g l).bytes v.bytes)) (same (first_working roles) first.1 first.0))
  | inr isnt ↦ rw isnt refl
]

pub differing_leg-same : (roles : Roles) (f g : ℕ → Sector) → ((k : ℕ) → k < 8 → works roles k ≡ true → f k ≡ g k) → differing_leg roles f ≡ differing_leg roles g
differing_leg-same roles f g same = first_such_same (differs roles f) (differs roles g) 0 8 (λ l le lt. differs-same roles f g l (omega arith) same)

-- Where no leg differs there is one value at most.

abbrev IsOne : (ℕ → Sector) → Roles → List Sector → Type 0
IsOne at roles us = (us ≡ []) ⊎ ((u : Sector) × (us ≡ u ∷ []) × (u.bytes ≡ (at (first_working roles)).bytes))

not_false : (b : Bool) → not b ≡ false → b ≡ true
not_false true e = refl
not_false false e = absurd (cc e)

same_bytes : (roles : Roles) (at : ℕ → Sector) (l : ℕ) → differs roles at l ≡ false → works roles l ≡ true → (at l).bytes ≡ (at (first_working roles)).bytes
same_bytes roles at l e is =
    let f : not (bytes_eq (at l).bytes (at (first_working roles)).bytes) ≡ false =
    ap (λ b. b && not (bytes_eq (at l).bytes (at (first_working roles)).bytes)) (sym is) ∙ e in
    (bytes_eq-Decides (at l).bytes (at (first_working roles)).bytes).0 (not_false _ f)

one_more : (roles : Roles) (at : ℕ → Sector) (v : Sector) (us : List Sector) → v.bytes ≡ (at (first_working roles)).bytes → IsOne at roles us → IsOne at roles (with_new v us)
one_more roles at v us e (inl none) = inr (v, ap (with_new v) none, e)
one_more roles at v us e (inr (u, is, f)) =
    let there : bytes_eq v.bytes u.bytes ≡ true = (bytes_eq-Decides v.bytes u.bytes).1 (e ∙ sym f) in
    inr (u, ap (with_new v) is ∙ ap (λ b. if b then u ∷ [] else u ∷ v ∷ []) there, f)

one_value : (roles : Roles) (at : ℕ → Sector) (n : ℕ) → ((l : ℕ) → l < n → differs roles at l ≡ false) → IsOne at roles (values_of roles at n)
unfolding values_of
one_value roles at zero none = inl refl
one_value roles at (suc n) none =
    let rest : IsOne at roles (values_of roles at n) = one_value roles at n (λ l lt. none l (omega arith)) in
    elim (cases_Bool (works roles n)) [
      | inl is ↦ rw is (one_more roles at (at n) (values_of roles at n) (same_bytes roles at n (none n (omega arith)) is) rest)
      | inr isnt ↦ rw isnt rest
    ]

is_short : (roles : Roles) (at : ℕ → Sector) (us : List Sector) → IsOne at roles us → length us ≤ 1
is_short roles at us (inl none) = let e : length us ≡ 0 = ap length none in omega (arith, e)
is_short roles at us (inr (u, is, f)) = let e : length us ≡ 1 = ap length is in omega (arith, e)

-- where no leg that works differs from the first, there is one value at most
pub values-one : (roles : Roles) (at : ℕ → Sector) → differing_leg roles at ≡ None → length (values_of roles at 8) ≤ 1
values-one roles at none = is_short roles at (values_of roles at 8) (one_value roles at 8 (λ l lt. first_such_none (differs roles at) 0 8 none l (omega arith) (omega arith)))

-- The rows.

pub row_length : (rows : List (Vec Sector Global)) (l : ℕ) → l < length (map (λ row. row.items) rows) → l < length rows
row_length rows l lt = omega (arith, lt, length-map rows (λ row. row.items))

pub row_is : (rows : List (Vec Sector Global)) (l : ℕ) (row : Vec Sector Global) → l < length rows → row ≡ get_or rows l row
    → get_or (map (λ row. row.items) rows) l [] ≡ row.items
row_is rows l row lt is = get_or-map (λ row. row.items) rows l row [] lt ∙ ap (λ (r : Vec Sector Global). r.items) (sym is)

pub row_there : (roles : Roles) (count : ℕ) (rows : List (List Sector)) (l : ℕ) → AreRows roles count rows → l < 8 → works roles l ≡ true → l < length rows
row_there roles count rows l are lt is = are.there l lt is

pub row_long : (roles : Roles) (count : ℕ) (rows : List (List Sector)) (l i : ℕ) → AreRows roles count rows → l < 8 → works roles l ≡ true → i < count
    → i < length (get_or rows l [])
row_long roles count rows l i are lt is within = subst (λ n. i < n) (sym (are.long l lt is)) within

pub first_there : (roles : Roles) (count : ℕ) (rows : List (List Sector)) (l : ℕ) → AreRows roles count rows → l < 8 → works roles l ≡ true
    → first_working roles < length rows
first_there roles count rows l are lt is = let first = first_works roles l lt is in are.there (first_working roles) first.1 first.0

pub first_long : (roles : Roles) (count : ℕ) (rows : List (List Sector)) (l i : ℕ) → AreRows roles count rows → l < 8 → works roles l ≡ true → i < count
    → i < length (get_or rows (first_working roles) [])
first_long roles count rows l i are lt is within =
    let first = first_works roles l lt is in subst (λ n. i < n) (sym (are.long (first_working roles) first.1 first.0)) within
