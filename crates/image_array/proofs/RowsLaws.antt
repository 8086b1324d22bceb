-- Rows in which no leg that works differs from the first that works.
use Rattle.std.proofs.Common.{◌≡◌, ℕ, zero, suc, ◌+◌, ◌-◌, ◌<◌, ◌≤◌, Bool, true, false, not, List, [], length, get_or, Option, None, refl, ap, sym, ◌∙◌, arith, inl, inr, if◌then◌else◌}
use Rattle.std.proofs.lemmas.Bool.{cases_Bool}
use Rattle.std.proofs.lemmas.Slice.Eq.{bytes_eq-Decides}
use Rattle.dlm_modes.specs.First.{first_such}
use Rattle.dlm_modes.proofs.FirstLaws.{first_such_none}
use Rattle.mdc_types.specs.Geometry.{chunk_of}
use Rattle.mdc_types.specs.Sectors.{zero_sector}
use Rattle.mdc_types.specs.declared.numbers.Sector.{Sector}
use Rattle.mdc_types.specs.declared.roles.Roles.{Roles}
use Rattle.image_faults.specs.Compare.{differs_at}
use Rattle.image_faults.specs.declared.legs.LegImage.{LegImage}
use Rattle.image_array.specs.Heads.{works}
use Rattle.image_array.specs.Values.{AreRows, HasFirstRow, differing_leg, differs, first_working, in_rows, is_marked, unmarked_leg}
use Rattle.image_array.specs.declared.heads.Head.{Head}
use Rattle.image_array.proofs.ValueLaws.{first_works}

-- two legs that work have equally long rows
pub as_long : (roles : Roles) (count : ℕ) (rows : List (List Sector)) (l : ℕ) → AreRows roles count rows → l < 8 → works roles l ≡ true
    → length (get_or rows (first_working roles) []) ≡ length (get_or rows l [])
as_long roles count rows l are lt is =
    let first = first_works roles l lt is in
    are.long (first_working roles) first.1 first.0 ∙ sym (are.long l lt is)

never : (p : ℕ → Bool) (i n : ℕ) → ((k : ℕ) → p k ≡ false) → first_such p i n ≡ None
unfolding first_such
never p i zero fails = refl
never p i (suc n) fails = rw (fails i) (never p (i + 1) n fails)

-- the first that works has its own row
pub first_has : (roles : Roles) (rows : List (List Sector)) (l : ℕ) → l ≡ first_working roles → HasFirstRow roles rows l
first_has roles rows l is = λ w.
    rw is (never (differs_at (get_or rows (first_working roles) []) (get_or rows (first_working roles) [])) 0 (length (get_or rows (first_working roles) []))
    (λ k. ap not ((bytes_eq-Decides (get_or (get_or rows (first_working roles) []) k zero_sector).bytes (get_or (get_or rows (first_working roles) []) k zero_sector).bytes).1 refl)))

-- a row that is the first one's differs in no sector
same_row : (roles : Roles) (count : ℕ) (rows : List (List Sector)) (from s l : ℕ) → AreRows roles count rows → from ≤ s → s < from + count → l < 8
    → HasFirstRow roles rows l → differs roles (λ k. in_rows rows from k s) l ≡ false
same_row roles count rows from s l are le below lt has = elim (cases_Bool (works roles l)) [
  | inl is ↦
      let long = are.long l lt is in
      rw is (first_such_none (differs_at (get_or rows l []) (get_or rows (first_working roles) [])) 0 (length (get_or rows l [])) (has is) (s - from)
      (omega arith) (omega (arith, le, below, long)))
  | inr isnt ↦ rw isnt refl
]

no_leg : (p : ℕ → Bool) (i n : ℕ) → ((k : ℕ) → k < i + n → p k ≡ false) → first_such p i n ≡ None
unfolding first_such
no_leg p i zero fails = refl
no_leg p i (suc n) fails = rw (fails i (omega arith)) (no_leg p (i + 1) n (λ k lt. fails k (omega (arith, lt))))

if_none : (b : Bool) (r : Option ℕ) → r ≡ None → (if b then None else r) ≡ None
if_none true r e = refl
if_none false r e = e

-- so no leg is told
pub same_rows : (h : Head) (images : List LegImage) (count : ℕ) (rows : List (List Sector)) (from s : ℕ) → AreRows h.roles count rows → from ≤ s → s < from + count
    → ((l : ℕ) → l < 8 → HasFirstRow h.roles rows l) → None ≡ unmarked_leg h images (in_rows rows from) s
same_rows h images count rows from s are le below has =
    sym (if_none (is_marked images h.roles (chunk_of h.geometry s)) (differing_leg h.roles (λ l. in_rows rows from l s))
    (no_leg (differs h.roles (λ l. in_rows rows from l s)) 0 8 (λ l lt. let lt8 : l < 8 = omega (arith, lt) in same_row h.roles count rows from s l are le below lt8 (has l lt8))))
