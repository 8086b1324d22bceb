-- The first page with a chunk of the set that has no mark on a target, by the chunks of the set alone.
use Rattle.std.proofs.Common.{◌≡◌, ℕ, ◌+◌, ◌<◌, ◌≤◌, ◌==◌, Bool, true, false, not, ◌&&◌, Option, Some, None, refl, sym, ◌∙◌, ap, subst, inl, inr, arith}
use Rattle.std.specs.Prelude.{is_some, min}
use Rattle.std.proofs.lemmas.Bool.{cases_lt, cases_eq}
use Rattle.std.proofs.lemmas.Bool.Decides.{nat_tests}
use Rattle.dlm_modes.specs.First.{first_such}
use Rattle.dlm_modes.proofs.FirstLaws.{first_such_none, first_such_some, first_such_has, first_such_found, first_such_start}
use Rattle.mdc_types.specs.Geometry.{Sizes, chunks_of, pages_of, page_of}
use Rattle.mdc_types.specs.Pages.{with_its_leg, leg_without}
use Rattle.mdc_types.proofs.Blocks.{none_between, pass_over, before_first}
use Rattle.node_bitmaps.specs.Bitmap.{Bitmap, is_unmarked, missing_marks, is_marked, first_unmarked, unmarked_target}
use Rattle.node_bitmaps.proofs.SearchLaws.{none_such}
use Rattle.map_index.specs.Index.{IsFirstLacking, lesser}

-- the first that passes, where it passes and none before it does
pub first_is : (p : ℕ → Bool) (n k : ℕ) → k < n → p k ≡ true → ((j : ℕ) → j < k → p j ≡ false) → first_such p 0 n ≡ Some k
first_is p n k lt passes none =
    first_such_start p n ∙ pass_over p 0 k n (λ j le below in_range. none j (omega (arith, below))) ∙ (let e : 0 + k ≡ k = omega arith in rw e (first_such_found p k n lt passes))

-- pages rise with their chunks
pub pages_rise : (a b : ℕ) → a ≤ b → page_of a ≤ page_of b
pages_rise a b le = grind (arith, nat_tests, le)

page_before : (a b : ℕ) → page_of a < page_of b → a < b
page_before a b lt = elim (cases_lt a b) [
  | inl is ↦ is
  | inr past ↦ let r = pages_rise b a past in absurd (omega (arith, r, lt))
]

pub page_within : (g : Sizes) (c : ℕ) → c < chunks_of g → page_of c < pages_of g
page_within g c lt = grind (arith, nat_tests, lt)

-- each chunk of the set has its marks on the targets
abbrev pub AllMarked : Sizes → Bitmap → (ℕ → Bool) → Type 0
AllMarked g m targets = (c : ℕ) → c < chunks_of g → m.set c ≡ true → unmarked_target m targets c ≡ None

module _ (g : Sizes) (m : Bitmap) (targets : ℕ → Bool) where
  -- a chunk whose marks are on the targets, or that isn't in the set, isn't unmarked on one
  marked_chunk : (p c l : ℕ) → l < 8 → targets l ≡ true → (m.set c ≡ true → unmarked_target m targets c ≡ None)
      → ((page_of c == p) && is_unmarked m c l) ≡ false
  marked_chunk p c l few is marked = elim (m.set c) as (λ b. m.set c ≡ b → ((page_of c == p) && (b && not (m.marks c l))) ≡ false) [
    | true ↦ λ t. let f = first_such_none (λ k. targets k && not (m.marks c k)) 0 8 (marked t) l (omega arith) (omega arith) in grind (arith, is, f)
    | false ↦ λ f. grind arith
  ] refl

  -- a page all of whose chunks have their marks
  marked_page : (p l : ℕ) → l < 8
      → ((c : ℕ) → c < chunks_of g → page_of c ≡ p → targets l ≡ true → ((page_of c == p) && is_unmarked m c l) ≡ false)
      → (targets l && not (is_marked g m p l)) ≡ false
  marked_page p l few none = elim (targets l) as (λ b. targets l ≡ b → (b && not (is_marked g m p l)) ≡ false) [
    | true ↦ λ t.
        let f : missing_marks g m p l ≡ false = none_such (λ c. (page_of c == p) && is_unmarked m c l) 0 (chunks_of g) (λ c le lt.
        elim (cases_eq (page_of c) p) [
          | inl same ↦ none c (omega (arith, lt)) same t
          | inr other ↦ grind (arith, nat_tests, other)
        ]) in
        rw f refl
    | false ↦ λ f. refl
  ] refl

  pub none_unmarked : AllMarked g m targets → first_unmarked g m targets ≡ None
  none_unmarked all =
      ap (with_its_leg (is_marked g m) targets)
      (first_such_start (λ p. is_some (leg_without (is_marked g m) targets p)) (pages_of g)
      ∙ none_between (λ p. is_some (leg_without (is_marked g m) targets p)) 0 (pages_of g)
      (λ p le lt. none_such (λ l. targets l && not (is_marked g m p l)) 0 8 (λ l low few.
      marked_page p l (omega (arith, few)) (λ c below at is. marked_chunk p c l (omega (arith, few)) is (all c below)))))

-- what was found of the chunks of page p below `from`: the least leg on which one of them has no mark
pub record IsLeast (m : Bitmap) (targets : ℕ → Bool) (chunks p from least : ℕ) : Type 0 where
  pub chunk : ℕ
  pub within : chunk < chunks
  pub at : page_of chunk ≡ p
  pub in_set : m.set chunk ≡ true
  pub leg : unmarked_target m targets chunk ≡ Some least
  pub most : (k l : ℕ) → k < from → k < chunks → page_of k ≡ p → m.set k ≡ true → unmarked_target m targets k ≡ Some l → least ≤ l

module _ (m : Bitmap) (targets : ℕ → Bool) (chunks : ℕ) where
  -- it begins with the first chunk
  pub least_begins : (c l : ℕ) → IsFirstLacking m targets chunks c l → IsLeast m targets chunks (page_of c) c l
  least_begins c l first = record {
    chunk = c;
    within = first.within;
    at = refl;
    in_set = first.in_set;
    leg = first.leg;
    most = λ k j lt below at is has. let n = first.before k lt is in cc;
  }

  -- where the next chunk of the set is of another page, no further chunk of this one is in the set
  pub page_ends : (c from k : ℕ) → c ≤ from → from ≤ k → ((j : ℕ) → from ≤ j → j < k → m.set j ≡ false) → (page_of k ≡ page_of c → ⊥)
      → (j : ℕ) → from ≤ j → j < chunks → page_of j ≡ page_of c → m.set j ≡ false
  page_ends c from k after le none other j late below at = elim (cases_lt j k) [
    | inl lt ↦ none j late lt
    | inr past ↦
        let a = pages_rise c k (omega (arith, after, le)) in
        let b = pages_rise k j past in
        absurd (other (omega (arith, a, b, at)))
  ]

  -- the next chunk of the set has its marks
  least_stays : (p from k least : ℕ) → IsLeast m targets chunks p from least
      → ((j : ℕ) → from ≤ j → j < k → m.set j ≡ false) → unmarked_target m targets k ≡ None → IsLeast m targets chunks p (k + 1) least
  least_stays p from k least is none marked = record {
    chunk = is.chunk;
    within = is.within;
    at = is.at;
    in_set = is.in_set;
    leg = is.leg;
    most = λ j l lt below at in_set has. elim (cases_lt j from) [
      | inl early ↦ is.most j l early below at in_set has
      | inr late ↦ elim (cases_eq j k) [
        | inl same ↦ let n : unmarked_target m targets j ≡ None = ap (unmarked_target m targets) same ∙ marked in cc
        | inr other ↦ let f = none j late (omega (arith, lt, other)) in cc
      ]
    ];
  }

  -- the next chunk of the set has none on this leg
  least_falls : (p from k least other : ℕ) → IsLeast m targets chunks p from least
      → ((j : ℕ) → from ≤ j → j < k → m.set j ≡ false) → k < chunks → page_of k ≡ p → m.set k ≡ true → unmarked_target m targets k ≡ Some other
      → IsLeast m targets chunks p (k + 1) (min least other)
  least_falls p from k least other is none below at in_set has = elim (cases_lt other least) [
    | inl lt ↦ record {
      chunk = k;
      within = below;
      at = at;
      in_set = in_set;
      leg = let e : min least other ≡ other = omega (arith, lt) in rw e has;
      most = most;
    }
    | inr le ↦ record {
      chunk = is.chunk;
      within = is.within;
      at = is.at;
      in_set = is.in_set;
      leg = let e : min least other ≡ least = omega (arith, le) in rw e is.leg;
      most = most;
    }
  ] where
    most : (j l : ℕ) → j < k + 1 → j < chunks → page_of j ≡ p → m.set j ≡ true → unmarked_target m targets j ≡ Some l → min least other ≤ l
    most j l lt inside there is_set leg = elim (cases_lt j from) [
      | inl early ↦ let r = is.most j l early inside there is_set leg in omega (arith, r)
      | inr late ↦ elim (cases_eq j k) [
        | inl same ↦ let e : Some other ≡ Some l = sym has ∙ ap (unmarked_target m targets) (sym same) ∙ leg in let d : other ≡ l = cc in omega (arith, d)
        | inr ne ↦ let f = none j late (omega (arith, lt, ne)) in cc
      ]
    ]

  -- the next chunk of the set
  pub least_goes : (p from k least : ℕ) (o : Option ℕ) → IsLeast m targets chunks p from least
      → ((j : ℕ) → from ≤ j → j < k → m.set j ≡ false) → k < chunks → page_of k ≡ p → m.set k ≡ true → unmarked_target m targets k ≡ o
      → IsLeast m targets chunks p (k + 1) (lesser least o)
  least_goes p from k least None is none below at in_set has = least_stays p from k least is none has
  least_goes p from k least (Some other) is none below at in_set has = least_falls p from k least other is none below at in_set has

module _ (g : Sizes) (m : Bitmap) (targets : ℕ → Bool) (p from least : ℕ) (is : IsLeast m targets (chunks_of g) p from least)
    (none : (k : ℕ) → from ≤ k → k < chunks_of g → page_of k ≡ p → m.set k ≡ false) where
  abbrev outside : ℕ → ℕ → Bool
  outside c l = targets l && not (m.marks c l)

  -- no chunk of the page is unmarked on a lesser leg
  none_less : (c l : ℕ) → l < least → l < 8 → c < chunks_of g → page_of c ≡ p → targets l ≡ true → m.set c ≡ true → outside c l ≡ false
  none_less c l less few below at is_target in_set = elim (unmarked_target m targets c) as (λ o. unmarked_target m targets c ≡ o → outside c l ≡ false) [
    | None ↦ λ e. first_such_none (outside c) 0 8 e l (omega arith) (omega (arith, few))
    | Some other ↦ λ e. elim (cases_lt c from) [
      | inl early ↦ let r = is.most c other early below at in_set e in before_first (outside c) 0 8 other e l (omega arith) (omega (arith, r, less))
      | inr late ↦ let f = none c late below at in cc
    ]
  ] refl

  lesser_leg : (c l : ℕ) → l < least → l < 8 → c < chunks_of g → page_of c ≡ p → targets l ≡ true → ((page_of c == p) && is_unmarked m c l) ≡ false
  lesser_leg c l less few below at is_target = elim (m.set c) as (λ b. m.set c ≡ b → ((page_of c == p) && (b && not (m.marks c l))) ≡ false) [
    | true ↦ λ t. let f = none_less c l less few below at is_target t in grind (arith, is_target, f)
    | false ↦ λ f. grind arith
  ] refl

  pub least_is : leg_without (is_marked g m) targets p ≡ Some least
  least_is =
      let first = first_such_some (outside is.chunk) 0 8 least is.leg in
      let passes : outside is.chunk least ≡ true = first.passes in
      let few : least < 8 = let b = first.below in omega (arith, b) in
      let lacks : ((page_of is.chunk == p) && is_unmarked m is.chunk least) ≡ true =
      let s = is.in_set in let a = is.at in grind (arith, nat_tests, passes, s, a) in
      let missing : missing_marks g m p least ≡ true =
      first_such_has (λ c. (page_of c == p) && is_unmarked m c least) 0 (chunks_of g) is.chunk (omega arith) (let w = is.within in omega (arith, w)) lacks in
      let target : targets least ≡ true = grind (arith, passes) in
      first_is (λ l. targets l && not (is_marked g m p l)) 8 least few (rw (target, missing) refl) (λ l lt.
      marked_page g m targets p l (omega (arith, lt, few)) (λ c below at is_target. lesser_leg c l lt (omega (arith, lt, few)) below at is_target))

-- pages before that of the first chunk have all marks
module _ (g : Sizes) (m : Bitmap) (targets : ℕ → Bool) (c l : ℕ) (first : IsFirstLacking m targets (chunks_of g) c l) where
  abbrev lacks_one : ℕ → Bool
  lacks_one p = is_some (leg_without (is_marked g m) targets p)

  page_marked : (p : ℕ) → p < page_of c → lacks_one p ≡ false
  page_marked p lt = none_such (λ k. targets k && not (is_marked g m p k)) 0 8 (λ k low few.
      marked_page g m targets p k (omega (arith, few)) (λ j below at is.
      marked_chunk g m targets p j k (omega (arith, few)) is
      (first.before j (page_before j c (subst (λ q. q < page_of c) (sym at) lt)))))

  pub found_unmarked : (least : ℕ) → leg_without (is_marked g m) targets (page_of c) ≡ Some least
      → first_unmarked g m targets ≡ Some (page_of c, least)
  found_unmarked least is =
      let there : lacks_one (page_of c) ≡ true = rw is refl in
      ap (with_its_leg (is_marked g m) targets)
      (first_is lacks_one (pages_of g) (page_of c) (page_within g c first.within) there page_marked)
      ∙ rw is refl
