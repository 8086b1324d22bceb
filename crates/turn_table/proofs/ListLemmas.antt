-- Beginnings of one list, the entries of a number, and sums over all views.
use Rattle.std.proofs.Common.{◌≡◌, ◌≢◌, ◌⊎◌, ℕ, zero, suc, ◌+◌, ◌<◌, ◌≤◌, Bool, true, false, List, [], ◌∷◌, ◌++◌, length, set, refl, sym, ap, ◌∙◌, subst, inl, inr, ⊎_elim, arith, append_assoc, append-nil, length-append, eq-eqb, eqb-true, ne_eqb}
use Rattle.std.specs.Prelude.{filter, ◌==◌, nat_lt, if◌then◌else◌}
use Rattle.std.proofs.lemmas.List.{nil_from_length}
use Rattle.std.proofs.lemmas.List.Elements.{filter-append}
use Rattle.std.proofs.lemmas.Bool.{lt-ltb, ltb-true, false_from_ne_true}
use mathlib.Core.Option.{some, some-injective, some-ne-none}
use mathlib.Core.Logic.{dite}
use native.Mathlib.Decide.{dec_le, ℕ_discrete}
use lib.ListN.{get_elem?}
use Rattle.turn_table.specs.Lists.{BeginsWith, longer, own, times, Has, from, first_of, last_of, all_but_last}
use Rattle.turn_table.specs.Rule.{total, once_below}

module _ {I : Type 0} where
  pub begins_itself : (xs : List I) → BeginsWith xs xs
  begins_itself xs = ([], sym (append-nil xs))

  pub begins_more : (xs seen more : List I) → BeginsWith xs seen → BeginsWith (xs ++ more) seen
  begins_more xs seen more b = (b.0 ++ more, ap (λ l. l ++ more) b.1 ∙ append_assoc seen b.0 more)

  pub begins_through : (xs ys zs : List I) → BeginsWith xs ys → BeginsWith ys zs → BeginsWith xs zs
  begins_through xs ys zs a b = (b.0 ++ a.0, a.1 ∙ ap (λ l. l ++ a.0) b.1 ∙ append_assoc zs b.0 a.0)

  cons_head : (x y : I) (xs ys : List I) → x ∷ xs ≡ y ∷ ys → x ≡ y
  cons_head x y xs ys e = ap (head_or x) e
    where
      head_or : I → List I → I
      head_or z [] = z
      head_or z (w ∷ ws) = w

  cons_tail : (x y : I) (xs ys : List I) → x ∷ xs ≡ y ∷ ys → xs ≡ ys
  cons_tail x y xs ys e = ap tail e
    where
      tail : List I → List I
      tail [] = []
      tail (w ∷ ws) = ws

  -- of two beginnings of one list the longer begins with the shorter
  shorter : (a b r s : List I) → a ++ r ≡ b ++ s → length a ≤ length b → BeginsWith b a
  shorter [] b r s e le = (b, refl)
  shorter (x ∷ a) [] r s e le = absurd (omega arith)
  shorter (x ∷ a) (y ∷ b) r s e le =
      let same = cons_head x y (a ++ r) (b ++ s) e in
      let more = shorter a b r s (cons_tail x y (a ++ r) (b ++ s) e) (omega arith) in
      (more.0, λ i. sym same i ∷ more.1 i)

  longer_first : (a b : List I) → length b ≤ length a → longer a b ≡ a
  longer_first a b le = ap (λ c. if c then b else a)
      (false_from_ne_true (nat_lt (length a) (length b)) (λ e. let lt = ltb-true (length a) (length b) e in omega arith))

  longer_second : (a b : List I) → length a < length b → longer a b ≡ b
  longer_second a b lt = ap (λ c. if c then b else a) (lt-ltb (length a) (length b) lt)

  -- both begin the longer, which begins the list
  pub longer_begins : (log a b : List I) → BeginsWith log a → BeginsWith log b
      → BeginsWith log (longer a b) × BeginsWith (longer a b) a × BeginsWith (longer a b) b
  longer_begins log a b p q =
      let P : List I → Type 0 = λ l. BeginsWith log l × BeginsWith l a × BeginsWith l b in
      dite (dec_le (length b) (length a))
      (λ le. subst P (sym (longer_first a b le))
      (p, begins_itself a, shorter b a q.0 p.0 (sym q.1 ∙ p.1) le))
      (λ no. let lt : length a < length b = omega arith in subst P (sym (longer_second a b lt))
      (q, shorter a b p.0 q.0 (sym p.1 ∙ q.1) (omega arith), begins_itself b))

  nothing_more : (xs ys : List I) → xs ≡ xs ++ ys → ys ≡ []
  nothing_more xs ys e =
      let n : length xs ≡ length (xs ++ ys) = ap length e in
      nil_from_length ys (omega (arith, length-append xs ys))

  -- where a beginning has all entries of a number, so has each longer one
  pub own_between : (number : I → ℕ) (n : ℕ) (log m s : List I) → BeginsWith log m → BeginsWith m s
      → own number n s ≡ own number n log → own number n s ≡ own number n m
  own_between number n log m s a b e =
      let f : List I → List I = own number n in
      let m_is : f m ≡ f s ++ f b.0 = ap f b.1 ∙ filter-append (λ x. number x == n) s b.0 in
      let log_is : f log ≡ (f s ++ f b.0) ++ f a.0 =
      ap f a.1 ∙ filter-append (λ x. number x == n) m a.0 ∙ ap (λ l. l ++ f a.0) m_is in
      let none : f b.0 ++ f a.0 ≡ [] =
      nothing_more (f s) (f b.0 ++ f a.0) (e ∙ log_is ∙ append_assoc (f s) (f b.0) (f a.0)) in
      let zero : length (f b.0 ++ f a.0) ≡ 0 = ap length none in
      let nil : f b.0 ≡ [] = nil_from_length (f b.0) (omega (arith, length-append (f b.0) (f a.0))) in
      sym (m_is ∙ ap (λ l. f s ++ l) nil ∙ append-nil (f s))

  pub own_here : (number : I → ℕ) (n : ℕ) (xs : List I) (x : I) → number x ≡ n
      → own number n (xs ++ x ∷ []) ≡ own number n xs ++ x ∷ []
  own_here number n xs x e = filter-append (λ y. number y == n) xs (x ∷ [])
      ∙ ap (λ c. own number n xs ++ (if c then x ∷ [] else [])) (eq-eqb (number x) n e)

  pub own_else : (number : I → ℕ) (n : ℕ) (xs : List I) (x : I) → number x ≢ n
      → own number n (xs ++ x ∷ []) ≡ own number n xs
  own_else number n xs x ne = filter-append (λ y. number y == n) xs (x ∷ [])
      ∙ ap (λ c. own number n xs ++ (if c then x ∷ [] else [])) (ne_eqb (number x) n ne)
      ∙ append-nil (own number n xs)

-- numbers

pub times-append : (n : ℕ) (xs ys : List ℕ) → times n (xs ++ ys) ≡ times n xs + times n ys
times-append n [] ys = omega arith
times-append n (x ∷ xs) ys = omega (arith, times-append n xs ys)

pub times_cut : (n : ℕ) (xs : List ℕ) → 0 < length xs
    → times n (all_but_last xs) + times n (last_of xs ∷ []) ≡ times n xs
times_cut n [] h = absurd (omega arith)
times_cut n (x ∷ []) h = omega arith
times_cut n (x ∷ y ∷ ys) h = let more = times_cut n (y ∷ ys) (omega arith) in omega arith

pub length_cut : (xs : List ℕ) → 0 < length xs → length (all_but_last xs) + 1 ≡ length xs
length_cut [] h = absurd (omega arith)
length_cut (x ∷ []) h = refl
length_cut (x ∷ y ∷ ys) h = let more = length_cut (y ∷ ys) (omega arith) in omega arith

pub append_cut : (xs : List ℕ) → 0 < length xs → xs ≡ all_but_last xs ++ last_of xs ∷ []
append_cut [] h = absurd (omega arith)
append_cut (x ∷ []) h = refl
append_cut (x ∷ y ∷ ys) h = λ i. x ∷ append_cut (y ∷ ys) (omega arith) i

pub length-from : (first count : ℕ) → length (from first count) ≡ count
length-from first zero = refl
length-from first (suc count) = ap suc (length-from (suc first) count)

pub from_cut : (first count : ℕ) → all_but_last (from first (suc count)) ≡ from first count
from_cut first zero = refl
from_cut first (suc count) = λ i. first ∷ from_cut (suc first) count i

pub from_last : (first count : ℕ) → last_of (from first (suc count)) ≡ first + count
from_last first zero = omega arith
from_last first (suc count) = from_last (suc first) count ∙ omega arith

times_here : (n : ℕ) (ms : List ℕ) → times n (n ∷ ms) ≡ 1 + times n ms
times_here n ms = ap (λ c. (if c then 1 else 0) + times n ms) (eq-eqb n n refl)

times_else : (n m : ℕ) (ms : List ℕ) → m ≢ n → times n (m ∷ ms) ≡ times n ms
times_else n m ms ne = ap (λ c. (if c then 1 else 0) + times n ms) (ne_eqb m n ne) ∙ omega arith

pub times_first : (first count : ℕ) → 0 < count → Has (from first count) first
times_first first zero h = absurd (omega arith)
times_first first (suc count) h = omega (arith, times_here first (from (suc first) count))

pub times_one : (n : ℕ) (m : ℕ) → Has (m ∷ []) n → n ≡ m
times_one n m h = dite (ℕ_discrete m n) sym (λ ne. absurd (omega (arith, times_else n m [] ne)))

times_below : (n first count : ℕ) → n < first → times n (from first count) ≡ 0
times_below n first zero lt = refl
times_below n first (suc count) lt =
    times_else n first (from (suc first) count) (λ e. omega arith) ∙ times_below n (suc first) count (omega arith)

times_in : (n first count : ℕ) → first ≤ n → n < first + count → times n (from first count) ≡ 1
times_in n first zero le lt = absurd (omega arith)
times_in n first (suc count) le lt = dite (ℕ_discrete first n)
    (λ e. subst (λ m. times m (from first (suc count)) ≡ 1) e
    (times_here first (from (suc first) count) ∙ ap (λ k. 1 + k) (times_below first (suc first) count (omega arith))))
    (λ ne. times_else n first (from (suc first) count) ne ∙ times_in n (suc first) count (omega arith) (omega arith))

times_above : (n first count : ℕ) → first + count ≤ n → times n (from first count) ≡ 0
times_above n first zero le = refl
times_above n first (suc count) le =
    times_else n first (from (suc first) count) (λ e. omega arith) ∙ times_above n (suc first) count (omega arith)

pub times-from : (n count : ℕ) → times n (from 0 count) ≡ once_below n count
times-from n count = dite (dec_le (suc n) count)
    (λ lt. times_in n 0 count (omega arith) (omega arith)
    ∙ ap (λ c. if c then 1 else 0) (sym (lt-ltb n count lt)))
    (λ no. times_above n 0 count (omega arith)
    ∙ ap (λ c. if c then 1 else 0)
    (sym (false_from_ne_true (nat_lt n count) (λ e. let lt = ltb-true n count e in no (omega arith)))))

pub some_below : (n seats : ℕ) → 0 < once_below n seats → n < seats
some_below n seats h = dite (dec_le (suc n) seats) (λ lt. lt)
    (λ no. absurd (let z : once_below n seats ≡ 0 = ap (λ c. if c then 1 else 0)
    (false_from_ne_true (nat_lt n seats) (λ e. let lt = ltb-true n seats e in no (omega arith))) in omega arith))

pub is_below : (n seats : ℕ) → n < seats → once_below n seats ≡ 1
is_below n seats lt = ap (λ c. if c then 1 else 0) (lt-ltb n seats lt)

pub no_times : (n : ℕ) (xs ys : List ℕ) → length xs ≡ 0 → length ys ≡ 0 → times n xs + times n ys ≡ 0
no_times n xs ys a b =
    let x : times n xs ≡ 0 = ap (times n) (nil_from_length xs a) in
    let y : times n ys ≡ 0 = ap (times n) (nil_from_length ys b) in omega arith

pub at_most_once : (n seats : ℕ) → once_below n seats ≤ 1
at_most_once n seats = dite (dec_le (suc n) seats)
    (λ lt. let e : once_below n seats ≡ 1 = ap (λ c. if c then 1 else 0) (lt-ltb n seats lt) in omega arith)
    (λ no. let z : once_below n seats ≡ 0 = ap (λ c. if c then 1 else 0)
    (false_from_ne_true (nat_lt n seats) (λ e. let lt = ltb-true n seats e in no (omega arith))) in omega arith)

pub has_length : (n : ℕ) (ms : List ℕ) → Has ms n → 0 < length ms
has_length n [] h = absurd (omega arith)
has_length n (m ∷ ms) h = omega arith

-- sums over all views
module _ {A : Type 0} (f : A → ℕ) where
  pub total_set : (xs : List A) (i : ℕ) (a b : A) → get_elem? xs i ≡ some a
      → total f (set xs i b) + f a ≡ total f xs + f b
  total_set [] i a b e = absurd (some-ne-none a (sym e))
  total_set (x ∷ xs) zero a b e = let same : f x ≡ f a = ap f (some-injective x a e) in omega arith
  total_set (x ∷ xs) (suc i) a b e = let more = total_set xs i a b e in omega arith

  pub total_snoc : (xs : List A) (a : A) → total f (xs ++ a ∷ []) ≡ total f xs + f a
  total_snoc [] a = omega arith
  total_snoc (x ∷ xs) a = let more = total_snoc xs a in omega arith

  pub total_one : (xs : List A) (i : ℕ) (a : A) → get_elem? xs i ≡ some a → f a ≤ total f xs
  total_one [] i a e = absurd (some-ne-none a (sym e))
  total_one (x ∷ xs) zero a e = let same : f x ≡ f a = ap f (some-injective x a e) in omega arith
  total_one (x ∷ xs) (suc i) a e = let more = total_one xs i a e in omega arith

  pub total_two : (xs : List A) (i j : ℕ) (a b : A) → i ≢ j → get_elem? xs i ≡ some a → get_elem? xs j ≡ some b
      → f a + f b ≤ total f xs
  total_two [] i j a b ne e d = absurd (some-ne-none a (sym e))
  total_two (x ∷ xs) zero zero a b ne e d = absurd (ne refl)
  total_two (x ∷ xs) zero (suc j) a b ne e d =
      let same : f x ≡ f a = ap f (some-injective x a e) in let more = total_one xs j b d in omega arith
  total_two (x ∷ xs) (suc i) zero a b ne e d =
      let same : f x ≡ f b = ap f (some-injective x b d) in let more = total_one xs i a e in omega arith
  total_two (x ∷ xs) (suc i) (suc j) a b ne e d =
      let more = total_two xs i j a b (λ s. ne (ap suc s)) e d in omega arith

-- where one has all that g counts, it has all that f counts
module _ {A : Type 0} (f g : A → ℕ) (none : (a : A) → g a ≡ 0 → f a ≡ 0) where
  total_none : (xs : List A) → total g xs ≡ 0 → total f xs ≡ 0
  total_none [] e = refl
  total_none (x ∷ xs) e = let a : f x ≡ 0 = none x (omega arith) in let b = total_none xs (omega arith) in omega arith

  pub total_alone : (xs : List A) (i : ℕ) (a : A) → get_elem? xs i ≡ some a → total g xs ≡ g a → total f xs ≡ f a
  total_alone [] i a e all = absurd (some-ne-none a (sym e))
  total_alone (x ∷ xs) zero a e all =
      let same : f x ≡ f a = ap f (some-injective x a e) in let same' : g x ≡ g a = ap g (some-injective x a e) in
      let rest = total_none xs (omega arith) in omega arith
  total_alone (x ∷ xs) (suc i) a e all =
      let one = total_one g xs i a e in let a_none : f x ≡ 0 = none x (omega arith) in
      let rest = total_alone xs i a e (omega arith) in omega arith
