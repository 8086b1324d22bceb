-- What is read of tables that are changed at one node.
use Rattle.std.proofs.Common.{◌≡◌, ◌<◌, ◌≤◌, ◌+◌, ◌==◌, ◌&&◌, ℕ, zero, suc, Bool, true, false, List, [], ◌∷◌, length, set, Option, None, refl, sym, ap, ◌∙◌, subst, arith, if◌then◌else◌}
use Rattle.std.specs.Prelude.{get_or, nat_lt}
use Rattle.std.proofs.lemmas.Bool.Decides.{nat_tests}
use Rattle.std.proofs.lemmas.List.{get_or_default, get_or_past}
use Rattle.std.proofs.Math.Path.{fun_ext}
use Rattle.dlm_modes.specs.Points.{with_at}
use Rattle.mdc_types.specs.declared.numbers.Range.{Range}
use Rattle.msg_rounds.specs.Phases.{Receiving, new_receiving}
use Rattle.suspend_ranges.specs.Suspended.{ranges_of}
use Rattle.world_state.specs.Kept.{tried_of}
use Rattle.world_state.specs.declared.attempt.Attempt.{Attempt}
use Rattle.world_state.specs.declared.attempt.Attempt.TheVariants.{Untried}
use Rattle.world_members.specs.Tables.{receivers_of, all_tries, suspended_of}
use Rattle.world_members.specs.Tries.{tries_of}

-- what is read of a list with one element replaced
pub get-set : {A : Type 0} (xs : List A) (n m : ℕ) (v d : A) → n < length xs
    → get_or (set xs n v) m d ≡ (if m == n then v else get_or xs m d)
get-set [] n m v d lt = absurd (omega (arith, lt))
get-set (x ∷ xs) zero zero v d lt = refl
get-set (x ∷ xs) zero (suc m) v d lt = grind arith
get-set (x ∷ xs) (suc n) zero v d lt = grind arith
get-set (x ∷ xs) (suc n) (suc m) v d lt = grind (arith, get-set xs n m v d (omega (arith, lt)))

pub receivers-set : (xs : List Receiving) (n : ℕ) (v : Receiving) → n < length xs
    → receivers_of (set xs n v) ≡ with_at (receivers_of xs) n v
receivers-set xs n v lt = fun_ext (λ m. get-set xs n m v new_receiving lt)

-- tries

try_from : (n l m j : ℕ) (xs here : List Attempt) (old : List Attempt) (v : Attempt) (b : Bool) → (m == n) ≡ b → l < length xs → (m ≡ n → old ≡ xs)
    → tries_of (if b then set xs l v else old) j ≡ (if b && (j == l) then tried_of v else tries_of old j)
try_from n l m j xs here old v true e lt same = ap tried_of (get-set xs l j v Untried lt) ∙ split (j == l) (ap (λ ys. tries_of ys j) (sym (same (grind (arith, nat_tests)))))
  where
    split : (c : Bool) → tries_of xs j ≡ tries_of old j → tried_of (if c then v else get_or xs j Untried) ≡ (if c then tried_of v else tries_of old j)
    split true f = refl
    split false f = f
try_from n l m j xs here old v false e lt same = refl

-- the try of one leg by one node
pub tries-put : (tried : List (List Attempt)) (n l : ℕ) (d new : List Attempt) (v : Attempt) → n < length tried
    → l < length (get_or tried n d) → new ≡ set (get_or tried n d) l v
    → all_tries (set tried n new) ≡ (λ m k. if (m == n) && (k == l) then tried_of v else all_tries tried m k)
tries-put tried n l d new v lt below e = fun_ext (λ m. fun_ext (λ j.
    ap (λ ys. tries_of ys j) (get-set tried n m new [] lt ∙ ap (λ ys. if m == n then ys else get_or tried m []) e)
    ∙ try_from n l m j (get_or tried n d) [] (get_or tried m []) v (m == n) refl below (λ same. ap (λ i. get_or tried i []) same ∙ sym (get_or_default tried n d [] lt))))

pub tries-put_at : (tried : List (List Attempt)) (n l : ℕ) (got new : List Attempt) (v : Attempt) → n < length tried
    → got ≡ get_or tried n got → l < length got → new ≡ set got l v
    → all_tries (set tried n new) ≡ (λ m k. if (m == n) && (k == l) then tried_of v else all_tries tried m k)
tries-put_at tried n l got new v lt is below e =
    tries-put tried n l got new v lt (subst (λ xs. l < length xs) is below) (e ∙ ap (λ xs. set xs l v) is)

-- suspended ranges

ranges_at : (m n : ℕ) (xs old got : List (Option Range)) → got ≡ (if m == n then xs else old)
    → ranges_of got ≡ (if m == n then ranges_of xs else ranges_of old)
ranges_at m n xs old got e = ap ranges_of e ∙ by_test (m == n)
  where
    by_test : (b : Bool) → ranges_of (if b then xs else old) ≡ (if b then ranges_of xs else ranges_of old)
    by_test true = refl
    by_test false = refl

pub suspended-set : (lists : List (List (Option Range))) (n : ℕ) (v : List (Option Range)) → n < length lists
    → suspended_of (set lists n v) ≡ with_at (suspended_of lists) n (ranges_of v)
suspended-set lists n v lt = fun_ext (λ m. ranges_at m n v (get_or lists m []) _ (get-set lists n m v [] lt))

put_at : (m n o owner : ℕ) (x : Option Range) (f g : ℕ → Option Range) → (m ≡ n → f ≡ g)
    → (if m == n then with_at f o x else g) owner ≡ (if (m == n) && (owner == o) then x else g owner)
put_at m n o owner x f g same = by_test (m == n) refl
  where
    by_test : (b : Bool) → (m == n) ≡ b → (if b then with_at f o x else g) owner ≡ (if b && (owner == o) then x else g owner)
    by_test true e = ap (λ h. with_at h o x owner) (same (grind (arith, nat_tests)))
    by_test false e = refl

-- the list of one node changes at one owner
pub suspended-put : (lists : List (List (Option Range))) (n o : ℕ) (d v : List (Option Range)) (x : Option Range) → n < length lists
    → ranges_of v ≡ with_at (ranges_of (get_or lists n d)) o x
    → suspended_of (set lists n v) ≡ (λ m owner. if (m == n) && (owner == o) then x else suspended_of lists m owner)
suspended-put lists n o d v x lt e = fun_ext (λ m. fun_ext (λ owner.
    ap (λ (f : ℕ → ℕ → Option Range). f m owner) (suspended-set lists n v lt ∙ ap (with_at (suspended_of lists) n) (e ∙ ap (λ ys. with_at (ranges_of ys) o x) (get_or_default lists n d [] lt)))
    ∙ put_at m n o owner x (suspended_of lists n) (suspended_of lists m) (λ same. ap (suspended_of lists) (sym same))))

-- one after the other

one_more : {A : Type 0} (r k : ℕ) (now new changed done old : A) → new ≡ (if r == k then changed else now) → (r ≡ k → changed ≡ done) → now ≡ (if nat_lt r k then done else old)
    → new ≡ (if nat_lt r (k + 1) then done else old)
one_more r k now new changed done old e g f = grind (arith, nat_tests)

here : {A : Type 0} (k : ℕ) (now done old : A) → now ≡ (if nat_lt k k then done else old) → now ≡ old
here k now done old e = grind (arith, nat_tests)

-- an owner is dropped from one list after the other
pub owner_dropped : (old now : List (List (Option Range))) (k o : ℕ) (d v : List (Option Range)) → k < length now
    → ((m : ℕ) → suspended_of now m ≡ (if nat_lt m k then with_at (suspended_of old m) o None else suspended_of old m))
    → ranges_of v ≡ with_at (ranges_of (get_or now k d)) o None
    → (m : ℕ) → suspended_of (set now k v) m ≡ (if nat_lt m (k + 1) then with_at (suspended_of old m) o None else suspended_of old m)
owner_dropped old now k o d v lt so e m =
    let done : ranges_of v ≡ with_at (suspended_of old k) o None =
    e ∙ ap (λ ys. with_at (ranges_of ys) o None) (get_or_default now k d [] lt)
    ∙ ap (λ f. with_at f o None) (here k _ _ _ (so k)) in
    one_more m k _ _ _ _ _ (ap (λ (f : ℕ → ℕ → Option Range). f m) (suspended-set now k v lt))
    (λ same. done ∙ ap (λ j. with_at (suspended_of old j) o None) (sym same)) (so m)

none_there : (o owner : ℕ) → (if owner == o then None else ranges_of [] owner) ≡ ranges_of [] owner
none_there o owner = grind arith

at_end : (m n o : ℕ) (now : ℕ → Option Range) (xs : List (Option Range)) → now ≡ (if nat_lt m n then with_at (ranges_of xs) o None else ranges_of xs)
    → (n ≤ m → xs ≡ []) → (owner : ℕ) → now owner ≡ (if owner == o then None else ranges_of xs owner)
at_end m n o now xs e none owner = ap (λ (f : ℕ → Option Range). f owner) e ∙ by_test (nat_lt m n) refl
  where
    le : nat_lt m n ≡ false → n ≤ m
    le f = grind (arith, nat_tests)

    by_test : (b : Bool) → nat_lt m n ≡ b → (if b then with_at (ranges_of xs) o None else ranges_of xs) owner ≡ (if owner == o then None else ranges_of xs owner)
    by_test true t = refl
    by_test false t = let nothing : xs ≡ [] = none (le t) in rw nothing (sym (none_there o owner))

pub owner_gone : (old now : List (List (Option Range))) (n o : ℕ) → length old ≡ n
    → ((m : ℕ) → suspended_of now m ≡ (if nat_lt m n then with_at (suspended_of old m) o None else suspended_of old m))
    → suspended_of now ≡ (λ m owner. if owner == o then None else suspended_of old m owner)
owner_gone old now n o all so = fun_ext (λ m. fun_ext (λ owner.
    at_end m n o (suspended_of now m) (get_or old m []) (so m) (λ le. get_or_past old m [] (omega (arith, all, le))) owner))

-- the members' ranges, one after the other
pub range_put : (list new : ℕ → Option Range) (m : ℕ) (x : Option Range) (f : ℕ → Option Range) → new ≡ with_at list m x → x ≡ f m
    → ((o : ℕ) → list o ≡ (if nat_lt o m then f o else None)) → (o : ℕ) → new o ≡ (if nat_lt o (m + 1) then f o else None)
range_put list new m x f e is so o =
    one_more o m _ _ _ _ _ (ap (λ (g : ℕ → Option Range). g o) e) (λ same. is ∙ ap f (sym same)) (so o)

no_range : (o : ℕ) (x : Option Range) → None ≡ (if nat_lt o 0 then x else None)
no_range o x = grind (arith, nat_tests)

pub no_ranges : (list : ℕ → Option Range) (f : ℕ → Option Range) → list ≡ (λ o. None) → (o : ℕ) → list o ≡ (if nat_lt o 0 then f o else None)
no_ranges list f e o = ap (λ (g : ℕ → Option Range). g o) e ∙ no_range o (f o)
