-- What one call changes of the parts, in the machine's words.
use Rattle.std.proofs.Common.{◌≡◌, ◌<◌, ◌≤◌, ◌+◌, ◌%◌, nat_lt, ℕ, zero, suc, length, get_or, set, take, drop, replicate, List, [], ◌∷◌, ◌++◌, Bool, true, false, ◌==◌, Option, None, Result, Ok, Err, OnOk, OnErr, refl, sym, ap, ◌∙◌, subst, arith, if◌then◌else◌}
use Rattle.std.specs.Result.{result_err}
use Rattle.std.proofs.lemmas.List.{get_or_default, get_or_past}
use Rattle.std.proofs.lemmas.Bool.Decides.{nat_tests}
use Rattle.std.proofs.Math.Path.{fun_ext}
use Rattle.dlm_modes.specs.Points.{with_at}
use Rattle.dlm_space.specs.Locks.{Lock, new_locks, zero_block, died, all_died}
use Rattle.dlm_space.specs.Parts.{Part, lock_of, locks_of, no_part}
use Rattle.dlm_space.specs.declared.answers.LockError.{LockError}
use Rattle.lock_wire.specs.Machine.{Ward, with_cell, unless_refused, no_ward, first_ward, heirs_ward}
use Rattle.lock_wire.specs.Parts.{tables_of, locals_of, ward_of, wards_of, no_ward_part, AreInRange, live_of}
use Rattle.lock_wire.specs.declared.local.Local.{Local}
use Rattle.lock_wire.specs.declared.local.Local.TheVariants.{Free}
use Rattle.lock_wire.specs.declared.ward.Ward.{Ward as WardPart}
use Rattle.lock_wire.proofs.Lists.{get_or-replicate, get-set, at-set, row-set}

-- One element after the other.

one_more : {A : Type 0} (r k : ℕ) (now new changed done old : A) → new ≡ (if r == k then changed else now) → (r ≡ k → changed ≡ done) → now ≡ (if nat_lt r k then done else old) → new ≡ (if nat_lt r (k + 1) then done else old)
one_more r k now new changed done old e g f = grind (arith, nat_tests)

here : {A : Type 0} (k n : ℕ) (now done old : A) → n ≡ k → now ≡ (if nat_lt n k then done else old) → now ≡ old
here k n now done old same e = grind (arith, nat_tests)

so_far : {A : Type 0} (r n : ℕ) (now done old : A) → now ≡ (if nat_lt r n then done else old) → (n ≤ r → done ≡ old) → now ≡ done
so_far r n now done old e f = grind (arith, nat_tests)

-- Local states.

rows_free : (k n r : ℕ) → get_or (get_or (replicate k (replicate 21 Free)) n []) r Free ≡ Free
rows_free zero n r = refl
rows_free (suc k) zero r = get_or-replicate {A = Local} 21 r Free
rows_free (suc k) (suc n) r = rows_free k n r

pub all_free : locals_of (replicate 16 (replicate 21 Free)) ≡ (λ n r. Free)
all_free = fun_ext (λ n. fun_ext (λ r. rows_free 16 n r))

pub local-set : (rows : List (List Local)) (n r : ℕ) (l : Local) → n < length rows → r < length (get_or rows n []) → locals_of (set rows n (set (get_or rows n []) r l)) ≡ with_cell (locals_of rows) n r l
local-set rows n r l lt below = row-set (λ row s. get_or row s Free) rows n (set (get_or rows n []) r l) [] r l lt (at-set (λ (x : Local). x) (get_or rows n []) r l Free below)

pub local-clear : (rows : List (List Local)) (n : ℕ) → n < length rows → locals_of (set rows n (replicate 21 Free)) ≡ (λ m r. if m == n then Free else locals_of rows m r)
local-clear rows n lt =
    fun_ext (λ m. fun_ext (λ r. row_at m r (m == n) (get-set rows n m (replicate 21 Free) [] lt)))
  where
    row_at : (m r : ℕ) (b : Bool) {row : List Local} → row ≡ (if b then replicate 21 Free else get_or rows m []) → get_or row r Free ≡ (if b then Free else locals_of rows m r)
    row_at m r true e = ap (λ q. get_or q r Free) e ∙ get_or-replicate {A = Local} 21 r Free
    row_at m r false e = ap (λ q. get_or q r Free) e

-- Tables.

with_same : {A : Type 0} (f : ℕ → A) (r : ℕ) → f ≡ with_at f r (f r)
with_same f r = fun_ext (λ s. same s (s == r) refl)
  where
    same : (s : ℕ) (b : Bool) → (s == r) ≡ b → f s ≡ (if b then f r else f s)
    same s true e = let eq : s ≡ r = grind (arith, nat_tests) in ap f eq
    same s false e = refl

-- a call on one resource that may be refused
pub unless-refused : {T : Type 0} (result : Result T LockError) (refusal : Option LockError) (old new : List Part) (r : ℕ) (lock : Lock) → result_err result ≡ refusal → OnOk result (locks_of new ≡ with_at (locks_of old) r lock) → OnErr result (new ≡ old) → locks_of new ≡ with_at (locks_of old) r (unless_refused refusal lock (locks_of old r))
unless-refused (Ok x) refusal old new r lock e ok err = rw (← e) ok
unless-refused (Err x) refusal old new r lock e ok err = rw (← e, err) (with_same (locks_of old) r)

self_eq : (r : ℕ) → (r == r) ≡ true
self_eq r = grind (arith, nat_tests)

pub at_itself : {A : Type 0} (f : ℕ → A) (r : ℕ) (v : A) → with_at f r v r ≡ v
at_itself f r v = ap (λ b. if b then v else f r) (self_eq r)

twice : {A : Type 0} (b : Bool) (x y z : A) → (if b then x else (if b then y else z)) ≡ (if b then x else z)
twice true x y z = refl
twice false x y z = refl

-- one change after the other
pub at_twice : {A : Type 0} (f g h : ℕ → A) (r : ℕ) (p q : A → A) → g ≡ with_at f r (p (f r)) → h ≡ with_at g r (q (g r)) → h ≡ with_at f r (q (p (f r)))
at_twice f g h r p q e d =
    let here : g r ≡ p (f r) = ap (λ k. k r) e ∙ at_itself f r (p (f r)) in
    d ∙ ap (λ v. with_at g r (q v)) here ∙ ap (λ k. with_at k r (q (p (f r)))) e ∙ fun_ext (λ s. twice (s == r) (q (p (f r))) (p (f r)) (f s))

pub table-set : (tables : List (List Part)) (m : ℕ) (d new : List Part) (r : ℕ) (lock : Lock) → m < length tables → locks_of new ≡ with_at (locks_of (get_or tables m d)) r lock → tables_of (set tables m new) ≡ with_cell (tables_of tables) m r lock
table-set tables m d new r lock lt e = row-set locks_of tables m new [] r lock lt (e ∙ ap (λ p. with_at (locks_of p) r lock) (get_or_default tables m d [] lt))

-- a call on one table
pub called_table : (tables old : List (List Part)) (m : ℕ) (before after : List Part) (r : ℕ) (f : Lock → Lock) → old ≡ tables → m < length old → before ≡ get_or old m before → locks_of after ≡ with_at (locks_of before) r (f (locks_of before r)) → tables_of (set old m after) ≡ with_cell (tables_of tables) m r (f (tables_of tables m r))
called_table tables old m before after r f same lt is e =
    let at : before ≡ get_or old m [] = is ∙ get_or_default old m before [] lt in
    rw (← same) (table-set old m [] after r (f (tables_of old m r)) lt (e ∙ ap (λ p. with_at (locks_of p) r (f (locks_of p r))) at))

get-push : (tables : List (List Part)) (t : List Part) (m : ℕ) → locks_of t ≡ new_locks → ((k : ℕ) → tables_of tables k ≡ new_locks) → tables_of (tables ++ t ∷ []) m ≡ new_locks
get-push [] t zero new h = new
get-push [] t (suc m) new h = refl
get-push (x ∷ tables) t zero new h = h 0
get-push (x ∷ tables) t (suc m) new h = get-push tables t m new (λ k. h (suc k))

pub one_more_table : (tables : List (List Part)) (t : List Part) (m : ℕ) → locks_of t ≡ new_locks → ((k : ℕ) → tables_of tables k ≡ new_locks) → tables_of (tables ++ t ∷ []) m ≡ new_locks
one_more_table tables t m new h = get-push tables t m new h

nobody_held : (n m : ℕ) → (if m == n then None else get_or (no_part.held) m None) ≡ get_or (no_part.held) m None
nobody_held n m = grind arith

no_part_dies : (n : ℕ) → died (lock_of no_part) n ≡ lock_of no_part
no_part_dies n = λ i. record { held = λ m. nobody_held n m i; conversions = []; requests = []; block = zero_block; valid = true }

pub no_table_dies : (n : ℕ) → all_died (locks_of []) n ≡ locks_of []
no_table_dies n = fun_ext (λ r. no_part_dies n)

pub granted_table : {T : Type 0} (result : Result T LockError) (tables old : List (List Part)) (m : ℕ) (before after : List Part) (r : ℕ) (f : Lock → Lock) → old ≡ tables → m < length old → before ≡ get_or old m before → OnOk result (locks_of after ≡ with_at (locks_of before) r (f (locks_of before r))) → OnOk result (tables_of (set old m after) ≡ with_cell (tables_of tables) m r (f (tables_of tables m r)))
granted_table (Ok x) tables old m before after r f same lt is e = called_table tables old m before after r f same lt is e
granted_table (Err x) tables old m before after r f same lt is e = tt

no_more : {A : Type 0} (ys : List A) → drop (length ys) ys ≡ []
no_more [] = refl
no_more (y ∷ ys) = no_more ys

take_all : {A : Type 0} (xs : List A) → take (length xs) (xs ++ []) ≡ xs
take_all [] = refl
take_all (x ∷ xs) = ap (λ q. x ∷ q) (take_all xs)

pub whole : {A : Type 0} (xs ys : List A) (n : ℕ) → length xs ≡ n → length ys ≡ n → take n (xs ++ drop (length xs) ys) ≡ xs
whole xs ys n e f = let g : length xs ≡ length ys = e ∙ sym f in rw (← e, g, no_more ys, ← g) (take_all xs)

-- one table after the other
pub tables-one_more : (old now : List (List Part)) (n k : ℕ) (d after : List Part) → k < length now → ((m : ℕ) → tables_of now m ≡ (if nat_lt m k then all_died (tables_of old m) n else tables_of old m)) → locks_of after ≡ all_died (locks_of (get_or now k d)) n → (m : ℕ) → tables_of (set now k after) m ≡ (if nat_lt m (k + 1) then all_died (tables_of old m) n else tables_of old m)
tables-one_more old now n k d after lt so e m =
    let done : locks_of after ≡ all_died (tables_of old k) n = e ∙ ap (λ p. all_died (locks_of p) n) (get_or_default now k d [] lt) ∙ ap (λ l. all_died l n) (here k k _ _ _ refl (so k)) in
    one_more m k _ _ _ _ _ (ap (λ g. g m) (at-set locks_of now k after [] lt)) (λ same. done ∙ ap (λ q. all_died (tables_of old q) n) (sym same)) (so m)

pub tables-all : (old now : List (List Part)) (n : ℕ) → ((m : ℕ) → tables_of now m ≡ (if nat_lt m (length old) then all_died (tables_of old m) n else tables_of old m)) → tables_of now ≡ (λ m. all_died (tables_of old m) n)
tables-all old now n so =
    fun_ext (λ m. so_far m (length old) _ _ _ (so m) (λ le. let e : get_or old m [] ≡ [] = get_or_past old m [] le in ap (λ p. all_died (locks_of p) n) e ∙ no_table_dies n ∙ sym (ap locks_of e)))

-- Wards.

pub ward-change : (wards : List WardPart) (r : ℕ) (d p : WardPart) (f : Ward → Ward) → r < length wards → ward_of p ≡ f (ward_of (get_or wards r d)) → wards_of (set wards r p) ≡ with_at (wards_of wards) r (f (wards_of wards r))
ward-change wards r d p f lt e = at-set ward_of wards r p no_ward_part lt ∙ ap (with_at (wards_of wards) r) (e ∙ ap (λ q. f (ward_of q)) (get_or_default wards r d no_ward_part lt))

master_at : (b : Bool) (p q : WardPart) → p.master < 16 → q.master < 16 → (if b then p else q).master < 16
master_at true p q a c = a
master_at false p q a c = c

length-set : {A : Type 0} (xs : List A) (n : ℕ) (v : A) → length (set xs n v) ≡ length xs
length-set [] n v = refl
length-set (x ∷ xs) zero v = refl
length-set (x ∷ xs) (suc n) v = ap suc (length-set xs n v)

pub in_range-set : (wards : List WardPart) (r : ℕ) (p : WardPart) → r < length wards → AreInRange wards → p.master < 16 → AreInRange (set wards r p)
in_range-set wards r p lt all one s below =
    subst (λ (q : WardPart). q.master < 16) (sym (get-set wards r s p no_ward_part lt)) (master_at (s == r) p (get_or wards s no_ward_part) one (all s (subst (λ k. s < k) (length-set wards r p) below)))

pub in_range-change : (wards : List WardPart) (r : ℕ) (d p : WardPart) → r < length wards → AreInRange wards → p.master ≡ (get_or wards r d).master → AreInRange (set wards r p)
in_range-change wards r d p lt all e =
    in_range-set wards r p lt all (subst (λ k. k < 16) (sym (e ∙ ap (λ (q : WardPart). q.master) (get_or_default wards r d no_ward_part lt))) (all r lt))

pub nobody_called : (p : WardPart) → ward_of (record p { called = replicate 16 None }) ≡ record (ward_of p) { called = λ n. None }
nobody_called p = λ i. record (ward_of p) { called = λ n. get_or-replicate {A = Option ℕ} 16 n None i }

pub nobody : (m : ℕ) → ward_of (record { master = m; awaited = replicate 16 false; stale = false; called = replicate 16 None }) ≡ record no_ward { master = m }
nobody m = λ i. record { master = m; awaited = λ n. get_or-replicate {A = Bool} 16 n false i; stale = false; called = λ n. get_or-replicate {A = Option ℕ} 16 n None i }

pub taking_over : (live : List Bool) (m : ℕ) → ward_of (record { master = m; awaited = live; stale = true; called = replicate 16 None }) ≡ heirs_ward (live_of live) m
taking_over live m = λ i. record { master = m; awaited = live_of live; stale = true; called = λ n. get_or-replicate {A = Option ℕ} 16 n None i }

-- wards that are given one by one
in_or_past : {A : Type 0} (r n : ℕ) (a b : A) → (r < n → a ≡ b) → (n ≤ r → a ≡ b) → a ≡ b
in_or_past r n a b p q = grind (arith, nat_tests)

pub wards-new : (wards : List WardPart) (nodes : ℕ) → length wards ≡ 21 → ((r : ℕ) → r < 21 → ward_of (get_or wards r no_ward_part) ≡ record no_ward { master = r % nodes }) → wards_of wards ≡ first_ward nodes
wards-new wards nodes len h =
    fun_ext (λ r. in_or_past r 21 _ _
    (λ lt. h r lt ∙ ap (λ k. record no_ward { master = k }) (inside r lt))
    (λ le. let e : get_or wards r no_ward_part ≡ no_ward_part = get_or_past wards r no_ward_part (omega (arith, len, le)) in ap ward_of e ∙ ap (λ k. record no_ward { master = k }) (outside r le)))
  where
    inside : (r : ℕ) → r < 21 → r % nodes ≡ (if nat_lt r 21 then r % nodes else 16)
    inside r lt = grind (arith, nat_tests)

    outside : (r : ℕ) → 21 ≤ r → 16 ≡ (if nat_lt r 21 then r % nodes else 16)
    outside r le = grind (arith, nat_tests)

-- one ward after the other

pub wards-one_more : (f : Ward → Ward) (old now : List WardPart) (k : ℕ) (d after : WardPart) → k < length now → ((r : ℕ) → wards_of now r ≡ (if nat_lt r k then f (wards_of old r) else wards_of old r)) → ward_of after ≡ f (ward_of (get_or now k d)) → (r : ℕ) → wards_of (set now k after) r ≡ (if nat_lt r (k + 1) then f (wards_of old r) else wards_of old r)
wards-one_more f old now k d after lt so e r =
    let done : ward_of after ≡ f (wards_of old k) = e ∙ ap (λ p. f (ward_of p)) (get_or_default now k d no_ward_part lt) ∙ ap f (here k k _ _ _ refl (so k)) in
    one_more r k _ _ _ _ _ (ap (λ g. g r) (at-set ward_of now k after no_ward_part lt)) (λ same. done ∙ ap (λ m. f (wards_of old m)) (sym same)) (so r)

pub wards-all : (f : Ward → Ward) (old now : List WardPart) → f no_ward ≡ no_ward → ((r : ℕ) → wards_of now r ≡ (if nat_lt r (length old) then f (wards_of old r) else wards_of old r)) → wards_of now ≡ (λ r. f (wards_of old r))
wards-all f old now none so =
    fun_ext (λ r. so_far r (length old) _ _ _ (so r) (λ le. let e : get_or old r no_ward_part ≡ no_ward_part = get_or_past old r no_ward_part le in ap (λ p. f (ward_of p)) e ∙ none ∙ sym (ap ward_of e)))
