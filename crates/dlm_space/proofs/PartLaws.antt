-- Parts and the locks that they stand for.
use Rattle.std.proofs.Common.{◌≡◌, ◌<◌, ◌≤◌, ◌+◌, nat_lt, ℕ, zero, suc, length, get_or, set, replicate, List, [], ◌∷◌, true, Option, None, Result, Ok, Err, OnOk, refl, sym, ap, ◌∙◌, arith, ◌==◌, if◌then◌else◌}
use Rattle.std.proofs.lemmas.List.{get_or_default, get_or_past}
use Rattle.std.proofs.lemmas.Bool.Decides.{nat_tests}
use Rattle.std.proofs.Math.Path.{fun_ext}
use Rattle.dlm_modes.specs.declared.mode.Mode.{Mode}
use Rattle.dlm_modes.specs.Points.{with_at}
use Rattle.dlm_space.specs.Locks.{Lock, new_lock, new_locks, zero_block, let_go, all_let_go, died, all_died}
use Rattle.dlm_space.specs.Parts.{Part, lock_of, locks_of, no_part}
use Rattle.dlm_space.specs.declared.ask.Ask.{Ask}

get_or-replicate : {A : Type 0} (k n : ℕ) (d : A) → get_or (replicate k d) n d ≡ d
get_or-replicate zero n d = refl
get_or-replicate (suc k) zero d = refl
get_or-replicate (suc k) (suc n) d = get_or-replicate k n d

abbrev fresh : List (Option Mode) → List Ask → List Ask → Lock
fresh held conversions requests = lock_of (record { held = held; conversions = conversions; requests = requests; block = zero_block; valid = true })

nothing_held : (k : ℕ) → fresh (replicate k None) [] [] ≡ new_lock
nothing_held k = λ i. record { held = λ n. get_or-replicate {A = Option Mode} k n None i; conversions = []; requests = []; block = zero_block; valid = true }

pub lock_of-fresh : (k : ℕ) (conversions requests : List Ask) → conversions ≡ [] → requests ≡ [] → fresh (replicate k None) conversions requests ≡ new_lock
lock_of-fresh k conversions requests e f = rw (e, f) (nothing_held k)

-- what is read of a list with one element replaced
get-set : {A : Type 0} (xs : List A) (n m : ℕ) (v d : A) → n < length xs → get_or (set xs n v) m d ≡ (if m == n then v else get_or xs m d)
get-set [] n m v d lt = absurd (omega (arith, lt))
get-set (x ∷ xs) zero zero v d lt = refl
get-set (x ∷ xs) zero (suc m) v d lt = grind arith
get-set (x ∷ xs) (suc n) zero v d lt = grind arith
get-set (x ∷ xs) (suc n) (suc m) v d lt = grind (arith, get-set xs n m v d (omega (arith, lt)))

lock_at : (r m : ℕ) (p q got : Part) → got ≡ (if m == r then p else q) → lock_of got ≡ (if m == r then lock_of p else lock_of q)
lock_at r m p q got e = grind (arith, e)

-- one part is replaced
pub locks_of-set : (parts : List Part) (r : ℕ) (p : Part) → r < length parts → locks_of (set parts r p) ≡ with_at (locks_of parts) r (lock_of p)
locks_of-set parts r p lt = fun_ext (λ m. lock_at r m p (get_or parts m no_part) (get_or (set parts r p) m no_part) (get-set parts r m p no_part lt))

-- a call on one part
pub locks_of-call : {T E : Type 0} (result : Result T E) (parts : List Part) (r : ℕ) (d after : Part) (f : Lock → Lock) → r < length parts → OnOk result (lock_of after ≡ f (lock_of (get_or parts r d))) → OnOk result (locks_of (set parts r after) ≡ with_at (locks_of parts) r (f (locks_of parts r)))
locks_of-call (Ok x) parts r d after f lt e =
    locks_of-set parts r after lt ∙ ap (with_at (locks_of parts) r) (e ∙ ap (λ p. f (lock_of p)) (get_or_default parts r d no_part lt))
locks_of-call (Err x) parts r d after f lt e = tt

-- One change is made to one part after the other.

one_more : {A : Type 0} (r k : ℕ) (now new changed done old : A) → new ≡ (if r == k then changed else now) → (r ≡ k → changed ≡ done) → now ≡ (if nat_lt r k then done else old) → new ≡ (if nat_lt r (k + 1) then done else old)
one_more r k now new changed done old e g f = grind (arith, nat_tests)

all_so_far : {A : Type 0} (r n : ℕ) (now done old : A) → now ≡ (if nat_lt r n then done else old) → (n ≤ r → done ≡ old) → now ≡ done
all_so_far r n now done old e f = grind (arith, nat_tests)

here : {A : Type 0} (k n : ℕ) (now done old : A) → n ≡ k → now ≡ (if nat_lt n k then done else old) → now ≡ old
here k n now done old same e = grind (arith, nat_tests)

pub locks_of-one_more : (f : Lock → Lock) (old now : List Part) (k : ℕ) (d after : Part) → k < length now → ((r : ℕ) → locks_of now r ≡ (if nat_lt r k then f (locks_of old r) else locks_of old r)) → lock_of after ≡ f (lock_of (get_or now k d)) → (r : ℕ) → locks_of (set now k after) r ≡ (if nat_lt r (k + 1) then f (locks_of old r) else locks_of old r)
locks_of-one_more f old now k d after lt so e r =
    let done : lock_of after ≡ f (locks_of old k) = e ∙ ap (λ p. f (lock_of p)) (get_or_default now k d no_part lt) ∙ ap f (here k k _ _ _ refl (so k)) in
    one_more r k _ _ _ _ _ (ap (λ g. g r) (locks_of-set now k after lt)) (λ same. done ∙ ap (λ m. f (locks_of old m)) (sym same)) (so r)

locks_of-all : (f : Lock → Lock) (old now : List Part) → f (lock_of no_part) ≡ lock_of no_part → ((r : ℕ) → locks_of now r ≡ (if nat_lt r (length old) then f (locks_of old r) else locks_of old r)) → locks_of now ≡ (λ r. f (locks_of old r))
locks_of-all f old now none so =
    fun_ext (λ r. all_so_far r (length old) _ _ _ (so r) (λ le. let e : get_or old r no_part ≡ no_part = get_or_past old r no_part le in rw e none))

-- what nobody holds is the same when a node dies, and when it lets go
none_leaves : (n m : ℕ) → (if m == n then None else get_or (no_part.held) m None) ≡ get_or (no_part.held) m None
none_leaves n m = grind arith

nothing_dies : (n : ℕ) → died (lock_of no_part) n ≡ lock_of no_part
nothing_dies n = λ i. record { held = λ m. none_leaves n m i; conversions = []; requests = []; block = zero_block; valid = true }

nothing_goes : (n : ℕ) → let_go (lock_of no_part) n ≡ lock_of no_part
nothing_goes n = λ i. record { held = λ m. none_leaves n m i; conversions = []; requests = []; block = zero_block; valid = true }

pub locks_of-all_died : (old now : List Part) (n : ℕ) → ((r : ℕ) → locks_of now r ≡ (if nat_lt r (length old) then died (locks_of old r) n else locks_of old r)) → locks_of now ≡ all_died (locks_of old) n
locks_of-all_died old now n so = locks_of-all (λ lock. died lock n) old now (nothing_dies n) so

pub locks_of-all_let_go : (old now : List Part) (n : ℕ) → ((r : ℕ) → locks_of now r ≡ (if nat_lt r (length old) then let_go (locks_of old r) n else locks_of old r)) → locks_of now ≡ all_let_go (locks_of old) n
locks_of-all_let_go old now n so = locks_of-all (λ lock. let_go lock n) old now (nothing_goes n) so

in_range : {A : Type 0} (r n : ℕ) (a b : A) → (r < n → a ≡ b) → (n ≤ r → a ≡ b) → a ≡ b
in_range r n a b p q = grind (arith, nat_tests)

pub locks_of-new : (parts : List Part) → ((r : ℕ) (d : Part) → r < length parts → lock_of (get_or parts r d) ≡ new_lock) → locks_of parts ≡ new_locks
locks_of-new parts fresh =
    fun_ext (λ r. in_range r (length parts) _ _ (fresh r no_part) (λ le. let e : get_or parts r no_part ≡ no_part = get_or_past parts r no_part le in rw e refl))
