-- Lists as functions of their index, where one element is replaced.
use Rattle.std.proofs.Common.{◌≡◌, ◌<◌, ◌+◌, ◌-◌, nat_lt, ℕ, zero, suc, length, get_or, set, replicate, List, [], ◌∷◌, Bool, true, false, ◌==◌, ◌&&◌, Some, refl, sym, ap, ◌∙◌, arith, if◌then◌else◌}
use Rattle.std.proofs.lemmas.Bool.Decides.{nat_tests}
use Rattle.std.proofs.Math.Path.{fun_ext}
use Rattle.dlm_modes.specs.First.{first_such}
use Rattle.dlm_modes.proofs.FirstLaws.{first_such_found}
use Rattle.dlm_modes.specs.Points.{with_at}
use Rattle.lock_wire.specs.Machine.{with_cell}

pub get_or-replicate : {A : Type 0} (k n : ℕ) (d : A) → get_or (replicate k d) n d ≡ d
get_or-replicate zero n d = refl
get_or-replicate (suc k) zero d = refl
get_or-replicate (suc k) (suc n) d = get_or-replicate k n d

pub get-set : {A : Type 0} (xs : List A) (n m : ℕ) (v d : A) → n < length xs → get_or (set xs n v) m d ≡ (if m == n then v else get_or xs m d)
get-set [] n m v d lt = absurd (omega (arith, lt))
get-set (x ∷ xs) zero zero v d lt = refl
get-set (x ∷ xs) zero (suc m) v d lt = grind arith
get-set (x ∷ xs) (suc n) zero v d lt = grind arith
get-set (x ∷ xs) (suc n) (suc m) v d lt = grind (arith, get-set xs n m v d (omega (arith, lt)))

if_ap : {A B : Type 0} (f : A → B) (b : Bool) (x y : A) → f (if b then x else y) ≡ (if b then f x else f y)
if_ap f true x y = refl
if_ap f false x y = refl

-- one element
pub at-set : {A B : Type 0} (f : A → B) (xs : List A) (i : ℕ) (v d : A) → i < length xs → (λ r. f (get_or (set xs i v) r d)) ≡ with_at (λ r. f (get_or xs r d)) i (f v)
at-set f xs i v d lt = fun_ext (λ r. ap f (get-set xs i r v d lt) ∙ if_ap f (r == i) v (get_or xs r d))

in_row : {B : Type 0} (b : Bool) (c : Bool) (v x y z : B) → x ≡ (if c then v else y) → (b ≡ true → z ≡ y) → (if b then x else z) ≡ (if c && b then v else z)
in_row true true v x y z e same = e
in_row true false v x y z e same = e ∙ sym (same refl)
in_row false true v x y z e same = refl
in_row false false v x y z e same = refl

same_at : {A : Type 0} (n i : ℕ) (f : ℕ → A) → (n == i) ≡ true → f n ≡ f i
same_at n i f e = let same : n ≡ i = grind (arith, nat_tests) in ap f same

-- one element of one row
pub row-set : {A B : Type 0} (f : A → ℕ → B) (rows : List A) (i : ℕ) (row d : A) (j : ℕ) (v : B) → i < length rows → f row ≡ with_at (f (get_or rows i d)) j v → (λ n. f (get_or (set rows i row) n d)) ≡ with_cell (λ n. f (get_or rows n d)) i j v
row-set f rows i row d j v lt e =
    fun_ext (λ n. fun_ext (λ s.
    ap (λ q. f q s) (get-set rows i n row d lt)
    ∙ if_ap (λ q. f q s) (n == i) row (get_or rows n d)
    ∙ in_row (n == i) (s == j) v (f row s) (f (get_or rows i d) s) (f (get_or rows n d) s) (ap (λ g. g s) e) (λ t. same_at n i (λ k. f (get_or rows k d) s) t)))

-- one row
pub rows-set : {A B : Type 0} (f : A → ℕ → B) (rows : List A) (i : ℕ) (row d : A) (n : ℕ) → i < length rows → f (get_or (set rows i row) n d) ≡ (if n == i then f row else f (get_or rows n d))
rows-set f rows i row d n lt = ap f (get-set rows i n row d lt) ∙ if_ap f (n == i) row (get_or rows n d)

-- one test that finds
pub found_at : (p : ℕ → Bool) (i n : ℕ) → i < n → p i ≡ true → first_such p i (n - i) ≡ Some i
found_at p i n lt e = first_such_found p i n lt e

-- lists with the same elements
pub same_lists : {A : Type 0} (xs ys : List A) (d : A) → length xs ≡ length ys → ((r : ℕ) → r < length xs → get_or xs r d ≡ get_or ys r d) → xs ≡ ys
same_lists [] [] d e h = refl
same_lists [] (y ∷ ys) d e h = absurd (omega (arith, e))
same_lists (x ∷ xs) [] d e h = absurd (omega (arith, e))
same_lists (x ∷ xs) (y ∷ ys) d e h =
    let one : x ≡ y = h 0 (omega arith) in
    let more : xs ≡ ys = same_lists xs ys d (omega (arith, e)) (λ r lt. h (suc r) (omega (arith, lt))) in
    rw (one, more) refl

set-length : {A : Type 0} (xs : List A) (n : ℕ) (v : A) → length (set xs n v) ≡ length xs
set-length [] n v = refl
set-length (x ∷ xs) zero v = refl
set-length (x ∷ xs) (suc n) v = ap suc (set-length xs n v)

pub length-set : {A : Type 0} (xs : List A) (n : ℕ) (v : A) → length (set xs n v) ≡ length xs
length-set xs n v = set-length xs n v

next_read : {A : Type 0} (s k : ℕ) (x f g got : A) → s < k + 1 → got ≡ (if s == k then x else g) → (s < k → g ≡ f) → (s ≡ k → x ≡ f) → got ≡ f
next_read s k x f g got lt e h i = grind (arith, nat_tests)

-- one more element is what it is to be
pub set-next : {A : Type 0} (xs : List A) (k : ℕ) (v d : A) (f : ℕ → A) → k < length xs → v ≡ f k → ((s : ℕ) → s < k → get_or xs s d ≡ f s) → (s : ℕ) → s < k + 1 → get_or (set xs k v) s d ≡ f s
set-next xs k v d f lt e h s below = next_read s k v (f s) (get_or xs s d) (get_or (set xs k v) s d) below (get-set xs k s v d lt) (h s) (λ same. e ∙ ap f (sym same))

flag_read : (s k : ℕ) (g got : Bool) → got ≡ (if s == k then true else g) → g ≡ nat_lt s k → got ≡ nat_lt s (k + 1)
flag_read s k g got e h = grind (arith, nat_tests)

-- one more flag is set
pub flag-next : (xs : List Bool) (k : ℕ) → k < length xs → ((s : ℕ) → get_or xs s false ≡ nat_lt s k) → (s : ℕ) → get_or (set xs k true) s false ≡ nat_lt s (k + 1)
flag-next xs k lt h s = flag_read s k (get_or xs s false) (get_or (set xs k true) s false) (get-set xs k s true false lt) (h s)
