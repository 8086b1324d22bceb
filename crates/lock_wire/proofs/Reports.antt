-- Reports: what they say of each resource.
use Rattle.std.proofs.Common.{◌≡◌, ℕ, zero, suc, ◌<◌, ◌+◌, List, [], ◌∷◌, ◌++◌, length, get_or, Bool, true, false, ◌==◌, ◌&&◌, nat_lt, Option, Some, None, refl, sym, ap, ◌∙◌, arith, if◌then◌else◌}
use Rattle.std.proofs.lemmas.Bool.Decides.{nat_tests}
use Rattle.std.proofs.Math.Path.{fun_ext}
use Rattle.lock_wire.specs.Machine.{Wire, with_cell, master_of, states_below, report_of, heirs_ward, taken_over}
use Rattle.lock_wire.specs.Parts.{reports_below}
use Rattle.lock_wire.specs.declared.local.Local.{Local}
use Rattle.lock_wire.specs.declared.packet.Packet.{Packet}
use Rattle.lock_wire.specs.declared.packet.Packet.TheVariants as packets
use Rattle.lock_wire.proofs.Lists.{same_lists}

pub states_zero : (w : Wire) (d n : ℕ) → states_below w d n 0 ≡ []
unfolding states_below
states_zero w d n = refl

pub states_suc : (w : Wire) (d n k : ℕ) → states_below w d n (suc k) ≡ states_below w d n k ++ (if master_of w k == d then Some (w.local n k) else None) ∷ []
unfolding states_below
states_suc w d n k = refl

pub states_length : (w : Wire) (d n k : ℕ) → length (states_below w d n k) ≡ k
states_length w d n zero = ap length (states_zero w d n)
states_length w d n (suc k) = ap length (states_suc w d n k) ∙ longer _ _ ∙ ap suc (states_length w d n k)
  where
    longer : {A : Type 0} (xs : List A) (x : A) → length (xs ++ x ∷ []) ≡ suc (length xs)
    longer [] x = refl
    longer (y ∷ xs) x = ap suc (longer xs x)

get-push : {A : Type 0} (xs : List A) (x d : A) (r : ℕ) → get_or (xs ++ x ∷ []) r d ≡ (if r == length xs then x else get_or xs r d)
get-push [] x d zero = refl
get-push [] x d (suc r) = sym (ap (λ b. if b then x else d) (never r))
  where
    never : (a : ℕ) → (suc a == 0) ≡ false
    never a = grind (arith, nat_tests)
get-push (y ∷ xs) x d zero = sym (ap (λ b. if b then x else y) (never (length xs)))
  where
    never : (a : ℕ) → (0 == suc a) ≡ false
    never a = grind (arith, nat_tests)
get-push (y ∷ xs) x d (suc r) = get-push xs x d r ∙ ap (λ b. if b then x else get_or xs r d) (tests r (length xs))
  where
    tests : (a b : ℕ) → (a == b) ≡ (suc a == suc b)
    tests a b = grind (arith, nat_tests)

-- what a report says of a resource
pub state_of : (w : Wire) (d n k r : ℕ) → r < k → get_or (states_below w d n k) r None ≡ (if master_of w r == d then Some (w.local n r) else None)
state_of w d n zero r lt = absurd (omega arith)
state_of w d n (suc k) r lt =
    ap (λ q. get_or q r None) (states_suc w d n k) ∙ get-push (states_below w d n k) _ None r ∙ ap (λ j. if r == j then (if master_of w k == d then Some (w.local n k) else None) else get_or (states_below w d n k) r None) (states_length w d n k)
    ∙ (elim (r == k) as (λ b. (r == k) ≡ b → (if b then (if master_of w k == d then Some (w.local n k) else None) else get_or (states_below w d n k) r None) ≡ (if master_of w r == d then Some (w.local n r) else None)) [
      | true ↦ λ t. let e : r ≡ k = grind (arith, nat_tests) in ap (λ j. if master_of w j == d then Some (w.local n j) else None) (sym e)
      | false ↦ λ f. state_of w d n k r (below r k lt f)
    ] refl)
  where
    below : (r k : ℕ) → r < suc k → (r == k) ≡ false → r < k
    below r k lt f = grind (arith, nat_tests)

-- what was read state by state
pub states-read : (w : Wire) (d n : ℕ) (states : List (Option Local)) → length states ≡ 21 → ((s : ℕ) → s < 21 → get_or states s None ≡ (if master_of w s == d then Some (w.local n s) else None)) → states ≡ states_below w d n 21
states-read w d n states len h =
    same_lists states (states_below w d n 21) None (len ∙ sym (states_length w d n 21)) (λ r lt. let below : r < 21 = omega (arith, len, lt) in h r below ∙ sym (state_of w d n 21 r below))

-- reports are about local states and masters alone
states_same : (w v : Wire) (d n k : ℕ) → v.local ≡ w.local → v.ward ≡ w.ward → states_below v d n k ≡ states_below w d n k
states_same w v d n zero e f = states_zero v d n ∙ sym (states_zero w d n)
states_same w v d n (suc k) e f =
    states_suc v d n k ∙ ap (λ q. q ++ (if master_of v k == d then Some (v.local n k) else None) ∷ []) (states_same w v d n k e f)
    ∙ ap (λ (g : ℕ → ℕ → Local). states_below w d n k ++ (if master_of v k == d then Some (g n k) else None) ∷ []) e
    ∙ ap (λ g. states_below w d n k ++ (if (g k).master == d then Some (w.local n k) else None) ∷ []) f
    ∙ sym (states_suc w d n k)

pub none_reported : (w : Wire) (d m : ℕ) → w ≡ reports_below w d m 0
none_reported w d m = λ i. record w { link = links i }
  where
    never : (b c : Bool) (n : ℕ) → (b && (c && nat_lt n 0)) ≡ false
    never b c n = grind (arith, nat_tests)

    links : w.link ≡ (reports_below w d m 0).link
    links = fun_ext (λ a. fun_ext (λ b. ap (λ t. if t then w.link a b ++ report_of w d a ∷ [] else w.link a b) (sym (never (b == m) (w.live a) a))))

-- the next node is dead
pub skips_next : (w v : Wire) (d m k : ℕ) → v ≡ reports_below w d m k → w.live k ≡ false → v ≡ reports_below w d m (k + 1)
skips_next w v d m k e dead = e ∙ (λ i. record w { link = links i })
  where
    same : (a : ℕ) (b l : Bool) → (a ≡ k → l ≡ false) → (b && (l && nat_lt a k)) ≡ (b && (l && nat_lt a (k + 1)))
    same a b l f = grind (arith, nat_tests, f)

    links : (reports_below w d m k).link ≡ (reports_below w d m (k + 1)).link
    links = fun_ext (λ a. fun_ext (λ b. ap (λ t. if t then w.link a b ++ report_of w d a ∷ [] else w.link a b) (same a (b == m) (w.live a) (λ x. ap w.live x ∙ dead))))

-- the next node reports
pub reports_next : (w v u : Wire) (d m k : ℕ) → v ≡ reports_below w d m k → w.live k ≡ true → u ≡ record v { link = with_cell v.link k m (v.link k m ++ report_of v d k ∷ []) } → u ≡ reports_below w d m (k + 1)
reports_next w v u d m k e lives f =
    f ∙ ap (λ q. record v { link = with_cell v.link k m (v.link k m ++ packets.Report q ∷ []) }) (states_same w v d k 21 (ap (λ (x : Wire). x.local) e) (ap (λ (x : Wire). x.ward) e))
    ∙ ap (λ (x : Wire). record x { link = with_cell x.link k m (x.link k m ++ report_of w d k ∷ []) }) e
    ∙ (λ i. record w { link = links i })
  where
    old : ℕ → ℕ → List Packet
    old = (reports_below w d m k).link

    not_yet : (m == m) && (w.live k && nat_lt k k) ≡ false
    not_yet = never (m == m) (w.live k) k
      where
        never : (b c : Bool) (n : ℕ) → (b && (c && nat_lt n n)) ≡ false
        never b c n = grind (arith, nat_tests)

    old_is : old k m ≡ w.link k m
    old_is = ap (λ t. if t then w.link k m ++ report_of w d k ∷ [] else w.link k m) not_yet

    own : (a b : ℕ) → (if (b == m) && (a == k) then w.link k m ++ report_of w d k ∷ [] else old a b) ≡ (if (b == m) && (a == k) then w.link a b ++ report_of w d a ∷ [] else old a b)
    own a b = elim ((b == m) && (a == k)) as (λ t. ((b == m) && (a == k)) ≡ t → (if t then w.link k m ++ report_of w d k ∷ [] else old a b) ≡ (if t then w.link a b ++ report_of w d a ∷ [] else old a b)) [
      | true ↦ λ t. let x : b ≡ m = grind (arith, nat_tests) in let y : a ≡ k = grind (arith, nat_tests) in ap (λ q. w.link q m ++ report_of w d q ∷ []) (sym y) ∙ ap (λ q. w.link a q ++ report_of w d a ∷ []) (sym x)
      | false ↦ λ t. refl
    ] refl

    tests : {A : Type 0} (a b : ℕ) (l : Bool) (x y : A) → (a ≡ k → l ≡ true) → (if (b == m) && (a == k) then x else (if (b == m) && (l && nat_lt a k) then x else y)) ≡ (if (b == m) && (l && nat_lt a (k + 1)) then x else y)
    tests a b l x y g = grind (arith, nat_tests, g)

    links : with_cell old k m (old k m ++ report_of w d k ∷ []) ≡ (reports_below w d m (k + 1)).link
    links = fun_ext (λ a. fun_ext (λ b. ap (λ q. with_cell old k m (q ++ report_of w d k ∷ []) a b) old_is ∙ own a b ∙ tests a b (w.live a) (w.link a b ++ report_of w d a ∷ []) (w.link a b) (λ x. ap w.live x ∙ lives)))

pub all_reported : (w : Wire) (d m : ℕ) → ((n : ℕ) → 16 < suc n → w.live n ≡ false) → reports_below w d m 16 ≡ record w { link = λ a b. if (b == m) && w.live a then w.link a b ++ report_of w d a ∷ [] else w.link a b }
all_reported w d m past = λ i. record w { link = links i }
  where
    same : (a : ℕ) (b l : Bool) → (16 < suc a → l ≡ false) → (b && (l && nat_lt a 16)) ≡ (b && l)
    same a b l f = grind (arith, nat_tests, f)

    links : (reports_below w d m 16).link ≡ (λ a b. if (b == m) && w.live a then w.link a b ++ report_of w d a ∷ [] else w.link a b)
    links = fun_ext (λ a. fun_ext (λ b. ap (λ t. if t then w.link a b ++ report_of w d a ∷ [] else w.link a b) (same a (b == m) (w.live a) (past a))))

-- and the new master takes over
pub over-is : (w v u : Wire) (d m : ℕ) → ((n : ℕ) → 16 < suc n → v.live n ≡ false) → v ≡ reports_below w d m 16 → u ≡ record v { ward = λ r. if master_of v r == d then heirs_ward v.live m else v.ward r } → u ≡ taken_over w d (Some m)
over-is w v u d m past e f =
    f ∙ ap (λ (x : Wire). record x { ward = λ r. if master_of x r == d then heirs_ward x.live m else x.ward r }) (e ∙ all_reported w d m (λ n lt. sym (ap (λ (x : Wire). x.live n) e) ∙ past n lt))
