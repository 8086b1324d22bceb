-- Queues: what is asked in one that changes, and that there is room in it.
use Rattle.std.proofs.Common.{◌≡◌, ◌≢◌, ◌<◌, ◌≤◌, ◌+◌, ℕ, zero, suc, length, List, [], ◌∷◌, ◌++◌, Bool, true, false, not, ◌==◌, cond, Some, refl, sym, ap, ◌∙◌, subst, arith, if◌then◌else◌}
use Rattle.std.specs.List.{list_any, slice_get}
use Rattle.std.specs.List.Retain.{RetainsInTurn}
use Rattle.std.proofs.lemmas.Bool.Decides.{nat_tests}
use Rattle.dlm_modes.specs.declared.mode.Mode.{Mode}
use Rattle.dlm_space.specs.Queues.{ask_for, asks_of, asks, without}
use Rattle.dlm_space.specs.Parts.{IsQueue}
use Rattle.dlm_space.specs.declared.ask.Ask.{Ask}

-- one more at the end
pub asks_of-push : (n : ℕ) (q : List Ask) (a : Ask) → asks_of n (q ++ a ∷ []) ≡ (if a.node == n then asks_of n q ++ a.mode ∷ [] else asks_of n q)
asks_of-push n [] a = grind arith
asks_of-push n (x ∷ q) a = grind (arith, asks_of-push n q a)

-- without a node
pub asks_of-without : (n p : ℕ) (q : List Ask) → asks_of n (without p q) ≡ (if p == n then [] else asks_of n q)
asks_of-without n p [] = grind arith
asks_of-without n p (x ∷ q) = grind (arith, asks_of-without n p q)

pub asks-list_any : (n : ℕ) (q : List Ask) → list_any (λ (a : Ask). a.node == n) q ≡ asks n q
asks-list_any n [] = refl
asks-list_any n (x ∷ q) = grind (arith, asks-list_any n q)

-- who doesn't ask has no mode asked
pub asks_none : (n : ℕ) (q : List Ask) → asks n q ≡ false → asks_of n q ≡ []
asks_none n q free = grind arith

-- a queue that grows by a node that isn't in it
pub IsQueue-push : (n : ℕ) (mode : Mode) (q : List Ask) → IsQueue q → n < 16 → asks n q ≡ false → IsQueue (q ++ ask_for n mode ∷ [])
IsQueue-push n mode q i lt free = record {
  nodes = λ m le. grind (arith, nat_tests, asks_of-push m q (ask_for n mode), i.nodes m le);
  once = λ m. grind (arith, nat_tests, asks_of-push m q (ask_for n mode), i.once m, asks_none n q free);
}

pub IsQueue-without : (n : ℕ) (q : List Ask) → IsQueue q → IsQueue (without n q)
IsQueue-without n q i = record {
  nodes = λ m le. grind (arith, asks_of-without m n q, i.nodes m le);
  once = λ m. grind (arith, asks_of-without m n q, i.once m);
}

pub queue_without : (n : ℕ) (q rest : List Ask) → rest ≡ without n q → IsQueue q → IsQueue rest
queue_without n q rest e i = rw e (IsQueue-without n q i)

pub IsQueue-rest : (a : Ask) (q : List Ask) → IsQueue (a ∷ q) → IsQueue q
IsQueue-rest a q i = record {
  nodes = λ m le. grind (arith, i.nodes m le);
  once = λ m. grind (arith, i.once m);
}

pub IsQueue-node : (a : Ask) (q : List Ask) → IsQueue (a ∷ q) → a.node < 16
IsQueue-node a q i = grind (arith, nat_tests, i.nodes a.node)

pub first_node : (q : List Ask) (a : Ask) → IsQueue q → Some a ≡ slice_get q 0 → a.node < 16
first_node [] a i e = cc
first_node (x ∷ q) a i e = let same : x ≡ a = cc in subst (λ (y : Ask). y.node < 16) same (IsQueue-node x q i)

pub queue_rest : (a : Ask) (rest q : List Ask) → q ≡ a ∷ rest → IsQueue q → IsQueue rest
queue_rest a rest q e i = IsQueue-rest a rest (subst IsQueue e i)

pub queue_node : (a : Ask) (rest q : List Ask) → q ≡ a ∷ rest → IsQueue q → a.node < 16
queue_node a rest q e i = IsQueue-node a rest (subst IsQueue e i)

-- the first of a queue asks in it, and is in it once
pub asks_head : (a : Ask) (queue : List Ask) → asks a.node (a ∷ queue) ≡ true
asks_head a queue = grind arith

pub asks_rest : (a : Ask) (queue : List Ask) (m : ℕ) → asks m queue ≡ true → asks m (a ∷ queue) ≡ true
asks_rest a queue m e = grind arith

pub once_head : (a : Ask) (queue : List Ask) → IsQueue (a ∷ queue) → asks a.node queue ≡ false
once_head a queue i = grind (arith, i.once a.node)

-- without the first, and without one that is not there
pub without-none : (n : ℕ) (queue : List Ask) → asks n queue ≡ false → without n queue ≡ queue
without-none n [] e = refl
without-none n (a ∷ queue) e = grind (arith, without-none n queue)

pub without-head : (a : Ask) (rest : List Ask) → IsQueue (a ∷ rest) → without a.node (a ∷ rest) ≡ rest
without-head a rest i = grind (arith, nat_tests, without-none a.node rest (once_head a rest i))

kept : (gone b : Bool) (x y : Ask) (zs ws : List Ask) → b ≡ not gone → y ≡ x → zs ≡ ws → cond b (y ∷ zs) zs ≡ (if gone then ws else x ∷ ws)
kept gone b x y zs ws e f g = grind arith

-- the queue that `retain` leaves
pub without-retain : {F : Type 0} (R : F → Ask → Bool → F → Ask → Type 0) (n : ℕ) (f : F) → ((x : Ask) (b : Bool) (f' : F) (y : Ask) → R f x b f' y → (b ≡ not (x.node == n)) × (f' ≡ f) × (y ≡ x)) → (xs ys : List Ask) → RetainsInTurn R f xs ys → ys ≡ without n xs
without-retain R n f h [] ys r = r
without-retain {F} R n f h (x ∷ xs) ys (b, f', y, k, zs, rest, e) =
    let s = h x b f' y k in
    let r : zs ≡ without n xs = without-retain R n f h xs zs (subst (λ g. RetainsInTurn R g xs zs) s.1 rest) in
    e ∙ kept (x.node == n) b x y zs (without n xs) s.0 s.2 r

-- A queue has as many places as there are nodes.

abbrev total : (ℕ → ℕ) → ℕ → ℕ
total f zero = 0
total f (suc n) = f n + total f n

total_at : (f g : ℕ → ℕ) (p b : ℕ) → ((n : ℕ) → n ≢ p → g n ≡ f n) → b ≤ p → total g b ≡ total f b
total_at f g p zero h l = refl
total_at f g p (suc b) h l = grind (arith, h b, total_at f g p b h)

total_one : (f g : ℕ → ℕ) (p b : ℕ) → ((n : ℕ) → n ≢ p → g n ≡ f n) → g p ≡ suc (f p) → p < b → total g b ≡ suc (total f b)
total_one f g p zero h e l = grind arith
total_one f g p (suc b) h e l = grind (arith, h b, total_at f g p b h, total_one f g p b h e)

total_bound : (f : ℕ → ℕ) (b : ℕ) → ((n : ℕ) → f n ≤ 1) → total f b ≤ b
total_bound f zero h = omega arith
total_bound f (suc b) h = omega (arith, h b, total_bound f b h)

total_below : (f : ℕ → ℕ) (p b : ℕ) → ((n : ℕ) → f n ≤ 1) → f p ≡ 0 → p < b → total f b < b
total_below f p zero h z l = grind arith
total_below f p (suc b) h z l = grind (arith, h b, total_bound f b h, total_below f p b h z)

total_zero : (b : ℕ) → total (λ n. 0) b ≡ 0
total_zero zero = refl
total_zero (suc b) = omega (arith, total_zero b)

below : (b : ℕ) (a : Ask) (q : List Ask) → ((n : ℕ) → b ≤ n → asks_of n (a ∷ q) ≡ []) → a.node < b
below b a q h = grind (arith, nat_tests, h a.node)

rest_below : (b : ℕ) (a : Ask) (q : List Ask) → ((n : ℕ) → b ≤ n → asks_of n (a ∷ q) ≡ []) → (n : ℕ) → b ≤ n → asks_of n q ≡ []
rest_below b a q h n le = grind (arith, h n)

length_is : (b : ℕ) (q : List Ask) → ((n : ℕ) → b ≤ n → asks_of n q ≡ []) → length q ≡ total (λ n. length (asks_of n q)) b
length_is b [] h = sym (total_zero b)
length_is b (a ∷ q) h =
    ap suc (length_is b q (rest_below b a q h)) ∙ sym (total_one (λ n. length (asks_of n q)) (λ n. length (asks_of n (a ∷ q))) a.node b (λ n ne. grind arith) (grind arith) (below b a q h))

-- there is room for a node that isn't in the queue
pub room : (n : ℕ) (q : List Ask) → IsQueue q → n < 16 → asks n q ≡ false → length q < 16
room n q i lt free =
    omega (arith, length_is 16 q i.nodes, total_below (λ m. length (asks_of m q)) n 16 i.once (ap length (asks_none n q free)) lt)
