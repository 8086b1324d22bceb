-- What the packets of a link tell and grant, where the link changes.
use Rattle.std.proofs.Common.{◌≡◌, ◌≢◌, ℕ, List, [], ◌∷◌, ◌++◌, Bool, true, false, ◌==◌, ◌&&◌, Option, Some, None, refl, sym, ap, ◌∙◌, arith, if◌then◌else◌}
use Rattle.std.proofs.lemmas.Bool.Decides.{nat_tests}
use Rattle.dlm_modes.specs.declared.mode.Mode.{Mode}
use Rattle.lock_wire.specs.Machine.{with_cell, calls_to}
use Rattle.lock_wire.specs.declared.local.Local.{Local}
use Rattle.lock_wire.specs.declared.packet.Packet.{Packet}
use Rattle.lock_wire.specs.declared.packet.Packet.TheVariants as packets
use Rattle.laws_wire.specs.Views.{Word, told_word, word_of, words, grant_of, grants}

if_append : {A : Type 0} (b : Bool) (x : A) (xs ys : List A) → (if b then x ∷ (xs ++ ys) else xs ++ ys) ≡ (if b then x ∷ xs else xs) ++ ys
if_append true x xs ys = refl
if_append false x xs ys = refl

told_append : (o : Option Local) (xs ys : List Word) → told_word o (xs ++ ys) ≡ told_word o xs ++ ys
told_append None xs ys = refl
told_append (Some l) xs ys = refl

word_append : (s : ℕ) (p : Packet) (xs ys : List Word) → word_of s p (xs ++ ys) ≡ word_of s p xs ++ ys
word_append s (packets.Ask r to) xs ys = if_append (r == s) _ xs ys
word_append s (packets.Convert r to value) xs ys = if_append (r == s) _ xs ys
word_append s (packets.Release r value) xs ys = if_append (r == s) _ xs ys
word_append s (packets.Granted r g) xs ys = refl
word_append s (packets.Called r asker) xs ys = refl
word_append s (packets.Report states) xs ys = told_append _ xs ys

pub words-push : (s : ℕ) (ps : List Packet) (p : Packet) → words s (ps ++ p ∷ []) ≡ words s ps ++ word_of s p []
words-push s [] p = refl
words-push s (x ∷ ps) p = ap (word_of s x) (words-push s ps p) ∙ word_append s x (words s ps) (word_of s p [])

grant_append : (s : ℕ) (p : Packet) (xs ys : List Mode) → grant_of s p (xs ++ ys) ≡ grant_of s p xs ++ ys
grant_append s (packets.Ask r to) xs ys = refl
grant_append s (packets.Convert r to value) xs ys = refl
grant_append s (packets.Release r value) xs ys = refl
grant_append s (packets.Granted r g) xs ys = if_append (r == s) _ xs ys
grant_append s (packets.Called r asker) xs ys = refl
grant_append s (packets.Report states) xs ys = refl

pub grants-push : (s : ℕ) (ps : List Packet) (p : Packet) → grants s (ps ++ p ∷ []) ≡ grants s ps ++ grant_of s p []
grants-push s [] p = refl
grants-push s (x ∷ ps) p = ap (grant_of s x) (grants-push s ps p) ∙ grant_append s x (grants s ps) (grant_of s p [])

pub nothing_more : {A : Type 0} (xs : List A) → xs ++ [] ≡ xs
nothing_more [] = refl
nothing_more (x ∷ xs) = ap (λ q. x ∷ q) (nothing_more xs)

-- Calleds tell and grant nothing
pub words-calls : (s r : ℕ) (ps : List Packet) (o : Option ℕ) → words s (ps ++ calls_to r o) ≡ words s ps
words-calls s r ps None = ap (words s) (nothing_more ps)
words-calls s r ps (Some a) = words-push s ps (packets.Called r a) ∙ nothing_more (words s ps)

pub grants-calls : (s r : ℕ) (ps : List Packet) (o : Option ℕ) → grants s (ps ++ calls_to r o) ≡ grants s ps
grants-calls s r ps None = ap (grants s) (nothing_more ps)
grants-calls s r ps (Some a) = grants-push s ps (packets.Called r a) ∙ nothing_more (grants s ps)

-- One link changes.

both : (x y a b : ℕ) → ((y == b) && (x == a)) ≡ true → (x ≡ a) × (y ≡ b)
both x y a b e = (grind (arith, nat_tests), grind (arith, nat_tests))

test_self : (n : ℕ) → (n == n) ≡ true
test_self n = grind (arith, nat_tests)

test_other : (k n : ℕ) → k ≢ n → (k == n) ≡ false
test_other k n ne = grind (arith, nat_tests)

and_false : (b : Bool) → (b && false) ≡ false
and_false true = refl
and_false false = refl

pub cell_own : {A : Type 0} (f : ℕ → ℕ → A) (a b : ℕ) (v : A) → with_cell f a b v a b ≡ v
cell_own f a b v = ap (λ t. if t && (a == a) then v else f a b) (test_self b) ∙ ap (λ t. if t then v else f a b) (test_self a)

pub cell_to : {A : Type 0} (f : ℕ → ℕ → A) (a b : ℕ) (v : A) (x y : ℕ) → y ≢ b → with_cell f a b v x y ≡ f x y
cell_to f a b v x y ne = ap (λ t. if t && (x == a) then v else f x y) (test_other y b ne)

pub cell_from : {A : Type 0} (f : ℕ → ℕ → A) (a b : ℕ) (v : A) (x y : ℕ) → x ≢ a → with_cell f a b v x y ≡ f x y
cell_from f a b v x y ne = ap (λ t. if (y == b) && t then v else f x y) (test_other x a ne) ∙ ap (λ t. if t then v else f x y) (and_false (y == b))

-- of the new value nothing else is told than of the old one
pub cell_same : {A B : Type 0} (g : A → B) (f : ℕ → ℕ → A) (a b : ℕ) (v : A) (x y : ℕ) → g v ≡ g (f a b) → g (with_cell f a b v x y) ≡ g (f x y)
cell_same g f a b v x y e =
    elim ((y == b) && (x == a)) as (λ t. ((y == b) && (x == a)) ≡ t → g (if t then v else f x y) ≡ g (f x y)) [
      | true ↦ λ t. let s = both x y a b t in e ∙ ap (λ k. g (f k b)) (sym s.0) ∙ ap (λ k. g (f x k)) (sym s.1)
      | false ↦ λ t. refl
    ] refl
