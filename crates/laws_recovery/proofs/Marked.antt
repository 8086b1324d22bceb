-- What an offer changes of the ghosts of roles, and a page of the bits.
use Rattle.std.proofs.Common.{◌≡◌, ℕ, ◌==◌, ◌||◌, Bool, true, false, if◌then◌else◌, refl, arith}
use Rattle.std.proofs.lemmas.Bool.Decides.{nat_tests}
use Rattle.mdc_types.specs.declared.events.Wish.{Wish}
use Rattle.cluster_model.specs.Phases.{is_metadata}
use Rattle.laws_roles.proofs.Parts.{Ghost, with_wish, with_promoted, promotes}
use Rattle.storage_ways.proofs.Parts.{with_page_if}

pub wish_missed : (g : Ghost) (x : Wish) (l : ℕ) → (with_wish g x).missed l ≡ g.missed l
wish_missed g x l = by (is_metadata x)
  where
    by : (b : Bool) → (if b then with_promoted g x else g).missed l ≡ g.missed l
    by true = refl
    by false = refl

pub wish_agreed : (g : Ghost) (x : Wish) → (with_wish g x).agreed ≡ g.agreed
wish_agreed g x = by (is_metadata x)
  where
    by : (b : Bool) → (if b then with_promoted g x else g).agreed ≡ g.agreed
    by true = refl
    by false = refl

pub wish_good : (g : Ghost) (x : Wish) (l : ℕ) → (with_wish g x).good l ≡ true → (g.good l || promotes x l) ≡ true
wish_good g x l = by (is_metadata x)
  where
    left : (a b : Bool) → a ≡ true → (a || b) ≡ true
    left a b e = grind arith

    by : (b : Bool) → (if b then with_promoted g x else g).good l ≡ true → (g.good l || promotes x l) ≡ true
    by true e = e
    by false e = left (g.good l) (promotes x l) e

-- a page that has the chunk keeps its bit
pub bit_kept : (bit : ℕ → ℕ → ℕ → Bool) (left : Bool) (k p i : ℕ) (set : ℕ → Bool) (j c x : ℕ) → ((j == k) ≡ true → set c ≡ true) → bit j c x ≡ true → with_page_if left bit k p i set j c x ≡ true
bit_kept bit left k p i set j c x has old = grind (arith, has)

pub bit_else : (bit : ℕ → ℕ → ℕ → Bool) (left : Bool) (k p i : ℕ) (set : ℕ → Bool) (j c x : ℕ) → (j == k) ≡ false → bit j c x ≡ true → with_page_if left bit k p i set j c x ≡ true
bit_else bit left k p i set j c x apart old = grind (arith, apart)

pub apart_sym : (m n : ℕ) → (m == n) ≡ false → (n == m) ≡ false
apart_sym m n e = grind (arith, nat_tests)
