-- The sum of the words of a superblock, word by word.
use Rattle.std.proofs.Common.{◌≡◌, ◌≢◌, ℕ, suc, ◌+◌, ◌*◌, ◌^◌, ◌<◌, ◌≤◌, List, refl, sym, arith, add-one}
use Rattle.std.proofs.lemmas.Bool.{ne_eqb, eq-eqb}
use Rattle.md_superblock.specs.Layout.{number_at, sum_below, word_at}

pub sum_below-zero : (f : ℕ → ℕ) → sum_below f 0 ≡ 0
unfolding sum_below
sum_below-zero f = refl

pub sum_below-suc : (f : ℕ → ℕ) (n : ℕ) → sum_below f (suc n) ≡ sum_below f n + f n
unfolding sum_below
sum_below-suc f n = refl

-- the sum of the first k words
pub record Sums (bytes : List ℕ) (k sum : ℕ) : Type 0 where
  pub value : sum ≡ sum_below (word_at bytes) k
  pub fits : sum ≤ k * 4294967295

pub sums_none : (bytes : List ℕ) → Sums bytes 0 0
sums_none bytes = record { value = sym (sum_below-zero (word_at bytes)); fits = omega arith }

pub sums_word : (bytes : List ℕ) (k sum word : ℕ) → k ≢ 54 → word < 2 ^ 32 → word ≡ number_at bytes (4 * k) 4 → Sums bytes k sum → Sums bytes (k + 1) (sum + word)
sums_word bytes k sum word other fits is before =
    let test = ne_eqb k 54 other in
    let value = before.value in
    record { value = rw (add-one, sum_below-suc, test, value, is) refl; fits = omega (arith, before.fits) }

pub sums_own : (bytes : List ℕ) (k sum : ℕ) → k ≡ 54 → Sums bytes k sum → Sums bytes (k + 1) sum
sums_own bytes k sum own before =
    let test = eq-eqb k 54 own in
    let value = before.value in
    record { value = rw (add-one, sum_below-suc, test, value) (omega arith); fits = omega (arith, before.fits) }
