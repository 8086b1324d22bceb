-- Blocks of a map, and what is found in them.
use Rattle.std.proofs.Common.{◌≡◌, ℕ, ◌+◌, ◌-◌, ◌*◌, ◌/◌, ◌<◌, ◌==◌, set, Bool, true, false, None, ◌∙◌, inl, inr, arith, if◌then◌else◌}
use Rattle.std.specs.Prelude.{min, max, is_some, List, length, get_or}
use Rattle.std.proofs.lemmas.Bool.{cases_eq}
use Rattle.std.proofs.lemmas.Bool.Decides.{nat_tests}
use Rattle.std.proofs.lemmas.List.{length-set}
use Rattle.dlm_modes.specs.First.{first_such}
use Rattle.mdc_types.proofs.Blocks.{none_between, contra, get-set, in_block}
use Rattle.map_index.specs.Index.{Covers}

-- the chunks of a block that isn't marked don't pass
pub unmarked_block : (p : ℕ → Bool) (n b from : ℕ) (blocks : List Bool) → Covers p n blocks → get_or blocks b false ≡ false
    → first_such p (max (128 * b) from) (min (128 * b + 128) n - max (128 * b) from) ≡ None
unmarked_block p n b from blocks c is =
    none_between p (max (128 * b) from) (min (128 * b + 128) n) (λ k le lt.
    let here : k / 128 ≡ b = omega (arith, le, lt) in
    let below : k < n = omega (arith, lt) in
    contra p k (get_or blocks b false) (λ passes. rw (← here) (c.each k below passes)) is)

marked : (p q : ℕ → Bool) (bl : List Bool) (b k : ℕ) (v : Bool) → get_or (set bl b v) (k / 128) false ≡ (if k / 128 == b then v else get_or bl (k / 128) false)
    → q k ≡ true → (q k ≡ true → ((k / 128 ≡ b) → ⊥) → p k ≡ true) → (q k ≡ true → k / 128 ≡ b → v ≡ true) → (p k ≡ true → get_or bl (k / 128) false ≡ true)
    → get_or (set bl b v) (k / 128) false ≡ true
marked p q bl b k v is passes other same before = elim (cases_eq (k / 128) b) [
  | inl e ↦ let t = same passes e in grind (arith, nat_tests, is, t)
  | inr ne ↦ let t = before (other passes ne) in grind (arith, nat_tests, is, t)
]

pub marked_anew : (p q : ℕ → Bool) (n m : ℕ) (bl : List Bool) (b : ℕ) (v : Bool) → Covers p n bl → m ≡ n → b < length bl
    → ((k : ℕ) → k < n → q k ≡ true → ((k / 128 ≡ b) → ⊥) → p k ≡ true)
    → ((k : ℕ) → k < n → q k ≡ true → k / 128 ≡ b → v ≡ true)
    → Covers q m (set bl b v)
marked_anew p q n m bl b v c same lt other here = record {
  enough = rw (same, length-set bl b v) c.enough;
  few = rw (length-set bl b v) c.few;
  each = λ k below passes. let in_n : k < n = omega (arith, below, same) in
      marked p q bl b k v (get-set bl b (k / 128) v lt) passes (other k in_n) (here k in_n) (c.each k in_n);
}

-- the blocks below b are marked where a chunk of theirs passes
abbrev pub MarkedBelow : (ℕ → Bool) → ℕ → List Bool → ℕ → Type 0
MarkedBelow p n bl b = (k : ℕ) → k < n → k / 128 < b → p k ≡ true → get_or bl (k / 128) false ≡ true

pub marked_next : (p : ℕ → Bool) (n : ℕ) (bl : List Bool) (b : ℕ) (v : Bool) → b < length bl → MarkedBelow p n bl b
    → v ≡ is_some (first_such p (128 * b) (min (128 * b + 128) n - 128 * b)) → MarkedBelow p n (set bl b v) (b + 1)
marked_next p n bl b v lt before is = λ k below under passes. elim (cases_eq (k / 128) b) [
  | inl e ↦ let t = is ∙ in_block p n b k below e passes in let g = get-set bl b (k / 128) v lt in grind (arith, nat_tests, g, t)
  | inr ne ↦ let t = before k below (omega (arith, under, ne)) passes in let g = get-set bl b (k / 128) v lt in grind (arith, nat_tests, g, t)
]
