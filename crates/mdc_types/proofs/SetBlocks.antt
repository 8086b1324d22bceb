-- The blocks of a set of chunks, after a change of the set.
use Rattle.std.proofs.Common.{◌≡◌, ℕ, ◌+◌, ◌-◌, ◌*◌, ◌/◌, ◌<◌, ◌≤◌, set, Bool, true, false, None, refl, sym, ◌∙◌, ap, inl, inr, arith}
use Rattle.std.specs.Prelude.{min, max, is_some, List, length, get_or, replicate}
use Rattle.std.proofs.lemmas.Bool.{cases_lt, cases_eq}
use Rattle.std.proofs.lemmas.Bool.Decides.{nat_tests}
use Rattle.std.proofs.lemmas.List.{length-set, length-replicate, get_or_past, get_or-replicate}
use Rattle.dlm_modes.specs.First.{first_such}
use Rattle.mdc_types.specs.Blocks.{Covers}
use Rattle.mdc_types.proofs.Blocks.{none_between, contra, get-set, in_block}

-- what is set lies in the list
inside : (xs : List Bool) (k : ℕ) → get_or xs k false ≡ true → k < length xs
inside xs k is = elim (cases_lt k (length xs)) [
  | inl lt ↦ lt
  | inr past ↦ let f = get_or_past xs k false past in cc
]

module _ (flags blocks : List Bool) (covers : Covers flags blocks) where
  -- the chunks of a block that isn't marked aren't in the set
  pub unmarked : (b from : ℕ) → get_or blocks b false ≡ false
      → first_such (λ k. get_or flags k false) (max (128 * b) from) (min (128 * b + 128) (length flags) - max (128 * b) from) ≡ None
  unmarked b from is =
      none_between (λ k. get_or flags k false) (max (128 * b) from) (min (128 * b + 128) (length flags)) (λ k le lt.
      let here : k / 128 ≡ b = omega (arith, le, lt) in
      contra (λ k. get_or flags k false) k (get_or blocks b false) (λ passes. rw (← here) (covers.each k passes)) is)

  module _ (c : ℕ) (lt : c < length flags) where
    within : c / 128 < length blocks
    within = omega (arith, lt, covers.enough)

    -- the blocks after a change of one chunk, where its own says whether one is set
    changed : (v w : Bool) → ((k : ℕ) → get_or (set flags c v) k false ≡ true → k / 128 ≡ c / 128 → w ≡ true)
        → Covers (set flags c v) (set blocks (c / 128) w)
    changed v w here = record {
      enough = rw (length-set flags c v, length-set blocks (c / 128) w) covers.enough;
      few = rw (length-set flags c v, length-set blocks (c / 128) w) covers.few;
      each = λ k is.
          let f = get-set flags c k v lt in
          let b = get-set blocks (c / 128) (k / 128) w within in
          elim (cases_eq (k / 128) (c / 128)) [
            | inl same ↦ let t = here k is same in grind (arith, nat_tests, b, t, same)
            | inr other ↦
                let ne : k ≡ c → ⊥ = λ e. other (ap (λ j. j / 128) e) in
                let before : get_or flags k false ≡ true = grind (arith, nat_tests, f, is, ne) in
                let m = covers.each k before in
                grind (arith, nat_tests, b, m, other)
          ];
    }

    -- a chunk is put in
    pub added : Covers (set flags c true) (set blocks (c / 128) true)
    added = changed true true (λ k is e. refl)

    -- it is taken out, and its block is looked through
    pub removed : (v : Bool)
        → v ≡ is_some (first_such (λ k. get_or (set flags c false) k false) (128 * (c / 128)) (min (128 * (c / 128) + 128) (length (set flags c false)) - 128 * (c / 128)))
        → Covers (set flags c false) (set blocks (c / 128) v)
    removed v found = changed false v (λ k is e.
        found ∙ in_block (λ k. get_or (set flags c false) k false) (length (set flags c false)) (c / 128) k (inside (set flags c false) k is) e is)

-- all chunks alike
pub alike : (n m : ℕ) (v : Bool) → n ≤ 128 * m → 128 * m < n + 128 → Covers (replicate n v) (replicate m v)
alike n m v enough few = record {
  enough = rw (length-replicate n v, length-replicate m v) enough;
  few = rw (length-replicate n v, length-replicate m v) few;
  each = λ k is.
      let lt : k < n = rw (length-replicate n v) at (inside (replicate n v) k is) in
      get_or-replicate m (k / 128) v false (omega (arith, lt, enough)) ∙ sym (get_or-replicate n k v false lt) ∙ is;
}

-- the blocks of sets of one array are as many
pub as_many : (flags blocks others marks : List Bool) → Covers flags blocks → Covers others marks → length others ≡ length flags
    → length marks ≡ length blocks
as_many flags blocks others marks a b same = omega (arith, a.enough, a.few, b.enough, b.few, same)
