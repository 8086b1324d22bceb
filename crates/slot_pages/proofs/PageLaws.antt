-- Which chunks a page has.
use Rattle.std.proofs.Common.{inl, inr, ◌≡◌, ℕ, ◌+◌, ◌%◌, ◌<◌, ◌≤◌, ◌==◌, min, max, Bool, true, false, ◌&&◌, ◌||◌, nat_lt, List, length, get_or, ap, ◌∙◌, arith}
use Rattle.std.proofs.lemmas.Bool.Decides.{nat_tests}
use Rattle.std.proofs.lemmas.List.{get_or-set_same, get_or-set_other}
use Rattle.std.proofs.Math.ListN.{set}
use Rattle.std.proofs.lemmas.Bool.{cases_eq}
use Rattle.mdc_types.specs.Geometry.{page_of}
use Rattle.mdc_types.specs.Ranges.{holds}
use Rattle.slot_pages.specs.Slot.{page_start, page_end, byte_of_chunk}

pub page_of-bounds : (c p : ℕ) → page_of c ≡ p → (page_start p ≤ c) × (c < page_end p)
page_of-bounds c p is = grind (arith, nat_tests)

pub page_of-within : (c p : ℕ) → page_start p ≤ c → c < page_end p → page_of c ≡ p
page_of-within c p from below = grind (arith, nat_tests)

pub in_page : (c p : ℕ) → (page_of c == p) ≡ holds (page_start p) (page_end p) c
in_page c p = grind (arith, nat_tests)

-- the chunks of a page that are there, as a loop over them comes to its end
pub page_ends : (p n e c : ℕ) → page_start p ≤ e → e ≤ max (page_start p) (min (page_end p) n) → min (page_end p) n ≤ e → holds (page_start p) e c ≡ (nat_lt c n && (page_of c == p))
page_ends p n e c from at_most end = grind (arith, nat_tests)

-- the set after a step of that loop
pub adds_more : (old new : List Bool) (from c : ℕ) (bit : ℕ → Bool) → from ≤ c → c < length new → ((k : ℕ) → get_or new k false ≡ (get_or old k false || (holds from c k && bit k)))
    → bit c ≡ true → (k : ℕ) → get_or (set new c true) k false ≡ (get_or old k false || (holds from (c + 1) k && bit k))
adds_more old new from c bit le lt so is k = elim (cases_eq k c) [
  | inl same ↦ grind (arith, nat_tests, so k, get_or-set_same)
  | inr other ↦ grind (arith, nat_tests, so k, get_or-set_other)
]

pub adds_none : (old new : List Bool) (from c : ℕ) (bit : ℕ → Bool) → ((k : ℕ) → get_or new k false ≡ (get_or old k false || (holds from c k && bit k)))
    → bit c ≡ false → (k : ℕ) → get_or new k false ≡ (get_or old k false || (holds from (c + 1) k && bit k))
adds_none old new from c bit so is k = elim (cases_eq k c) [
  | inl same ↦ grind (arith, nat_tests, so k)
  | inr other ↦ grind (arith, nat_tests, so k)
]

-- the set when that loop has come to its end
pub ends_adding : (old new : List Bool) (p n e : ℕ) (bit : ℕ → Bool) → page_start p ≤ e → e ≤ max (page_start p) (min (page_end p) n) → min (page_end p) n ≤ e
    → ((k : ℕ) → get_or new k false ≡ (get_or old k false || (holds (page_start p) e k && bit k)))
    → (k : ℕ) → get_or new k false ≡ (get_or old k false || (nat_lt k n && (page_of k == p) && bit k))
ends_adding old new p n e bit from at_most end so k = so k ∙ ap (λ (b : Bool). get_or old k false || (b && bit k)) (page_ends p n e k from at_most end)

-- two chunks of a page have two bits
pub same_place : (c k p : ℕ) → page_of c ≡ p → page_of k ≡ p → byte_of_chunk k ≡ byte_of_chunk c → k % 8 ≡ c % 8 → k ≡ c
same_place c k p here there byte bit =
    let a = page_of-bounds c p here in
    let b = page_of-bounds k p there in
    omega arith

pub after_header : (c : ℕ) → page_of c ≡ 0 → 256 ≤ byte_of_chunk c
after_header c here = let a = page_of-bounds c 0 here in omega arith
