-- The ghosts' values are those of the plain history, and what its words say of them.
use Rattle.std.proofs.Common.{◌≡◌, ℕ, ◌<◌, ◌≤◌, ◌||◌, Bool, true, false, List, [], ◌∷◌, length, refl, sym, ap, subst, arith}
use Rattle.std.proofs.lemmas.Bool.Decides.{nat_tests}
use Rattle.std.proofs.lemmas.Slice.Eq.{bytes_eq-Decides}
use Rattle.mdc_types.specs.declared.numbers.Sector.{Sector}
use Rattle.plain_history.specs.History.{IsIn, here, there}
use Rattle.storage_ways.proofs.Parts.{Part}
use Rattle.storage_ways.proofs.Ways.{Way}
use Rattle.storage_ways.proofs.Ways as ways
use Rattle.laws_writes.proofs.Ghosts.{Ghost, ghost_after, same_sector, is_among, is_open}

abbrev pub ValuesAre : Part → Ghost → Type 0
ValuesAre w g = (s : ℕ) → s < w.geometry.room → g.values s ≡ w.values s

pub values_step : (w v : Part) (x : Way w v) (g : Ghost) → ValuesAre w g → ValuesAre v (ghost_after x g)
values_step w v (ways.outs n k l x t) g i s = grind (arith, nat_tests, i s)
values_step w v (ways.misses n k l x left t) g i s = grind (arith, nat_tests, i s)
values_step w v (ways.ends n k x e) g i s = grind (arith, nat_tests, i s)
values_step w v (ways.settles n p b e) g i s = grind (arith, nat_tests, i s)
values_step w v x g i s = i s

-- of live nodes, where writes were broken
abbrev pub BrokenAre : Part → Ghost → Type 0
BrokenAre w g = (n s : ℕ) → w.live n ≡ true → w.broken n s ≡ true → g.broke n s ≡ true

pub broken_step : (w v : Part) (x : Way w v) (g : Ghost) → BrokenAre w g → BrokenAre v (ghost_after x g)
broken_step w v (ways.joins n e) g i m s = grind (arith, nat_tests, i m s)
broken_step w v (ways.leaves n e) g i m s = grind (arith, nat_tests, i m s)
broken_step w v (ways.quits n e) g i m s = grind (arith, nat_tests, i m s)
broken_step w v (ways.parts n o e) g i m s = grind (arith, nat_tests, i m s)
broken_step w v (ways.dies n told e) g i m s = grind (arith, nat_tests, i m s)
broken_step w v (ways.ends n k x e) g i m s = grind (arith, nat_tests, i m s)
broken_step w v (ways.breaks n k x e) g i m s = grind (arith, nat_tests, i m s)
broken_step w v (ways.settles n p b e) g i m s = grind (arith, nat_tests, i m s)
broken_step w v x g i m s = i m s

-- What tests of the ghosts say.

or_cases : (a b : Bool) → (a || b) ≡ true → a ≡ false → b ≡ true
or_cases a b e f = grind arith

pub same_bytes : (v u : Sector) → same_sector v u ≡ true → v ≡ u
same_bytes v u e = let sector : List ℕ → Sector = λ bytes. record { bytes = bytes } in ap sector ((bytes_eq-Decides v.bytes u.bytes).0 e)

pub among_in : (v : Sector) (vs : List Sector) → is_among v vs ≡ true → IsIn v vs
among_in v [] e = cc
among_in v (u ∷ us) e = by (same_sector v u) refl (λ later. among_in v us later)
  where
    by : (b : Bool) → same_sector v u ≡ b → (is_among v us ≡ true → IsIn v us) → IsIn v (u ∷ us)
    by true t rest = subst (λ x. IsIn x (u ∷ us)) (sym (same_bytes v u t)) here
    by false t rest = there (rest (or_cases (same_sector v u) (is_among v us) e t))

or_first : (a b : Bool) → a ≡ true → (a || b) ≡ true
or_first a b e = grind arith

or_second : (a b : Bool) → b ≡ true → (a || b) ≡ true
or_second a b e = grind arith

pub in_among : (v : Sector) (vs : List Sector) → IsIn v vs → is_among v vs ≡ true
in_among v [] has = elim has [ ]
in_among v (u ∷ us) here = or_first (same_sector v v) (is_among v us) ((bytes_eq-Decides v.bytes v.bytes).1 refl)
in_among v (u ∷ us) (there more) = or_second (same_sector v u) (is_among v us) (in_among v us more)

pub two_open : (vs : List Sector) → 2 ≤ length vs → is_open vs ≡ true
two_open [] le = absurd (omega arith)
two_open (v ∷ []) le = absurd (omega arith)
two_open (v ∷ u ∷ us) le = refl
