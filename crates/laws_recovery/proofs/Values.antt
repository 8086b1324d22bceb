-- Which of its values a sector keeps.
use Rattle.std.proofs.Common.{◌≡◌, ℕ, ◌==◌, ◌&&◌, Bool, true, false, not, if◌then◌else◌, List, [], ◌∷◌, ◌++◌, refl, sym, ap, arith}
use Rattle.std.proofs.lemmas.Bool.Decides.{nat_tests}
use Rattle.std.proofs.lemmas.Slice.Eq.{bytes_eq-Decides}
use Rattle.mdc_types.specs.declared.numbers.Sector.{Sector}
use Rattle.storage_ways.proofs.Parts.{with_data_if}
use Rattle.laws_writes.proofs.Ghosts.{same_sector, is_among, is_open}

pub same_self : (v : Sector) → same_sector v v ≡ true
same_self v = (bytes_eq-Decides v.bytes v.bytes).1 refl

pub same_is : (v u : Sector) → same_sector v u ≡ true → v ≡ u
same_is v u e = ap (λ b. record { bytes = b }) ((bytes_eq-Decides v.bytes u.bytes).0 e)

pub among_more : (v u : Sector) (us : List Sector) → is_among v us ≡ true → is_among v (us ++ u ∷ []) ≡ true
among_more v u [] e = cc
among_more v u (x ∷ us) e = grind (arith, among_more v u us)

pub among_last : (v : Sector) (us : List Sector) → is_among v (us ++ v ∷ []) ≡ true
among_last v [] = grind (arith, same_self v)
among_last v (x ∷ us) = grind (arith, among_last v us)

-- where a decided sector has one value, that is the only one
pub only_value : (v : Sector) (us : List Sector) → is_open us ≡ false → is_among v us ≡ true → us ≡ v ∷ []
only_value v [] o e = cc
only_value v (u ∷ []) o e = ap (λ x. x ∷ []) (sym (same_is v u (grind arith)))
only_value v (u ∷ x ∷ us) o e = cc

-- a value that is tried may be read from then on
pub stale_tried : (stored : ℕ → ℕ → Sector) (values : ℕ → List Sector) (t i : ℕ) (v : Sector) (left started : Bool)
    → (started ≡ true → is_among v (values t) ≡ true) → (j s : ℕ)
    → not (is_among (with_data_if left stored i t v j s) (if (s == t) && not started then values s ++ v ∷ [] else values s)) ≡ true
    → not (is_among (stored j s) (values s)) ≡ true
stale_tried stored values t i v left started known j s e = grind (arith, nat_tests, known, among_more (stored j s) v (values s), among_last v (values s), among_last v (values t))
