-- Which paths are open where none is cut.
use Rattle.std.proofs.Common.{◌≡◌, ℕ, false, not, [], get_or, replicate, refl, ap, inl, inr}
use Rattle.std.proofs.Math.Path.{fun_ext}
use Rattle.std.proofs.lemmas.Bool.{cases_lt}
use Rattle.std.proofs.lemmas.List.{get_or-replicate, get_or_past, length-replicate}
use Rattle.leg_store.specs.Paths.{path_open, all_open}

all_default : (n i : ℕ) → get_or (replicate n false) i false ≡ false
all_default n i = elim (cases_lt i n) [
  | inl lt ↦ get_or-replicate n i false false lt
  | inr ge ↦ get_or_past (replicate n false) i false (rw length-replicate ge)
]

all_clear : (nodes legs n l : ℕ) → get_or (get_or (replicate nodes (replicate legs false)) n []) l false ≡ false
all_clear nodes legs n l = elim (cases_lt n nodes) [
  | inl lt ↦ rw get_or-replicate (all_default legs l)
  | inr ge ↦ rw (get_or_past (replicate nodes (replicate legs false)) n [] (rw length-replicate ge)) refl
]

pub path_open-new : (nodes legs : ℕ) → path_open (replicate nodes (replicate legs false)) ≡ all_open
path_open-new nodes legs = fun_ext (λ n. fun_ext (λ l. ap not (all_clear nodes legs n l)))
