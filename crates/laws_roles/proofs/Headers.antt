-- A header's name and uuid are bytes.
use Rattle.std.proofs.Common.{◌≡◌, ℕ, zero, suc, ◌<◌, ◌&&◌, Bool, true, List, [], ◌∷◌, get_or, refl, arith}
use Rattle.std.specs.Prelude.{nat_lt}
use Rattle.std.proofs.lemmas.Bool.Decides.{nat_tests}
use Rattle.mdc_types.specs.Geometry.{Sizes}
use Rattle.md_superblock.specs.Arrays.{AreBytes}
use Rattle.cluster_model.specs.Opening.{header_at}

all_below : List ℕ → Bool
all_below [] = true
all_below (x ∷ xs) = nat_lt x 256 && all_below xs

each_below : (xs : List ℕ) (i : ℕ) → all_below xs ≡ true → get_or xs i 0 < 256
unfolding all_below
each_below [] i e = grind arith
each_below (x ∷ xs) zero e = grind (arith, nat_tests)
each_below (x ∷ xs) (suc i) e = each_below xs i (second (nat_lt x 256) (all_below xs) e)
  where
    second : (a b : Bool) → (a && b) ≡ true → b ≡ true
    second a b e = grind arith

pub header_name : (g : Sizes) (nodes spares : ℕ) (warm : Bool) → AreBytes 32 (header_at g nodes warm spares).name
unfolding all_below
header_name g nodes spares warm = record { size = refl; each = λ i. each_below (header_at g nodes warm spares).name i refl }

pub header_uuid : (g : Sizes) (nodes spares : ℕ) (warm : Bool) → AreBytes 16 (header_at g nodes warm spares).uuid
unfolding all_below
header_uuid g nodes spares warm = record { size = refl; each = λ i. each_below (header_at g nodes warm spares).uuid i refl }
