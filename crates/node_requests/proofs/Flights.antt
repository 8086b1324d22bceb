-- The flights of all nodes after a change of one.
use Rattle.std.proofs.Common.{◌≡◌, ℕ, zero, suc, ◌<◌, ◌==◌, List, [], ◌∷◌, length, set, refl, arith, if◌then◌else◌}
use Rattle.std.specs.Prelude.{get_or}
use Rattle.std.proofs.Math.Path.{fun_ext}
use Rattle.std.proofs.lemmas.Bool.Decides.{nat_tests}
use Rattle.dlm_modes.specs.Points.{with_at}
use Rattle.mirror_io.specs.Flight.{Flight}
use Rattle.node_requests.specs.Requests.{flight_of}

-- what is read of a list with one element replaced
pub get-set : {A : Type 0} (xs : List A) (n m : ℕ) (v d : A) → n < length xs → get_or (set xs n v) m d ≡ (if m == n then v else get_or xs m d)
get-set [] n m v d lt = absurd (omega (arith, lt))
get-set (x ∷ xs) zero zero v d lt = refl
get-set (x ∷ xs) zero (suc m) v d lt = grind arith
get-set (x ∷ xs) (suc n) zero v d lt = grind arith
get-set (x ∷ xs) (suc n) (suc m) v d lt = grind (arith, get-set xs n m v d (omega (arith, lt)))

pub flight-set : (flights : List Flight) (n m : ℕ) (f : Flight) → n < length flights → flight_of (set flights n f) m ≡ (if m == n then f else flight_of flights m)
flight-set flights n m f lt = get-set flights n m f _ lt

module _ {A : Type 0} (part : Flight → A) where
  -- a part of each flight
  abbrev pub parts : List Flight → ℕ → A
  parts flights n = part (flight_of flights n)

  module _ (flights : List Flight) (n : ℕ) (f : Flight) (lt : n < length flights) where
    at_point : (m : ℕ) → parts (set flights n f) m ≡ with_at (parts flights) n (part f) m
    at_point m = grind (arith, flight-set flights n m f lt)

    same_point : part f ≡ part (flight_of flights n) → (m : ℕ) → parts (set flights n f) m ≡ parts flights m
    same_point same m = grind (arith, nat_tests, flight-set flights n m f lt)

    -- one that changes, and one that stays
    pub part_at : parts (set flights n f) ≡ with_at (parts flights) n (part f)
    part_at = fun_ext at_point

    pub part_same : part f ≡ part (flight_of flights n) → parts (set flights n f) ≡ parts flights
    part_same same = fun_ext (same_point same)
