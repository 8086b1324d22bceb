-- The least leg of a set that isn't in another.
use Rattle.std.proofs.Common.{◌≡◌, ℕ, zero, Bool, true, false, not, ◌&&◌, Some, None, if◌then◌else◌, [], ◌∷◌, refl, ap}
use Rattle.std.specs.Prelude.{is_none}
use Rattle.dlm_modes.specs.First.{first_such, each_such}
use Rattle.dlm_modes.proofs.FirstLaws.{first_such_same}
use Rattle.mdc_types.specs.Bits.{has_bit}
use Rattle.mdc_types.specs.Pages.{bits_of, leg_left}

each_one : (t : ℕ → Bool) → each_such t 0 1 ≡ t 0
unfolding first_such
each_one t = elim (t 0) as (λ b. is_none (if not b then Some zero else None) ≡ b)
    [ true ↦ refl | false ↦ refl ]

pub one_page : (legs other : ℕ) → leg_left (bits_of (other ∷ [])) (has_bit legs) 1
    ≡ first_such (λ l. has_bit legs l && not (has_bit other l)) 0 8
one_page legs other = first_such_same _ _ 0 8
    (λ l from lt. ap (λ (b : Bool). has_bit legs l && not b)
    (each_one (λ p. bits_of (other ∷ []) p l)))
