-- Sets of legs, one bit each.
use Rattle.std.proofs.Common.{◌≡◌, ℕ, ◌<◌, ◌^◌, ◌&&◌, not, Bool, true, false, inl, inr, List, [], ◌∷◌, refl, arith, ap, ◌∙◌, get_or, replicate, zero, suc}
use Rattle.std.proofs.lemmas.Bool.{cases_lt}
use Rattle.std.proofs.lemmas.Bool.Decides.{nat_tests}
use Rattle.std.proofs.lemmas.Nat.Bits.{bit_at_and, bit_at_not, bit_at-lt, bit_at_above}
use Rattle.std.proofs.Math.Path.{fun_ext}
use Rattle.std.specs.Int.{w8, bit_not}
use Rattle.std.specs.Int.Bits.{bit_and}
use Rattle.mdc_types.specs.Bits.{has_bit}
use Rattle.mdc_types.specs.Roles.{is_written, is_working, is_rebuilding}
use Rattle.mdc_types.specs.declared.roles.Role.{Role}
use Rattle.mdc_types.specs.declared.roles.Role.TheVariants.{Working, Rebuilding, Faulty, Spare}
use Rattle.leg_failure.specs.Views.{NodeView, is_target, fresh_targets}

-- the legs of a that aren't in b
pub less_bit : (a b l : ℕ) → a < 2 ^ 8 → b < 2 ^ 8
    → has_bit (bit_and a (bit_not w8 b)) l ≡ (has_bit a l && not (has_bit b l))
less_bit a b l lt_a lt_b = elim (cases_lt l 8) [
  | inl below ↦ grind (arith, nat_tests, bit_at_and a (bit_not w8 b) l, bit_at_not w8 b l lt_b below, bit_at-lt a l, bit_at-lt b l)
  | inr past ↦ grind (arith, nat_tests, bit_at_and a (bit_not w8 b) l, bit_at_above a 8 l lt_a past)
]

rebuilds : (r : Role) → (is_written r && not (is_working r)) ≡ is_rebuilding r
rebuilds Working = refl
rebuilds Rebuilding = refl
rebuilds Faulty = refl
rebuilds Spare = refl

pub rebuilding_set : (role : ℕ → Role) (written working set : ℕ) → ((l : ℕ) → has_bit written l ≡ is_written (role l))
    → ((l : ℕ) → has_bit working l ≡ is_working (role l)) → ((l : ℕ) → has_bit set l ≡ (has_bit written l && not (has_bit working l)))
    → has_bit set ≡ (λ l. is_rebuilding (role l))
rebuilding_set role written working set e f g = fun_ext (λ l. g l ∙ rw (e l, f l) (rebuilds (role l)))

pub fresh_set : (v w : NodeView) (was now set : ℕ) → ((l : ℕ) → has_bit was l ≡ is_target v l) → ((l : ℕ) → has_bit now l ≡ is_target w l)
    → ((l : ℕ) → has_bit set l ≡ (has_bit now l && not (has_bit was l))) → has_bit set ≡ fresh_targets v w
fresh_set v w was now set e f g = fun_ext (λ l. g l ∙ rw (e l, f l) refl)
