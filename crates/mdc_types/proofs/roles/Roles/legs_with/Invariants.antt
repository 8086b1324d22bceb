use Rattle.std.proofs.Common.{◌≡◌, ℕ, ◌&&◌}
use Rattle.std.specs.Prelude.{nat_lt}
use Rattle.mdc_types.specs.Bits.{has_bit}
use Rattle.mdc_types.specs.Roles.{role_of, is_role}
use Rattle.mdc_types.proofs.roles.Roles.legs_with.Given as goal

abbrev pub invariant-loop-l : goal.invariant-loop-l
invariant-loop-l l = (k : ℕ) → has_bit l.set k ≡ (nat_lt k l.l && is_role l.role (role_of l.self k))
