-- The legs of some roles.
use Rattle.std.specs.Prelude.{ℕ, Bool, true, false, Option}
use Rattle.dlm_modes.specs.First.{first_such}
use Rattle.mdc_types.specs.Bits.{has_bit}
use Rattle.mdc_types.specs.declared.roles.Role.{Role}
use Rattle.mdc_types.specs.declared.roles.Role.TheVariants.{Working, Rebuilding, Faulty, Spare}

-- whether the two are one role
abbrev pub is_same : Role → Role → Bool
is_same Working Working = true
is_same Rebuilding Rebuilding = true
is_same Faulty Faulty = true
is_same Spare Spare = true
is_same r s = false

-- what becomes of the role of a leg that is lost
abbrev pub given_up : Role → Role
given_up Working = Faulty
given_up Rebuilding = Spare
given_up r = r

-- the least leg of a set
abbrev pub least_of : ℕ → Option ℕ
least_of set = first_such (has_bit set) 0 8
