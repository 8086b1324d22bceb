-- The opening of a header is in range.
use Rattle.std.proofs.Common.{◌≡◌, ℕ, ◌≤◌, ◌<◌, ◌^◌, Bool, true, false, refl, arith, inl, inr, ◌∙◌}
use Rattle.std.proofs.Math.Nat.{pow-le-pow_right, one-le-pow}
use Rattle.std.proofs.lemmas.Bool.Decides.{nat_tests}
use Rattle.std.proofs.lemmas.Nat.Bits.{bit_at-zero}
use Rattle.mdc_types.specs.Bits.{has_bit}
use Rattle.mdc_types.specs.Geometry.{Sizes, IsGeometry, nodes_of}
use Rattle.mdc_types.specs.Names.{name_length}
use Rattle.mdc_types.specs.Roles.{role_of, some_works, eight}
use Rattle.mdc_types.specs.declared.roles.Role.TheVariants.{Spare, Working}
use Rattle.mdc_types.proofs.RolesLaws.{role_of-eight, role_of-eight_past, some_works-leg}
use Rattle.std.proofs.lemmas.Bool.{cases_lt}
use Rattle.cluster_model.specs.Opening.{IsOrigin, header_at, header_role}

-- a leg past the array's is a spare
past_legs : (legs spares l : ℕ) → legs ≤ l → header_role legs spares l ≡ Spare
past_legs legs spares l le = grind (arith, nat_tests)

role_at : (legs spares l : ℕ) → legs ≤ l → role_of (eight (header_role legs spares)) l ≡ Spare
role_at legs spares l le = elim (cases_lt l 8) [
  | inl below ↦ role_of-eight (header_role legs spares) l below ∙ past_legs legs spares l le
  | inr past ↦ role_of-eight_past (header_role legs spares) l past
]

first_role : (legs spares : ℕ) → 2 ≤ legs → has_bit spares 0 ≡ false → header_role legs spares 0 ≡ Working
first_role legs spares le first = grind (arith, nat_tests, first)

first_works : (legs spares : ℕ) → 2 ≤ legs → has_bit spares 0 ≡ false → some_works (role_of (eight (header_role legs spares))) ≡ true
first_works legs spares le first = some_works-leg (role_of (eight (header_role legs spares))) 0 (omega arith) (role_of-eight (header_role legs spares) 0 (omega arith) ∙ first_role legs spares le first)

has_bit-zero : (n : ℕ) → has_bit 0 n ≡ false
has_bit-zero n = rw (bit_at-zero n) refl

fits : (nodes most : ℕ) → nodes ≤ most → 2 ^ nodes ≤ 2 ^ most
fits nodes most le = pow-le-pow_right {n = 2} (omega arith) le

positive : (n : ℕ) → 0 < 2 ^ n
positive n = omega (arith, one-le-pow n 2 (omega arith))

pub header_origin : (g : Sizes) (nodes : ℕ) (warm : Bool) (spares : ℕ) → IsGeometry g → nodes ≤ nodes_of g
    → has_bit spares 0 ≡ false → IsOrigin (header_at g nodes warm spares)
unfolding name_length
header_origin g nodes warm spares sound le first = record {
  sizes = sound;
  name = refl;
  lengths = (refl, refl);
  members = omega (arith, positive nodes, fits nodes (nodes_of g) le);
  pending = positive (nodes_of g);
  clean = λ n is. has_bit-zero n;
  events = (omega arith, omega arith);
  leg = first_works g.legs spares sound.legs.0 first;
  legs = λ l past. role_at g.legs spares l past;
}
