-- The numbers of roles, both ways; roles as a function of the leg; and the legs with a role.
use Rattle.std.proofs.Common.{◌≡◌, ap, ℕ, zero, suc, ◌<◌, ◌≤◌, Bool, true, Some, refl, arith}
use Rattle.std.proofs.lemmas.List.{get_or_past}
use Rattle.std.specs.Prelude.{is_some}
use Rattle.std.proofs.Math.Path.{fun_ext}
use Rattle.dlm_modes.proofs.FirstLaws.{first_such_has, first_such_same}
use Rattle.mdc_types.specs.Bits.{has_bit}
use Rattle.mdc_types.specs.declared.roles.Role.{Role}
use Rattle.mdc_types.specs.declared.roles.Role.TheVariants.{Working, Rebuilding, Faulty, Spare}
use Rattle.mdc_types.specs.declared.roles.Roles.{Roles}
use Rattle.mdc_types.specs.Roles.{role_of, role_code, role_of_code, is_working, some_works, eight, legs_with}

pub role_of_code-code : (l : ℕ) (r : Role) → l < 8 → role_of_code l (role_code l r) ≡ Some r
role_of_code-code l Working lt = grind arith
role_of_code-code l Rebuilding lt = grind arith
role_of_code-code l Faulty lt = grind arith
role_of_code-code l Spare lt = grind arith

pub role_code-of_code : (l code : ℕ) (r : Role) → role_of_code l code ≡ Some r → role_code l r ≡ code
role_code-of_code l code Working is = grind arith
role_code-of_code l code Rebuilding is = grind arith
role_code-of_code l code Faulty is = grind arith
role_code-of_code l code Spare is = grind arith

pub role_of-eight : (role : ℕ → Role) (l : ℕ) → l < 8 → role_of (eight role) l ≡ role l
role_of-eight role zero lt = refl
role_of-eight role (suc zero) lt = refl
role_of-eight role (suc (suc zero)) lt = refl
role_of-eight role (suc (suc (suc zero))) lt = refl
role_of-eight role (suc (suc (suc (suc zero)))) lt = refl
role_of-eight role (suc (suc (suc (suc (suc zero))))) lt = refl
role_of-eight role (suc (suc (suc (suc (suc (suc zero)))))) lt = refl
role_of-eight role (suc (suc (suc (suc (suc (suc (suc zero))))))) lt = refl
role_of-eight role (suc (suc (suc (suc (suc (suc (suc (suc l)))))))) lt = absurd (omega arith)

pub role_of-eight_past : (role : ℕ → Role) (l : ℕ) → 8 ≤ l → role_of (eight role) l ≡ Spare
role_of-eight_past role l le = rw (get_or_past (eight role).legs l Spare le) refl

-- a set of the legs with a role, as a function
pub has_bit-legs_with : (test : Role → Bool) (roles : Roles) (set : ℕ) → ((l : ℕ) → has_bit set l ≡ legs_with test roles l) → has_bit set ≡ legs_with test roles
has_bit-legs_with test roles set each = fun_ext each

-- where a leg works, some does
pub some_works-leg : (role : ℕ → Role) (l : ℕ) → l < 8 → role l ≡ Working → some_works role ≡ true
some_works-leg role l lt works = first_such_has (λ k. is_working (role k)) 0 8 l (omega arith) (omega arith) (ap is_working works)

-- only the roles of the eight legs count
pub some_works-same : (f g : ℕ → Role) → ((l : ℕ) → l < 8 → f l ≡ g l) → some_works f ≡ some_works g
some_works-same f g same = ap is_some (first_such_same (λ k. is_working (f k)) (λ k. is_working (g k)) 0 8 (λ k le lt. ap is_working (same k (omega arith))))
