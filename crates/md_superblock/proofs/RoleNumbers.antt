-- The numbers of roles in the sector, and what the first number that passes follows from.
use Rattle.std.proofs.Common.{◌≡◌, ℕ, zero, suc, ◌+◌, ◌<◌, ◌≤◌, ◌==◌, nat_lt, Bool, true, false, not, List, Option, Some, None, refl, sym, ap, ◌∙◌, arith, if◌then◌else◌, length}
use Rattle.std.specs.Prelude.{is_some, unwrap_or}
use Rattle.std.proofs.lemmas.Bool.{eqb-true, ltb-true, ltb-false, not-false}
use Rattle.std.proofs.lemmas.Bool.Decides.{nat_tests}
use Rattle.std.proofs.lemmas.List.{ext_get_or}
use Rattle.dlm_modes.specs.First.{first_such}
use Rattle.dlm_modes.proofs.FirstLaws.{first_such_none}
use Rattle.mdc_types.specs.declared.roles.Role.{Role}
use Rattle.mdc_types.specs.declared.roles.Role.TheVariants.{Working, Rebuilding, Faulty, Spare}
use Rattle.mdc_types.specs.declared.roles.Roles.{Roles}
use Rattle.mdc_types.specs.Roles.{role_of, role_code, role_of_code, is_working}
use Rattle.mdc_types.proofs.RolesLaws.{role_of_code-code, role_code-of_code}
use Rattle.md_superblock.specs.Layout.{number_at}
use Rattle.md_superblock.specs.Superblock.{role_number, role_at, role_or_spare, roles_of}
use Rattle.md_superblock.specs.Faults.{has_role}

-- tests that agree find the same
pub first_such_agree : (p q : ℕ → Bool) (i n : ℕ) → ((k : ℕ) → i ≤ k → k < i + n → p k ≡ q k) → first_such p i n ≡ first_such q i n
unfolding first_such
first_such_agree p q i zero same = refl
first_such_agree p q i (suc n) same =
    let here : p i ≡ q i = same i (omega arith) (omega arith) in
    let rest = first_such_agree p q (i + 1) n (λ k le lt. same k (omega arith) (omega arith)) in
    rw (here, rest) refl

-- where nothing passes nothing is found
pub none_such : (p : ℕ → Bool) (i n : ℕ) → ((k : ℕ) → i ≤ k → k < i + n → p k ≡ false) → first_such p i n ≡ None
unfolding first_such
none_such p i zero fails = refl
none_such p i (suc n) fails =
    let here : p i ≡ false = fails i (omega arith) (omega arith) in
    let rest = none_such p (i + 1) n (λ k le lt. fails k (omega arith) (omega arith)) in
    rw (here, rest) refl

-- the eight roles by device
pub role_of-roles_of : (bytes : List ℕ) (l : ℕ) → l < 8 → role_of (roles_of bytes) l ≡ role_or_spare bytes l
role_of-roles_of bytes zero lt = refl
role_of-roles_of bytes (suc zero) lt = refl
role_of-roles_of bytes (suc (suc zero)) lt = refl
role_of-roles_of bytes (suc (suc (suc zero))) lt = refl
role_of-roles_of bytes (suc (suc (suc (suc zero)))) lt = refl
role_of-roles_of bytes (suc (suc (suc (suc (suc zero))))) lt = refl
role_of-roles_of bytes (suc (suc (suc (suc (suc (suc zero)))))) lt = refl
role_of-roles_of bytes (suc (suc (suc (suc (suc (suc (suc zero))))))) lt = refl
role_of-roles_of bytes (suc (suc (suc (suc (suc (suc (suc (suc l)))))))) lt = absurd (omega arith)

-- a device works where its number is its own
pub is_working-role : (l code : ℕ) → is_working (unwrap_or (role_of_code l code) Spare) ≡ (code == l)
is_working-role l code = grind (arith, nat_tests)

pub is_working-code : (l : ℕ) (r : Role) → l < 8 → (role_code l r == l) ≡ is_working r
is_working-code l Working lt = grind (arith, nat_tests)
is_working-code l Rebuilding lt = grind (arith, nat_tests)
is_working-code l Faulty lt = grind (arith, nat_tests)
is_working-code l Spare lt = grind (arith, nat_tests)

-- a number of a role is that role's
code_of_some : (l code : ℕ) (o : Option Role) → role_of_code l code ≡ o → is_some o ≡ true → code ≡ role_code l (unwrap_or o Spare)
code_of_some l code None e some = cc
code_of_some l code (Some r) e some = sym (role_code-of_code l code r e)

-- 65535 is that of a spare
spare_of : (l : ℕ) → l < 8 → role_of_code l 65535 ≡ Some Spare
spare_of l lt = role_of_code-code l Spare lt

-- the number of a device that has a role, and that it is a spare from raid disks on
pub record IsRole (bytes : List ℕ) (l : ℕ) : Type 0 where
  pub code : role_number bytes l ≡ role_code l (role_or_spare bytes l)
  pub spare : number_at bytes 92 4 ≤ l → role_or_spare bytes l ≡ Spare

role_from : (bytes : List ℕ) (l : ℕ) (b : Bool) → l < 8 → nat_lt l (number_at bytes 92 4) ≡ b
    → (if b then is_some (role_at bytes l) else role_number bytes l == 0xffff) ≡ true → IsRole bytes l
role_from bytes l true lt below has = record {
  code = code_of_some l (role_number bytes l) (role_at bytes l) refl has;
  spare = λ le. let less = ltb-true l (number_at bytes 92 4) below in absurd (omega arith);
}
role_from bytes l false lt past has =
    let code : role_number bytes l ≡ 65535 = eqb-true (role_number bytes l) 65535 has in
    let role : role_or_spare bytes l ≡ Spare = rw (code, spare_of l lt) refl in
    record { code = rw (code, spare_of l lt) refl; spare = λ le. role }

pub role_is : (bytes : List ℕ) (l : ℕ) → l < 8 → first_such (λ k. not (has_role bytes k)) 0 8 ≡ None → IsRole bytes l
role_is bytes l lt none =
    let has : has_role bytes l ≡ true = not-false (has_role bytes l) (first_such_none (λ k. not (has_role bytes k)) 0 8 none l (omega arith) (omega arith)) in
    role_from bytes l (nat_lt l (number_at bytes 92 4)) lt refl has

-- a device whose number is that of its role has one
has_from : (bytes : List ℕ) (l : ℕ) (r : Role) (b : Bool) → l < 8 → role_number bytes l ≡ role_code l r → (b ≡ false → r ≡ Spare)
    → (if b then is_some (role_at bytes l) else role_number bytes l == 0xffff) ≡ true
has_from bytes l r true lt code spare = rw (code, role_of_code-code l r lt) refl
has_from bytes l r false lt code spare = let s = spare refl in rw (code, s) refl

pub has_role-written : (bytes : List ℕ) (l : ℕ) (r : Role) → l < 8 → role_number bytes l ≡ role_code l r → (number_at bytes 92 4 ≤ l → r ≡ Spare) → has_role bytes l ≡ true
has_role-written bytes l r lt code spare =
    has_from bytes l r (nat_lt l (number_at bytes 92 4)) lt code (λ e. spare (ltb-false l (number_at bytes 92 4) e))

-- the role that the sector has of a device whose number is that of its role
pub role_written : (bytes : List ℕ) (l : ℕ) (r : Role) → l < 8 → role_number bytes l ≡ role_code l r → role_or_spare bytes l ≡ r
role_written bytes l r lt code = rw (code, role_of_code-code l r lt) refl

-- roles are those of the eight devices
pub roles_written : (bytes : List ℕ) (roles : Roles) → length roles.legs ≡ 8 → ((l : ℕ) → l < 8 → role_number bytes l ≡ role_code l (role_of roles l)) → roles_of bytes ≡ roles
roles_written bytes roles eight codes =
    let legs : (roles_of bytes).legs ≡ roles.legs = ext_get_or Spare (roles_of bytes).legs roles.legs (sym eight) (λ l lt. role_of-roles_of bytes l lt ∙ role_written bytes l (role_of roles l) lt (codes l lt)) in
    ap (λ (legs : List Role). record { legs = legs }) legs
