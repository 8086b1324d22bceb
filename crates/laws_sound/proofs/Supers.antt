-- What is read as a superblock of the array is in range.
use Rattle.std.proofs.Common.{◌≡◌, inl, inr, ℕ, ◌≤◌, Bool, true, false, if◌then◌else◌, List, Option, Some, None, refl, sym, subst, arith}
use Rattle.std.specs.Prelude.{is_none, option_and_then}
use Rattle.std.proofs.lemmas.Bool.{cases_lt}
use Rattle.std.proofs.lemmas.Bool.Decides.{nat_tests}
use Rattle.mdc_types.specs.Roles.{role_of}
use Rattle.mdc_types.specs.declared.roles.Role.TheVariants.{Spare}
use Rattle.mdc_types.proofs.RolesLaws.{role_of-eight_past}
use Rattle.md_superblock.specs.declared.faults.SuperFault.{SuperFault}
use Rattle.md_superblock.specs.declared.superblock.Super.{Super}
use Rattle.md_superblock.specs.Superblock.{IsSuper, super_of, role_or_spare}
use Rattle.md_superblock.specs.Faults.{fault_of}
use Rattle.md_superblock.specs.Arrays.{Array, Says, super_in, is_of, says_of, says_in}
use Rattle.md_superblock.proofs.NoFault.{tests_pass}
use Rattle.md_superblock.proofs.Spelled.{read_in_range}
use Rattle.laws_sound.specs.Legs.{SaysFit}

past_eight : (bytes : List ℕ) (l : ℕ) → 8 ≤ l → role_of (super_of bytes).roles l ≡ Spare
unfolding super_of
past_eight bytes l le = role_of-eight_past (role_or_spare bytes) l le

read_super : (bytes : List ℕ) (s : Super) (f : Option SuperFault) → fault_of bytes ≡ f → (if is_none f then Some (super_of bytes) else None) ≡ Some s → IsSuper s × ((l : ℕ) → 8 ≤ l → role_of s.roles l ≡ Spare)
read_super bytes s None e is =
    let same : super_of bytes ≡ s = cc in
    subst (λ x. IsSuper x × ((l : ℕ) → 8 ≤ l → role_of x.roles l ≡ Spare)) same (read_in_range bytes (tests_pass bytes e), past_eight bytes)
read_super bytes s (Some f) e is = cc

pub super_is : (bytes : List ℕ) (s : Super) → super_in bytes ≡ Some s → IsSuper s × ((l : ℕ) → 8 ≤ l → role_of s.roles l ≡ Spare)
unfolding super_in
super_is bytes s e = read_super bytes s (fault_of bytes) refl e

own : (a : Array) (l : ℕ) (s : Super) → is_of a l s ≡ true → (s.geometry_legs ≡ a.sizes.legs) × (s.room ≡ a.sizes.room)
own a l s e = grind (arith, nat_tests)

fits : (a : Array) (l : ℕ) (s : Super) → is_of a l s ≡ true → IsSuper s → ((k : ℕ) → 8 ≤ k → role_of s.roles k ≡ Spare) → SaysFit a.sizes (says_of s)
fits a l s e is past =
    let same = own a l s e in
    record {
      roles = λ k le. elim (cases_lt k 8) [
        | inl lt ↦ is.spares k (subst (λ x. x ≤ k) (sym same.0) le) lt
        | inr ge ↦ past k ge
      ];
      size = (is.size.0, subst (λ x. s.sectors ≤ x) same.1 is.size.1);
      working = is.working;
    }

said : (a : Array) (l : ℕ) (says : Says) (o : Option Super) (bytes : List ℕ) → super_in bytes ≡ o → option_and_then (λ s. if is_of a l s then Some (says_of s) else None) o ≡ Some says → SaysFit a.sizes says
said a l says None bytes e is = cc
said a l says (Some s) bytes e is = by (is_of a l s) refl is
  where
    by : (b : Bool) → is_of a l s ≡ b → (if b then Some (says_of s) else None) ≡ Some says → SaysFit a.sizes says
    by true t is =
        let known = super_is bytes s e in
        let same : says_of s ≡ says = cc in
        subst (SaysFit a.sizes) same (fits a l s t known.0 known.1)
    by false t is = cc

pub says_fit : (a : Array) (l : ℕ) (bytes : List ℕ) (says : Says) → says_in a l bytes ≡ Some says → SaysFit a.sizes says
unfolding says_in
says_fit a l bytes says e = said a l says (super_in bytes) bytes refl e
