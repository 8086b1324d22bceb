-- What was looked up is what the rules look up.
use Rattle.std.proofs.Common.{◌≡◌, ℕ, ◌+◌, ◌<◌, ◌≤◌, Bool, Option, Some, None, refl, sym, ap, arith}
use Rattle.std.specs.Prelude.{is_none, is_ok, nat_lt, option_map, Result, Ok, Err}
use Rattle.std.proofs.lemmas.Bool.Decides.{nat_tests}
use Rattle.dlm_modes.specs.First.{first_such}
use Rattle.dlm_modes.proofs.FirstLaws.{IsFirst, first_such_some, first_such_same}
use Rattle.mdc_types.specs.Bits.{has_bit}
use Rattle.mdc_types.specs.Geometry.{Sizes, chunks_of}
use Rattle.mdc_types.specs.Roles.{role_of, legs_with}
use Rattle.mdc_types.specs.declared.refusals.Refusal.{Refusal}
use Rattle.mdc_types.specs.declared.roles.Role.{Role}
use Rattle.mdc_types.specs.declared.roles.Roles.{Roles}
use Rattle.resync_worker.specs.Copying.{Passing}
use Rattle.node_copies.specs.Copies.{first_left, first_covered}
use Rattle.driver_rules.specs.Wants.{first_of_pass, covered_in}
use Rattle.world_state.specs.Kept.{Judges}

pub none_map : {A B : Type 0} (f : A → B) (x : Option A) → is_none (option_map f x) ≡ is_none x
none_map f None = refl
none_map f (Some a) = refl

pub left_is : (g : Sizes) (pass : Option Passing) → first_left g pass ≡ first_of_pass g pass
left_is g None = refl
left_is g (Some p) = refl

pub covered_is : (pass : Option Passing) → first_covered pass ≡ covered_in pass
covered_is None = refl
covered_is (Some p) = refl

-- a chunk that is left is one of the array
pub left_below : (g : Sizes) (pass : Option Passing) (c : ℕ) → first_of_pass g pass ≡ Some c → c < chunks_of g
left_below g None c is = cc
left_below g (Some p) c is =
    let first = first_such_some p.todo 0 (chunks_of g) c is in
    let lt : c < 0 + chunks_of g = first.below in
    omega arith

-- no guard refuses exactly where the result is Ok
pub judged : {T : Type 0} (r : Result T Refusal) (guard : Option Refusal) → Judges r guard → is_ok r ≡ is_none guard
judged (Ok t) guard is = sym (ap is_none is)
judged (Err e) guard is = sym (ap is_none is)

with_role : (test : Role → Bool) (set : ℕ) (roles : Roles) (role : ℕ → Role) (l : ℕ) → l < 8
    → has_bit set l ≡ legs_with test roles l → role_of roles l ≡ role l → has_bit set l ≡ test (role l)
with_role test set roles role l lt is same = grind (arith, nat_tests)

-- the first leg of a role, from the set of its legs
pub first_with : (test : Role → Bool) (set legs : ℕ) (roles : Roles) (role : ℕ → Role) → legs ≤ 8
    → ((l : ℕ) → has_bit set l ≡ legs_with test roles l) → role_of roles ≡ role
    → first_such (has_bit set) 0 legs ≡ first_such (λ l. test (role l)) 0 legs
first_with test set legs roles role few is same = first_such_same (has_bit set) (λ l. test (role l)) 0 legs (λ l from below.
    with_role test set roles role l (omega arith) (is l) (ap (λ (f : ℕ → Role). f l) same))
