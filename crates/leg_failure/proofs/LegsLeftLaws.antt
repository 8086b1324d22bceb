-- A node that has a leg keeps one.
use Rattle.std.proofs.Common.{◌≡◌, IsTrue, ℕ, ◌<◌, ◌==◌, Bool, true, false, not, ◌&&◌, Option, Some, None, refl, subst, arith, if◌then◌else◌}
use Rattle.std.specs.Prelude.{is_some}
use Rattle.std.proofs.lemmas.Bool.Decides.{nat_tests}
use Rattle.dlm_modes.specs.First.{first_such}
use Rattle.dlm_modes.proofs.FirstLaws.{first_such_some, first_such_has}
use Rattle.mdc_types.specs.Roles.{is_working, is_written}
use Rattle.mdc_types.specs.declared.roles.Role.{Role}
use Rattle.leg_failure.specs.Sets.{given_up}
use Rattle.leg_failure.specs.Views.{works, other_leg, lost_one}
use Rattle.leg_failure.specs.Withdrawals.{HasLeg}
use Rattle.leg_failure.specs.LegsLeft.{LosersHaveLegs, ProposersHaveLegs, ChangesKeepWorking, FinishersHaveLegs, LegsAreFound, RolesAreFound}

still_works : (working lost : Bool) (l k : ℕ) → (working && not lost && not (k == l)) ≡ true → (working && not (if k == l then true else lost)) ≡ true
still_works working lost l k is = grind (arith, nat_tests)

and_not : (working lost : Bool) (l k : ℕ) → (working && not lost) ≡ true → (k == l) ≡ false → (working && not (if k == l then true else lost)) ≡ true
and_not working lost l k is other = grind (arith, nat_tests)

pub losers_have_legs : LosersHaveLegs
losers_have_legs v l has last = other (other_leg v l) refl
  where
    other : (found : Option ℕ) → other_leg v l ≡ found → HasLeg (lost_one v l)
    other (Some k) some =
        let first = first_such_some (λ j. works v j && not (j == l)) 0 8 k some in
        (k, omega arith, grind (arith, nat_tests, first.passes))
    other None none = elim (has.0 == l) as (λ b. (has.0 == l) ≡ b → HasLeg (lost_one v l)) [
      | true ↦ λ same. absurd (grind (arith, nat_tests, none, has.2, last))
      | false ↦ λ differ. (has.0, has.1, and_not (is_working (v.role has.0)) (v.lost has.0) l has.0 has.2 differ)
    ] refl

proposed_works : (r : Role) (lost : Bool) → (is_working r && not lost) ≡ true → is_working (if lost then given_up r else r) ≡ true
proposed_works r true works = grind arith
proposed_works r false works = grind arith

pub proposers_have_legs : ProposersHaveLegs
proposers_have_legs v has = (has.0, has.1, proposed_works (v.role has.0) (v.lost has.0) has.2)

pub changes_keep_working : ChangesKeepWorking
changes_keep_working r l role idle k works = grind (arith, nat_tests)

finished_works : (was later : Bool) (role now : Role) → (is_working role && not later) ≡ true → (was ≡ true → later ≡ true) → (is_working (if was then given_up role else role) ≡ true → is_working now ≡ true) → (is_working now && not (later && is_written now)) ≡ true
finished_works was later role now works more keeps = grind arith

pub finishers_have_legs : FinishersHaveLegs
finishers_have_legs earlier later r size since keeps has =
    let k = has.0 in
    (k, has.1, finished_works (earlier.lost k) (later.lost k) (earlier.role k) (r k) (subst (λ (f : ℕ → Role). (is_working (f k) && not (later.lost k)) ≡ true) since.roles has.2) (since.lost k) (keeps k))

-- a leg that passes a test, and that one is found
found_leg : (p : ℕ → Bool) → (l : ℕ) × (l < 8) × (p l ≡ true) → IsTrue (is_some (first_such p 0 8))
found_leg p has = let lt = has.1 in first_such_has p 0 8 has.0 (omega arith) (omega arith) has.2

leg_found : (p : ℕ → Bool) (found : Option ℕ) → first_such p 0 8 ≡ found → IsTrue (is_some found) → (l : ℕ) × (l < 8) × (p l ≡ true)
leg_found p None none has = cc
leg_found p (Some l) some has = let first = first_such_some p 0 8 l some in let lt = first.below in (l, omega arith, first.passes)

pub legs_are_found : LegsAreFound
legs_are_found v = (found_leg (works v), leg_found (works v) (first_such (works v) 0 8) refl)

pub roles_are_found : RolesAreFound
roles_are_found r = (found_leg (λ l. is_working (r l)), leg_found (λ l. is_working (r l)) (first_such (λ l. is_working (r l)) 0 8) refl)
