-- What a round makes of an addition, and a new view of a pass.
use Rattle.std.proofs.Common.{◌≡◌, ℕ, ◌==◌, ◌&&◌, ◌||◌, Bool, true, false, if◌then◌else◌, Option, Some, None, refl, arith}
use Rattle.std.specs.Prelude.{option_map}
use Rattle.std.proofs.lemmas.Bool.Decides.{nat_tests}
use Rattle.mdc_types.specs.Roles.{is_rebuilding}
use Rattle.mdc_types.specs.declared.events.Wish.{Wish}
use Rattle.mdc_types.specs.declared.events.Wish.TheVariants as wishes
use Rattle.disk_addition.specs.Additions.{after, rebuilt}
use Rattle.disk_addition.specs.Wishes.{is_announced, is_removing, is_readd}
use Rattle.disk_addition.specs.declared.addition.Addition.{Addition}
use Rattle.disk_addition.specs.declared.addition.Addition.TheVariants.{Nothing, Announced, Removing, ReAdd, Again}
use Rattle.resync_worker.specs.Copying.{Passing, covering_only}
use Rattle.leg_failure.specs.Views.{NodeView}
use Rattle.cluster_model.specs.State.{Copy}
use Rattle.cluster_model.specs.Changes.{covering, no_copy}
use Rattle.cluster_model.specs.Gathering.{is_again_of}
use Rattle.cluster_model.specs.Phases.{is_metadata}
use Rattle.laws_roles.proofs.Parts.{covers, covered_by, is_nothing, needs_known, wants_spare, wants_faulty, rebuilds}

-- An addition about a leg isn't nothing.

pub nothing_announced : (a : Addition) (l : ℕ) → is_announced a l ≡ true → is_nothing a ≡ false
nothing_announced (Announced j) l e = refl
nothing_announced a l e = cc

pub nothing_removing : (a : Addition) (l : ℕ) → is_removing a l ≡ true → is_nothing a ≡ false
nothing_removing (Removing j) l e = refl
nothing_removing a l e = cc

pub nothing_readd : (a : Addition) (l : ℕ) → is_readd a l ≡ true → is_nothing a ≡ false
nothing_readd (ReAdd j) l e = refl
nothing_readd a l e = cc

pub nothing_again : (a : Addition) (l : ℕ) → is_again_of a l ≡ true → is_nothing a ≡ false
nothing_again (Again j) l e = refl
nothing_again a l e = cc

pub again_some : (a : Addition) (l : ℕ) → is_again_of a l ≡ true → is_nothing a ≡ false
again_some a l e = nothing_again a l e

-- A whole round of the superblock leaves nothing, or a leg that is added again.

again_only : (test : Addition → Bool) (a : Addition) (l : ℕ) → test Nothing ≡ false → ((j : ℕ) → test (Again j) ≡ false) → test (rebuilt a l) ≡ false
again_only test (ReAdd m) l no_thing no_again = by (m == l)
  where
    by : (b : Bool) → test (if b then Again l else Nothing) ≡ false
    by true = no_again l
    by false = no_thing
again_only test a l no_thing no_again = no_thing

after_only : (test : Addition → Bool) (a : Addition) (x : Wish) → is_metadata x ≡ true → test Nothing ≡ false → ((j : ℕ) → test (Again j) ≡ false) → test (after a x) ≡ false
after_only test a wishes.Meta m no_thing no_again = no_thing
after_only test a (wishes.Spare l) m no_thing no_again = no_thing
after_only test a (wishes.Rebuild l) m no_thing no_again = again_only test a l no_thing no_again
after_only test a (wishes.Work l) m no_thing no_again = no_thing
after_only test a (wishes.Grow z) m no_thing no_again = no_thing
after_only test a x m no_thing no_again = cc

pub not_announced : (a : Addition) (x : Wish) (l : ℕ) → is_metadata x ≡ true → is_announced (after a x) l ≡ false
not_announced a x l m = after_only (λ b. is_announced b l) a x m refl (λ j. refl)

pub not_removing : (a : Addition) (x : Wish) (l : ℕ) → is_metadata x ≡ true → is_removing (after a x) l ≡ false
not_removing a x l m = after_only (λ b. is_removing b l) a x m refl (λ j. refl)

pub not_readd : (a : Addition) (x : Wish) (l : ℕ) → is_metadata x ≡ true → is_readd (after a x) l ≡ false
not_readd a x l m = after_only (λ b. is_readd b l) a x m refl (λ j. refl)

-- a leg is added again by a wish that rebuilds it
pub again_by : (a : Addition) (x : Wish) (l : ℕ) → is_metadata x ≡ true → is_again_of (after a x) l ≡ true → rebuilds x l ≡ true
again_by a (wishes.Rebuild j) l m e = by a e
  where
    flip : (i j : ℕ) → (i == j) ≡ true → (j == i) ≡ true
    flip i j e = grind (arith, nat_tests)

    by : (a : Addition) → is_again_of (rebuilt a j) l ≡ true → (l == j) ≡ true
    by (ReAdd k) e = by_test (k == j) e
      where
        by_test : (b : Bool) → is_again_of (if b then Again j else Nothing) l ≡ true → (l == j) ≡ true
        by_test true e = flip j l e
        by_test false e = cc
    by b e = cc
again_by a wishes.Meta l m e = cc
again_by a (wishes.Spare j) l m e = cc
again_by a (wishes.Work j) l m e = cc
again_by a (wishes.Grow z) l m e = cc
again_by a x l m e = cc

-- A whole round about a device.

flip : (i j : ℕ) → (i == j) ≡ true → (j == i) ≡ true
flip i j e = grind (arith, nat_tests)

pub announced_by : (a : Addition) (x : Wish) (l : ℕ) → is_announced (after a x) l ≡ true → needs_known x ≡ true → is_metadata x ≡ false → (wants_spare x l || is_announced a l) ≡ true
announced_by a (wishes.NewDisk j) l e known other = grind (arith, nat_tests)
announced_by a (wishes.Range r) l e known other = grind arith
announced_by a (wishes.Remove j) l e known other = cc
announced_by a (wishes.ReAdd j) l e known other = cc
announced_by a x l e known other = cc

pub removing_by : (a : Addition) (x : Wish) (l : ℕ) → is_removing (after a x) l ≡ true → needs_known x ≡ true → is_metadata x ≡ false → (wants_faulty x l || is_removing a l) ≡ true
removing_by a (wishes.Remove j) l e known other = grind (arith, nat_tests)
removing_by a (wishes.Range r) l e known other = grind arith
removing_by a (wishes.NewDisk j) l e known other = cc
removing_by a (wishes.ReAdd j) l e known other = cc
removing_by a x l e known other = cc

pub readd_by : (a : Addition) (x : Wish) (l : ℕ) → is_readd (after a x) l ≡ true → needs_known x ≡ true → is_metadata x ≡ false → (wants_faulty x l || is_readd a l) ≡ true
readd_by a (wishes.ReAdd j) l e known other = grind (arith, nat_tests)
readd_by a (wishes.Range r) l e known other = grind arith
readd_by a (wishes.NewDisk j) l e known other = cc
readd_by a (wishes.Remove j) l e known other = cc
readd_by a x l e known other = cc

pub not_again : (a : Addition) (x : Wish) (l : ℕ) → is_again_of (after a x) l ≡ true → needs_known x ≡ true → is_metadata x ≡ false → is_again_of a l ≡ true
not_again a (wishes.Range r) l e known other = e
not_again a (wishes.NewDisk j) l e known other = cc
not_again a (wishes.Remove j) l e known other = cc
not_again a (wishes.ReAdd j) l e known other = cc
not_again a x l e known other = cc

-- A pass under a new view.

pub covers_less : (c : Copy) (v : NodeView) (l : ℕ) → covers (covering c v) l ≡ (covers c l && is_rebuilding (v.role l))
covers_less c v l = by c.pass
  where
    by : (p : Option Passing) → covered_by (option_map (λ x. covering_only x (λ j. is_rebuilding (v.role j))) p) l ≡ (covered_by p l && is_rebuilding (v.role l))
    by None = refl
    by (Some p) = refl

pub cover_none : (l : ℕ) → covers no_copy l ≡ false
cover_none l = refl
