-- What the calls on a view make of it, from the sets that they compute.
use Rattle.std.proofs.Common.{◌≡◌, ℕ, ◌^◌, ◌<◌, ◌==◌, Bool, true, false, not, ◌&&◌, ◌||◌, Option, Some, None, is_none, refl, sym, ap, ◌∙◌, arith, if◌then◌else◌}
use Rattle.std.proofs.Math.Path.{fun_ext}
use Rattle.dlm_modes.specs.First.{first_such}
use Rattle.dlm_modes.proofs.FirstLaws.{first_such_some}
use Rattle.dlm_modes.specs.Points.{with_at}
use Rattle.mdc_types.specs.Bits.{has_bit, with_bit}
use Rattle.mdc_types.specs.Roles.{is_working, is_written}
use Rattle.mdc_types.specs.declared.roles.Role.{Role}
use Rattle.leg_failure.specs.Sets.{least_of}
use Rattle.leg_failure.specs.Views.{NodeView, works, is_last, left_leg, taken}
use Rattle.leg_failure.specs.Losses.{lose_answer}
use Rattle.leg_failure.specs.declared.view.Lose.TheVariants.{Lost, LastLeg}
use Rattle.leg_failure.proofs.SetLaws.{single_bit, is_single, least_of-where}

-- two views that differ in no lost leg are one
pub lost_same : (v : NodeView) (f : ℕ → Bool) → ((l : ℕ) → v.lost l ≡ f l) → v ≡ record v { lost = f }
lost_same v f same = ap (λ g. record v { lost = g }) (fun_ext same)

-- the leg is the last where it is all that works
pub last_single : (v : NodeView) (set l : ℕ) → set < 2 ^ 8 → l < 8 → ((k : ℕ) → has_bit set k ≡ works v k) → is_last v l ≡ (set == with_bit 0 l)
last_single v set l small lt are = sym (is_single set l small lt ∙ ap (λ p. p l && is_none (first_such (λ j. p j && not (j == l)) 0 8)) (fun_ext are))

pub answers_last : (v : NodeView) (l : ℕ) → is_last v l ≡ true → LastLeg ≡ lose_answer v l
answers_last v l last = ap (λ b. if b then LastLeg else Lost) (sym last)

pub answers_lost : (v : NodeView) (l : ℕ) → is_last v l ≡ false → Lost ≡ lose_answer v l
answers_lost v l other = ap (λ b. if b then LastLeg else Lost) (sym other)

same_either : (b : Bool) → true ≡ (if b then true else true)
same_either true = refl
same_either false = refl

and_true : (b : Bool) → b ≡ (b && true)
and_true true = refl
and_true false = refl

one_more : (was now : Bool) (l k : ℕ) → now ≡ (was || (if k == l then true else false)) → now ≡ (if k == l then true else was)
one_more true now l k is = is ∙ same_either (k == l)
one_more false now l k is = is

-- a leg more is lost
pub lost_more : (lost leg new l : ℕ) → leg ≡ with_bit 0 l → ((k : ℕ) → has_bit new k ≡ (has_bit lost k || has_bit leg k)) → (k : ℕ) → has_bit new k ≡ with_at (has_bit lost) l true k
lost_more lost leg new l is are k = one_more (has_bit lost k) (has_bit new k) l k (are k ∙ ap (λ b. has_bit lost k || b) (ap (λ s. has_bit s k) is ∙ single_bit l k))

-- nothing is left exactly where the set of what is left is empty
pub left_none : (v : NodeView) (r : ℕ → Role) (left : ℕ) → ((k : ℕ) → has_bit left k ≡ (is_working (r k) && not (v.lost k))) → is_none (least_of left) ≡ is_none (left_leg v r)
left_none v r left are = ap is_none (least_of-where left (λ k. is_working (r k) && not (v.lost k)) are)

-- what is lost after a node took roles, with a withdrawal or without
pub withdrawn : (was written working none kept new : Bool) → none ≡ true → kept ≡ (was && written) → new ≡ (kept && not working) → new ≡ (was && written && not (none && working))
withdrawn was written working none kept new all is now = now ∙ ap (λ b. b && not working) is ∙ ap (λ b. was && written && not (b && working)) (sym all)

pub kept_lost : (was written working none kept new : Bool) → none ≡ false → kept ≡ (was && written) → new ≡ kept → new ≡ (was && written && not (none && working))
kept_lost was written working none kept new some is now = now ∙ is ∙ and_true (was && written) ∙ ap (λ b. was && written && not (b && working)) (sym some)

stays_working : (working lost written none : Bool) → (working && not lost) ≡ true → (working && not (lost && written && not (none && working))) ≡ true
stays_working true false written none left = refl
stays_working true true written none left = cc
stays_working false lost written none left = cc

comes_back : (working lost written none : Bool) → none ≡ true → working ≡ true → (working && not (lost && written && not (none && working))) ≡ true
comes_back working lost written none all is = grind arith

-- a node that takes roles which call a leg working has a leg that works
pub works-taken : (v : NodeView) (r : ℕ → Role) (size l : ℕ) → l < 8 → is_working (r l) ≡ true → (k : ℕ) × (k < 8) × (works (taken v r size) k ≡ true)
works-taken v r size l lt is = by (left_leg v r) refl
  where
    by : (left : Option ℕ) → left_leg v r ≡ left → (k : ℕ) × (k < 8) × (works (taken v r size) k ≡ true)
    by None none = (l, lt, comes_back (is_working (r l)) (v.lost l) (is_written (r l)) (is_none (left_leg v r)) (ap is_none none) is)
    by (Some k) some =
        let first = first_such_some (λ j. is_working (r j) && not (v.lost j)) 0 8 k some in
        (k, omega arith, stays_working (is_working (r k)) (v.lost k) (is_written (r k)) (is_none (left_leg v r)) first.passes)
