-- What a node's view is after each change, and that it leaves a leg.
use Rattle.std.proofs.Common.{◌≡◌, ◌⊎◌, inl, inr, ℕ, ◌<◌, ◌≤◌, ◌==◌, ◌&&◌, Bool, true, false, not, if◌then◌else◌, Option, Some, None, refl, sym, ap, subst, ◌∙◌, arith}
use Rattle.std.specs.Prelude.{is_some, is_none, max}
use Rattle.std.proofs.lemmas.Bool.Decides.{nat_tests}
use Rattle.dlm_modes.specs.First.{first_such}
use Rattle.dlm_modes.proofs.FirstLaws.{first_such_some, first_such_has}
use Rattle.mdc_types.specs.Geometry.{Sizes}
use Rattle.mdc_types.specs.Roles.{role_of, is_working, is_written, some_works}
use Rattle.mdc_types.specs.declared.roles.Role.{Role}
use Rattle.mdc_types.specs.declared.roles.Roles.{Roles}
use Rattle.mdc_types.specs.declared.roles.NodeState.{NodeState}
use Rattle.mdc_types.specs.declared.roles.NodeState.TheVariants as states
use Rattle.md_superblock.specs.Arrays.{Says}
use Rattle.leg_failure.specs.Views.{NodeView, works, is_last, lost_one, taken, acknowledged, finished, left_leg}
use Rattle.leg_failure.proofs.ViewLaws.{works-taken}
use Rattle.leg_failure.proofs.LegsLeftLaws.{losers_have_legs}
use Rattle.cluster_model.specs.State.{Offer, Tried, Loaded}
use Rattle.cluster_model.specs.Phases.{is_in}
use Rattle.cluster_model.specs.Changes.{no_view}
use Rattle.cluster_model.specs.Joining.{says_of, events_of, greatest, is_newest, says_at, newest, was_read, missing_leg, view_from}
use Rattle.laws_sound.specs.Legs.{SpareBeyond, ViewFits, OfferFits, SaysFit}

pub lost_fits : (g : Sizes) (s : NodeState) (v : NodeView) (l : ℕ) → ViewFits g s v → is_last v l ≡ false → l < g.legs → ViewFits g s (lost_one v l)
lost_fits g s v l i last lt = record {
  roles = i.roles;
  sure_roles = i.sure_roles;
  lost = λ k e. grind (arith, nat_tests, i.lost k);
  size = i.size;
  sure_size = i.sure_size;
  sectors = i.sectors;
  leg = λ up. losers_have_legs v l (i.leg up) last;
}

pub out_fits : (g : Sizes) → ViewFits g states.Out no_view
out_fits g = record {
  roles = λ l le. refl;
  sure_roles = λ l le. refl;
  lost = λ l e. cc;
  size = omega arith;
  sure_size = omega arith;
  sectors = λ e. cc;
  leg = λ e. cc;
}

-- a node that joins isn't in
pub join_fits : (g : Sizes) (s : NodeState) (v : NodeView) → ViewFits g s v → ViewFits g states.Joining v
join_fits g s v i = record {
  roles = i.roles;
  sure_roles = i.sure_roles;
  lost = i.lost;
  size = i.size;
  sure_size = i.sure_size;
  sectors = λ e. cc;
  leg = λ e. cc;
}

pub ack_fits : (g : Sizes) (s : NodeState) (v : NodeView) → ViewFits g s v → ViewFits g s (acknowledged v)
ack_fits g s v i = record {
  roles = i.roles;
  sure_roles = i.roles;
  lost = i.lost;
  size = i.size;
  sure_size = i.size;
  sectors = λ e. let x = i.sectors e in (x.0, x.0);
  leg = i.leg;
}

stays : (was written working none : Bool) → (was && written && not (none && working)) ≡ true → was ≡ true
stays was written working none e = grind arith

pub take_fits : (g : Sizes) (s : NodeState) (v : NodeView) (r : ℕ → Role) (size : ℕ) → ViewFits g s v → SpareBeyond g r → (1 ≤ size) × (size ≤ g.room) → (l : ℕ) × (l < 8) × (is_working (r l) ≡ true) → ViewFits g s (taken v r size)
take_fits g s v r size i spare fits has = record {
  roles = spare;
  sure_roles = i.sure_roles;
  lost = λ l e. i.lost l (stays (v.lost l) (is_written (r l)) (is_working (r l)) (is_none (left_leg v r)) e);
  size = fits.1;
  sure_size = i.sure_size;
  sectors = λ e. (fits.0, (i.sectors e).1);
  leg = λ e. works-taken v r size has.0 has.1 has.2;
}

and_left : (a b : Bool) → (a && b) ≡ true → a ≡ true
and_left a b e = grind arith

left_works : (working lost written : Bool) → working ≡ true → (lost ≡ false) → (working && not (lost && written)) ≡ true
left_works working lost written w l = grind arith

works_lost : (working lost : Bool) → (working && not lost) ≡ true → lost ≡ false
works_lost working lost e = grind arith

pub finish_fits : (g : Sizes) (drawn : ℕ) (s : NodeState) (v : NodeView) (o : Offer) → ViewFits g s v → OfferFits g drawn v o → is_in s ≡ true → ViewFits g states.Up (finished v o.role o.size)
finish_fits g drawn s v o i f up =
    let has = i.leg up in
    record {
      roles = f.roles;
      sure_roles = f.roles;
      lost = λ l e. i.lost l (and_left (v.lost l) _ e);
      size = f.size.1;
      sure_size = f.size.1;
      sectors = λ e. (f.size.0, f.size.0);
      leg = λ e. (has.0, has.1, left_works (is_working (o.role has.0)) (v.lost has.0) _ (f.working has.0 has.2) (works_lost (is_working (v.role has.0)) (v.lost has.0) has.2));
    }

-- The view of a node that comes in.

pick : (a b : ℕ) → (max a b ≡ a) ⊎ (max a b ≡ b)
pick a b = grind arith

-- one of the eight has the greatest number
Attained : (ℕ → Tried) → ℕ → Type 0
Attained tried m = (l : ℕ) × (l < 8) × (events_of (tried l) ≡ m)

attain : (tried : ℕ → Tried) (a b : ℕ) → Attained tried a → Attained tried b → Attained tried (max a b)
unfolding Attained
attain tried a b x y = elim (pick a b) [
  | inl e ↦ (x.0, x.1, x.2 ∙ sym e)
  | inr e ↦ (y.0, y.1, y.2 ∙ sym e)
]

here : (tried : ℕ → Tried) (l : ℕ) → l < 8 → Attained tried (events_of (tried l))
unfolding Attained
here tried l lt = (l, lt, refl)

attained : (tried : ℕ → Tried) → Attained tried (greatest tried)
attained tried =
    let at : (l : ℕ) → l < 8 → Attained tried (events_of (tried l)) = here tried in
    attain tried _ _ (at 0 (omega arith)) (attain tried _ _ (at 1 (omega arith)) (attain tried _ _ (at 2 (omega arith)) (attain tried _ _ (at 3 (omega arith))
    (attain tried _ _ (at 4 (omega arith)) (attain tried _ _ (at 5 (omega arith)) (attain tried _ _ (at 6 (omega arith)) (at 7 (omega arith))))))))

read_newest : (t : Tried) (m : ℕ) → events_of t ≡ m → 1 ≤ m → (is_some (says_of t) && (events_of t == m)) ≡ true
read_newest (Loaded says) m e le = grind (arith, nat_tests)
read_newest t m e le = absurd (omega (arith, e))

pub newest_found : (tried : ℕ → Tried) → 1 ≤ greatest tried → is_some (first_such (is_newest tried) 0 8) ≡ true
unfolding Attained
newest_found tried le =
    let a = attained tried in
    first_such_has (is_newest tried) 0 8 a.0 (omega arith) (omega (arith, a.1)) (read_newest (tried a.0) (greatest tried) a.2 le)

-- the superblock that is taken
pub record Newest (tried : ℕ → Tried) : Type 0 where
  pub leg : ℕ
  pub says : Says
  pub is : newest tried ≡ Some says
  pub read : tried leg ≡ Loaded says

read_at : (tried : ℕ → Tried) (l : ℕ) (t : Tried) → tried l ≡ t → is_some (says_of t) ≡ true → newest tried ≡ says_of t → Newest tried
read_at tried l (Loaded says) e some is = record { leg = l; says = says; is = is; read = e }
read_at tried l t e some is = cc

newest_at : (tried : ℕ → Tried) (x : Option ℕ) → first_such (is_newest tried) 0 8 ≡ x → is_some x ≡ true → Newest tried
newest_at tried None e some = cc
newest_at tried (Some l) e some =
    let f = first_such_some (is_newest tried) 0 8 l e in
    read_at tried l (tried l) refl (and_left (is_some (says_of (tried l))) _ f.passes) (ap (says_at tried) e)

pub newest_is : (tried : ℕ → Tried) → 1 ≤ greatest tried → Newest tried
newest_is tried le = newest_at tried (first_such (is_newest tried) 0 8) refl (newest_found tried le)

none_some : (x : Option ℕ) → is_some x ≡ true → x ≡ None → ⊥
none_some None e none = cc
none_some (Some a) e none = cc

read_leg : (tried : ℕ → Tried) (roles : Roles) (x : Option ℕ) → first_such (was_read tried roles) 0 8 ≡ x → some_works (role_of roles) ≡ true → (if is_some x then None else first_such (λ l. is_working (role_of roles l)) 0 8) ≡ None
    → (l : ℕ) × (l < 8) × (was_read tried roles l ≡ true)
read_leg tried roles None e works none = absurd (none_some (first_such (λ l. is_working (role_of roles l)) 0 8) works none)
read_leg tried roles (Some l) e works none = let f = first_such_some (was_read tried roles) 0 8 l e in (l, omega (arith, f.below), f.passes)

read_works : (working written read : Bool) → (working && read) ≡ true → (working && not (written && not read)) ≡ true
read_works working written read e = grind arith

spare_lost : (g : Sizes) (r : ℕ → Role) (read : Bool) (l : ℕ) → SpareBeyond g r → (is_written (r l) && not read) ≡ true → l < g.legs
spare_lost g r read l spare e = grind (arith, spare l)

seen : (g : Sizes) (tried : ℕ → Tried) (says : Says) → SaysFit g says → missing_leg tried (Some says) ≡ None → ViewFits g states.Loaded (view_from tried (Some says))
seen g tried says f none =
    let has = read_leg tried says.roles (first_such (was_read tried says.roles) 0 8) refl f.working none in
    record {
      roles = f.roles;
      sure_roles = f.roles;
      lost = λ l e. spare_lost g (role_of says.roles) (is_some (says_of (tried l))) l f.roles e;
      size = f.size.1;
      sure_size = f.size.1;
      sectors = λ e. (f.size.0, f.size.0);
      leg = λ e. (has.0, has.1, read_works (is_working (role_of says.roles has.0)) (is_written (role_of says.roles has.0)) (is_some (says_of (tried has.0))) has.2);
    }

pub come_fits : (g : Sizes) (tried : ℕ → Tried) → ((l : ℕ) (says : Says) → tried l ≡ Loaded says → SaysFit g says) → 1 ≤ greatest tried → missing_leg tried (newest tried) ≡ None → ViewFits g states.Loaded (view_from tried (newest tried))
come_fits g tried fit le none =
    let n = newest_is tried le in
    subst (λ x. ViewFits g states.Loaded (view_from tried x)) (sym n.is) (seen g tried n.says (fit n.leg n.says n.read) (subst (λ x. missing_leg tried x ≡ None) n.is none))
