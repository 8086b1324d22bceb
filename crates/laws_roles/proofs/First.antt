-- What holds of the part at an opening.
use Rattle.std.proofs.Common.{◌≡◌, ◌⊎◌, inl, inr, ℕ, ◌<◌, ◌≤◌, ◌||◌, Bool, true, false, if◌then◌else◌, Option, Some, None, refl, sym, ap, subst, ◌∙◌, arith}
use Rattle.std.proofs.lemmas.Bool.{cases_lt}
use Rattle.mdc_types.specs.Roles.{role_of, is_working, is_faulty, is_rebuilding, is_written}
use Rattle.mdc_types.specs.declared.roles.Role.{Role}
use Rattle.mdc_types.specs.declared.roles.NodeState.TheVariants as states
use Rattle.md_superblock.specs.Arrays.{Says}
use Rattle.leg_failure.specs.Views.{new_view}
use Rattle.cluster_model.specs.Changes.{no_view}
use Rattle.cluster_model.specs.Phases.{is_in, is_up}
use Rattle.cluster_model.specs.Opening.{Origin, IsOrigin, says_of, is_member, core_at}
use Rattle.laws_roles.proofs.Parts.{is_loaded, Part, part_of, ghost_at, number, said_role, said_size}
use Rattle.laws_roles.proofs.Numbers.{Numbers}
use Rattle.laws_roles.proofs.Roles.{Roles}
use Rattle.laws_roles.proofs.Sizes.{SizesHold}
use Rattle.laws_roles.proofs.Opening.{Begins}
use Rattle.laws_roles.proofs.Additions.{Additions}
use Rattle.laws_roles.proofs.Sources.{Sources}

module _ (o : Origin) (i : IsOrigin o) (sup : ℕ → Option Says) (b : Begins o sup) where
  abbrev pub First : Part
  First = part_of (core_at o) sup (ghost_at o b.home)

  leg_or_none : (k : ℕ) → ((k < o.sizes.legs) × (sup k ≡ Some (b.says k))) ⊎ (sup k ≡ None)
  leg_or_none k = elim (cases_lt k o.sizes.legs) [
    | inl lt ↦ inl (lt, b.found k lt)
    | inr le ↦ inr (b.past k le)
  ]

  drawn : (k : ℕ) → number (sup k) ≤ o.events
  drawn k = elim (leg_or_none k) [
    | inl x ↦ subst (λ y. number y ≤ o.events) (sym x.1) (b.greatest k x.0)
    | inr x ↦ subst (λ y. number y ≤ o.events) (sym x) (omega arith)
  ]

  -- a superblock of the opening's number is what the opening says
  current_is : (k : ℕ) → o.events ≤ number (sup k) → sup k ≡ Some (says_of o)
  current_is k le = elim (leg_or_none k) [
    | inl x ↦
        let high = subst (λ y. o.events ≤ number y) x.1 le in
        let least = b.greatest k x.0 in
        let home : (b.says b.home).events ≡ o.events = ap (λ (s : Says). s.events) b.newest in
        let even : (b.says k).events ≡ (b.says b.home).events = omega (arith, high, least, home) in
        x.1 ∙ ap Some (b.same k b.home x.0 b.home_leg even ∙ b.newest)
    | inr x ↦ let high = subst (λ y. o.events ≤ number y) x le in absurd (omega (arith, high, i.events.0))
  ]

  same_says : (j k : ℕ) → number (sup j) ≡ number (sup k) → sup j ≡ sup k
  same_says j k e = elim (leg_or_none j) [
    | inl x ↦ elim (leg_or_none k) [
      | inl y ↦ x.1 ∙ ap Some (b.same j k x.0 y.0 (sym (ap number x.1) ∙ e ∙ ap number y.1)) ∙ sym y.1
      | inr y ↦ let zero = sym (ap number x.1) ∙ e ∙ ap number y in absurd (omega (arith, b.numbers j x.0, zero))
    ]
    | inr x ↦ elim (leg_or_none k) [
      | inl y ↦ let zero = sym (ap number y.1) ∙ sym e ∙ ap number x in absurd (omega (arith, b.numbers k y.0, zero))
      | inr y ↦ x ∙ sym y
    ]
  ]

  up_member : (n : ℕ) → is_up (if is_member o n then states.Up else states.Out) ≡ true → is_member o n ≡ true
  up_member n e = by (is_member o n) e
    where
      by : (m : Bool) → is_up (if m then states.Up else states.Out) ≡ true → m ≡ true
      by true e = refl
      by false e = cc

  leg_there : (k : ℕ) → is_written (role_of o.roles k) ≡ true → k < o.sizes.legs
  leg_there k e = elim (cases_lt k o.sizes.legs) [
    | inl lt ↦ lt
    | inr le ↦ let no_one : is_written (role_of o.roles k) ≡ false = ap is_written (i.legs k le) in cc
  ]

  written : (n k : ℕ) → is_up (if is_member o n then states.Up else states.Out) ≡ true → is_written (role_of o.roles k) ≡ true → o.events ≤ number (sup k)
  written n k up w =
      let lt = leg_there k w in
      let is = ap number (b.found k lt) ∙ b.members n (up_member n up) k lt in omega (arith, is)

  pub first_numbers : Numbers First
  first_numbers = record {
    some_completed = i.events.0;
    super_drawn = drawn;
    offer_drawn = λ n e. cc;
    offer_new = λ n e. cc;
    offer_says = λ n k e. cc;
    offer_written = λ n k e. cc;
    all_written = λ n l p. cc;
    same_says = same_says;
    loading = λ n k e. cc;
    loader_joins = λ n k e. cc;
    loader_holds = λ n k e. cc;
    home_current = let is = ap number (b.found b.home b.home_leg) ∙ ap (λ (s : Says). s.events) b.newest in omega (arith, is);
    written_current = written;
  }

  member_role : (m : Bool) (l : ℕ) (test : Role → Bool) → is_in (if m then states.Up else states.Out) ≡ true → test ((if m then new_view (role_of o.roles) o.sizes.sectors (λ j. false) else no_view).role l) ≡ true → test (role_of o.roles l) ≡ true
  member_role true l test up e = e
  member_role false l test up e = cc

  member_sure : (m : Bool) (l : ℕ) → is_up (if m then states.Up else states.Out) ≡ true → (if m then new_view (role_of o.roles) o.sizes.sectors (λ j. false) else no_view).sure_role l ≡ role_of o.roles l
  member_sure true l up = refl
  member_sure false l up = cc

  member_size : (m : Bool) → is_in (if m then states.Up else states.Out) ≡ true → o.sizes.sectors ≤ (if m then new_view (role_of o.roles) o.sizes.sectors (λ j. false) else no_view).size
  member_size true up = omega arith
  member_size false up = cc

  sure_size_is : (m : Bool) → is_up (if m then states.Up else states.Out) ≡ true → (if m then new_view (role_of o.roles) o.sizes.sectors (λ j. false) else no_view).sure_size ≡ o.sizes.sectors
  sure_size_is true up = refl
  sure_size_is false up = cc

  working_written : (r : Role) → is_working r ≡ true → is_written r ≡ true
  working_written r e = grind arith

  or_first : (x y : Bool) → x ≡ true → (x || y) ≡ true
  or_first x y e = grind arith

  pub first_roles : Roles First
  first_roles = record {
    good_written = λ l e. working_written (role_of o.roles l) e;
    super_good = λ k l le e. sym (ap (λ x. is_working (said_role x l)) (current_is k le)) ∙ e;
    super_faulty = λ k l le e. or_first (is_faulty (role_of o.roles l)) (is_working (role_of o.roles l)) (sym (ap (λ x. is_faulty (said_role x l)) (current_is k le)) ∙ e);
    view_good = λ n l up e. member_role (is_member o n) l is_working up e;
    view_faulty = λ n l up e. or_first (is_faulty (role_of o.roles l)) (is_working (role_of o.roles l)) (member_role (is_member o n) l is_faulty up e);
    offer_good = λ n l e. cc;
    offer_faulty = λ n l e. cc;
    took_roles = λ n l did. cc;
    late_roles = λ n l late. cc;
    sure_roles = λ n l up late. member_sure (is_member o n) l up;
  }

  pub first_sizes : SizesHold First
  first_sizes = record {
    super_size = λ k le. let is = ap said_size (current_is k le) in omega (arith, is);
    view_size = λ n up. member_size (is_member o n) up;
    offer_size = λ n e. cc;
    took_size = λ n did. cc;
    late_size = λ n late. cc;
    sure_size = λ n up late. sure_size_is (is_member o n) up;
    sure_below = λ n up. let is = sure_size_is (is_member o n) up in omega (arith, is);
  }

  not_in : (m : Bool) → is_loaded (if m then states.Up else states.Out) ≡ true → ⊥
  not_in true e = cc
  not_in false e = cc

  pub first_additions : Additions First
  first_additions = record {
    took_nothing = λ n did told. refl;
    wish_roles = λ n l e. cc;
    wish_up = λ n e. cc;
    work_rebuilding = λ n l e. cc;
    wish_spare = λ n l e. cc;
    wish_faulty = λ n l e. cc;
    rebuild_offered = λ n l e. cc;
    work_offered = λ n l e. cc;
    rebuild_added = λ n l e. cc;
    adder_up = λ n e. cc;
    adder_roles = λ n l e. cc;
    announced_spare = λ n l e. cc;
    removing_faulty = λ n l e. cc;
    readd_faulty = λ n l e. cc;
    again_rebuilding = λ n l e. cc;
    coverer_up = λ n l e. cc;
    covers_here = λ n l e. cc;
    covers_agreed = λ n l e. cc;
    faulty_missed = λ l e. e;
    again_missed = λ n l e. cc;
    missed_role = λ l e. or_first (is_faulty (role_of o.roles l)) (is_rebuilding (role_of o.roles l)) e;
  }

  pub first_sources : Sources First
  first_sources = record {
    offer_serves = λ n l e. cc;
    source_current = λ n e. absurd (not_in (is_member o n) e);
    source_works = λ n l e. absurd (not_in (is_member o n) e);
  }
