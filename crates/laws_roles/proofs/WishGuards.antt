-- What the guards of an offer tell.
use Rattle.std.proofs.Common.{◌∙◌, ◌≡◌, inl, inr, ℕ, ◌==◌, ◌&&◌, ◌||◌, Bool, true, false, not, if◌then◌else◌, ◌∷◌, Option, Some, None, refl, ap, subst, arith}
use Rattle.std.proofs.lemmas.Bool.Decides.{nat_tests}
use Rattle.dlm_modes.proofs.FirstLaws.{first_such_none}
use Rattle.dlm_modes.specs.Guards.{first_of, unless, or_then}
use Rattle.dlm_modes.specs.Points.{with_at}
use Rattle.mdc_types.specs.Roles.{is_spare, is_rebuilding, is_working, is_faulty}
use Rattle.mdc_types.specs.declared.events.Wish.{Wish}
use Rattle.mdc_types.specs.declared.events.Wish.TheVariants as wishes
use Rattle.mdc_types.specs.declared.refusals.Refusal.TheVariants.{NotRole, NotUp, Unacked}
use Rattle.mdc_types.specs.declared.roles.Role.{Role}
use Rattle.mdc_types.specs.declared.roles.Role.TheVariants.{Spare, Rebuilding, Working}
use Rattle.std.proofs.lemmas.Bool.{cases_lt}
use Rattle.mdc_types.specs.declared.roles.NodeState.{NodeState}
use Rattle.mdc_types.specs.declared.roles.NodeState.TheVariants as states
use Rattle.md_superblock.specs.Arrays.{Says}
use Rattle.msg_rounds.specs.Refusals.{is_message_held}
use Rattle.msg_rounds.specs.declared.phases.SenderPhase.{SenderPhase}
use Rattle.msg_rounds.specs.declared.phases.SenderPhase.TheVariants as senders
use Rattle.disk_addition.specs.Wishes.{suits, is_announced, is_readd}
use Rattle.leg_failure.specs.Sets.{is_same}
use Rattle.leg_failure.specs.Views.{is_unacked, unacked_leg, proposed_role}
use Rattle.laws_rounds.specs.Invariants.{fits}
use Rattle.cluster_model.specs.State.{Core}
use Rattle.cluster_model.specs.Guards.{is_out, no_node, not_fenced}
use Rattle.cluster_model.specs.Phases.{is_in, is_up, sender_is}
use Rattle.cluster_model.specs.Wishes.{holds_device_lock, loaded_offers, wish_guards, offer_guards, offer_of}
use Rattle.laws_locks.specs.Rounded.{has_token, stands}
use Rattle.laws_sound.proofs.Guarded.{all_none, first_none, unless_none, refused_none}
use Rattle.laws_sound.proofs.RoundFacts.{no_offer}
use Rattle.laws_roles.proofs.Parts.{needs_known, wants_spare, wants_faulty, rebuilds, Ghost, part_of, promotes}
use Rattle.laws_roles.proofs.Ways.{Wished}
use Rattle.laws_roles.proofs.Known.{Known}

held_is : (s : SenderPhase) → is_message_held s ≡ true → s ≡ senders.MessageHeld
held_is senders.MessageHeld e = refl
held_is s e = cc

inside_by : (s : NodeState) → fits s senders.MessageHeld ≡ true → is_in s ≡ true
inside_by states.Loaded e = refl
inside_by states.Up e = refl
inside_by s e = cc

-- a wish other than `meta` is an up node's
up_by : (s : NodeState) (w : Wish) → loaded_offers s w ≡ None → is_in s ≡ true → needs_known w ≡ true → is_up s ≡ true
up_by states.Up w e i h = refl
up_by states.Loaded wishes.Meta e i h = cc
up_by states.Loaded w e i h = cc
up_by s w e i h = cc

first_none_of : {R : Type 0} (a b : Option R) → or_then a b ≡ None → a ≡ None
first_none_of None b e = refl
first_none_of (Some r) b e = cc

-- what holds of a leg holds of the same
same_leg : (f : ℕ → Bool) (l j : ℕ) → (j == l) ≡ true → f l ≡ true → f j ≡ true
same_leg f l j e w = let same : l ≡ j = grind (arith, nat_tests) in subst (λ x. f x ≡ true) same w

either : (a x r : Bool) → ((a && x) || r) ≡ true → (a || r) ≡ true
either a x r e = grind arith

at_point : (f : ℕ → Role) (l j : ℕ) (r : Role) (test : Role → Bool) → (j == l) ≡ true → test r ≡ true → test (with_at f l r j) ≡ true
at_point f l j r test e t = ap (λ b. test (if b then r else f j)) e ∙ t

-- legs past the eighth are spares, and never lost
past_known : (lost : Bool) (r s : Role) → lost ≡ false → r ≡ Spare → s ≡ Spare → (lost || not (is_same r s)) ≡ false
past_known lost r s e f h = rw (e, f, h) refl

never : (b : Bool) → (b ≡ true → ⊥) → b ≡ false
never true f = absurd (f refl)
never false f = refl

module _ (core : Core) (k : Known core) where
  pub record Guards (n : ℕ) (wish : Wish) : Type 0 where
    pub loaded : loaded_offers (core.state n) wish ≡ None
    pub held : core.sender n ≡ senders.MessageHeld
    pub rest : first_of (wish_guards core n wish) ≡ None

  pub guards : (n : ℕ) (wish : Wish) → first_of (offer_guards core n wish) ≡ None → Guards n wish
  guards n wish ok =
      let first = loaded_offers (core.state n) wish in
      let second = sender_is core n (is_message_held (core.sender n)) in
      let live = first_none (unless (not (is_out (core.state n))) (NotUp n)) (first ∷ second ∷ wish_guards core n wish)
      (first_none (not_fenced core n) _ (first_none (no_node core n) _ ok).1).1 in
      let one = first_none first (second ∷ wish_guards core n wish) live.1 in
      let two = first_none second (wish_guards core n wish) one.1 in
      record { loaded = one.0; held = held_is (core.sender n) (unless_none _ _ two.0); rest = two.1 }

  pub inside : (n : ℕ) (wish : Wish) → Guards n wish → is_in (core.state n) ≡ true
  inside n wish a = inside_by (core.state n) (subst (λ s. fits (core.state n) s ≡ true) a.held (k.askers.fits n))

  -- who holds the token has no offer before this one
  pub no_offers : (n : ℕ) (wish : Wish) → Guards n wish → (m : ℕ) → core.offer m ≡ None
  no_offers n wish a m = no_offer (core.state m) (core.sender m) (core.offer m) (k.rounded.offering.offers m) (by (stands (core.sender m)) refl)
    where
      by : (b : Bool) → stands (core.sender m) ≡ b → stands (core.sender m) ≡ false
      by false e = e
      by true e =
          let same : n ≡ m = k.rounded.phased.alone n m (ap has_token a.held) (has (core.sender m) e) in
          let held : core.sender m ≡ senders.MessageHeld = subst (λ j. core.sender j ≡ senders.MessageHeld) same a.held in
          ap stands held
        where
          has : (s : SenderPhase) → stands s ≡ true → has_token s ≡ true
          has senders.Offered e = refl
          has senders.Published e = refl
          has senders.Granted e = refl
          has s e = cc

  -- the guard Unacked
  acked : (n : ℕ) (wish : Wish) → first_of (wish_guards core n wish) ≡ None → needs_known wish ≡ true → unacked_leg (core.view n) ≡ None
  acked n (wishes.Spare l) e h = refused_none Unacked (unacked_leg (core.view n)) (all_none (wish_guards core n (wishes.Spare l)) e).0
  acked n (wishes.Rebuild l) e h = refused_none Unacked (unacked_leg (core.view n)) (all_none (wish_guards core n (wishes.Rebuild l)) e).0
  acked n (wishes.Work l) e h = refused_none Unacked (unacked_leg (core.view n)) (all_none (wish_guards core n (wishes.Work l)) e).0
  acked n (wishes.Range r) e h = refused_none Unacked (unacked_leg (core.view n)) (all_none (wish_guards core n (wishes.Range r)) e).0
  acked n (wishes.NewDisk l) e h = refused_none Unacked (unacked_leg (core.view n)) (all_none (wish_guards core n (wishes.NewDisk l)) e).0
  acked n (wishes.Remove l) e h = refused_none Unacked (unacked_leg (core.view n)) (all_none (wish_guards core n (wishes.Remove l)) e).0
  acked n (wishes.ReAdd l) e h = refused_none Unacked (unacked_leg (core.view n)) (all_none (wish_guards core n (wishes.ReAdd l)) e).0
  acked n (wishes.Grow z) e h = refused_none Unacked (unacked_leg (core.view n)) (all_none (wish_guards core n (wishes.Grow z)) e).0
  acked n w e h = cc

  -- so nothing is unacked
  pub all_known : (n : ℕ) → unacked_leg (core.view n) ≡ None → (l : ℕ) → is_unacked (core.view n) l ≡ false
  all_known n e l = elim (cases_lt l 8) [
    | inl lt ↦ first_such_none (is_unacked (core.view n)) 0 8 e l (omega arith) (omega (arith, lt))
    | inr past ↦
        let f = k.range.legs.views n in
        let legs = k.range.legs.sizes_fit.legs.1 in
        past_known ((core.view n).lost l) ((core.view n).role l) ((core.view n).sure_role l)
        (never ((core.view n).lost l) (λ t. let lt = f.lost l t in omega (arith, lt, past, legs))) (f.roles l (omega (arith, past, legs))) (f.sure_roles l (omega (arith, past, legs)))
  ]

  promoted : (n l : ℕ) (wish : Wish) → Guards n wish → promotes wish l ≡ true → is_rebuilding ((core.view n).role l) ≡ true
  promoted n l (wishes.Work j) a e =
      same_leg (λ x. is_rebuilding ((core.view n).role x)) j l e
      (unless_none (is_rebuilding ((core.view n).role j)) (NotRole j ((core.view n).role j)) (all_none (wish_guards core n (wishes.Work j)) a.rest).1.1.1.0)
  promoted n l w a e = cc

  spared : (n l : ℕ) (wish : Wish) → Guards n wish → wants_spare wish l ≡ true → is_spare ((core.view n).role l) ≡ true
  spared n l (wishes.NewDisk j) a e =
      same_leg (λ x. is_spare ((core.view n).role x)) j l e
      (unless_none (is_spare ((core.view n).role j)) (NotRole j ((core.view n).role j)) (all_none (wish_guards core n (wishes.NewDisk j)) a.rest).1.1.0)
  spared n l w a e = cc

  faulted : (n l : ℕ) (wish : Wish) → Guards n wish → wants_faulty wish l ≡ true → is_faulty ((core.view n).role l) ≡ true
  faulted n l (wishes.Remove j) a e =
      same_leg (λ x. is_faulty ((core.view n).role x)) j l e
      (unless_none (is_faulty ((core.view n).role j)) (NotRole j ((core.view n).role j)) (all_none (wish_guards core n (wishes.Remove j)) a.rest).1.1.0)
  faulted n l (wishes.ReAdd j) a e =
      same_leg (λ x. is_faulty ((core.view n).role x)) j l e
      (unless_none (is_faulty ((core.view n).role j)) (NotRole j ((core.view n).role j)) (all_none (wish_guards core n (wishes.ReAdd j)) a.rest).1.1.0)
  faulted n l w a e = cc

  added : (n l : ℕ) (wish : Wish) → Guards n wish → rebuilds wish l ≡ true → (is_announced (core.adding n).addition l || is_readd (core.adding n).addition l) ≡ true
  added n l (wishes.Rebuild j) a e =
      let a' = first_none_of _ _ (all_none (wish_guards core n (wishes.Rebuild j)) a.rest).1.1.0 in
      same_leg (λ x. is_announced (core.adding n).addition x || is_readd (core.adding n).addition x) j l e
      (either (is_announced (core.adding n).addition j) _ (is_readd (core.adding n).addition j) (unless_none (suits (core.adding n).addition (holds_device_lock core n) (wishes.Rebuild j)) _ a'))
  added n l w a e = cc

  rebuilt : (n l : ℕ) (wish : Wish) → rebuilds wish l ≡ true → is_rebuilding ((offer_of core n wish).role l) ≡ true
  rebuilt n l (wishes.Rebuild j) e = at_point (proposed_role (core.view n)) j l Rebuilding is_rebuilding e refl
  rebuilt n l w e = cc

  worked : (n l : ℕ) (wish : Wish) → promotes wish l ≡ true → is_working ((offer_of core n wish).role l) ≡ true
  worked n l (wishes.Work j) e = at_point (proposed_role (core.view n)) j l Working is_working e refl
  worked n l w e = cc

  known_for : (wish : Wish) (l : ℕ) → promotes wish l ≡ true → needs_known wish ≡ true
  known_for (wishes.Work j) l e = refl
  known_for w l e = cc

  pub wish_known : (sup : ℕ → Option Says) (g : Ghost) (n : ℕ) (wish : Wish) → Guards n wish → Wished (part_of core sup g) n (offer_of core n wish)
  wish_known sup g n wish a = record {
    known = λ h. all_known n (acked n wish a.rest h);
    up = λ h. up_by (core.state n) wish a.loaded (inside n wish a) h;
    spare = λ l e. spared n l wish a e;
    faulty = λ l e. faulted n l wish a e;
    adds = λ l e. added n l wish a e;
    rebuilt = λ l e. rebuilt n l wish e;
    promoted = λ l e. promoted n l wish a e;
    worked = λ l e. worked n l wish e;
    all_known = λ l e. known_for wish l e;
  }
