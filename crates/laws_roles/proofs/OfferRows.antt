-- The ways of an offer.
use Rattle.std.proofs.Common.{◌≡◌, ◌⊎◌, inl, inr, ℕ, ◌≤◌, ◌&&◌, ◌||◌, Bool, true, false, not, if◌then◌else◌, Option, None, refl, ap, arith, nat_lt}
use Rattle.std.proofs.lemmas.Bool.Decides.{nat_tests}
use Rattle.dlm_modes.specs.Guards.{first_of}
use Rattle.mdc_types.specs.Roles.{is_working, is_faulty}
use Rattle.mdc_types.specs.declared.events.Wish.{Wish}
use Rattle.mdc_types.specs.declared.events.Wish.TheVariants as wishes
use Rattle.mdc_types.specs.declared.refusals.Refusal.TheVariants.{NoSize}
use Rattle.mdc_types.specs.declared.roles.Role.{Role}
use Rattle.mdc_types.specs.declared.roles.NodeState.{NodeState}
use Rattle.mdc_types.specs.declared.roles.NodeState.TheVariants as states
use Rattle.md_superblock.specs.Arrays.{Says}
use Rattle.msg_rounds.specs.Phases.{is_idle, has_published, may_receive}
use Rattle.leg_failure.specs.Sets.{given_up}
use Rattle.leg_failure.specs.Views.{works, NodeView, proposed_role}
use Rattle.cluster_model.specs.State.{Core, sizes}
use Rattle.cluster_model.specs.Phases.{is_in, is_up, is_metadata}
use Rattle.cluster_model.specs.Wishes.{loaded_offers, wish_guards, offer_guards, may_grow, with_change, proposed_size, offer_of, offered}
use Rattle.laws_sound.proofs.Guarded.{all_none, unless_none}
use Rattle.laws_roles.proofs.Parts.{Part, Ghost, part_of, promotes, with_wish}
use Rattle.laws_roles.proofs.Ways.{Ways, one, offers, offers_other, Proposal}
use Rattle.laws_roles.proofs.Known.{Known}
use Rattle.laws_roles.proofs.WishGuards.{Guards, guards, inside, no_offers, wish_known}

-- Roles that are proposed.

pub stays_working : (r : Role) (lost : Bool) → is_working (if lost then given_up r else r) ≡ true → (is_working r && not lost) ≡ true
stays_working r true e = grind arith
stays_working r false e = grind arith

pub was_read : (r : Role) (lost : Bool) → is_faulty (if lost then given_up r else r) ≡ true → (is_faulty r || is_working r) ≡ true
was_read r true e = grind arith
was_read r false e = grind arith

working_or : (w : Wish) (v : NodeView) (l : ℕ) → is_working (with_change w (proposed_role v) l) ≡ true → (works v l || promotes w l) ≡ true
working_or (wishes.Spare j) v l e = grind (arith, nat_tests, stays_working (v.role l) (v.lost l))
working_or (wishes.Rebuild j) v l e = grind (arith, nat_tests, stays_working (v.role l) (v.lost l))
working_or (wishes.Work j) v l e = grind (arith, nat_tests, stays_working (v.role l) (v.lost l))
working_or w v l e = grind (arith, stays_working (v.role l) (v.lost l) e)

faulty_or : (w : Wish) (v : NodeView) (l : ℕ) → is_faulty (with_change w (proposed_role v) l) ≡ true → (is_faulty (v.role l) || is_working (v.role l)) ≡ true
faulty_or (wishes.Spare j) v l e = grind (arith, nat_tests, was_read (v.role l) (v.lost l))
faulty_or (wishes.Rebuild j) v l e = grind (arith, nat_tests, was_read (v.role l) (v.lost l))
faulty_or (wishes.Work j) v l e = grind (arith, nat_tests, was_read (v.role l) (v.lost l))
faulty_or w v l e = was_read (v.role l) (v.lost l) e

-- Guards.

up_grows : (s : NodeState) (z : ℕ) → loaded_offers s (wishes.Grow z) ≡ None → is_in s ≡ true → is_up s ≡ true
up_grows states.Up z e i = refl
up_grows states.Loaded z e i = cc
up_grows s z e i = cc

grows : (sure z room : ℕ) (b : Bool) → (nat_lt sure z && b) ≡ true → sure ≤ z
grows sure z room b e = grind (arith, nat_tests)

le_refl : (n : ℕ) → n ≤ n
le_refl n = grind arith

module _ (core : Core) (k : Known core) (sup : ℕ → Option Says) (g : Ghost) where
  abbrev pub Here : Part
  Here = part_of core sup g

  large : (n : ℕ) (wish : Wish) → Guards core k n wish → ((core.view n).size ≤ proposed_size wish (core.view n).size) ⊎ ((is_up (core.state n) ≡ true) × ((core.view n).sure_size ≤ proposed_size wish (core.view n).size))
  large n (wishes.Grow z) a = inr (
    up_grows (core.state n) z a.loaded (inside core k n (wishes.Grow z) a),
    grows (core.view n).sure_size z (sizes core).room _ (unless_none (may_grow core n z) (NoSize z) (all_none (wish_guards core n (wishes.Grow z)) a.rest).1.0),
  )
  large n w a = inl (le_refl (core.view n).size)

  proposal : (n : ℕ) (wish : Wish) → is_metadata wish ≡ true → Guards core k n wish → Proposal Here n (offer_of core n wish)
  proposal n wish meta a = record {
    none = no_offers core k n wish a;
    meta = meta;
    silent = ap has_published a.held;
    inside = inside core k n wish a;
    idle = ap is_idle (k.rounded.phased.sending n (ap may_receive a.held));
    events = refl;
    fresh = λ l. refl;
    working = λ l e. working_or wish (core.view n) l e;
    faulty = λ l e. faulty_or wish (core.view n) l e;
    size = large n wish a;
  }

  by_wish : (n : ℕ) (wish : Wish) → Guards core k n wish → Ways Here (part_of (offered core n wish) sup (with_wish g wish))
  by_wish n wishes.Meta a = one (offers n (offer_of core n wishes.Meta) (proposal n wishes.Meta refl a) (wish_known core k sup g n wishes.Meta a))
  by_wish n (wishes.Spare l) a = one (offers n (offer_of core n (wishes.Spare l)) (proposal n (wishes.Spare l) refl a) (wish_known core k sup g n (wishes.Spare l) a))
  by_wish n (wishes.Rebuild l) a = one (offers n (offer_of core n (wishes.Rebuild l)) (proposal n (wishes.Rebuild l) refl a) (wish_known core k sup g n (wishes.Rebuild l) a))
  by_wish n (wishes.Work l) a = one (offers n (offer_of core n (wishes.Work l)) (proposal n (wishes.Work l) refl a) (wish_known core k sup g n (wishes.Work l) a))
  by_wish n (wishes.Grow z) a = one (offers n (offer_of core n (wishes.Grow z)) (proposal n (wishes.Grow z) refl a) (wish_known core k sup g n (wishes.Grow z) a))
  by_wish n w a = one (offers_other n (offer_of core n w) refl (ap has_published a.held) (wish_known core k sup g n w a))

  pub offer_way : (n : ℕ) (wish : Wish) → first_of (offer_guards core n wish) ≡ None → Ways Here (part_of (offered core n wish) sup (with_wish g wish))
  offer_way n wish ok = by_wish n wish (guards core k n wish ok)
