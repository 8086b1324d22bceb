-- What a leg that is trusted in the part after a way tells of the part before: it was trusted there,
-- or it is the leg that is to work.
use Rattle.std.proofs.Common.{◌≡◌, ◌⊎◌, inl, inr, ℕ, ◌==◌, ◌<◌, ◌≤◌, ◌&&◌, ◌||◌, Bool, true, false, if◌then◌else◌, Option, Some, refl, sym, ap, ◌∙◌, arith, nat_le}
use Rattle.std.proofs.lemmas.Bool.Decides.{nat_tests}
use Rattle.dlm_modes.specs.Points.{with_at}
use Rattle.mdc_types.specs.Roles.{role_of, eight, is_working, is_written}
use Rattle.mdc_types.specs.declared.roles.Role.{Role}
use Rattle.mdc_types.specs.declared.roles.NodeState.{NodeState}
use Rattle.mdc_types.specs.declared.roles.NodeState.TheVariants as states
use Rattle.mdc_types.proofs.RolesLaws.{role_of-eight}
use Rattle.md_superblock.specs.Arrays.{Says}
use Rattle.msg_rounds.specs.Phases.{has_published}
use Rattle.leg_failure.specs.Views.{NodeView, works, finished, taken as view_taken, lost_one}
use Rattle.cluster_model.specs.Phases.{is_in, is_up, is_metadata}
use Rattle.cluster_model.specs.State.{Offer}
use Rattle.cluster_model.specs.Superblocks.{says_of_offer}
use Rattle.laws_roles.proofs.InState.{works_role}
use Rattle.laws_roles.proofs.Parts.{number, said_role, changes_super, offered_role, offered_says, offered_events, promotes, wished, is_loaded}
use Rattle.storage_ways.proofs.Parts.{Part}
use Rattle.storage_ways.proofs.Sound.{Sound}
use Rattle.storage_ways.proofs.Ways as ways
use Rattle.storage_ways.proofs.Ways.{Way, Writing, Whole, Hearing}
use Rattle.laws_pending.proofs.Ghosts.{serves, calls}
use Rattle.laws_pending.proofs.Points.{at_point}

-- the leg is trusted: some node serves it, or a superblock calls it working
pub data Trusts (w : Part) (l : ℕ) : Type 0 where
  reads : (n : ℕ) → serves w n l ≡ true → Trusts w l
  says : (k : ℕ) → calls w k l ≡ true → Trusts w l

-- it was trusted, or an offer stands that it is to work
pub data Was (w : Part) (l : ℕ) : Type 0 where
  trusted : Trusts w l → Was w l
  promoted : (n : ℕ) → wished promotes (w.offer n) l ≡ true → Was w l

pub both : (a b : Bool) → a ≡ true → b ≡ true → (a && b) ≡ true
both a b t u = grind arith

pub left : (a b : Bool) → (a && b) ≡ true → a ≡ true
left a b e = grind arith

pub right : (a b : Bool) → (a && b) ≡ true → b ≡ true
right a b e = grind arith

le_true : (a b : ℕ) → a ≤ b → nat_le a b ≡ true
le_true a b le = grind (arith, nat_tests)

pub true_le : (a b : ℕ) → nat_le a b ≡ true → a ≤ b
true_le a b e = grind (arith, nat_tests)

working_written : (r : Role) → is_working r ≡ true → is_written r ≡ true
working_written r e = grind arith

pub in_or_up : (x : NodeState) → is_in x ≡ true → (is_up x ≡ true) ⊎ (is_loaded x ≡ true)
in_or_up states.Up e = inl refl
in_or_up states.Loaded e = inr refl
in_or_up x e = cc

pub calls_of : (w : Part) (k l : ℕ) → w.completed ≤ number (w.super k) → is_working (said_role (w.super k) l) ≡ true → calls w k l ≡ true
calls_of w k l le e = both (nat_le w.completed (number (w.super k))) (is_working (said_role (w.super k) l)) (le_true w.completed (number (w.super k)) le) e

module _ (w : Part) (s : Sound w) where
  few : (l : ℕ) → l < w.geometry.legs → l < 8
  few l lt = let le = s.within.geometry.legs.1 in omega (arith, lt, le)

  -- a leg that a published proposal calls working has the proposal, which calls it so
  pub published_called : (n : ℕ) (o : Offer) → has_published (w.sender n) ≡ true → w.offer n ≡ Some o → is_metadata o.wish ≡ true → (l : ℕ) → l < w.geometry.legs → is_working (o.role l) ≡ true → calls w l l ≡ true
  published_called n o published is meta l lt working =
      let change : changes_super (w.offer n) ≡ true = ap changes_super is ∙ meta in
      let written = s.numbers.all_written n l published change (ap (λ x. is_written (offered_role x l)) is ∙ working_written (o.role l) working) in
      let there : w.super l ≡ Some (says_of_offer o) = s.numbers.offer_written n l change written ∙ ap offered_says is in
      let drawn : o.events ≡ w.drawn = sym (ap offered_events is) ∙ s.numbers.offer_drawn n change in
      let new = s.numbers.offer_new n change in
      let at : number (w.super l) ≡ o.events = ap number there in
      calls_of w l l (omega (arith, drawn, new, at)) (ap (λ x. is_working (said_role x l)) there ∙ ap is_working (role_of-eight o.role l (few l lt)) ∙ working)

  -- who has an offer of the superblock reads what it calls working, or that is to work
  pub proposed_was : (n l : ℕ) (o : Offer) → Writing w n l o → (x : ℕ) → is_working (role_of (eight o.role) x) ≡ true → Was w x
  proposed_was n l o e x working = by (works (w.view n) x) refl
    where
      change : changes_super (w.offer n) ≡ true
      change = ap changes_super e.offer ∙ e.meta

      serve : (works (w.view n) x || wished promotes (w.offer n) x) ≡ true
      serve = s.sources.offer_serves n x e.offered change (ap (λ y. is_working (offered_role y x)) e.offer ∙ sym (ap is_working (e.eight x)) ∙ working)

      else_right : (a b : Bool) → a ≡ false → (a || b) ≡ true → b ≡ true
      else_right a b f t = grind arith

      by : (b : Bool) → works (w.view n) x ≡ b → Was w x
      by true t = elim (in_or_up (w.state n) e.inside) [
        | inl up ↦ trusted (reads n (both (is_up (w.state n)) (works (w.view n) x) up t))
        | inr loaded ↦ trusted (says (w.ghost.source n) (calls_of w (w.ghost.source n) x (s.sources.source_current n loaded) (s.sources.source_works n x loaded t)))
      ]
      by false f = promoted n (else_right (works (w.view n) x) (wished promotes (w.offer n) x) f serve)

  -- Trusted legs are good.

  pub serves_good : (n l : ℕ) → serves w n l ≡ true → w.ghost.good l ≡ true
  serves_good n l e =
      let up = left (is_up (w.state n)) (works (w.view n) l) e in
      let reads = right (is_up (w.state n)) (works (w.view n) l) e in
      s.roles.view_good n l (up_in (w.state n) up) (works_role (is_working ((w.view n).role l)) ((w.view n).lost l) reads)
    where
      up_in : (x : NodeState) → is_up x ≡ true → is_in x ≡ true
      up_in x e = grind arith

  pub calls_good : (k l : ℕ) → calls w k l ≡ true → w.ghost.good l ≡ true
  calls_good k l e = s.roles.super_good k l (true_le w.completed (number (w.super k)) (left (nat_le w.completed (number (w.super k))) (is_working (said_role (w.super k) l)) e)) (right (nat_le w.completed (number (w.super k))) (is_working (said_role (w.super k) l)) e)

-- Before a way.

up_else : (w : Part) (f : ℕ → NodeState) (g : ℕ → NodeView) (n m l : ℕ) (x : NodeState) (y : NodeView) → is_up x ≡ false → (is_up (with_at w.state n x m) && works (with_at w.view n y m) l) ≡ true → serves w m l ≡ true
up_else w f g n m l x y down e = grind (arith, nat_tests, down)

lost_more : (w : Part) (n m l k : ℕ) → (is_up (w.state m) && works (with_at w.view n (lost_one (w.view n) k) m) l) ≡ true → serves w m l ≡ true
lost_more w n m l k e = grind (arith, nat_tests)

pub serves_before : (w v : Part) → Way w v → Sound w → (n l : ℕ) → l < w.geometry.legs → serves v n l ≡ true → Was w l
serves_before w v (ways.finishes n o x meta) s m l lt e = at_two (m == n) refl e
  where
    at_two : (b : Bool) → (m == n) ≡ b → (is_up (if b then states.Up else w.state m) && works (if b then finished (w.view n) o.role o.size else w.view m) l) ≡ true → Was w l
    at_two true t e = trusted (says l (published_called w s n o x.published x.offer meta l lt (left (is_working (o.role l)) _ e)))
    at_two false t e = trusted (reads m e)
serves_before w v (ways.hears_roles n rs size o x meta same) s m l lt e = at_two (m == n) refl e
  where
    at_two : (b : Bool) → (m == n) ≡ b → (is_up (w.state m) && works (if b then view_taken (w.view n) (role_of rs) size else w.view m) l) ≡ true → Was w l
    at_two true t e = trusted (says l (published_called w s (w.receiver n).from o x.published x.offer meta l lt
        (sym (ap is_working (same l)) ∙ left (is_working (role_of rs l)) _ (right (is_up (w.state m)) _ e))))
    at_two false t e = trusted (reads m e)
serves_before w v (ways.resumes n x) s m l lt e = trusted (reads m (grind (arith, nat_tests)))
serves_before w v (ways.loses n k out up) s m l lt e = trusted (reads m (lost_more w n m l k e))
serves_before w v (ways.joins n x) s m l lt e = trusted (reads m (grind (arith, nat_tests)))
serves_before w v (ways.comes n k told lost ranges x) s m l lt e = trusted (reads m (up_else w w.state w.view n m l states.Loaded _ refl e))
serves_before w v (ways.leaves n x) s m l lt e = trusted (reads m (up_else w w.state w.view n m l states.Out _ refl e))
serves_before w v (ways.quits n x) s m l lt e = trusted (reads m (up_else w w.state w.view n m l states.Out _ refl e))
serves_before w v (ways.parts n o x) s m l lt e = trusted (reads m (up_else w w.state w.view n m l states.Out _ refl e))
serves_before w v (ways.dies n told x) s m l lt e = trusted (reads m (up_else w w.state w.view n m l states.Out _ refl e))
serves_before w v x s m l lt e = trusted (reads m e)

written_was : (w : Part) → Sound w → (n l : ℕ) (o : Offer) → Writing w n l o → (k x : ℕ)
    → (nat_le w.completed (number (with_at w.super l (Some (says_of_offer o)) k)) && is_working (said_role (with_at w.super l (Some (says_of_offer o)) k) x)) ≡ true → Was w x
written_was w s n l o e k x = at_point (λ y. (nat_le w.completed (number y) && is_working (said_role y x)) ≡ true → Was w x) w.super l (Some (says_of_offer o)) k
    (λ is t. proposed_was w s n l o e x (right (nat_le w.completed o.events) _ t))
    (λ apart t. trusted (says k t))

later : (c d : ℕ) (x : Option Says) (l : ℕ) → c < d → (nat_le d (number x) && is_working (said_role x l)) ≡ true → (nat_le c (number x) && is_working (said_role x l)) ≡ true
later c d x l lt e =
    let le = true_le d (number x) (left (nat_le d (number x)) _ e) in
    both (nat_le c (number x)) (is_working (said_role x l)) (le_true c (number x) (omega (arith, lt, le))) (right (nat_le d (number x)) _ e)

pub calls_before : (w v : Part) → Way w v → Sound w → (k l : ℕ) → calls v k l ≡ true → Was w l
calls_before w v (ways.writes_super n i o x) s k l e = written_was w s n i o x k l e
calls_before w v (ways.leaves_super n i o x) s k l e = written_was w s n i o x k l e
calls_before w v (ways.finishes n o x meta) s k l e =
    let change : changes_super (w.offer n) ≡ true = ap changes_super x.offer ∙ meta in
    let drawn : o.events ≡ w.drawn = sym (ap offered_events x.offer) ∙ s.numbers.offer_drawn n change in
    let new = s.numbers.offer_new n change in
    trusted (says k (later w.completed o.events (w.super k) l (omega (arith, drawn, new)) e))
calls_before w v x s k l e = trusted (says k e)
