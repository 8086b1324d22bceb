-- The ways of a transfer that failed: the leg is lost, or it stays as the node's last, and an offer
-- that doesn't reach its leg is void.
use Rattle.std.proofs.Common.{◌≡◌, inr, ℕ, Bool, true, false, if◌then◌else◌, Some, refl, sym, ap, subst}
use Rattle.dlm_modes.specs.Points.{with_at}
use Rattle.mdc_types.specs.declared.events.Event.{Event}
use Rattle.mdc_types.specs.declared.outcomes.Outcome.{Outcome}
use Rattle.mdc_types.specs.declared.outcomes.Outcome.TheVariants as outcomes
use Rattle.msg_rounds.specs.Phases.{has_published}
use Rattle.msg_rounds.specs.Refusals.{is_offered}
use Rattle.msg_rounds.specs.declared.phases.SenderPhase.{SenderPhase}
use Rattle.msg_rounds.specs.declared.phases.SenderPhase.TheVariants as senders
use Rattle.leg_failure.specs.Views.{is_last, lost_one}
use Rattle.cluster_model.specs.State.{Core}
use Rattle.cluster_model.specs.After.{after, after_loss, after_miss}
use Rattle.cluster_model.specs.Changes.{voided}
use Rattle.cluster_model.specs.Failures.{tried, lost_or_io, leg_lost, request_failed}
use Rattle.cluster_model.specs.Phases.{is_in}
use Rattle.cluster_model.specs.Transfers.{Transfer, transfer_of}
use Rattle.laws_roles.proofs.PassRows.{voided_not}
use Rattle.storage_ways.proofs.Parts.{Part}
use Rattle.storage_ways.proofs.Place.{Around, here}
use Rattle.storage_ways.proofs.Sound.{Sound}
use Rattle.storage_ways.proofs.Voided.{void_sound}
use Rattle.storage_ways.proofs.Ways.{Way, Ways, none, more, voids, loses}

pub append : {w u v : Part} → Ways w u → Ways u v → Ways w v
append xs none = xs
append xs (more ys s y) = more (append xs ys) s y

module _ (core : Core) (a : Around) (s : Sound (here core a)) where
  void_by : (n : ℕ) (t : SenderPhase) → core.sender n ≡ t → Ways (here core a) (here (voided core n t) a)
  void_by n senders.Offered e = more none s (voids n senders.MessageHeld refl refl (ap has_published e))
  void_by n t e = none

  pub void_ways : (n : ℕ) → Ways (here core a) (here (voided core n (core.sender n)) a)
  void_ways n = void_by n (core.sender n) refl

  lose_by : (n l : ℕ) (t : SenderPhase) → core.sender n ≡ t → is_in (core.state n) ≡ true → Ways (here core a) (here (record (voided core n t) { view = with_at core.view n (lost_one (core.view n) l) }) a)
  lose_by n l senders.Offered e inside = more (more none s (voids n senders.MessageHeld refl refl (ap has_published e))) (void_sound (here core a) n s e) (loses n l (voided_not core n) (inr inside))
  lose_by n l t e inside = more none s (loses n l (ap is_offered e) (inr inside))

  pub lose_ways : (n l : ℕ) → is_in (core.state n) ≡ true → Ways (here core a) (here (leg_lost core n l) a)
  lose_ways n l inside = lose_by n l (core.sender n) refl inside

-- after the try, the leg is lost or what was asked fails
pub failed_by : (w : Part) (core : Core) (e : Event) (t : Transfer) (f : Outcome → Around) → transfer_of core e ≡ Some t → Ways w (here (tried core e) (f (outcomes.Lost t.leg))) → Sound (here (tried core e) (f (outcomes.Lost t.leg))) → is_in ((tried core e).state t.node) ≡ true
    → Way (here (tried core e) (f (outcomes.Lost t.leg))) (here (request_failed (tried core e) e) (f (outcomes.Io t.leg))) → Ways w (here (after core e (lost_or_io core t)) (f (lost_or_io core t)))
failed_by w core e t f at xs s inside io = by (is_last (core.view t.node) t.leg)
  where
    by : (b : Bool) → Ways w (here (after core e (if b then outcomes.Io t.leg else outcomes.Lost t.leg)) (f (if b then outcomes.Io t.leg else outcomes.Lost t.leg)))
    by true = more xs s io
    by false = subst (λ x. Ways w (here (after_loss (tried core e) x) (f (outcomes.Lost t.leg)))) (sym at) (append xs (lose_ways (tried core e) (f (outcomes.Lost t.leg)) s t.node t.leg inside))

-- where the entries tell the same of either
pub failed_ways : (w : Part) (core : Core) (e : Event) (t : Transfer) (a : Around) → transfer_of core e ≡ Some t → Ways w (here (tried core e) a) → Sound (here (tried core e) a) → is_in ((tried core e).state t.node) ≡ true
    → Way (here (tried core e) a) (here (request_failed (tried core e) e) a) → Ways w (here (after core e (lost_or_io core t)) a)
failed_ways w core e t a at xs s inside io = failed_by w core e t (λ o. a) at xs s inside io

-- a superblock that doesn't reach its leg
pub unreached_ways : (core : Core) (e : Event) (t : Transfer) (l : ℕ) (a : Around) → transfer_of core e ≡ Some t → Sound (here core a) → Ways (here core a) (here (after core e (outcomes.Unreached l)) a)
unreached_ways core e t l a at s = subst (λ x. Ways (here core a) (here (after_miss core x) a)) (sym at) (void_ways core a s t.node)
