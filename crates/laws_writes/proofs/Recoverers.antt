-- Who recovers a slot: a node under `resync`, and the slot's own node is out.
use Rattle.std.proofs.Common.{◌≡◌, ℕ, Bool, true, false, Option, Some, None, refl, ap, arith}
use Rattle.std.specs.Prelude.{is_some}
use Rattle.std.proofs.lemmas.Bool.Decides.{nat_tests}
use Rattle.mdc_types.specs.declared.roles.NodeState.{NodeState}
use Rattle.mdc_types.specs.declared.roles.NodeState.TheVariants as states
use Rattle.node_recovery.specs.Progress.{Recovering}
use Rattle.cluster_model.specs.State.{Held}
use Rattle.cluster_model.specs.Phases.{is_up}
use Rattle.storage_ways.proofs.Parts.{Part, recovers}
use Rattle.storage_ways.proofs.Sound.{Sound}

slot_is : (x : Option Recovering) (d : ℕ) (pending : ℕ → Bool) → recovers x d ≡ true → ((r : Recovering) → x ≡ Some r → pending r.slot ≡ true) → pending d ≡ true
slot_is None d pending e h = cc
slot_is (Some r) d pending e h = grind (arith, nat_tests, h r refl)

some_one : (x : Option Recovering) (d : ℕ) → recovers x d ≡ true → is_some x ≡ true
some_one None d e = cc
some_one (Some r) d e = refl

pub slot_pending : (w : Part) → Sound w → (m d : ℕ) → recovers (w.recovery m) d ≡ true → w.pending d ≡ true
slot_pending w s m d e = slot_is (w.recovery m) d w.pending e (λ r is. s.turns.slot m r is)

out_down : (x : NodeState) → x ≡ states.Out → is_up x ≡ false
out_down x e = ap is_up e

pub slot_down : (w : Part) → Sound w → (m d : ℕ) → recovers (w.recovery m) d ≡ true → is_up (w.state d) ≡ false
slot_down w s m d e = out_down (w.state d) (s.phases.pending d (slot_pending w s m d e))

pub turn_held : (w : Part) → Sound w → (m d : ℕ) → recovers (w.recovery m) d ≡ true → (w.copy m).turn ≡ Held
turn_held w s m d e = s.turns.recovery m (some_one (w.recovery m) d e)
