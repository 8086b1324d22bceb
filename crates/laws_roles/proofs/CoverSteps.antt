-- Each way keeps what is known of what passes cover.
use Rattle.std.proofs.Common.{◌≡◌, ◌≢◌, refl, sym, ap, ◌∙◌, ℕ, ◌==◌, ◌&&◌, Bool, true, false, if◌then◌else◌, arith}
use Rattle.std.proofs.lemmas.Bool.Decides.{nat_tests}
use Rattle.dlm_modes.specs.Points.{with_at}
use Rattle.mdc_types.specs.Roles.{role_of, is_rebuilding}
use Rattle.mdc_types.specs.declared.roles.NodeState.{NodeState}
use Rattle.mdc_types.specs.declared.roles.NodeState.TheVariants as states
use Rattle.msg_rounds.specs.Phases.{has_processed, is_idle}
use Rattle.msg_rounds.specs.declared.phases.ReceiverPhase.{ReceiverPhase}
use Rattle.msg_rounds.specs.declared.phases.ReceiverPhase.TheVariants as receivers
use Rattle.cluster_model.specs.Changes.{covering}
use Rattle.cluster_model.specs.Phases.{is_in, is_up}
use Rattle.cluster_model.specs.State.{Offer}
use Rattle.leg_failure.specs.Views.{new_view, finished, taken as view_taken}
use Rattle.laws_roles.proofs.Legwise.{legwise}
use Rattle.laws_roles.proofs.Parts.{Part, changes_super, offered_role, covers}
use Rattle.laws_roles.proofs.Ways.{Way, Whole, joins, comes, goes, dies, loses, finishes, hears, resumes, copies, passes_over}
use Rattle.laws_roles.proofs.Numbers.{Numbers}
use Rattle.laws_roles.proofs.Roles.{Roles}
use Rattle.laws_roles.proofs.Additions.{Additions, CovererUp, CoversHere, CoversAgreed}
use Rattle.laws_roles.proofs.AddingWords.{again_some, covers_less, cover_none}

pub coverer_up : (w v : Part) → Way w v → Numbers w → Roles w → Additions w → CovererUp v
coverer_up w v (joins n out silent) e r d m l = grind (arith, nat_tests, d.coverer_up m l, out)
coverer_up w v (comes n k says lost joining idle read new quiet empty) e r d m l = grind (arith, nat_tests, d.coverer_up m l, empty, cover_none l, covers_less (w.copy n) (new_view (role_of says.roles) says.size lost) l)
coverer_up w v (goes n silent idle) e r d m l = grind (arith, nat_tests, d.coverer_up m l)
coverer_up w v (dies n) e r d m l = grind (arith, nat_tests, d.coverer_up m l)
coverer_up w v (finishes n o c) e r d m l = grind (arith, nat_tests, d.coverer_up m l, covers_less (w.copy n) (finished (w.view n) o.role o.size) l)
coverer_up w v (hears n roles size h) e r d m l = grind (arith, nat_tests, d.coverer_up m l, covers_less (w.copy n) (view_taken (w.view n) (role_of roles) size) l, h.up)
coverer_up w v (copies n c less) e r d m l = grind (arith, nat_tests, d.coverer_up m l, less l)
coverer_up w v (passes_over n c up known legs) e r d m l = grind (arith, nat_tests, d.coverer_up m l, up)
coverer_up w v x e r d m l = d.coverer_up m l

pub covers_here : (w v : Part) → Way w v → Numbers w → Roles w → Additions w → CoversHere v
covers_here w v (comes n k says lost joining idle read new quiet empty) e r d m l = grind (arith, nat_tests, d.covers_here m l, empty, covers_less (w.copy n) (new_view (role_of says.roles) says.size lost) l)
covers_here w v (goes n silent idle) e r d m l = grind (arith, nat_tests, d.covers_here m l)
covers_here w v (dies n) e r d m l = grind (arith, nat_tests, d.covers_here m l)
covers_here w v (loses n k down) e r d m l = grind (arith, nat_tests, d.covers_here m l)
covers_here w v (finishes n o c) e r d m l = grind (arith, nat_tests, d.covers_here m l, covers_less (w.copy n) (finished (w.view n) o.role o.size) l)
covers_here w v (hears n roles size h) e r d m l = grind (arith, nat_tests, d.covers_here m l, covers_less (w.copy n) (view_taken (w.view n) (role_of roles) size) l)
covers_here w v (resumes n late) e r d m l = grind (arith, nat_tests, d.covers_here m l)
covers_here w v (copies n c less) e r d m l = grind (arith, nat_tests, d.covers_here m l, less l)
covers_here w v (passes_over n c up known legs) e r d m l = grind (arith, nat_tests, d.covers_here m l, known l, legs l, legwise w r n l up, d.again_rebuilding n l, again_some (w.adding n).addition l, d.adder_roles n l)
covers_here w v x e r d m l = d.covers_here m l

-- the others have the roles of the round that is whole
other_role : (w : Part) (n : ℕ) (o : Offer) → Whole w n o → Roles w → (m l : ℕ) → (m ≢ n) × (is_up (w.state m) ≡ true) → (w.view m).role l ≡ o.role l
other_role w n o c r m l h =
    let did = c.processed m h.0 (inside (w.state m) h.1) in
    let busy = busy_by (w.receiver m).phase did in
    let told = c.hearers.told m busy ∙ ap changes_super c.offer ∙ c.meta in
    r.took_roles m l did told ∙ c.hearers.role m l busy (ap changes_super c.offer ∙ c.meta) ∙ ap (λ x. offered_role x l) c.offer
  where
    inside : (s : NodeState) → is_up s ≡ true → is_in s ≡ true
    inside states.Up e = refl
    inside s e = cc

    busy_by : (p : ReceiverPhase) → has_processed p ≡ true → is_idle p ≡ false
    busy_by receivers.Waiting e = refl
    busy_by receivers.Ready e = refl
    busy_by p e = cc

covers_finished : (w : Part) (n : ℕ) (o : Offer) (m l : ℕ) → (covers (w.copy m) l ≡ true → is_up (w.state m) ≡ true) → (covers (w.copy m) l ≡ true → is_rebuilding ((w.view m).role l) ≡ true)
    → ((m ≢ n) × (is_up (w.state m) ≡ true) → (w.view m).role l ≡ o.role l)
    → covers (with_at w.copy n (covering (w.copy n) (finished (w.view n) o.role o.size)) m) l ≡ true → is_rebuilding (o.role l) ≡ true
covers_finished w n o m l up here other = by (m == n) refl
  where
    and_right : (a b : Bool) → (a && b) ≡ true → b ≡ true
    and_right a b e = grind arith

    apart : (i j : ℕ) → (i == j) ≡ false → i ≢ j
    apart i j e = grind (arith, nat_tests)

    by : (b : Bool) → (m == n) ≡ b → covers (if b then covering (w.copy n) (finished (w.view n) o.role o.size) else w.copy m) l ≡ true → is_rebuilding (o.role l) ≡ true
    by true t e = and_right (covers (w.copy n) l) (is_rebuilding (o.role l)) (sym (covers_less (w.copy n) (finished (w.view n) o.role o.size) l) ∙ e)
    by false t e = ap is_rebuilding (sym (other (apart m n t, up e))) ∙ here e

pub covers_agreed : (w v : Part) → Way w v → Numbers w → Roles w → Additions w → CoversAgreed v
covers_agreed w v (comes n k says lost joining idle read new quiet empty) e r d m l = grind (arith, nat_tests, d.covers_agreed m l, covers_less (w.copy n) (new_view (role_of says.roles) says.size lost) l)
covers_agreed w v (goes n silent idle) e r d m l = grind (arith, nat_tests, d.covers_agreed m l)
covers_agreed w v (dies n) e r d m l = grind (arith, nat_tests, d.covers_agreed m l)
covers_agreed w v (finishes n o c) e r d m l = covers_finished w n o m l (λ h. d.coverer_up m l h) (λ h. d.covers_here m l h) (λ h. other_role w n o c r m l h)
covers_agreed w v (hears n roles size h) e r d m l = grind (arith, nat_tests, d.covers_agreed m l, covers_less (w.copy n) (view_taken (w.view n) (role_of roles) size) l)
covers_agreed w v (copies n c less) e r d m l = grind (arith, nat_tests, d.covers_agreed m l, less l)
covers_agreed w v (passes_over n c up known legs) e r d m l = grind (arith, nat_tests, d.covers_agreed m l, known l, legs l, legwise w r n l up, d.again_rebuilding n l)
covers_agreed w v x e r d m l = d.covers_agreed m l
