-- Roles: a leg that a view, a current superblock or an offer calls working is good, a good leg is
-- one that is agreed to be written, and who isn't late is sure of what was agreed on.
use Rattle.std.specs.Prelude.{◌≡◌, ℕ, ◌≤◌, true, false, ◌||◌}
use Rattle.mdc_types.specs.Roles.{is_working, is_faulty, is_written}
use Rattle.msg_rounds.specs.Phases.{has_processed}
use Rattle.cluster_model.specs.Phases.{is_in, is_up}
use Rattle.cluster_model.specs.Receiving.{told_state}
use Rattle.laws_roles.proofs.Parts.{Part, changes_super, offered_role, number, said_role, heard_role, is_late}

abbrev pub GoodWritten : Part → Type 0
GoodWritten w = (l : ℕ) → w.ghost.good l ≡ true → is_written (w.ghost.agreed.role l) ≡ true

abbrev pub SuperGood : Part → Type 0
SuperGood w = (k l : ℕ) → w.completed ≤ number (w.super k)
    → is_working (said_role (w.super k) l) ≡ true → w.ghost.good l ≡ true

abbrev pub SuperFaulty : Part → Type 0
SuperFaulty w = (k l : ℕ) → w.completed ≤ number (w.super k)
    → is_faulty (said_role (w.super k) l) ≡ true
    → (is_faulty (w.ghost.agreed.role l) || w.ghost.good l) ≡ true

abbrev pub ViewGood : Part → Type 0
ViewGood w = (n l : ℕ) → is_in (w.state n) ≡ true → is_working ((w.view n).role l) ≡ true
    → w.ghost.good l ≡ true

abbrev pub ViewFaulty : Part → Type 0
ViewFaulty w = (n l : ℕ) → is_in (w.state n) ≡ true → is_faulty ((w.view n).role l) ≡ true
    → (is_faulty (w.ghost.agreed.role l) || w.ghost.good l) ≡ true

abbrev pub OfferGood : Part → Type 0
OfferGood w = (n l : ℕ) → changes_super (w.offer n) ≡ true
    → is_working (offered_role (w.offer n) l) ≡ true → w.ghost.good l ≡ true

abbrev pub OfferFaulty : Part → Type 0
OfferFaulty w = (n l : ℕ) → changes_super (w.offer n) ≡ true
    → is_faulty (offered_role (w.offer n) l) ≡ true
    → (is_faulty (w.ghost.agreed.role l) || w.ghost.good l) ≡ true

-- who has processed a message of the superblock has its roles
abbrev pub TookRoles : Part → Type 0
TookRoles w = (n l : ℕ) → has_processed (w.receiver n).phase ≡ true → told_state (w.heard n) ≡ true
    → (w.view n).role l ≡ heard_role (w.heard n) l

abbrev pub LateRoles : Part → Type 0
LateRoles w = (n l : ℕ) → is_late w n ≡ true → (w.view n).role l ≡ w.ghost.agreed.role l

abbrev pub SureRoles : Part → Type 0
SureRoles w = (n l : ℕ) → is_up (w.state n) ≡ true → is_late w n ≡ false
    → (w.view n).sure_role l ≡ w.ghost.agreed.role l

pub record Roles (w : Part) : Type 0 where
  pub good_written : GoodWritten w
  pub super_good : SuperGood w
  pub super_faulty : SuperFaulty w
  pub view_good : ViewGood w
  pub view_faulty : ViewFaulty w
  pub offer_good : OfferGood w
  pub offer_faulty : OfferFaulty w
  pub took_roles : TookRoles w
  pub late_roles : LateRoles w
  pub sure_roles : SureRoles w
