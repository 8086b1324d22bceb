-- Sizes: a view, a current superblock and an offer are at least as large as what was agreed on.
use Rattle.std.specs.Prelude.{◌≡◌, ℕ, ◌≤◌, true, false}
use Rattle.msg_rounds.specs.Phases.{has_processed}
use Rattle.cluster_model.specs.Phases.{is_in, is_up}
use Rattle.cluster_model.specs.Receiving.{told_state}
use Rattle.laws_roles.proofs.Parts.{Part, changes_super, offered_size, number, said_size, heard_size, is_late}

abbrev pub SuperSize : Part → Type 0
SuperSize w = (k : ℕ) → w.completed ≤ number (w.super k)
    → w.ghost.agreed.size ≤ said_size (w.super k)

abbrev pub ViewSize : Part → Type 0
ViewSize w = (n : ℕ) → is_in (w.state n) ≡ true → w.ghost.agreed.size ≤ (w.view n).size

abbrev pub OfferSize : Part → Type 0
OfferSize w = (n : ℕ) → changes_super (w.offer n) ≡ true
    → w.ghost.agreed.size ≤ offered_size (w.offer n)

abbrev pub TookSize : Part → Type 0
TookSize w = (n : ℕ) → has_processed (w.receiver n).phase ≡ true → told_state (w.heard n) ≡ true
    → (w.view n).size ≡ heard_size (w.heard n)

abbrev pub LateSize : Part → Type 0
LateSize w = (n : ℕ) → is_late w n ≡ true → (w.view n).size ≡ w.ghost.agreed.size

abbrev pub SureSize : Part → Type 0
SureSize w = (n : ℕ) → is_up (w.state n) ≡ true → is_late w n ≡ false
    → (w.view n).sure_size ≡ w.ghost.agreed.size

-- who is late is sure of an earlier size
abbrev pub SureBelow : Part → Type 0
SureBelow w = (n : ℕ) → is_up (w.state n) ≡ true → (w.view n).sure_size ≤ w.ghost.agreed.size

pub record SizesHold (w : Part) : Type 0 where
  pub super_size : SuperSize w
  pub view_size : ViewSize w
  pub offer_size : OfferSize w
  pub took_size : TookSize w
  pub late_size : LateSize w
  pub sure_size : SureSize w
  pub sure_below : SureBelow w
